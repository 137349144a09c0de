use Rattle.std.specs.Cmp.Lexicographic.{slice_cmp}
use Rattle.std.specs.Ordering.{nat_cmp}
use Rattle.std.specs.FinMap.{is_sorted}
use Rattle.spec.specs.Writes.{leaves}
use Rattle.spec.proofs.Bools.{from_T}
use Rattle.spec.proofs.WriteLaws.{is_sorted-leaves}
use Rattle.spec.proofs.laws.writes.keys_ascend.Goals as goal

pub returns : goal.returns
returns c = λ ws. from_T (is_sorted (slice_cmp nat_cmp) (leaves ws)) (is_sorted-leaves ws)
