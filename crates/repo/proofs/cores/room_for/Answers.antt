use Rattle.std.proofs.Common.{arith}
use Rattle.std.specs.Arc.{arc_value}
use Rattle.std.proofs.lemmas.List.{length-map}
use Rattle.batches.specs.Values.{write_of}
use Rattle.repo.proofs.cores.room_for.Goals as goal

pub overflow_sub-result : goal.overflow_sub-result
overflow_sub-result g c = let n = length-map c.args.accepted.now (λ w. write_of (arc_value w)) in let l = c.requires in omega (arith, n, l)

pub returns : goal.returns
returns g c = let n = length-map c.args.accepted.now (λ w. write_of (arc_value w)) in let l = c.requires in omega (arith, n, l)
