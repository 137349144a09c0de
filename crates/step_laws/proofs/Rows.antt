-- The rows come out as they should.
use Rattle.std.proofs.Common.{refl}
use Rattle.std.specs.Int.Count.{count_leading_zeros}
use Rattle.spec.specs.Head.{head_at}
use Rattle.spec.specs.Cid.{cid}
use Rattle.spec.specs.NodeFormat.{entry_at, entries_at, read_node}
use Rattle.spec.specs.TestDigests.{by_last_digit}
use Rattle.edit_laws.specs.Order.{order}
use Rattle.change_laws.specs.Verdict.{change_verdict}
use Rattle.step_laws.specs.StepRows.{AreStepRows}

pub rows : AreStepRows by_last_digit
unfolding change_verdict read_node entries_at entry_at head_at cid count_leading_zeros order
rows = record { passed = refl; refused = refl; shown = refl; missing = refl; other_value = refl; two = refl }
