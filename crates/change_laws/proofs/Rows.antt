-- The rows come out as they should.
use Rattle.std.proofs.Common.{refl}
use Rattle.std.specs.Int.Count.{count_leading_zeros}
use Rattle.spec.specs.Head.{head_at}
use Rattle.spec.specs.Cid.{cid}
use Rattle.spec.specs.NodeFormat.{entry_at, entries_at, read_node}
use Rattle.edit_laws.specs.Order.{order}
use Rattle.change_laws.specs.Verdict.{change_verdict}
use Rattle.spec.specs.TestDigests.{by_last_digit}
use Rattle.change_laws.specs.Rows.{AreRows}

pub rows : AreRows by_last_digit
unfolding change_verdict read_node entries_at entry_at head_at cid count_leading_zeros order
rows = record { shown = refl; other_value = refl; second_value = refl; other_root = refl; out_of_order = refl; more_reads = refl }
