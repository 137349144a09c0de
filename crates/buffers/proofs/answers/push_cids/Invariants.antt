use Rattle.std.proofs.Common.{◌≡◌, ◌++◌, drop}
use Rattle.buffers.specs.Answers.{cids_bytes}
use Rattle.buffers.proofs.answers.push_cids.Given as goal

abbrev pub invariant-loop-cid : goal.invariant-loop-cid
invariant-loop-cid l = l.initial.out.items ++ cids_bytes l.cids ≡ l.out.items ++ cids_bytes (drop l.cid-index l.cids)
