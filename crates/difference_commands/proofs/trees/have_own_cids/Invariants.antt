use Rattle.std.proofs.Common.{◌≡◌, ℕ, ◌<◌, true, get_or}
use Rattle.spec.specs.Cid.{is_own_cid}
use Rattle.difference_commands.specs.Views.{Entry}
use Rattle.difference_commands.proofs.trees.have_own_cids.Given as goal

abbrev pub invariant-loop-cid : goal.invariant-loop-cid
invariant-loop-cid l = (k : ℕ) → k < l.cid-index → (d : Entry) → is_own_cid (get_or l.entries k d).1 ≡ true
