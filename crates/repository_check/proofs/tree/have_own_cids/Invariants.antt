use Rattle.std.proofs.Common.{◌≡◌, ℕ, ◌<◌, List, true, get_or, Vec}
use Rattle.spec.specs.Cid.{is_own_cid}
use Rattle.repository_check.proofs.tree.have_own_cids.Given as goal

abbrev pub invariant-loop-cid : goal.invariant-loop-cid
invariant-loop-cid g l = (k : ℕ) → k < l.cid-index → (d : Vec ℕ g.row.A.Denot × List ℕ) → is_own_cid (get_or l.pairs k d).1 ≡ true
