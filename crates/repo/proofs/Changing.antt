-- What the writes of a batch that is taken change, as an edit takes it.
use Rattle.std.proofs.Common.{◌≡◌, ℕ, true, List, Ok}
use Rattle.spec.specs.Cid.{IsDigest}
use Rattle.spec.specs.Stamps.{Stamp}
use Rattle.spec.specs.States.{State, state_test}
use Rattle.spec.specs.Writes.{Write}
use Rattle.batch_laws.specs.Collecting.{collected, with_cids}
use Rattle.batch_laws.proofs.WritesAtOnce.{collected-are_keyed, passed-have_keys}
use Rattle.key_changes.specs.Keyed.{are_changes}
use Rattle.key_changes.proofs.Ascending.{keyed-changes}
use Rattle.repo.proofs.Exchanging.{has-passed}

pub batch-changes : (digest : List ℕ → List ℕ) → IsDigest digest → (s : State) (stamp : Stamp) (batch : List Write) → state_test s stamp batch ≡ Ok tt
    → are_changes (with_cids digest (collected batch)) ≡ true
batch-changes digest fits s stamp batch h =
    keyed-changes (with_cids digest (collected batch))
    (collected-are_keyed digest fits batch (passed-have_keys s.limit s.accepted batch (has-passed s stamp batch h).passed)).0
