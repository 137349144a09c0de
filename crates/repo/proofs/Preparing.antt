-- A batch on a core, before the store is asked.
use Rattle.std.proofs.Common.{◌≡◌, ◌<◌, ℕ, true, List, length, sym, ap, subst, ◌∙◌, Option, Ok}
use Rattle.std.specs.Arc.{arc_value}
use Rattle.std.specs.declared.sync.Arc.{Arc}
use Rattle.std.proofs.lemmas.List.{length-map}
use Rattle.spec.specs.Cid.{IsDigest}
use Rattle.spec.specs.Stamps.{stamp_test, rev_of, last}
use Rattle.spec.specs.States.{State, state_test}
use Rattle.spec.specs.Writes.{Write, batch_test}
use Rattle.batch_laws.specs.Batch.{Change}
use Rattle.batch_laws.specs.Collecting.{collected, with_cids}
use Rattle.batch_laws.specs.Staged.{old_pairs}
use Rattle.batches.specs.Values.{stamp_of, write_of, shared_writes}
use Rattle.batches.specs.Write as Code
use Rattle.batches.specs.declared.fault.RepoFault.{RepoFault}
use Rattle.batches.specs.declared.stamp.Stamp.{Stamp}
use Rattle.key_changes.specs.Keyed.{are_changes}
use Rattle.kept.specs.Counts.{Keeping}
use Rattle.repo.specs.Cores.{IsCore}
use Rattle.repo.specs.Edits.{IsEditRefusal, IsTestedOn}
use Rattle.repo.specs.Refusals.{IsTestRefusal}
use Rattle.repo.specs.Tested.{changes_in}
use Rattle.repo.specs.Wants.{IsPlaced, IsPlacedBy}
use Rattle.repo.specs.declared.changes.Collected.{Collected}
use Rattle.repo.proofs.Changing.{batch-changes}
use Rattle.repo.proofs.LastPlace.{edit-refused}
use Rattle.repo.proofs.Stamping.{stamped-batch}

-- there are as many shared writes as the batch has
pub as-many : {A : Type 0} (writes : List (Arc (Code.Write A) A)) (batch : List Write) → shared_writes writes ≡ batch → length writes ≡ length batch
as-many writes batch same = sym (length-map writes (λ w. write_of (arc_value w))) ∙ ap (λ (ws : List Write). length ws) same

-- a batch whose stamp passes and of which these are the shared writes, with what they change
module _ {A : Type 0} (digest : List ℕ → List ℕ) (bits : ℕ) (s : State) (root : List ℕ) (commit : Option (List ℕ)) (k : Keeping)
    (is : IsCore digest bits s root commit k) (stamp : Stamp A) (rev : Option (List ℕ)) (rev_is : rev ≡ rev_of (last s.stamps))
    (stamped : stamp_test rev (stamp_of stamp) ≡ Ok tt) (writes : List (Arc (Code.Write A) A)) (batch : List Write)
    (same : shared_writes writes ≡ batch) (some : 0 < length batch)
    (passed : batch_test s.limit s.accepted (shared_writes writes) ≡ Ok tt)
    (changes : Collected A) (changes_are : changes_in changes ≡ collected (shared_writes writes)) where
  passes : state_test s (stamp_of stamp) batch ≡ Ok tt
  passes = stamped-batch s (stamp_of stamp) batch rev rev_is some stamped (ap (batch_test s.limit s.accepted) (sym same) ∙ passed)

  -- it passed its tests on the core's state
  pub tested-on : IsTestedOn digest bits s batch root commit stamp changes k.uses
  tested-on = record {
    lawful = is.lawful;
    passes = passes;
    changes_are = changes_are ∙ ap collected same;
    root_is = is.root_is;
    commit_is = is.commit_is;
    kept = is.kept;
  }

  -- an edit can be made of its changes
  pub changes-keyed : IsDigest digest → are_changes (with_cids digest (changes_in changes)) ≡ true
  changes-keyed fits =
      subst (λ (cs : List Change). are_changes (with_cids digest cs) ≡ true) (sym tested-on.changes_are)
      (batch-changes digest fits s (stamp_of stamp) batch passes)

  -- where the edit or the blocks are refused, it's told at its place
  pub exchange-unmade : {D : Type 0} (r : ℕ × RepoFault D A) → IsEditRefusal digest bits (with_cids digest (changes_in changes)) (old_pairs digest s) r.1
      → IsPlaced (length writes) r → IsTestRefusal digest bits s (stamp_of stamp) batch r
  exchange-unmade {D} r h at =
      edit-refused digest bits s (stamp_of stamp) batch k.uses is.kept passes r.0 r.1
      (subst (λ (cs : List Change). IsEditRefusal digest bits (with_cids digest cs) (old_pairs digest s) r.1) tested-on.changes_are h)
      (subst (λ (n : ℕ). IsPlacedBy n r.0 r.1) (as-many writes batch same) at)
