-- What a core shows is what its accepted writes leave.
use Rattle.std.proofs.Common.{◌≡◌, ℕ, List, Option, sym, ap, ◌∙◌, subst}
use Rattle.spec.specs.Writes.{Write}
use Rattle.spec.specs.Stamps.{Stamped}
use Rattle.spec.specs.Commits.{commit_cid}
use Rattle.spec.specs.States.{State, IsLawful, state_root, state_commit, last_stamp}
use Rattle.repo.specs.Readings.{AreBlocksOnce}
use Rattle.closing.specs.Headline.{IsFromScratch}

module _ (digest : List ℕ → List ℕ) (bits : ℕ) (s : State) where
  pub from_scratch : (writes : List Write) (stamps : List Stamped) (root : List ℕ) (commit : Option (List ℕ)) (blocks : List (List ℕ)) → IsLawful s → writes ≡ s.accepted → stamps ≡ s.stamps
      → root ≡ state_root digest bits s → commit ≡ state_commit digest bits s → AreBlocksOnce digest bits s blocks → IsFromScratch digest bits writes stamps root commit blocks
  from_scratch writes stamps root commit blocks lawful ws ss r c b =
      subst (λ (x : List Write). IsFromScratch digest bits x stamps root commit blocks) (sym ws)
      (subst (λ (x : List Stamped). IsFromScratch digest bits s.accepted x root commit blocks) (sym ss)
      (record {
        writes_are = lawful.writes;
        stamps_are = lawful.stamps;
        whole = lawful.last_is_whole;
        root_is = r;
        commit_is = c ∙ ap (commit_cid digest (last_stamp s)) (sym r);
        blocks_are = b;
      }))
