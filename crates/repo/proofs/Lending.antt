-- The blocks of a core as a source.
use Rattle.std.proofs.Common.{◌≡◌, ℕ, List, subst, Option}
use Rattle.spec.specs.Cid.{cid, IsDigest}
use Rattle.spec.specs.Blocks.{pairs}
use Rattle.spec.specs.States.{State, records, state_blocks, state_root}
use Rattle.spec.specs.Sources.{HasBlocks}
use Rattle.edit_laws.specs.Sources.{Extends}
use Rattle.lookups.specs.Trees.{HasTree}
use Rattle.kept.specs.Counts.{Keeping, bytes_at}
use Rattle.kept.proofs.LentTrees.{lent_tree}
use Rattle.repo.specs.Cores.{IsCore}
use Rattle.repo.proofs.Keeping.{core-tree}

module _ (digest : List ℕ → List ℕ) (bits : ℕ) (s given : State) (root : List ℕ) (commit : Option (List ℕ)) (k : Keeping) (gives : List ℕ → Option (List ℕ))
    (is : IsCore digest bits s root commit k) (e : s ≡ given) (lends : Extends (bytes_at k.uses) gives) where
  pub core-lends : HasBlocks digest gives (state_blocks digest bits given)
  core-lends = subst (λ (x : State). HasBlocks digest gives (state_blocks digest bits x)) e (λ b h. lends (cid digest b) b (is.kept.has b h))

  pub core-lends_tree : IsDigest digest → HasTree digest bits gives (state_root digest bits given) (pairs digest (records given))
  core-lends_tree fits =
      subst (λ (x : State). HasTree digest bits gives (state_root digest bits x) (pairs digest (records x))) e
      (subst (λ (r : List ℕ). HasTree digest bits gives r (pairs digest (records s))) is.root_is
      (lent_tree digest bits (bytes_at k.uses) gives root (pairs digest (records s)) lends (core-tree digest bits s root commit k is fits)))
