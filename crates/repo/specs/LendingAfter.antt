-- The blocks of a repository as it will be with a prepared batch, as a source.
use Rattle.std.specs.Prelude.{ℕ, List}
use Rattle.spec.specs.Sources.{HasBlocks}
use Rattle.spec.specs.States.{state_root, state_blocks}
use Rattle.lookups.specs.Trees.{HasTree}
use Rattle.kept.specs.Fronts.{bytes_with}
use Rattle.kept.specs.declared.lender_with.LenderWith.{LenderWith}
use Rattle.repo.specs.Prepared.{Prepared, state_after, pairs_after}

-- each block of the repository after it is lent
abbrev pub LendsBlocksAfter : {D A : Type 0} → (List ℕ → List ℕ) → ℕ → Prepared → LenderWith D A → Type 0
LendsBlocksAfter digest bits p lender =
    HasBlocks digest (bytes_with digest lender) (state_blocks digest bits (state_after p))

-- and so is the tree of its records
abbrev pub LendsTreeAfter : {D A : Type 0} → (List ℕ → List ℕ) → ℕ → Prepared → LenderWith D A → Type 0
LendsTreeAfter digest bits p lender = HasTree digest bits (bytes_with digest lender)
    (state_root digest bits (state_after p)) (pairs_after digest p)
