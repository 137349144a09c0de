-- What the blocks that come and go do to what is there, as a source of blocks and as counts.
use Rattle.std.specs.Prelude.{◌≡◌, ◌+◌, ◌≤◌, ℕ, List}
use Rattle.edit_laws.specs.Changes.{count}
use Rattle.spec.specs.Sources.{HasBlocks}
use Rattle.edit_laws.specs.Sources.{Extends}
use Rattle.edit_laws.specs.Uses.{uses}
use Rattle.kept.specs.Counts.{Counts, AllUsed, bytes_at, count_at}

-- one use more of each of these blocks
pub record IsGained (digest : List ℕ → List ℕ) (bs : List (List ℕ)) (old new : Counts)
    : Type 0 where
  pub extends : Extends (bytes_at old) (bytes_at new)
  pub has : HasBlocks digest (bytes_at new) bs
  pub counted : (c : List ℕ) → count_at new c ≡ count_at old c + uses digest c bs
  pub used : AllUsed old → AllUsed new

-- one use less of each of the blocks with these CIDs, where there are so many
pub record IsLost (cids : List (List ℕ)) (old new : Counts) : Type 0 where
  pub same : Extends (bytes_at new) (bytes_at old)
  pub counted : (c : List ℕ) → count c cids ≤ count_at old c
      → count_at new c + count c cids ≡ count_at old c
  pub used : AllUsed old → AllUsed new
