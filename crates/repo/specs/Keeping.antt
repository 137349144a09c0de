-- What a core keeps, by its counts.
use Rattle.std.specs.Prelude.{◌≡◌, ℕ, List}
use Rattle.spec.specs.Sources.{HasBlocks}
use Rattle.edit_laws.specs.Uses.{uses}
use Rattle.kept.specs.Counts.{Counts, AllUsed, bytes_at, count_at}

-- each of these blocks is there under its CID, and used as often as it stands in the list; no other
-- is there
pub record AreKept (digest : List ℕ → List ℕ) (bs : List (List ℕ)) (m : Counts) : Type 0 where
  pub has : HasBlocks digest (bytes_at m) bs
  pub counted : (c : List ℕ) → count_at m c ≡ uses digest c bs
  pub used : AllUsed m
