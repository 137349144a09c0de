-- How often the blocks of a repository are used, CID by CID.
use Rattle.std.specs.Prelude.{ℕ, List, map}
use Rattle.spec.specs.Cid.{cid}
use Rattle.edit_laws.specs.Changes.{count}

-- how many of these blocks have this CID
abbrev pub uses : (List ℕ → List ℕ) → List ℕ → List (List ℕ) → ℕ
uses digest c bs = count c (map (cid digest) bs)
