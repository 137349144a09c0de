-- What exports mean.
use Rattle.std.specs.Prelude.{◌≡◌, ℕ, true, List, IsPermutation}
use Rattle.std.specs.List.{AllByRecursion}
use Rattle.spec.specs.Cid.{is_own_cid, IsDigest}
use Rattle.spec.specs.Blocks.{IsClashFree}
use Rattle.spec.specs.CarReading.{Section, IsSection, blocks_of, car_bytes}
use Rattle.spec.specs.SignedCommits.{Commit}
use Rattle.spec.specs.Exports.{IsExport}

-- A file is the export of one repository. That needs nothing of the digest but its length: a file
-- has one block for each CID.
abbrev pub ExportIsOfOne : Type 0
ExportIsOfOne =
    (digest : List ℕ → List ℕ) (bits : ℕ) (file : List ℕ) (c d : Commit)
    (m n : List (List ℕ × List ℕ)) → IsDigest digest → IsExport digest bits file c m
    → IsExport digest bits file d n → (c ≡ d) × (m ≡ n)

-- it doesn't depend on the order of the sections, where their blocks don't clash
abbrev pub ExportHasNoOrder : Type 0
ExportHasNoOrder =
    (digest : List ℕ → List ℕ) (bits : ℕ) (root : List ℕ) (ss ts : List Section) (c : Commit)
    (m : List (List ℕ × List ℕ)) → IsDigest digest → is_own_cid root ≡ true
    → AllByRecursion IsSection ss → IsClashFree digest (blocks_of ss) → IsPermutation ss ts
    → IsExport digest bits (car_bytes root ss) c m → IsExport digest bits (car_bytes root ts) c m
