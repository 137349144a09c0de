-- What can be opened.
use Rattle.std.specs.Prelude.{ℕ, List}
use Rattle.spec.specs.SignedCommits.{Commit}
use Rattle.spec.specs.Exports.{IsExport}
use Rattle.checked_opening.specs.Opening.{AreOpenable}

-- the commit and the records of which a file is the export, as a check answers them
abbrev pub ExportIsOpenable : Type 0
ExportIsOpenable =
    (digest : List ℕ → List ℕ) (bits : ℕ) (file : List ℕ) (c : Commit)
    (m : List (List ℕ × List ℕ)) → IsExport digest bits file c m → AreOpenable digest bits c m
