-- What the file of a signed commit is, and what an export is not.
use Rattle.std.specs.Prelude.{◌≡◌, ◌<◌, ◌^◌, ℕ, List, [], ◌∷◌, length, Some}
use Rattle.spec.specs.Cid.{IsDigest}
use Rattle.spec.specs.Blocks.{blocks, IsClashFree}
use Rattle.spec.specs.Commits.{commit_bytes}
use Rattle.spec.specs.Stamps.{Stamp}
use Rattle.spec.specs.SignedCommits.{Commit, unsigned_bytes}
use Rattle.spec.specs.States.{State, IsLawful, records, last_stamp, state_root}
use Rattle.spec.specs.Exports.{ExportFault, IsExport, IsFirstFault}
use Rattle.export_laws.specs.SignedCars.{signed_over, signed_block, signed_car}

-- its blocks: the signed commit, the nodes and the records
abbrev pub blocks_served : (List ℕ → List ℕ) → ℕ → Stamp → List ℕ → List (List ℕ × List ℕ)
    → List (List ℕ)
blocks_served digest bits stamp sig m =
    signed_block digest bits stamp sig m ∷ blocks digest bits [] m

-- It is the export of that commit and these records, where no two of its blocks have one CID and
-- different bytes, whatever the signature is. The blocks of a lawful repository are short enough for
-- sections, and so is a commit whose signature has fewer than 2 ^ 62 bytes.
abbrev pub SignedCarIsExport : Type 0
SignedCarIsExport =
    (digest : List ℕ → List ℕ) (bits : ℕ) (s : State) (stamp : Stamp) (sig : List ℕ)
    → IsDigest digest → IsLawful s → last_stamp s ≡ Some stamp → length sig < 2 ^ 62
    → IsClashFree digest (blocks_served digest bits stamp sig (records s))
    → IsExport digest bits (signed_car digest bits stamp sig (records s))
    (signed_over digest bits stamp sig (records s)) (records s)

-- what is signed is the commit of the repository's last batch, byte for byte
abbrev pub SignedCarSignsCommit : Type 0
SignedCarSignsCommit =
    (digest : List ℕ → List ℕ) (bits : ℕ) (s : State) (stamp : Stamp) (sig : List ℕ)
    → IsDigest digest → IsLawful s → last_stamp s ≡ Some stamp → length sig < 2 ^ 63
    → unsigned_bytes (signed_over digest bits stamp sig (records s))
    ≡ commit_bytes stamp (state_root digest bits s)

-- an export has no fault: a check that names a file's first fault names none
abbrev pub ExportHasNoFault : Type 0
ExportHasNoFault =
    (digest : List ℕ → List ℕ) (bits : ℕ) (file : List ℕ) (c : Commit)
    (m : List (List ℕ × List ℕ)) (fault : ExportFault) → IsDigest digest
    → IsExport digest bits file c m → IsFirstFault digest bits file fault → ⊥
