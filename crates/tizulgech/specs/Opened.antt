-- What a repository is that begins with the records of a file, and why there is none.
use Rattle.std.specs.Prelude.{◌≡◌, ◌<◌, ℕ, ◌&&◌, ◌||◌, Bool, nat_eq, nat_le, List, length, Option, Some}
use Rattle.sha2.specs.Sha256.{sha256}
use Rattle.spec.specs.SignedCommits.{Commit}
use Rattle.spec.specs.Exports.{IsExport}
use Rattle.batches.specs.declared.fault.RepoFault.{RepoFault}
use Rattle.batches.specs.declared.fault.RepoFault.TheVariants as faults
use Rattle.checked_opening.specs.Opening.{opened as state_opened}
use Rattle.owned_repo.specs.Owning.{Owned, holding}
use Rattle.tizulgech.specs.Checked.{tells_record}

-- the file is the export of this commit and these records, and this is the repository with them after one batch
pub record IsOpenedOf (limit : ℕ) (file : List ℕ) (n : Option Owned) : Type 0 where
  pub commit : Commit
  pub found : List (List ℕ × List ℕ)
  pub export : IsExport sha256 2 file commit found
  pub repo_is : n ≡ Some (holding (state_opened 0 limit commit found))

-- it is an export with more records than the limit
pub record HasMany (limit : ℕ) (file : List ℕ) : Type 0 where
  pub commit : Commit
  pub found : List (List ℕ × List ℕ)
  pub export : IsExport sha256 2 file commit found
  pub many : limit < length found

-- the numbers that say that a file is no export
abbrev pub is_of_file : ℕ → Bool
is_of_file n = tells_record n || nat_eq n 70 || (nat_le 100 n && nat_le n 106) || nat_eq n 123 || nat_eq n 124

-- the number of a fault of an opening
abbrev pub opening_number : {D A : Type 0} → RepoFault D A → ℕ
opening_number (faults.Collision pair) = 253
opening_number faults.StoreFull = 254
opening_number faults.WritesFull = 25
opening_number fault = 255
