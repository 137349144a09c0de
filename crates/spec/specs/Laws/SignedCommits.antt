-- Each signed commit has one spelling, and each spelling is of one commit.
use Rattle.std.specs.Prelude.{◌≡◌, ◌<◌, ◌^◌, ℕ, true, List, length, None, Ok}
use Rattle.spec.specs.Reading.{IsBytes}
use Rattle.spec.specs.DagCbor.{is_lawful, spelling}
use Rattle.spec.specs.Commits.{commit_bytes}
use Rattle.spec.specs.SignedCommits.{Commit, IsCommit, signed_bytes, unsigned_bytes}
use Rattle.spec.specs.SignedCommits.{value_of_signed, value_of_unsigned, read_commit}

-- a commit is read back
abbrev pub CommitReadsBack : Type 0
CommitReadsBack = (c : Commit) → IsCommit c → read_commit (signed_bytes c) ≡ Ok c

-- what is read of so many bytes as a machine holds is the one spelling of what was read
abbrev pub OnlyCommitsAreRead : Type 0
OnlyCommitsAreRead = (bytes : List ℕ) (c : Commit) → IsBytes bytes → length bytes < 2 ^ 63
    → read_commit bytes ≡ Ok c → (bytes ≡ signed_bytes c) × IsCommit c

-- with its signature and without it a commit is DAG-CBOR
abbrev pub CommitIsDagCbor : Type 0
CommitIsDagCbor = (c : Commit) → IsCommit c
    → (signed_bytes c ≡ spelling (value_of_signed c))
    × (is_lawful (value_of_signed c) ≡ true)
    × (unsigned_bytes c ≡ spelling (value_of_unsigned c))

-- where no commit before is named, what is signed is the unsigned commit of the stamp over the root
abbrev pub SignsUnsigned : Type 0
SignsUnsigned = (c : Commit) → IsCommit c → c.prev ≡ None
    → unsigned_bytes c ≡ commit_bytes (record { did = c.did; rev = c.rev }) c.root
