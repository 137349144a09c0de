-- What is told of signed commits, of the parts of files, and of timestamp identifiers.
use Rattle.std.specs.Prelude.{◌≡◌, ℕ, List, ◌++◌, Option, Some, None, Result, Ok, Err}
use Rattle.spec.specs.SignedCommits as commits
use Rattle.spec.specs.SignedCommits.{Commit, unsigned_bytes}
use Rattle.signed_commits.specs.Views.{commit_of}
use Rattle.signed_commits.specs.declared.commit.SignedCommit.{SignedCommit}
use Rattle.signed_commits.specs.declared.fault.CommitFault.{CommitFault}
use Rattle.signed_commits.specs.declared.fault.CommitFault.TheVariants as errors
use Rattle.tids.specs.Tids as tids
use Rattle.tids.specs.declared.fault.TidFault.{TidFault}
use Rattle.tids.specs.declared.fault.TidFault.TheVariants as faults
use Rattle.buffers.specs.Answers.{IsHanded, part_bytes, value_bytes}
use Rattle.tizulgech.specs.Numbers.{IsHandedOr255}

-- what is made of a CID; 252 for what is none
abbrev pub IsMadeOf : ℕ → (List ℕ → List ℕ) → Option (List ℕ) → List ℕ → List ℕ → ℕ → Type 0
IsMadeOf code made None before room size = code ≡ 252
IsMadeOf code made (Some c) before room size = IsHandedOr255 code (made c) before room size

-- ---- a commit that is read

-- how it is spelt: whose it is, the revision, the root, the commit before or zeros, the signature, and the bytes that were signed
abbrev pub commit_spelt : Commit → List ℕ
commit_spelt c = part_bytes c.did ++ part_bytes c.rev ++ c.root ++ value_bytes c.prev ++ part_bytes c.sig
    ++ part_bytes (unsigned_bytes c)

-- why bytes are no commit
abbrev pub commit_number : commits.CommitFault → ℕ
commit_number commits.NotACommit = 100
commit_number commits.BadDid = 101
commit_number commits.BadRev = 102

-- the same of a fault of the code
abbrev pub commit_code : CommitFault → ℕ
commit_code errors.NotACommit = 100
commit_code errors.BadDid = 101
commit_code errors.BadRev = 102

-- the commit of bytes, or the number of the fault
abbrev pub IsCommitRead : ℕ → Result Commit commits.CommitFault → List ℕ → List ℕ → ℕ → Type 0
IsCommitRead code (Ok c) before room size = IsHandedOr255 code (commit_spelt c) before room size
IsCommitRead code (Err f) before room size = code ≡ commit_number f

-- the same of an answer of the code
abbrev pub IsCommitTold : ℕ → Result SignedCommit CommitFault → List ℕ → List ℕ → ℕ → Type 0
IsCommitTold code (Ok c) before room size = IsHandedOr255 code (commit_spelt (commit_of c)) before room size
IsCommitTold code (Err f) before room size = code ≡ commit_code f

-- ---- the next timestamp identifier

abbrev pub tid_number : tids.TidFault → ℕ
tid_number tids.BadTid = 28
tid_number tids.OutOfRange = 252
tid_number tids.NoneAfter = 29

-- the same of a fault of the code
abbrev pub tid_code : TidFault → ℕ
tid_code faults.BadTid = 28
tid_code faults.OutOfRange = 252
tid_code faults.NoneAfter = 29

-- its letters, or the number of the fault
abbrev pub IsNextTid : ℕ → Result (List ℕ) tids.TidFault → List ℕ → List ℕ → ℕ → Type 0
IsNextTid code (Ok letters) before room size = IsHanded code letters before room size
IsNextTid code (Err f) before room size = code ≡ tid_number f

abbrev pub IsTidTold : ℕ → Result (List ℕ) TidFault → List ℕ → List ℕ → ℕ → Type 0
IsTidTold code (Ok letters) before room size = IsHanded code letters before room size
IsTidTold code (Err f) before room size = code ≡ tid_code f
