-- What is told of a commit that is read, or of the next timestamp identifier, is told of those that are defined.
use Rattle.std.proofs.Common.{ℕ, List, sym, subst}
use Rattle.std.specs.Prelude.{Result, Ok, Err}
use Rattle.spec.specs.Reading.{Gives}
use Rattle.spec.specs.SignedCommits as commits
use Rattle.spec.specs.SignedCommits.{Commit}
use Rattle.signed_commits.specs.Views.{commit_of, commit_fault_of}
use Rattle.signed_commits.specs.declared.commit.SignedCommit.{SignedCommit}
use Rattle.signed_commits.specs.declared.fault.CommitFault.{CommitFault}
use Rattle.signed_commits.specs.declared.fault.CommitFault.TheVariants as errors
use Rattle.tids.specs.Tids as tids
use Rattle.tids.specs.Views.{tid_fault_of}
use Rattle.tids.specs.declared.fault.TidFault.{TidFault}
use Rattle.tids.specs.declared.fault.TidFault.TheVariants as faults
use Rattle.tizulgech.specs.Signing.{IsCommitRead, IsCommitTold, IsNextTid, IsTidTold}

pub commit_told : (code : ℕ) (r : Result SignedCommit CommitFault) (answer : Result Commit commits.CommitFault) (before room : List ℕ) (size : ℕ)
    → IsCommitTold code r before room size → Gives commit_of commit_fault_of r answer → IsCommitRead code answer before room size
commit_told code (Ok c) answer before room size t g = subst (λ a. IsCommitRead code a before room size) (sym g) t
commit_told code (Err errors.NotACommit) answer before room size t g = subst (λ a. IsCommitRead code a before room size) (sym g) t
commit_told code (Err errors.BadDid) answer before room size t g = subst (λ a. IsCommitRead code a before room size) (sym g) t
commit_told code (Err errors.BadRev) answer before room size t g = subst (λ a. IsCommitRead code a before room size) (sym g) t

pub tid_told : (code : ℕ) (r : Result (List ℕ) TidFault) (answer : Result (List ℕ) tids.TidFault) (before room : List ℕ) (size : ℕ)
    → IsTidTold code r before room size → Gives (λ letters. letters) tid_fault_of r answer → IsNextTid code answer before room size
tid_told code (Ok letters) answer before room size t g = subst (λ a. IsNextTid code a before room size) (sym g) t
tid_told code (Err faults.BadTid) answer before room size t g = subst (λ a. IsNextTid code a before room size) (sym g) t
tid_told code (Err faults.OutOfRange) answer before room size t g = subst (λ a. IsNextTid code a before room size) (sym g) t
tid_told code (Err faults.NoneAfter) answer before room size t g = subst (λ a. IsNextTid code a before room size) (sym g) t
