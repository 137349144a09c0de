-- The commit that a `SignedCommit` stands for, and the definitions' fault that a fault is.
use Rattle.std.specs.Prelude.{Option, Some, option_map}
use Rattle.cid.specs.CidRef.{bytes_of}
use Rattle.spec.specs.SignedCommits as commits
use Rattle.signed_commits.specs.declared.commit.SignedCommit.{SignedCommit}
use Rattle.signed_commits.specs.declared.fault.CommitFault.{CommitFault}
use Rattle.signed_commits.specs.declared.fault.CommitFault.TheVariants as errors

abbrev pub commit_of : SignedCommit → commits.Commit
commit_of c = record {
  did = c.did.now;
  rev = c.rev.now;
  sig = c.sig.now;
  root = bytes_of c.root;
  prev = option_map bytes_of c.prev;
}

abbrev pub commit_fault_of : CommitFault → Option commits.CommitFault
commit_fault_of errors.NotACommit = Some commits.NotACommit
commit_fault_of errors.BadDid = Some commits.BadDid
commit_fault_of errors.BadRev = Some commits.BadRev
