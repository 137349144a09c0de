use Rattle.spec.specs.SignedCommits.{unsigned_bytes}
use Rattle.signed_commits.proofs.Spelling.{five}
use Rattle.signed_commits.proofs.commit.SignedCommit.unsigned_bytes.Goals as goal

pub returns : goal.returns
unfolding unsigned_bytes
returns g c =
    five _ _ _ _ _ _ _ _ _ _ _ c.new-out.ensures.items c.in_ok-extend_from_slice.ensures.items c.in_ok-push_string.ensures
    c.in_ok-extend_from_slice-2.ensures.items c.in_ok-push_string-2.ensures c.in_ok-push_end.ensures
