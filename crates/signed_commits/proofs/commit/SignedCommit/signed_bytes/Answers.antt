use Rattle.spec.specs.SignedCommits.{signed_bytes}
use Rattle.signed_commits.proofs.Spelling.{seven}
use Rattle.signed_commits.proofs.commit.SignedCommit.signed_bytes.Goals as goal

pub returns : goal.returns
unfolding signed_bytes
returns g c =
    seven _ _ _ _ _ _ _ _ _ _ _ _ _ _ _ c.new-out.ensures.items c.in_ok-extend_from_slice.ensures.items c.in_ok-push_string.ensures
    c.in_ok-extend_from_slice-2.ensures.items c.in_ok-push_string-2.ensures c.in_ok-extend_from_slice-3.ensures.items
    c.in_ok-push_string-3.ensures c.in_ok-push_end.ensures
