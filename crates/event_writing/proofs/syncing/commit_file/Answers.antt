use Rattle.std.proofs.Common.{ℕ, List, ◌++◌, ap, ◌∙◌}
use Rattle.spec.specs.Car.{sized}
use Rattle.event_writing.proofs.SyncMessage.{file-of-one}
use Rattle.event_writing.proofs.syncing.commit_file.Goals as goal

pub returns : goal.returns
returns g c =
    file-of-one g.D.Digest.digest_of c.new-file.result.items c.push_header.new.out.items c.push_section.new.out.items c.cid-cid.result
    c.args.commit.now c.new-file.ensures.items c.in_ok-push_header.ensures (c.in_ok-push_section.ensures
    ∙ ap (λ (b : List ℕ). c.push_header.new.out.items ++ sized (c.cid-cid.result ++ b)) c.bytes.ensures) c.cid-cid.ensures
