use Rattle.cid.specs.CidRef.{bytes_of}
use Rattle.car_reader.specs.Views.{sections_of}
use Rattle.commit_events.proofs.Named.{named-read}
use Rattle.commit_events.proofs.blocks.sections.Goals as goal

pub returns-in-Ok-clause-named : goal.returns-in-Ok-clause-named
returns-in-Ok-clause-named g c =
    named-read g.D.Digest.digest_of (bytes_of c.args.event.now.commit) c.args.event.now.blocks.now
    (sections_of c.in-Ok.sections.items) c.in-Ok.ensures
