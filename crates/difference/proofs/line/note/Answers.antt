use Rattle.difference.proofs.Noting.{no-more, one-more}
use Rattle.difference.proofs.line.note.Goals as goal

pub returns-in_default : goal.returns-in_default
returns-in_default g c = λ cids h. no-more cids c.args.link c.args.links.now c.in_default.is h

pub returns : goal.returns
returns g c = λ cids h.
    one-more cids c.args.link c.in-Some.cid c.in_ok-is_new.is_new c.args.links.now c.insert.new.self c.in-Some.is h
    c.in_ok-is_new.ensures.added c.in_ok-is_new.ensures.updates.0
