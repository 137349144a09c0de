use Rattle.edit.proofs.Making.{level-closed}
use Rattle.edit.proofs.level.close.Goals as goal

pub returns-clause-closed : goal.returns-clause-closed
returns-clause-closed g c read =
    level-closed g.D.Digest.digest_of c.args.level c.in_ok-finish.field-0 c.args.below c.in_ok-close.field-0
    c.args.made.now.items c.close.new.made.items read
    c.in_ok-finish.ensures.ok c.in_ok-close.ensures.link
    c.close.ensures.lawful c.in_ok-close.ensures.made
