use Rattle.edit.proofs.Making.{level-topped}
use Rattle.edit.proofs.level.close_top.Goals as goal

pub returns-clause-made : goal.returns-clause-made
returns-clause-made g c =
    level-topped c.args.level c.in_ok-finish.field-0 c.args.below c.args.made.now.items c.push.new.made.items
    c.in_ok-finish.ensures.ok
    c.push.ensures.lawful c.in_ok-push.ensures.made
