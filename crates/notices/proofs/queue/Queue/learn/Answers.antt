use Rattle.std.proofs.Common.{sym, subst}
use Rattle.crossbeam_queue.specs.Passes.{view}
use Rattle.notices.specs.declared.rule.View.{View}
use Rattle.notices.specs.Steps.{AreDistinct}
use Rattle.notices.specs.Views.{feed_view}
use Rattle.notices.proofs.Moves.{distinct}
use Rattle.notices.proofs.Told.{each_told}
use Rattle.notices.proofs.queue.Queue.learn.Goals as goal

pub learn_as-requires-clause-rule : goal.learn_as-requires-clause-rule
learn_as-requires-clause-rule g c = distinct _ _ c.feed.invariant.1.0

pub returns-clause-each : goal.returns-clause-each
returns-clause-each g c =
    let same = c.learn_as.ensures.queue.1 in
    each_told (feed_view c.learn_as.new.pass.table_id (view c.learn_as.new.pass)) (subst (λ (v : View). AreDistinct v.made v.accounts) (sym same) c.learn_as.ensures.rule.1)
