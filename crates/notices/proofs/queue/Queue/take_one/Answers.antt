use Rattle.std.proofs.Common.{subst}
use Rattle.crossbeam_queue.specs.Passes.{view}
use Rattle.notices.specs.Views.{feed_view, FeedView, IsTake}
use Rattle.notices.proofs.Told.{pops_as, take_told}
use Rattle.notices.proofs.queue.Queue.take_one.Goals as goal

pub pop_as-requires-clause-rule : goal.pop_as-requires-clause-rule
pop_as-requires-clause-rule g c = pops_as _ _ c.feed.invariant.1

pub returns-clause-take : goal.returns-clause-take
returns-clause-take g c =
    let told = take_told c.feed.inside.ticket.table_id c.pop_as.new.pass.table_id (view c.feed.inside.ticket) (view c.pop_as.new.pass) c.pop_as.result c.pop_as.ensures.queue.0 c.pop_as.ensures.rule in
    subst (λ (f : FeedView). IsTake f c.pop_as.result (feed_view c.pop_as.new.pass.table_id (view c.pop_as.new.pass))) c.feed.view_is told
