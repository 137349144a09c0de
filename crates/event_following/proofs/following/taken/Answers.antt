use Rattle.batches.specs.Values.{stamp_of}
use Rattle.event_format.specs.Views.{event_of}
use Rattle.event_following.specs.Following.{stamp_in}
use Rattle.event_following.proofs.Steps.{refused-of, taken-of}
use Rattle.event_following.proofs.following.taken.Goals as goal

pub returns-clause-taken : goal.returns-clause-taken
returns-clause-taken g c =
    taken-of g.D.Digest.digest_of g.row.B c.args.core.now c.take_difference.new.core (stamp_of c.in_ok-stamp.stamp)
    (stamp_in (event_of c.args.checked.now.event)) c.in_ok-stamp.ensures c.deref.result.now c.args.checked.now.sections.items
    c.deref.ensures.value c.args.changes.now c.take_difference.result c.take_difference.ensures.taken

pub returns-clause-fault : goal.returns-clause-fault
returns-clause-fault g c =
    refused-of g.D.Digest.digest_of g.row.B c.args.core.now (stamp_of c.in_ok-stamp.stamp)
    (stamp_in (event_of c.args.checked.now.event)) c.in_ok-stamp.ensures c.deref.result.now c.args.checked.now.sections.items
    c.deref.ensures.value c.args.changes.now (g.S.BlockStore.fulls c.args.store.now)
    (g.S.BlockStore.fulls c.take_difference.new.store) c.take_difference.result c.take_difference.ensures.fault
