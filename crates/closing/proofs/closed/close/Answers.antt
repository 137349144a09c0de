use Rattle.std.proofs.Common.{◌≡◌, ◌∙◌, sym, ap, subst, length, All, rules}
use Rattle.ended.specs.Ending.{EndedView}
use Rattle.closing.proofs.Closings.{settled_at, uneven_at, is_closed}
use Rattle.closing.proofs.closed.close.Goals as goal

pub compare-requires : goal.compare-requires
compare-requires g c = (
  search rules,
  (
    search rules,
    subst (All (λ (e : EndedView). length e.seen ≡ length c.deref.result.now)) (sym c.deref-2.ensures.value)
        (λ k d less. (c.requires.ended k d less).places ∙ ap length (sym c.deref.ensures.value)),
  ),
)

pub settle-feed-requires-clause-ended : goal.settle-feed-requires-clause-ended
settle-feed-requires-clause-ended g c k d less = (c.requires.ended k d less).queue

pub invariant_of-result : goal.invariant_of-result
invariant_of-result g c =
    is_closed g.D.Digest.digest_of g.row.B c.args.tables c.args.queue.queue_id c.args.cores.items c.args.feed c.settle-feed.result.0 c.args.ended.items c.settle-feed.result.1.items
    c.requires.feed c.requires.fresh c.requires.all c.settle-feed.ensures.feed c.settle-feed.ensures.same
    (settled_at g.D.Digest.digest_of g.row.B c.args.tables c.deref.result.now c.args.cores.items c.deref-2.result.now c.args.ended.items c.deref.ensures.value c.deref-2.ensures.value c.in-Ok.ensures.settled)

pub invariant_of-result-in-Err : goal.invariant_of-result-in-Err
invariant_of-result-in-Err g c =
    uneven_at g.D.Digest.digest_of g.row.B c.args.tables c.in-Err.mismatch c.deref.result.now c.args.cores.items c.deref-2.result.now c.args.ended.items c.deref.ensures.value c.deref-2.ensures.value c.in-Err.ensures.uneven

pub returns-in-Err-clause-uneven : goal.returns-in-Err-clause-uneven
returns-in-Err-clause-uneven g c =
    uneven_at g.D.Digest.digest_of g.row.B c.args.tables c.in-Err.mismatch c.deref.result.now c.args.cores.items c.deref-2.result.now c.args.ended.items c.deref.ensures.value c.deref-2.ensures.value c.in-Err.ensures.uneven
