use Rattle.std.proofs.Common.{rules, ◌<◌, ◌^◌, ◌∙◌, ℕ, All, length, sym, ap, subst}
use prog.Memory.{size}
use denote.Param.{layout, param, number}
use Rattle.notices.specs.Views.{QueueView}
use Rattle.ended.specs.Ending.{IsEndedAt}
use Rattle.closing.specs.Settling.{UnevenView}
use Rattle.closing.specs.contracts.closed.Closed as closed
use Rattle.closing.specs.contracts.closed.Uneven as uneven
use Rattle.host.proofs.Accepting.{ok_then, err_then}
use Rattle.host_close.proofs.close.Goals as goal

pub close-requires : goal.close-requires
close-requires g c =
    let parts = c.into_parts-queue.ensures in
    let closes : size (layout (closed.the_row (param 0 g.row.D) (number g.row.B) (param 2 g.row.A) g.D.Digest g.A.Allocator g.A.Clone)) < 2 ^ 63 = search rules in
    let stays : size (layout (uneven.the_row (param 0 g.row.D) (number g.row.B) (param 2 g.row.A) g.D.Digest g.A.Allocator g.A.Clone)) < 2 ^ 63 = search rules in
    let queue = c.requires.feed ∙ ap (λ (q : QueueView). q.queue_id) (sym parts.queue) in
    let ended = subst (λ (p : QueueView × ℕ). All (IsEndedAt p.0.queue_id p.1) c.args.ended.items) (λ i. (sym parts.queue i, sym parts.cores i)) c.requires.ended in
    (c.fits_in_memory.ensures.core, (c.fits_in_memory.ensures.tables, (closes, (stays, (queue, (c.requires.fresh, (ended, c.requires.all)))))))

pub returns-clause-cores : goal.returns-clause-cores
returns-clause-cores g c = ok_then c.close.result (λ x e. ap length e ∙ c.into_parts-queue.ensures.cores) c.close.ensures.cores

pub returns-clause-held : goal.returns-clause-held
returns-clause-held g c =
    err_then c.close.result (λ u e. ap (λ (v : UnevenView). length v.cores) e ∙ c.into_parts-queue.ensures.cores) c.close.ensures.same

pub returns-clause-same : goal.returns-clause-same
returns-clause-same g c = err_then c.close.result (λ u e. ap (λ (v : UnevenView). v.ended) e) c.close.ensures.same
