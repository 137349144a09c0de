use Rattle.std.proofs.Common.{◌≡◌, ℕ, ◌+◌, length, sym, ap, ◌∙◌, subst}
use Rattle.crossbeam_queue.specs.Passes.{view}
use Rattle.notices.specs.Views.{pass_view, PassView, IsPut}
use Rattle.notices.proofs.Told.{pushes_as, put_told}
use Rattle.notices.proofs.queue.Queue.put.Goals as goal

pub push_as-requires-clause-rule : goal.push_as-requires-clause-rule
push_as-requires-clause-rule g c =
    let at = c.pass.view_is in
    pushes_as _ _ c.pass.inside.writer _ c.args.notice c.pass.invariant.1 (c.requires.writer ∙ sym (ap (λ p. p.writer) at)) (subst (λ (p : PassView). c.args.notice.seq ≡ length p.sent + 1) (sym at) c.requires.next)

pub returns : goal.returns
returns g c =
    let at = c.pass.view_is in
    let told = put_told c.self.inside.ring.cap c.pass.inside.writer c.pass.inside.ticket.table_id c.push_as.new.pass.table_id (view c.pass.inside.ticket) (view c.push_as.new.pass) c.args.notice c.push_as.result c.pass.invariant.1 c.push_as.ensures.queue.0 c.push_as.ensures.rule in
    let P : PassView × ℕ → Type 0 = λ y. IsPut y.1 y.0 c.args.notice c.push_as.result (pass_view c.push_as.new.pass.table_id c.pass.inside.writer (view c.push_as.new.pass)) in
    subst P (λ i. (at i, (c.self.view_is i).room)) told
