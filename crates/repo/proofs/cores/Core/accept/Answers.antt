use Rattle.std.proofs.Common.{rules, ap, subst, sym, ◌∙◌}
use Rattle.std.proofs.lemmas.Result.{on_ok_weaker}
use Rattle.spec.specs.States.{State}
use Rattle.batches.specs.Values.{shared_writes, stamp_of}
use Rattle.repo.specs.Edits.{IsExchangeMade}
use Rattle.repo.specs.Prepared.{Prepared, prepared_of, state_after}
use Rattle.repo.proofs.Applying.{refused-as}
use Rattle.repo.proofs.cores.Core.accept.Goals as goal

pub exchange-requires : goal.exchange-requires
exchange-requires g c =
    let stamp = stamp_of c.prepared.inside.copies.stamp in
    let batch = shared_writes c.prepared.inside.copies.writes.items in
    let now = ap (λ (q : Prepared). q.before) c.prepared.view_is ∙ c.requires.same in (
      search rules,
      (
        c.requires.store,
        subst (λ (t : State). IsExchangeMade g.D.Digest.digest_of g.row.B t stamp batch c.prepared.inside.exchange) now c.prepared.invariant.made,
      ),
    )

pub returns-clause-accepted : goal.returns-clause-accepted
returns-clause-accepted g c =
    let stamp = stamp_of c.prepared.inside.copies.stamp in
    let batch = shared_writes c.prepared.inside.copies.writes.items in
    let now = ap (λ (q : Prepared). q.before) c.prepared.view_is ∙ c.requires.same in
    let same = ap (λ (t : State). prepared_of t stamp batch) (sym now) ∙ c.prepared.view_is in
    on_ok_weaker c.exchange.result (λ e. e ∙ ap (λ (q : Prepared). state_after q) same) c.exchange.ensures.accepted

pub returns-clause-fault : goal.returns-clause-fault
returns-clause-fault g c =
    let stamp = stamp_of c.prepared.inside.copies.stamp in
    let batch = shared_writes c.prepared.inside.copies.writes.items in
    refused-as g.D.Digest.digest_of g.row.B c.args.self.now _ _ c.exchange.result (prepared_of c.prepared.inside.before.value stamp batch) c.args.prepared
    c.prepared.view_is c.exchange.ensures.fault
