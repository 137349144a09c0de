use Rattle.std.proofs.Common.{rules, List, ap, refl, subst, sym, ◌∙◌}
use Rattle.std.proofs.lemmas.Result.{err_from_is_err_and, on_ok_weaker}
use Rattle.spec.specs.Stamps.{Stamp}
use Rattle.spec.specs.Writes.{Write}
use Rattle.batches.specs.Values.{shared_writes, stamp_of, writes_of}
use Rattle.repo.specs.Edits.{IsExchangeMade}
use Rattle.repo.specs.Prepared.{Prepared, prepared_of, state_after}
use Rattle.repo.proofs.Applying.{accepted-passes, prepared-is, refused-batch, unasked}
use Rattle.repo.proofs.cores.Core.apply.Goals as goal

pub returns-in_err-batch-clause-fault : goal.returns-in_err-batch-clause-fault
returns-in_err-batch-clause-fault g c =
    let p = err_from_is_err_and c.from_residual.result c.from_residual.ensures.1 in
    rw (p.1, p.2) (c.in_err-batch.ensures.fault (g.S.BlockStore.fulls c.args.store.now))

pub returns-in_err-batch-clause-counted : goal.returns-in_err-batch-clause-counted
returns-in_err-batch-clause-counted g c =
    let p = err_from_is_err_and c.from_residual.result c.from_residual.ensures.1 in
    let r = c.in_err-batch.field-0.0 in
    rw (p.1, p.2) (unasked g.D.Digest.digest_of g.row.B c.args.self.now (stamp_of c.args.stamp.now) (writes_of c.args.writes.now)
    (g.S.BlockStore.fulls c.args.store.now) r.0 r.1 c.in_err-batch.ensures.fault)

pub exchange-requires : goal.exchange-requires
exchange-requires g c =
    let dig = g.D.Digest.digest_of in
    let s = c.args.self.now in
    let copies = c.in_ok-batch.batch.copies in
    let x = c.in_ok-batch.batch.exchange in
    let made = c.in_ok-batch.ensures in (
      search rules,
      (
        c.requires.store,
        subst (λ (ws : List Write). IsExchangeMade dig g.row.B s (stamp_of copies.stamp) ws x) (sym made.writes)
            (subst (λ (st : Stamp). IsExchangeMade dig g.row.B s st (writes_of c.args.writes.now) x) (sym made.stamp) made.exchange),
      ),
    )

pub returns-clause-accepted : goal.returns-clause-accepted
returns-clause-accepted g c =
    let made = c.in_ok-batch.ensures in
    let same = prepared-is c.args.self.now c.args.self.now _ _ _ _ refl made.stamp made.writes in
    on_ok_weaker c.exchange.result (λ e. e ∙ ap (λ (q : Prepared). state_after q) same) c.exchange.ensures.accepted

pub returns-clause-passes : goal.returns-clause-passes
returns-clause-passes g c = accepted-passes c.exchange.result c.in_ok-batch.ensures.exchange.exchange.passes

pub returns-clause-fault : goal.returns-clause-fault
returns-clause-fault g c =
    let copies = c.in_ok-batch.batch.copies in
    let made = c.in_ok-batch.ensures in
    let s = c.args.self.now in
    let same = prepared-is s s _ _ _ _ refl made.stamp made.writes in
    refused-batch g.D.Digest.digest_of g.row.B c.exchange.result (prepared_of s (stamp_of copies.stamp) (shared_writes copies.writes.items)) s
    (stamp_of c.args.stamp.now) (writes_of c.args.writes.now) same _ _ c.exchange.ensures.fault
