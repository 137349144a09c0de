use Rattle.std.proofs.Common.{List, ap, subst, sym, ◌∙◌}
use Rattle.std.proofs.lemmas.Result.{err_from_is_err_and}
use Rattle.spec.specs.Stamps.{Stamp}
use Rattle.spec.specs.States.{State}
use Rattle.spec.specs.Writes.{Write}
use Rattle.batches.specs.Values.{writes_of, shared_writes, stamp_of}
use Rattle.repo.specs.Cores.{IsCore}
use Rattle.repo.specs.Edits.{IsExchangeMade}
use Rattle.repo.specs.Prepared.{IsPassed, IsPreparedBatch, prepared_of}
use Rattle.repo.proofs.Applying.{prepared-is}
use Rattle.repo.proofs.Telling.{is-passed}
use Rattle.repo.proofs.cores.Core.prepare.Goals as goal

pub returns-in_err-tested-clause-fault : goal.returns-in_err-tested-clause-fault
returns-in_err-tested-clause-fault g c =
    let p = err_from_is_err_and c.from_residual.result c.from_residual.ensures.1 in
    rw (p.1, p.2) c.in_err-tested.ensures.fault

pub invariant_of-result : goal.invariant_of-result
invariant_of-result g c =
    let dig = g.D.Digest.digest_of in
    let old = c.self.inside in
    let s = c.args.self.now in
    let is = subst (λ (x : State). IsCore dig g.row.B x old.root old.commit old.kept) c.self.view_is c.self.invariant in
    let copies = c.in_ok-tested.tested.copies in
    let x = c.in_ok-tested.tested.exchange in
    let told = c.in_ok-tested.ensures in
    let made = subst (λ (ws : List Write). IsExchangeMade dig g.row.B s (stamp_of copies.stamp) ws x) (sym told.writes)
    (subst (λ (st : Stamp). IsExchangeMade dig g.row.B s st (writes_of c.args.writes.now) x) (sym told.stamp) told.exchange) in
    let ready : IsPreparedBatch dig g.row.B (prepared_of s (stamp_of copies.stamp) (shared_writes copies.writes.items)) old.root x =
    record { lawful = is.lawful; previous_is = is.root_is; made = made } in
    subst (λ (t : State). IsPreparedBatch dig g.row.B (prepared_of t (stamp_of copies.stamp) (shared_writes copies.writes.items)) old.root x)
    (sym c.of.ensures) ready

pub returns-clause-prepared : goal.returns-clause-prepared
returns-clause-prepared g c =
    let told = c.in_ok-tested.ensures in
    prepared-is _ c.args.self.now _ _ _ _ c.of.ensures told.stamp told.writes

pub returns-clause-passed : goal.returns-clause-passed
returns-clause-passed g c =
    let dig = g.D.Digest.digest_of in
    let old = c.self.inside in
    let s = c.args.self.now in
    let is = subst (λ (x : State). IsCore dig g.row.B x old.root old.commit old.kept) c.self.view_is c.self.invariant in
    let copies = c.in_ok-tested.tested.copies in
    let x = c.in_ok-tested.tested.exchange in
    let told = c.in_ok-tested.ensures in
    let made = subst (λ (ws : List Write). IsExchangeMade dig g.row.B s (stamp_of copies.stamp) ws x) (sym told.writes)
    (subst (λ (st : Stamp). IsExchangeMade dig g.row.B s st (writes_of c.args.writes.now) x) (sym told.stamp) told.exchange) in
    let ready : IsPreparedBatch dig g.row.B (prepared_of s (stamp_of copies.stamp) (shared_writes copies.writes.items)) old.root x =
    record { lawful = is.lawful; previous_is = is.root_is; made = made } in
    subst (λ (t : State). IsPassed (prepared_of t (stamp_of copies.stamp) (shared_writes copies.writes.items))) (sym c.of.ensures)
    (is-passed dig g.row.B (prepared_of s (stamp_of copies.stamp) (shared_writes copies.writes.items)) old.root x ready)
