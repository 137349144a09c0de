use Rattle.std.proofs.Common.{List, map, sym, subst, ◌∙◌}
use Rattle.std.specs.Arc.{arc_value}
use Rattle.spec.specs.Blocks.{IsClashFree}
use Rattle.spec.specs.States.{State}
use Rattle.kept.specs.Counts.{HaveNoOther, gained}
use Rattle.kept.specs.Faults.{IsRefusalOfOne}
use Rattle.kept.specs.Fronts.{LendsAll, bytes_with}
use Rattle.repo.specs.Cores.{IsCore}
use Rattle.repo.specs.Prepared.{Prepared, IsPreparedBatch}
use Rattle.repo.proofs.LendingAfter.{after-lends, after-lends_tree, not-lent}
use Rattle.repo.proofs.Telling.{is-passed}
use Rattle.repo.proofs.cores.Core.lender_with.Goals as goal

pub returns-in-Ok-clause-blocks : goal.returns-in-Ok-clause-blocks
returns-in-Ok-clause-blocks g c =
    let dig = g.D.Digest.digest_of in
    let x = c.prepared.inside.exchange in
    let p = c.args.prepared.now in
    let ready = subst (λ (q : Prepared). IsPreparedBatch dig g.row.B q c.prepared.inside.previous x) c.prepared.view_is c.prepared.invariant in
    let old = c.self.inside in
    let is = subst (λ (t : State). IsCore dig g.row.B t old.root old.commit old.kept) (c.self.view_is ∙ sym c.requires.same) c.self.invariant in
    let done = c.in-Ok.ensures in
    after-lends dig g.row.B p.before p.stamp p.writes x.root x.commit _ (map arc_value x.come.items) _ x.go.items ready.made.exchange g.met.D.Digest.digest_len
    old.kept is.lawful is.kept
    (subst (λ xs. HaveNoOther dig old.kept.uses (map arc_value xs)) c.deref.ensures.value done.no_other)
    (subst (λ xs. IsClashFree dig (map arc_value xs)) c.deref.ensures.value done.clash_free)
    (bytes_with dig c.in-Ok.lender)
    (subst (λ xs. LendsAll dig c.in-Ok.lender (gained dig old.kept.uses (map arc_value xs))) c.deref.ensures.value done.blocks)

pub returns-in-Ok-clause-tree : goal.returns-in-Ok-clause-tree
returns-in-Ok-clause-tree g c =
    let dig = g.D.Digest.digest_of in
    let x = c.prepared.inside.exchange in
    let p = c.args.prepared.now in
    let ready = subst (λ (q : Prepared). IsPreparedBatch dig g.row.B q c.prepared.inside.previous x) c.prepared.view_is c.prepared.invariant in
    let old = c.self.inside in
    let is = subst (λ (t : State). IsCore dig g.row.B t old.root old.commit old.kept) (c.self.view_is ∙ sym c.requires.same) c.self.invariant in
    let done = c.in-Ok.ensures in
    after-lends_tree dig g.row.B p.before p.stamp p.writes x.root x.commit _ (map arc_value x.come.items) _ x.go.items ready.made.exchange g.met.D.Digest.digest_len
    old.kept is.lawful is.kept
    (subst (λ xs. HaveNoOther dig old.kept.uses (map arc_value xs)) c.deref.ensures.value done.no_other)
    (subst (λ xs. IsClashFree dig (map arc_value xs)) c.deref.ensures.value done.clash_free)
    (bytes_with dig c.in-Ok.lender)
    (subst (λ xs. LendsAll dig c.in-Ok.lender (gained dig old.kept.uses (map arc_value xs))) c.deref.ensures.value done.blocks)

pub returns-in-Ok-clause-passed : goal.returns-in-Ok-clause-passed
returns-in-Ok-clause-passed g c =
    let dig = g.D.Digest.digest_of in
    let x = c.prepared.inside.exchange in
    let p = c.args.prepared.now in
    let ready = subst (λ (q : Prepared). IsPreparedBatch dig g.row.B q c.prepared.inside.previous x) c.prepared.view_is c.prepared.invariant in
    is-passed dig g.row.B p c.prepared.inside.previous x ready

pub returns-in-Err-clause-fault : goal.returns-in-Err-clause-fault
returns-in-Err-clause-fault g c =
    let dig = g.D.Digest.digest_of in
    let x = c.prepared.inside.exchange in
    let p = c.args.prepared.now in
    let ready = subst (λ (q : Prepared). IsPreparedBatch dig g.row.B q c.prepared.inside.previous x) c.prepared.view_is c.prepared.invariant in
    let done = c.in-Err.ensures in
    not-lent dig g.row.B p.before p.stamp p.writes x.root x.commit _ (map arc_value x.come.items) _ x.go.items ready.made.exchange c.in-Err.fault c.from.result
    c.from.ensures (subst (λ xs. IsRefusalOfOne dig (map arc_value xs) c.in-Err.fault) c.deref.ensures.value done.fault) done.not_full

pub returns-in-Err-clause-passed : goal.returns-in-Err-clause-passed
returns-in-Err-clause-passed g c =
    let dig = g.D.Digest.digest_of in
    let x = c.prepared.inside.exchange in
    let p = c.args.prepared.now in
    let ready = subst (λ (q : Prepared). IsPreparedBatch dig g.row.B q c.prepared.inside.previous x) c.prepared.view_is c.prepared.invariant in
    is-passed dig g.row.B p c.prepared.inside.previous x ready
