use Rattle.std.proofs.Common.{List, ap, sym, subst, ◌∙◌}
use Rattle.spec.specs.Writes.{Write}
use Rattle.batch_laws.specs.Batch.{Change}
use Rattle.batch_laws.specs.Collecting.{collected, with_cids}
use Rattle.batch_laws.specs.Uses.{records_come}
use Rattle.batches.specs.Values.{shared_writes}
use Rattle.repo.specs.Prepared.{Prepared, IsPreparedBatch, keys_changed}
use Rattle.repo.proofs.Telling.{changes-keyed, changes-told, is-passed, told-as, told-keyed}
use Rattle.repo.proofs.prepared.PreparedBatch.changes.Goals as goal

pub returns-in_err-writes-clause-passed : goal.returns-in_err-writes-clause-passed
returns-in_err-writes-clause-passed g c =
    let p = c.args.self.now in
    let x = c.self.inside.exchange in
    let is = subst (λ (q : Prepared). IsPreparedBatch g.D.Digest.digest_of g.row.B q c.self.inside.previous x) c.self.view_is c.self.invariant in
    is-passed g.D.Digest.digest_of g.row.B p c.self.inside.previous x is

pub for_edit-requires : goal.for_edit-requires
for_edit-requires g c =
    let same = ap (λ ws. shared_writes ws) c.deref.ensures.value ∙ ap (λ (q : Prepared). q.writes) c.self.view_is in
    c.records.ensures.value ∙ ap (λ (ws : List Write). records_come (collected ws)) (sym same)
    ∙ ap (λ (cs : List Change). records_come cs) (sym c.in_ok-writes.ensures)

pub returns-in_err-changes-clause-passed : goal.returns-in_err-changes-clause-passed
returns-in_err-changes-clause-passed g c =
    let p = c.args.self.now in
    let x = c.self.inside.exchange in
    let is = subst (λ (q : Prepared). IsPreparedBatch g.D.Digest.digest_of g.row.B q c.self.inside.previous x) c.self.view_is c.self.invariant in
    is-passed g.D.Digest.digest_of g.row.B p c.self.inside.previous x is

pub returns-clause-changes : goal.returns-clause-changes
returns-clause-changes g c =
    let dig = g.D.Digest.digest_of in
    let p = c.args.self.now in
    let x = c.self.inside.exchange in
    let is = subst (λ (q : Prepared). IsPreparedBatch dig g.row.B q c.self.inside.previous x) c.self.view_is c.self.invariant in
    let same = ap (λ ws. shared_writes ws) c.deref.ensures.value ∙ ap (λ (q : Prepared). q.writes) c.self.view_is in
    let made = c.deref-2.ensures.value ∙ c.in_ok-changes.ensures ∙ ap (λ (cs : List Change). with_cids dig cs) c.in_ok-writes.ensures in
    told-as c.told_changes.result (λ v. v.items) _ (keys_changed dig p) c.told_changes.ensures
    (changes-told dig g.row.B p c.self.inside.previous x is (shared_writes c.deref.result.now) c.deref-2.result.now c.deref-3.result.now same made
    c.deref-3.ensures.value)

pub returns-clause-keyed : goal.returns-clause-keyed
returns-clause-keyed g c =
    let dig = g.D.Digest.digest_of in
    let p = c.args.self.now in
    let x = c.self.inside.exchange in
    let is = subst (λ (q : Prepared). IsPreparedBatch dig g.row.B q c.self.inside.previous x) c.self.view_is c.self.invariant in
    let same = ap (λ ws. shared_writes ws) c.deref.ensures.value ∙ ap (λ (q : Prepared). q.writes) c.self.view_is in
    let made = c.deref-2.ensures.value ∙ c.in_ok-changes.ensures ∙ ap (λ (cs : List Change). with_cids dig cs) c.in_ok-writes.ensures in
    told-keyed c.told_changes.result (λ v. v.items) (keys_changed dig p)
    (told-as c.told_changes.result (λ v. v.items) _ (keys_changed dig p) c.told_changes.ensures
    (changes-told dig g.row.B p c.self.inside.previous x is (shared_writes c.deref.result.now) c.deref-2.result.now c.deref-3.result.now same made
    c.deref-3.ensures.value))
    (changes-keyed dig g.row.B p c.self.inside.previous x is g.met.D.Digest.digest_len)

pub returns-clause-passed : goal.returns-clause-passed
returns-clause-passed g c =
    let p = c.args.self.now in
    let x = c.self.inside.exchange in
    let is = subst (λ (q : Prepared). IsPreparedBatch g.D.Digest.digest_of g.row.B q c.self.inside.previous x) c.self.view_is c.self.invariant in
    is-passed g.D.Digest.digest_of g.row.B p c.self.inside.previous x is
