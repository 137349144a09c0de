use Rattle.std.proofs.Common.{◌≡◌, ◌-◌, ℕ, ap, subst, sym, arith, ◌∙◌, drop, map, take}
use Rattle.std.specs.Arc.{arc_value}
use Rattle.batch_laws.specs.Collecting.{collected}
use Rattle.batch_laws.specs.Uses.{records_come}
use Rattle.repo.specs.Prepared.{Prepared, IsPreparedBatch}
use Rattle.repo.proofs.Telling.{is-passed, nodes-before_last, records-between}
use Rattle.repo.proofs.prepared.PreparedBatch.records.Goals as goal

pub slice_bounds-result-count : goal.slice_bounds-result-count
slice_bounds-result-count g c =
    let p = c.args.self.now in
    let x = c.self.inside.exchange in
    let is = subst (λ (q : Prepared). IsPreparedBatch g.D.Digest.digest_of g.row.B q c.self.inside.previous x) c.self.view_is c.self.invariant in
    let before = nodes-before_last g.D.Digest.digest_of g.row.B p c.self.inside.previous x is in
    omega (arith, before, c.len.ensures, x.come.ok.0)

pub slice_bounds-result-start : goal.slice_bounds-result-start
slice_bounds-result-start g c =
    let p = c.args.self.now in
    let x = c.self.inside.exchange in
    let is = subst (λ (q : Prepared). IsPreparedBatch g.D.Digest.digest_of g.row.B q c.self.inside.previous x) c.self.view_is c.self.invariant in
    let before = nodes-before_last g.D.Digest.digest_of g.row.B p c.self.inside.previous x is in
    omega (arith, before, c.len.ensures, x.come.ok.0)

pub returns-clause-value : goal.returns-clause-value
returns-clause-value g c =
    let p = c.args.self.now in
    let x = c.self.inside.exchange in
    let is = subst (λ (q : Prepared). IsPreparedBatch g.D.Digest.digest_of g.row.B q c.self.inside.previous x) c.self.view_is c.self.invariant in
    let many = c.len.result - 1 - x.nodes in
    subst (λ xs. map arc_value (take many (drop x.nodes xs)) ≡ records_come (collected p.writes)) (sym c.deref.ensures.value)
    (records-between g.D.Digest.digest_of g.row.B p c.self.inside.previous x is many
    (ap (λ (n : ℕ). n - 1 - x.nodes) (c.len.ensures ∙ x.come.ok.0)))

pub returns-clause-passed : goal.returns-clause-passed
returns-clause-passed g c =
    let p = c.args.self.now in
    let x = c.self.inside.exchange in
    let is = subst (λ (q : Prepared). IsPreparedBatch g.D.Digest.digest_of g.row.B q c.self.inside.previous x) c.self.view_is c.self.invariant in
    is-passed g.D.Digest.digest_of g.row.B p c.self.inside.previous x is
