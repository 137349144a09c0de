use Rattle.std.proofs.Common.{◌≡◌, ◌≢◌, ◌+◌, map, length, rules}
use Rattle.std.proofs.lemmas.Result.{IfOk-weaker, IfErr-weaker, err_from_is_err_and}
use Rattle.std.specs.Arc.{arc_value}
use Rattle.spec.specs.Layer.{layer}
use Rattle.lookups.specs.Steps.{nodes_given}
use Rattle.difference_laws.specs.Lines.{compared}
use Rattle.difference.specs.Differences.{AreTold, IsDifferenceOf, IsReason, IsTold, IsUnended, IsWant, asked_for}
use Rattle.difference.specs.Merged.{changes_told}
use Rattle.difference.specs.Sides.{rows_of}
use Rattle.difference.specs.Starts.{asked_by, side_in}
use Rattle.difference.proofs.Compares.{asked-in-all, equal-told, stopped-reason, stopped-trees, told-is, told-of-trees, unended-reason, unended-trees}
use Rattle.difference.proofs.Levels.{begun-asked}
use Rattle.difference.proofs.comparing.difference.Goals as goal

pub returns-then-eq-clause-compared : goal.returns-then-eq-clause-compared
returns-then-eq-clause-compared g c =
    let same : c.args.old ≡ c.args.new = search rules in
    λ es fs h k.
    equal-told {D = g.row.D.Denot} g.D.Digest.digest_of g.row.B g.met.D.Digest.digest_len (g.S.Source.gives c.args.src.now) c.args.old c.args.new
    (record { changes = c.new.result; come = c.new-then-eq.result; go = c.new-then-eq-2.result }) same c.new.ensures.items
    c.new-then-eq.ensures.items c.new-then-eq-2.ensures.items es fs h k

pub returns-then-eq-clause-opened : goal.returns-then-eq-clause-opened
returns-then-eq-clause-opened g c = λ n. (let same : c.args.old ≡ c.args.new = search rules in absurd (n same))

pub returns-then-eq-clause-equal : goal.returns-then-eq-clause-equal
returns-then-eq-clause-equal g c = λ e. (c.new.ensures.items, c.new-then-eq.ensures.items, c.new-then-eq-2.ensures.items)

pub returns-then-eq-clause-reads : goal.returns-then-eq-clause-reads
returns-then-eq-clause-reads g c = λ n. (let same : c.args.old ≡ c.args.new = search rules in absurd (n same))

pub returns-in_err-old_side-clause-lack : goal.returns-in_err-old_side-clause-lack
returns-in_err-old_side-clause-lack g c =
    let p = err_from_is_err_and c.from_residual-in_err-old_side.result c.from_residual-in_err-old_side.ensures.1 in
    let gives = g.S.Source.gives c.args.src.now in
    rw (p.1, p.2)
    (stopped-reason gives (compared (nodes_given gives) (layer g.D.Digest.digest_of g.row.B) c.args.old c.args.new)
    c.in_err-old_side.field-0.0 c.in_err-old_side.ensures.stopped)

pub returns-in_err-old_side-clause-no_fault : goal.returns-in_err-old_side-clause-no_fault
returns-in_err-old_side-clause-no_fault g c = λ es fs h k.
    let p = err_from_is_err_and c.from_residual-in_err-old_side.result c.from_residual-in_err-old_side.ensures.1 in
    rw (p.1, p.2)
    (stopped-trees g.D.Digest.digest_of g.row.B g.met.D.Digest.digest_len (g.S.Source.gives c.args.src.now) c.args.old
    c.args.new es fs h k c.in_err-old_side.field-0.0 c.in_err-old_side.ensures.stopped)

pub returns-in_err-old_side-clause-equal : goal.returns-in_err-old_side-clause-equal
returns-in_err-old_side-clause-equal g c = λ e. (let other : c.args.old ≢ c.args.new = search rules in absurd (other e))

pub returns-in_err-old_side-clause-unread : goal.returns-in_err-old_side-clause-unread
returns-in_err-old_side-clause-unread g c = λ e. (let other : c.args.old ≢ c.args.new = search rules in absurd (other e))

pub returns-clause-equal : goal.returns-clause-equal
returns-clause-equal g c = λ e.
    let is = c.eq.ensures in
    let no = c.if-eq.false in
    let other : c.args.old ≢ c.args.new = search rules in
    absurd (other e)

pub returns-clause-unread : goal.returns-clause-unread
returns-clause-unread g c = λ e.
    let is = c.eq.ensures in
    let no = c.if-eq.false in
    let other : c.args.old ≢ c.args.new = search rules in
    absurd (other e)

pub returns-clause-compared : goal.returns-clause-compared
returns-clause-compared g c = λ es fs h k.
    let digest = g.D.Digest.digest_of in
    let a = side_in c.in_ok-old_side.old_side in
    let b = side_in c.in_ok-old_side.new_side in
    IfOk-weaker c.tell.result (λ d. AreTold digest a b (changes_told d.changes.items) (map arc_value d.come.items) d.go.items)
    (λ d. IsDifferenceOf digest g.row.B es fs (changes_told d.changes.items) (map arc_value d.come.items) d.go.items)
    (λ d t. told-of-trees digest g.row.B g.met.D.Digest.digest_len (g.S.Source.gives c.args.src.now) c.args.old c.args.new d a b
    c.in_ok-old_side.ensures.opened t es fs h k) c.tell.ensures.told

pub returns-clause-opened : goal.returns-clause-opened
returns-clause-opened g c = λ n.
    let digest = g.D.Digest.digest_of in
    let gives = g.S.Source.gives c.args.src.now in
    let a = side_in c.in_ok-old_side.old_side in
    let b = side_in c.in_ok-old_side.new_side in
    IfOk-weaker c.tell.result (λ d. AreTold digest a b (changes_told d.changes.items) (map arc_value d.come.items) d.go.items)
    (λ d. IsTold digest (compared (nodes_given gives) (layer digest g.row.B) c.args.old c.args.new) d)
    (λ d t. told-is digest g.row.B g.met.D.Digest.digest_len gives c.args.old c.args.new d a b c.in_ok-old_side.ensures.opened t)
    c.tell.ensures.told

pub returns-clause-lack : goal.returns-clause-lack
returns-clause-lack g c =
    let gives = g.S.Source.gives c.args.src.now in
    let step = compared (nodes_given gives) (layer g.D.Digest.digest_of g.row.B) c.args.old c.args.new in
    let a = side_in c.in_ok-old_side.old_side in
    let b = side_in c.in_ok-old_side.new_side in
    IfErr-weaker c.tell.result (IsUnended a b) (IsReason gives step)
    (λ f u. unended-reason gives step a b f c.in_ok-old_side.ensures.opened u) c.tell.ensures.fault

pub returns-clause-no_fault : goal.returns-clause-no_fault
returns-clause-no_fault g c = λ es fs h k.
    let a = side_in c.in_ok-old_side.old_side in
    let b = side_in c.in_ok-old_side.new_side in
    IfErr-weaker c.tell.result (IsUnended a b) IsWant
    (λ f u. unended-trees g.D.Digest.digest_of g.row.B g.met.D.Digest.digest_len (g.S.Source.gives c.args.src.now) c.args.old
    c.args.new es fs h k a b f c.in_ok-old_side.ensures.opened u) c.tell.ensures.fault

pub returns-clause-reads : goal.returns-clause-reads
returns-clause-reads g c = λ n.
    let gives = g.S.Source.gives c.args.src.now in
    let before = g.S.Source.reads c.args.src.now in
    let after = g.S.Source.reads c.open_both.new.src in
    let o = c.in_ok-old_side.old_side in
    let p = c.in_ok-old_side.new_side in
    let x = begun-asked gives (rows_of o.line.rows.items) o.line.last o.top o.read.items c.in_ok-old_side.ensures.old_begun in
    let y = begun-asked gives (rows_of p.line.rows.items) p.line.last p.top p.read.items c.in_ok-old_side.ensures.new_begun in
    IfOk-weaker c.tell.result
    (λ d. (length d.come.items ≡ length p.read.items) × (length d.go.items ≡ length o.read.items))
    (λ d. after ≡ before + asked_for d)
    (λ d l. asked-in-all after before (asked_by o) (asked_by p) (length o.read.items) (length p.read.items)
    (length d.come.items) (length d.go.items) c.in_ok-old_side.ensures.counted x y l.0 l.1) c.tell.ensures.lengths
