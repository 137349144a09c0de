use Rattle.std.proofs.Common.{◌≡◌, ℕ, [], arith, sym, ap, ◌∙◌}
use Rattle.std.proofs.lemmas.Result.{err_from_is_err_and}
use Rattle.spec.specs.NodeFormat.{whole_key}
use Rattle.node.specs.Rows.{row_at, after_entries}
use Rattle.node.specs.Views.{row_of}
use Rattle.node.proofs.Faults.{failing}
use Rattle.node.proofs.RowLaws.{after_entries-none, after_entries-row_fault, after_entries-key_fault, after_entries-entry}
use Rattle.node.proofs.parts.after_entries_within.Goals as goal

pub returns-in_err-entry-clause-fault : goal.returns-in_err-entry-clause-fault
returns-in_err-entry-clause-fault g c =
    let p = err_from_is_err_and c.from_residual.result c.from_residual.ensures.1 in
    let l = c.loop-left in
    rw (p.1, p.2) (failing c.in_err-entry.field-0.0 (row_at l.rest.now) (after_entries c.args.count [] c.args.bytes.now) c.in_err-entry.ensures (λ f e. sym l.invariant ∙ after_entries-row_fault l.left l.before l.rest.now f (omega arith) e))

pub returns-in_err-next-clause-fault : goal.returns-in_err-next-clause-fault
returns-in_err-next-clause-fault g c =
    let p = err_from_is_err_and c.from_residual-in_err-next.result c.from_residual-in_err-next.ensures.1 in
    let l = c.loop-left in
    let e = c.in_ok-entry.entry in
    rw (p.1, p.2) (failing c.in_err-next.field-0.0 (whole_key l.before e.prefix e.suffix.now) (after_entries c.args.count [] c.args.bytes.now) c.in_err-next.ensures.fault (λ f q. sym l.invariant ∙ after_entries-key_fault l.left l.before l.rest.now (row_of e, c.in_ok-entry.after.now) f (omega arith) c.in_ok-entry.ensures q))

pub loop-left-preserved : goal.loop-left-preserved
loop-left-preserved g c =
    let l = c.loop-left in
    let e = c.in_ok-entry.entry in
    sym (after_entries-entry l.left l.before l.rest.now (row_of e, c.in_ok-entry.after.now) c.next.new.self (omega arith) c.in_ok-entry.ensures (c.in_ok-next.ensures.taken c.if-not-branch.false)) ∙ l.invariant

pub returns-clause-read : goal.returns-clause-read
returns-clause-read g c =
    let l = c.loop-left in
    let done : l.left ≡ 0 = omega arith in
    sym l.invariant ∙ ap (λ (n : ℕ). after_entries n l.before l.rest.now) done ∙ after_entries-none l.before l.rest.now
