use Rattle.std.proofs.Common.{◌≡◌, ℕ, Result, IsOk, arith, sym, ap, subst, ◌∙◌}
use Rattle.spec.specs.NodeFormat.{NodeFault}
use Rattle.node.specs.Rows.{row_at}
use Rattle.node.specs.Runs.{after_keys}
use Rattle.node.specs.Views.{row_of}
use Rattle.node.proofs.ReadAgain.{read-ok}
use Rattle.node.proofs.Passing.{after_keys-none, after_keys-first, after_keys-next}
use Rattle.node.proofs.skip.pass.Goals as goal

still : {A : Type 0} (r s : Result A NodeFault) → r ≡ s → IsOk s → IsOk r
still {A} r s e ok = subst (λ (x : Result A NodeFault). IsOk x) (sym e) ok

pub tested_entry-requires : goal.tested_entry-requires
tested_entry-requires g c =
    let l = c.loop-left in
    let f = after_keys-first l.left l.key l.rest.now (omega arith) (still _ _ l.invariant c.requires) in
    read-ok (row_at l.rest.now) f.0 f.1

pub step-requires-clause-within : goal.step-requires-clause-within
step-requires-clause-within g c =
    let l = c.loop-left in
    (after_keys-next l.left l.key l.rest.now (row_of c.tested_entry.result.0, c.tested_entry.result.1.now) (omega arith) (still _ _ l.invariant c.requires) c.tested_entry.ensures).within

pub step-requires-clause-room : goal.step-requires-clause-room
step-requires-clause-room g c =
    let l = c.loop-left in
    (after_keys-next l.left l.key l.rest.now (row_of c.tested_entry.result.0, c.tested_entry.result.1.now) (omega arith) (still _ _ l.invariant c.requires) c.tested_entry.ensures).room

pub loop-left-preserved : goal.loop-left-preserved
loop-left-preserved g c =
    let l = c.loop-left in
    let next = after_keys-next l.left l.key l.rest.now (row_of c.tested_entry.result.0, c.tested_entry.result.1.now) (omega arith) (still _ _ l.invariant c.requires) c.tested_entry.ensures in
    sym (next.goes c.step.new.self c.step.ensures) ∙ l.invariant

pub returns : goal.returns
returns g c =
    let l = c.loop-left in
    let done : l.left ≡ 0 = omega arith in
    sym l.invariant ∙ ap (λ (n : ℕ). after_keys n l.key l.rest.now) done ∙ after_keys-none l.key l.rest.now
