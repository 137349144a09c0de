use Rattle.std.proofs.Common.{◌≡◌, ◌∙◌, ◌+◌, ◌-◌, ◌<◌, ◌≤◌, ℕ, Ok, Err, length, sym, ap, ap₂, subst, arith}
use Rattle.std.proofs.lemmas.Result.{err_from_is_err_and}
use Rattle.spec.specs.Reading.{Gives}
use Rattle.dagcbor.specs.Fault.{cbor_fault_of}
use Rattle.event_frames.specs.Frames.{behind, frame_length}
use Rattle.event_frames.proofs.Cutting.{at_end, at_fault, cut_off, passed_on}
use Rattle.event_frames.proofs.frame.frame_length.Goals as goal

pub loop-turn-init : goal.loop-turn-init
loop-turn-init c =
    let bytes = c.args.bytes.now in
    let all : length bytes ≡ length bytes - 0 = omega arith in
    let none : 0 + length bytes ≡ length bytes = omega arith in
    (ap₂ (λ h b. behind h 2 b) all (sym c.new-cursor.ensures.left), ap₂ (λ p b. p + length b) c.new-cursor.ensures.place c.new-cursor.ensures.left ∙ none)

pub returns-then-items-eq0-clause-length : goal.returns-then-items-eq0-clause-length
returns-then-items-eq0-clause-length c =
    let l = c.loop-turn in
    at_end c.args.bytes.now l.cursor.left _ l.items c.place.result l.invariant.0 (omega arith) (ap (λ p. p + length l.cursor.left) c.place.ensures ∙ l.invariant.1)

pub returns-then-items-eq0-clause-within : goal.returns-then-items-eq0-clause-within
returns-then-items-eq0-clause-within c =
    let l = c.loop-turn in
    let whole = l.invariant.1 in
    let is = c.place.ensures in
    omega (arith, whole, is)

pub returns-in_err-items-clause-length : goal.returns-in_err-items-clause-length
returns-in_err-items-clause-length c =
    let p = err_from_is_err_and c.from_residual.result c.from_residual.ensures.1 in
    let l = c.loop-turn in
    let f = c.in_err-items.field-0.0 in
    subst (λ r. Gives (λ (n : ℕ). n) cbor_fault_of r (frame_length c.args.bytes.now)) (sym (p.1 ∙ ap Err p.2))
    (at_fault c.args.bytes.now l.cursor.left l._turn l.items (cbor_fault_of f) l.invariant.0 (omega arith) (omega arith) c.in_err-items.ensures.read)

pub loop-turn-preserved : goal.loop-turn-preserved
loop-turn-preserved c =
    let l = c.loop-turn in (
      l.invariant.0 ∙ passed_on c.args.bytes.now l._turn l.items l.cursor.left (omega arith) (omega arith) (c.in_ok-items.items, c.pass_head.new.cursor.left) c.in_ok-items.ensures.read,
      c.in_ok-items.ensures.place ∙ l.invariant.1,
    )

pub returns-then-items-gt0-clause-length : goal.returns-then-items-gt0-clause-length
returns-then-items-gt0-clause-length c =
    let l = c.loop-turn in
    cut_off c.args.bytes.now l.cursor.left _ l.items l.invariant.0 (omega arith) (omega arith)

pub returns-clause-length : goal.returns-clause-length
returns-clause-length c =
    let l = c.loop-turn in
    at_end c.args.bytes.now l.cursor.left _ l.items c.place-2.result l.invariant.0 (omega arith) (ap (λ p. p + length l.cursor.left) c.place-2.ensures ∙ l.invariant.1)

pub returns-clause-within : goal.returns-clause-within
returns-clause-within c =
    let l = c.loop-turn in
    let whole = l.invariant.1 in
    let is = c.place-2.ensures in
    omega (arith, whole, is)
