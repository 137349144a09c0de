use Rattle.std.proofs.Common.{◌≡◌, ℕ, ◌-◌, List, Result, Ok, Err, sym, ap, ◌∙◌, arith}
use Rattle.std.specs.Prelude.{option_map}
use Rattle.std.proofs.lemmas.Result.{err_from_is_err_and}
use Rattle.spec.specs.Reading.{◌>>=◌}
use Rattle.spec.specs.Head.{CborFault, Major, major_of, head_at}
use Rattle.spec.specs.DagCbor.{items_at, fields_at, content_of, value_at}
use Rattle.dagcbor.specs.Levels.{within}
use Rattle.dagcbor.specs.Passed.{after}
use Rattle.dagcbor.specs.Fault.{cbor_fault_of}
use Rattle.dagcbor.proofs.Readings.{Fails-then, Fails-same, Gives-at_err, Gives-same}
use Rattle.dagcbor.proofs.Passed.{value-is, items_more, items_end, items_fail, fields_more, fields_end, fields_no_key, fields_fail}
use Rattle.dagcbor.proofs.passing.+passing.Goals as goal

pub after_items-returns-in_err-rest-clause-read : goal.after_items-returns-in_err-rest-clause-read
after_items-returns-in_err-rest-clause-read t c =
    let p = err_from_is_err_and c.from_residual.result c.from_residual.ensures.1 in
    let o = cbor_fault_of c.in_err-rest.field-0.0 in
    let l = c.loop-turn in
    Gives-at_err _ cbor_fault_of c.in_err-rest.field-0.0 c.from_residual.result _ (p.1 ∙ ap Err p.2)
    (Fails-same o _ _ l.invariant (items_fail o (value_at c.args.levels) c.args.n l._turn l.rest.now (omega arith) c.in_err-rest.ensures.read))

pub after_items-loop-turn-preserved : goal.after_items-loop-turn-preserved
after_items-loop-turn-preserved t c =
    let l = c.loop-turn in
    l.invariant ∙ items_more (value_at c.args.levels) c.args.n l._turn l.rest.now c.in_ok-rest.rest.now (omega arith) c.in_ok-rest.ensures.read

pub after_items-returns-clause-read : goal.after_items-returns-clause-read
after_items-returns-clause-read t c =
    let p = value_at c.args.levels in
    let l = c.loop-turn in
    let all : l._turn ≡ c.args.n = omega arith in
    l.invariant ∙ ap (λ (k : ℕ). after (items_at p (c.args.n - k) l.rest.now)) all ∙ items_end p c.args.n l.rest.now

pub after_fields-returns-in_err-key-clause-read : goal.after_fields-returns-in_err-key-clause-read
after_fields-returns-in_err-key-clause-read t c =
    let p = err_from_is_err_and c.from_residual.result c.from_residual.ensures.1 in
    let o = cbor_fault_of c.in_err-key.field-0.0 in
    let l = c.loop-turn in
    Gives-at_err _ cbor_fault_of c.in_err-key.field-0.0 c.from_residual.result _ (p.1 ∙ ap Err p.2)
    (Fails-same o _ _ l.invariant
    (fields_no_key o (value_at c.args.levels) (option_map (λ s. s.now) l.before) c.args.n l._turn l.rest.now (omega arith) c.in_err-key.ensures.read))

pub after_fields-returns-in_err-rest-clause-read : goal.after_fields-returns-in_err-rest-clause-read
after_fields-returns-in_err-rest-clause-read t c =
    let p = err_from_is_err_and c.from_residual-in_err-rest.result c.from_residual-in_err-rest.ensures.1 in
    let o = cbor_fault_of c.in_err-rest.field-0.0 in
    let l = c.loop-turn in
    Gives-at_err _ cbor_fault_of c.in_err-rest.field-0.0 c.from_residual-in_err-rest.result _ (p.1 ∙ ap Err p.2)
    (Fails-same o _ _ l.invariant
    (fields_fail o (value_at c.args.levels) (option_map (λ s. s.now) l.before) c.args.n l._turn l.rest.now c.in_ok-key.key.now c.in_ok-key.behind.now
    (omega arith) c.in_ok-key.ensures.read c.in_err-rest.ensures.read))

pub after_fields-loop-turn-preserved : goal.after_fields-loop-turn-preserved
after_fields-loop-turn-preserved t c =
    let l = c.loop-turn in
    l.invariant
    ∙ fields_more (value_at c.args.levels) (option_map (λ s. s.now) l.before) c.args.n l._turn l.rest.now c.in_ok-key.key.now c.in_ok-key.behind.now c.in_ok-rest.rest.now
    (omega arith) c.in_ok-key.ensures.read c.in_ok-rest.ensures.read

pub after_fields-returns-clause-read : goal.after_fields-returns-clause-read
after_fields-returns-clause-read t c =
    let p = value_at c.args.levels in
    let l = c.loop-turn in
    let all : l._turn ≡ c.args.n = omega arith in
    let before = option_map (λ s. s.now) l.before in
    l.invariant ∙ ap (λ (k : ℕ). after (fields_at p before (c.args.n - k) l.rest.now)) all ∙ fields_end p before c.args.n l.rest.now

pub after_value-returns-in_err-major-clause-read : goal.after_value-returns-in_err-major-clause-read
after_value-returns-in_err-major-clause-read t c =
    let p = err_from_is_err_and c.from_residual.result c.from_residual.ensures.1 in
    let o = cbor_fault_of c.in_err-major.field-0.0 in
    Gives-at_err _ cbor_fault_of c.in_err-major.field-0.0 c.from_residual.result _ (p.1 ∙ ap Err p.2)
    (Fails-same o _ _ (value-is c.args.levels c.args.bytes.now) (Fails-then o (head_at c.args.bytes.now) _ c.in_err-major.ensures.read))

pub after_value-returns-clause-read : goal.after_value-returns-clause-read
after_value-returns-clause-read t c =
    let here : head_at c.args.bytes.now ≡ Ok ((c.in_ok-major.major, c.in_ok-major.n), c.in_ok-major.rest.now) = c.in_ok-major.ensures.read in
    let go : Result ((ℕ × ℕ) × List ℕ) CborFault → Result (List ℕ) CborFault =
    λ r. r >>= λ h. after (content_of (within c.args.levels) (major_of h.0.0) h.0.1 h.1) in
    let kind : Major → Result (List ℕ) CborFault = λ m. after (content_of (within c.args.levels) m c.in_ok-major.n c.in_ok-major.rest.now) in
    Gives-same _ cbor_fault_of c.after_content.result _ _ (value-is c.args.levels c.args.bytes.now ∙ ap go here ∙ ap kind (sym c.major_of.ensures)) c.after_content.ensures.read
