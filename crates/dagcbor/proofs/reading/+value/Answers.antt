use Rattle.std.proofs.Common.{◌≡◌, ℕ, ◌+◌, ◌-◌, ◌++◌, [], ◌∷◌, Some, List, Result, Ok, Err, sym, ap, ◌∙◌, arith, rules}
use Rattle.std.specs.Prelude.{option_map}
use Rattle.std.proofs.lemmas.Result.{err_from_is_err_and}
use Rattle.spec.specs.Reading.{◌>>=◌}
use Rattle.spec.specs.Head.{CborFault, Major, Map, major_of, head_at}
use Rattle.spec.specs.DagCbor.{Value, items_at, fields_at, content_of, value_at}
use Rattle.dagcbor.specs.Levels.{within}
use Rattle.dagcbor.specs.Fault.{cbor_fault_of}
use Rattle.dagcbor.proofs.Readings.{value_at-is, Fails-then, Fails-same, Gives-at_err, Gives-same, behind_values, items_more, items_end, items_fail, behind_fields, fields_more, fields_end, fields_no_key, fields_fail}
use Rattle.dagcbor.proofs.reading.+value.Goals as goal

abbrev Head : Type 0
Head = Result ((ℕ × ℕ) × List ℕ) CborFault

abbrev Reading : Type 0
Reading = Result (Value × List ℕ) CborFault

pub value-returns-in_err-major : goal.value-returns-in_err-major
value-returns-in_err-major g t c =
    let p = err_from_is_err_and c.from_residual.result c.from_residual.ensures.1 in
    let e = c.in_err-major.field-0.0 in
    Gives-at_err _ cbor_fault_of e c.from_residual.result _ (p.1 ∙ ap Err p.2)
    (Fails-same (cbor_fault_of e) _ _ (value_at-is c.args.levels c.args.bytes.now) (Fails-then (cbor_fault_of e) (head_at c.args.bytes.now) _ (c.in_err-major.ensures.read)))

pub value-returns : goal.value-returns
value-returns g t c =
    let here : head_at c.args.bytes.now ≡ Ok ((c.in_ok-major.major, c.in_ok-major.n), c.in_ok-major.rest.now) = c.in_ok-major.ensures.read in
    let go : Head → Reading = λ r. r >>= λ h. content_of (within c.args.levels) (major_of h.0.0) h.0.1 h.1 in
    let kind : Major → Reading = λ m. content_of (within c.args.levels) m c.in_ok-major.n c.in_ok-major.rest.now in
    Gives-same _ cbor_fault_of c.content.result _ _ (value_at-is c.args.levels c.args.bytes.now ∙ ap go here ∙ ap kind (sym c.major_of.ensures)) c.content.ensures

pub item-returns-in_err-major : goal.item-returns-in_err-major
item-returns-in_err-major g t c =
    let p = err_from_is_err_and c.from_residual.result c.from_residual.ensures.1 in
    let e = c.in_err-major.field-0.0 in
    Gives-at_err _ cbor_fault_of e c.from_residual.result _ (p.1 ∙ ap Err p.2)
    (Fails-same (cbor_fault_of e) _ _ (value_at-is c.args.levels c.args.bytes.now) (Fails-then (cbor_fault_of e) (head_at c.args.bytes.now) _ (c.in_err-major.ensures.read)))

pub item-returns-then-n-eq1 : goal.item-returns-then-n-eq1
item-returns-then-n-eq1 g t c =
    let here : head_at c.args.bytes.now ≡ Ok ((c.in_ok-major.major, c.in_ok-major.n), c.in_ok-major.rest.now) = c.in_ok-major.ensures.read in
    let is_map : c.in_ok-major.major ≡ 5 = omega arith in
    let is_one : c.in_ok-major.n ≡ 1 = omega arith in
    let go : Head → Reading = λ r. r >>= λ h. content_of (within c.args.levels) (major_of h.0.0) h.0.1 h.1 in
    let kind : ℕ → Reading = λ m. content_of (within c.args.levels) (major_of m) c.in_ok-major.n c.in_ok-major.rest.now in
    let count : ℕ → Reading = λ n. content_of (within c.args.levels) Map n c.in_ok-major.rest.now in
    Gives-same _ cbor_fault_of c.map_of_one.result _ _ (value_at-is c.args.levels c.args.bytes.now ∙ ap go here ∙ ap kind is_map ∙ ap count is_one) c.map_of_one.ensures

pub item-returns-else-major : goal.item-returns-else-major
item-returns-else-major g t c =
    let here : head_at c.args.bytes.now ≡ Ok ((c.in_ok-major.major, c.in_ok-major.n), c.in_ok-major.rest.now) = c.in_ok-major.ensures.read in
    let go : Head → Reading = λ r. r >>= λ h. content_of (within c.args.levels) (major_of h.0.0) h.0.1 h.1 in
    let kind : Major → Reading = λ m. content_of (within c.args.levels) m c.in_ok-major.n c.in_ok-major.rest.now in
    Gives-same _ cbor_fault_of c.content.result _ _ (value_at-is c.args.levels c.args.bytes.now ∙ ap go here ∙ ap kind (sym c.major_of.ensures)) c.content.ensures

pub items-returns-in_err-item : goal.items-returns-in_err-item
items-returns-in_err-item g t c =
    let p = err_from_is_err_and c.from_residual.result c.from_residual.ensures.1 in
    let e = c.in_err-item.field-0.0 in
    let l = c.loop-turn in
    Gives-at_err _ cbor_fault_of e c.from_residual.result _ (p.1 ∙ ap Err p.2)
    (Fails-same (cbor_fault_of e) _ _ l.invariant (items_fail (cbor_fault_of e) (value_at c.args.levels) c.args.n l._turn l.rest.now l.items.items (omega arith) (c.in_err-item.ensures)))

pub items-loop-turn-preserved : goal.items-loop-turn-preserved
items-loop-turn-preserved g t c =
    let p = value_at c.args.levels in
    let l = c.loop-turn in
    let pushed : c.push.new.self.items ≡ l.items.items ++ c.in_ok-item.item ∷ [] = search rules in
    l.invariant ∙ items_more p c.args.n l._turn l.rest.now c.in_ok-item.after.now l.items.items c.in_ok-item.item (omega arith) c.in_ok-item.ensures
    ∙ ap (λ vs. behind_values vs (items_at p (c.args.n - (l._turn + 1)) c.in_ok-item.after.now)) (sym pushed)

pub items-returns : goal.items-returns
items-returns g t c =
    let p = value_at c.args.levels in
    let l = c.loop-turn in
    let all : l._turn ≡ c.args.n = omega arith in
    l.invariant ∙ ap (λ (k : ℕ). behind_values l.items.items (items_at p (c.args.n - k) l.rest.now)) all ∙ items_end p c.args.n l.rest.now l.items.items

pub fields-returns-in_err-key : goal.fields-returns-in_err-key
fields-returns-in_err-key g t c =
    let p = err_from_is_err_and c.from_residual.result c.from_residual.ensures.1 in
    let e = c.in_err-key.field-0.0 in
    let l = c.loop-turn in
    let before = option_map (λ s. s.now) l.before in
    Gives-at_err _ cbor_fault_of e c.from_residual.result _ (p.1 ∙ ap Err p.2)
    (Fails-same (cbor_fault_of e) _ _ l.invariant (fields_no_key (cbor_fault_of e) (value_at c.args.levels) before c.args.n l._turn l.rest.now l.fields.items (omega arith) c.in_err-key.ensures.read))

pub fields-returns-in_err-value : goal.fields-returns-in_err-value
fields-returns-in_err-value g t c =
    let p = err_from_is_err_and c.from_residual-in_err-value.result c.from_residual-in_err-value.ensures.1 in
    let e = c.in_err-value.field-0.0 in
    let l = c.loop-turn in
    let before = option_map (λ s. s.now) l.before in
    Gives-at_err _ cbor_fault_of e c.from_residual-in_err-value.result _ (p.1 ∙ ap Err p.2)
    (Fails-same (cbor_fault_of e) _ _ l.invariant
    (fields_fail (cbor_fault_of e) (value_at c.args.levels) before c.args.n l._turn l.rest.now c.in_ok-key.after.now c.in_ok-key.key.now l.fields.items (omega arith) c.in_ok-key.ensures.read (c.in_err-value.ensures)))

pub fields-loop-turn-preserved : goal.fields-loop-turn-preserved
fields-loop-turn-preserved g t c =
    let p = value_at c.args.levels in
    let l = c.loop-turn in
    let m = c.in_ok-key.key in
    let v = c.in_ok-value.value in
    let pushed : c.push.new.self.items ≡ l.fields.items ++ (m, v) ∷ [] = search rules in
    l.invariant
    ∙ fields_more p (option_map (λ s. s.now) l.before) c.args.n l._turn l.rest.now c.in_ok-key.after.now c.in_ok-value.after.now l.fields.items (m, v) (omega arith) c.in_ok-key.ensures.read c.in_ok-value.ensures
    ∙ ap (λ ms. behind_fields ms (fields_at p (Some m.now) (c.args.n - (l._turn + 1)) c.in_ok-value.after.now)) (sym pushed)

pub fields-returns : goal.fields-returns
fields-returns g t c =
    let p = value_at c.args.levels in
    let l = c.loop-turn in
    let all : l._turn ≡ c.args.n = omega arith in
    let before = option_map (λ s. s.now) l.before in
    l.invariant ∙ ap (λ (k : ℕ). behind_fields l.fields.items (fields_at p before (c.args.n - k) l.rest.now)) all ∙ fields_end p before c.args.n l.rest.now l.fields.items
