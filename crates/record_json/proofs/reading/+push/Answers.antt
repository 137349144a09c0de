use Rattle.std.proofs.Common.{◌≡◌, ℕ, ◌-◌, ◌++◌, append_assoc, length, Ok, Err, refl, sym, ap, ◌∙◌, arith}
use Rattle.std.proofs.lemmas.Result.{err_from_is_err_and}
use Rattle.spec.specs.Head.{head}
use Rattle.spec.specs.DagCbor.{Null, Boolean, Text, string, spelling, spelling_of_values}
use Rattle.json.specs.Value.{value_view, items_view}
use Rattle.json.proofs.Trees.{view-Array, view-Object}
use Rattle.record_json.specs.Kinds.{kind_of}
use Rattle.record_json.specs.Reading.{at_key, at_place, below, value_at, values_from, integer_of}
use Rattle.record_json.proofs.Pushes.{FailsAt-below, PutsAt-same, PutsAt-here, PutsAt-refused, view-Null, view-Bool, view-Number, view-String, count_items-view, FailsAt-deep_list, PutsAt-list, items-more, items-fail, items-end, entries-more, entries-fail, entries-end, FailsAt-doubled, PutsAt-special, FailsAt-deep_map, PutsAt-map}
use Rattle.record_json.proofs.reading.+push.Goals as goal

-- ---- a value

pub push_value-returns-in_err-push_null-in-Null : goal.push_value-returns-in_err-push_null-in-Null
push_value-returns-in_err-push_null-in-Null g t c =
    let p = err_from_is_err_and c.from_residual.result c.from_residual.ensures.1 in
    PutsAt-refused spelling c.from_residual.result _ _ _ _ _ (p.1 ∙ ap Err p.2)

pub push_value-returns-in_err-push_boolean-in-Bool : goal.push_value-returns-in_err-push_boolean-in-Bool
push_value-returns-in_err-push_boolean-in-Bool g t c =
    let p = err_from_is_err_and c.from_residual-in_err-push_boolean-in-Bool.result c.from_residual-in_err-push_boolean-in-Bool.ensures.1 in
    PutsAt-refused spelling c.from_residual-in_err-push_boolean-in-Bool.result _ _ _ _ _ (p.1 ∙ ap Err p.2)

pub push_value-returns-in_err-push_text-in-String : goal.push_value-returns-in_err-push_text-in-String
push_value-returns-in_err-push_text-in-String g t c =
    let p = err_from_is_err_and c.from_residual-in_err-push_text-in-String.result c.from_residual-in_err-push_text-in-String.ensures.1 in
    PutsAt-refused spelling c.from_residual-in_err-push_text-in-String.result _ _ _ _ _ (p.1 ∙ ap Err p.2)

pub push_value-returns-in_ok-push_null-in-Null : goal.push_value-returns-in_ok-push_null-in-Null
push_value-returns-in_ok-push_null-in-Null g t c = (Null, ap (value_at c.args.levels) (ap value_view c.in-Null.is ∙ view-Null _), c.in_ok-push_null-in-Null.ensures, refl)

pub push_value-returns-in_ok-push_boolean-in-Bool : goal.push_value-returns-in_ok-push_boolean-in-Bool
push_value-returns-in_ok-push_boolean-in-Bool g t c =
    (Boolean c.in-Bool.b, ap (value_at c.args.levels) (ap value_view c.in-Bool.is ∙ view-Bool _ c.in-Bool.b), c.in_ok-push_boolean-in-Bool.ensures, refl)

pub push_value-returns-in-Number : goal.push_value-returns-in-Number
push_value-returns-in-Number g t c =
    PutsAt-same spelling c.push_number.result _ _ _ _ _ _ (ap (value_at c.args.levels) (ap value_view c.in-Number.is ∙ view-Number _ c.in-Number.text))
    (PutsAt-here c.push_number.result _ _ _ (integer_of c.in-Number.text.now) c.push_number.ensures)

pub push_value-returns-in_ok-push_text-in-String : goal.push_value-returns-in_ok-push_text-in-String
push_value-returns-in_ok-push_text-in-String g t c =
    (Text c.in-String.text.now, ap (value_at c.args.levels) (ap value_view c.in-String.is ∙ view-String _ c.in-String.text), c.in_ok-push_text-in-String.ensures, refl)

pub push_value-returns-in-Array : goal.push_value-returns-in-Array
push_value-returns-in-Array g t c =
    PutsAt-same spelling c.push_list.result _ _ _ _ _ _ (ap (value_at c.args.levels) (ap value_view c.in-Array.is ∙ view-Array c.in-Array.items)) c.push_list.ensures

pub push_value-returns-in-Object : goal.push_value-returns-in-Object
push_value-returns-in-Object g t c =
    PutsAt-same spelling c.push_object.result _ _ _ _ _ _ (ap (value_at c.args.levels) (ap value_view c.in-Object.is ∙ view-Object c.in-Object.members)) c.push_object.ensures

-- ---- lists

pub push_list-returns-then-levels-eq0 : goal.push_list-returns-then-levels-eq0
push_list-returns-then-levels-eq0 g t c = FailsAt-deep_list _ c.args.levels (items_view c.args.items.now.items) (omega arith)

pub push_list-returns-in_err-push_head : goal.push_list-returns-in_err-push_head
push_list-returns-in_err-push_head g t c =
    let p = err_from_is_err_and c.from_residual.result c.from_residual.ensures.1 in
    PutsAt-refused spelling c.from_residual.result _ _ _ _ _ (p.1 ∙ ap Err p.2)

pub push_list-returns : goal.push_list-returns
push_list-returns g t c =
    let v = c.args.items.now in
    let out = c.args.out.now.items in
    let start : c.push_head.new.out.items ≡ out ++ head 4 (length v.items) = c.in_ok-push_head.ensures.ok ∙ ap (λ (n : ℕ). out ++ head 4 n) (c.len.ensures ∙ v.ok.0) in
    PutsAt-list c.push_items.result out c.push_head.new.out.items _ _ _ c.args.levels (length v.items) (items_view v.items) (omega arith) (sym (count_items-view v.items)) start
    (PutsAt-same spelling_of_values c.push_items.result _ _ _ _ _ _ (ap (λ xs. values_from (c.args.levels - 1) 0 (items_view xs)) (sym c.deref.ensures.value)) c.push_items.ensures)

pub push_items-returns-in_err-push_item : goal.push_items-returns-in_err-push_item
push_items-returns-in_err-push_item g t c =
    let p = err_from_is_err_and c.from_residual.result c.from_residual.ensures.1 in
    let l = c.loop-i in
    l.invariant.1 c.from_residual.result _ _
    (items-fail c.args.levels l.i c.args.items.now c.index-items-i.result (omega arith) c.index-items-i.is c.from_residual.result c.in_err-push_item.field-0.0 _ _ _ _ _ l.invariant.0 (p.1 ∙ ap Err p.2) c.in_err-push_item.ensures)

pub push_items-loop-i-preserved : goal.push_items-loop-i-preserved
push_items-loop-i-preserved g t c =
    let l = c.loop-i in (
      c.in_ok-push_item.ensures.3 ∙ l.invariant.0,
      λ r new after p. l.invariant.1 r new after
          (items-more c.args.levels l.i c.args.items.now c.index-items-i.result (omega arith) c.index-items-i.is _ _ _ _ _ c.in_ok-push_item.ensures r new after p),
    )

pub push_items-returns : goal.push_items-returns
push_items-returns g t c =
    let l = c.loop-i in l.invariant.1 (Ok tt) _ _ (items-end c.args.levels l.i c.args.items.now l.out.items _ _ (omega arith) l.invariant.0)

pub push_item-returns-in-Ok : goal.push_item-returns-in-Ok
push_item-returns-in-Ok g t c =
    let p = c.in-Ok.ensures in (p.0, ap (below (at_place c.args.place)) p.1, p.2, p.3)

pub push_item-returns-in_err-put_place-in-Err : goal.push_item-returns-in_err-put_place-in-Err
push_item-returns-in_err-put_place-in-Err g t c =
    let p = err_from_is_err_and c.from_residual.result c.from_residual.ensures.1 in
    PutsAt-refused spelling c.from_residual.result _ _ _ _ _ (p.1 ∙ ap Err p.2)

pub push_item-returns-in_ok-put_place-in-Err : goal.push_item-returns-in_ok-put_place-in-Err
push_item-returns-in_ok-put_place-in-Err g t c =
    FailsAt-below (kind_of c.in-Err.kind) _ _ _ (at_place c.args.place) (value_at c.args.levels (value_view c.args.item.now)) c.in_ok-put_place-in-Err.ensures c.in-Err.ensures

-- ---- maps

pub push_object-returns-in_err-sorted : goal.push_object-returns-in_err-sorted
push_object-returns-in_err-sorted g t c =
    let p = err_from_is_err_and c.from_residual.result c.from_residual.ensures.1 in
    PutsAt-refused spelling c.from_residual.result _ _ _ _ _ (p.1 ∙ ap Err p.2)

pub push_object-returns-in_err-put_key : goal.push_object-returns-in_err-put_key
push_object-returns-in_err-put_key g t c =
    let p = err_from_is_err_and c.from_residual-in_err-put_key.result c.from_residual-in_err-put_key.ensures.1 in
    PutsAt-refused spelling c.from_residual-in_err-put_key.result _ _ _ _ _ (p.1 ∙ ap Err p.2)

pub push_object-returns-in-Some : goal.push_object-returns-in-Some
push_object-returns-in-Some g t c =
    FailsAt-doubled _ _ c.args.levels c.args.members.now.items c.in_ok-sorted.sorted.items c.in-Some.key.now (record { same = c.in_ok-sorted.ensures.same; up = c.in_ok-sorted.ensures.ascending }) c.in-Some.ensures
    c.in_ok-put_key.ensures

pub push_object-returns-then-has_reserved : goal.push_object-returns-then-has_reserved
push_object-returns-then-has_reserved g t c =
    PutsAt-special c.push_special.result _ _ _ c.args.levels c.args.members.now.items c.in_ok-sorted.sorted.items (record { same = c.in_ok-sorted.ensures.same; up = c.in_ok-sorted.ensures.ascending }) c.in_default.ensures
    (sym c.has_reserved.ensures ∙ c.if-has_reserved.true) c.push_special.ensures

pub push_object-returns-then-levels-eq0 : goal.push_object-returns-then-levels-eq0
push_object-returns-then-levels-eq0 g t c =
    FailsAt-deep_map _ c.args.levels c.args.members.now.items c.in_ok-sorted.sorted.items (record { same = c.in_ok-sorted.ensures.same; up = c.in_ok-sorted.ensures.ascending }) c.in_default.ensures
    (sym c.has_reserved.ensures ∙ c.if-has_reserved.false) (omega arith)

pub push_object-returns-in_err-push_head : goal.push_object-returns-in_err-push_head
push_object-returns-in_err-push_head g t c =
    let p = err_from_is_err_and c.from_residual-in_err-push_head.result c.from_residual-in_err-push_head.ensures.1 in
    PutsAt-refused spelling c.from_residual-in_err-push_head.result _ _ _ _ _ (p.1 ∙ ap Err p.2)

pub push_object-returns : goal.push_object-returns
push_object-returns g t c =
    let sorted = c.in_ok-sorted.sorted in
    let out = c.args.out.now.items in
    let start : c.push_head.new.out.items ≡ out ++ head 5 (length sorted.items) = c.in_ok-push_head.ensures.ok ∙ ap (λ (n : ℕ). out ++ head 5 n) (c.len.ensures ∙ sorted.ok.0) in
    PutsAt-map c.push_members.result out c.push_head.new.out.items _ _ _ c.args.levels (length sorted.items) c.args.members.now.items sorted.items
    (record { same = c.in_ok-sorted.ensures.same; up = c.in_ok-sorted.ensures.ascending }) c.in_default.ensures (sym c.has_reserved.ensures ∙ c.if-has_reserved.false) (omega arith) refl start c.push_members.ensures

pub push_members-returns-in_err-push_member : goal.push_members-returns-in_err-push_member
push_members-returns-in_err-push_member g t c =
    let p = err_from_is_err_and c.from_residual.result c.from_residual.ensures.1 in
    let l = c.loop-i in
    let few = c.args.members.now.ok.0 in
    l.invariant.1 c.from_residual.result _ _
    (entries-fail (λ m. m.now.0.now) (λ m. value_at c.args.levels (value_view m.now.1)) l.i c.args.members.now.items c.index.result.now (omega arith) c.index.ensures c.from_residual.result c.in_err-push_member.field-0.0 _ _ _ _ _
    l.invariant.0 (p.1 ∙ ap Err p.2) c.in_err-push_member.ensures)

pub push_members-loop-i-preserved : goal.push_members-loop-i-preserved
push_members-loop-i-preserved g t c =
    let l = c.loop-i in
    let few = c.args.members.now.ok.0 in (
      c.in_ok-push_member.ensures.3 ∙ l.invariant.0,
      λ r new after p. l.invariant.1 r new after
          (entries-more (λ m. m.now.0.now) (λ m. value_at c.args.levels (value_view m.now.1)) l.i c.args.members.now.items c.index.result.now (omega arith) c.index.ensures _ _ _ _ _ c.in_ok-push_member.ensures r new after p),
    )

pub push_members-returns : goal.push_members-returns
push_members-returns g t c =
    let l = c.loop-i in
    let few = c.args.members.now.ok.0 in
    l.invariant.1 (Ok tt) _ _ (entries-end (λ m. (m.now.0.now, value_at c.args.levels (value_view m.now.1))) l.i c.args.members.now.items l.out.items _ _ (omega arith) l.invariant.0)

pub push_member-returns-in_err-push_text : goal.push_member-returns-in_err-push_text
push_member-returns-in_err-push_text g t c =
    let p = err_from_is_err_and c.from_residual.result c.from_residual.ensures.1 in
    PutsAt-refused (λ v. string 3 c.args.member.now.0.now ++ spelling v) c.from_residual.result _ _ _ _ _ (p.1 ∙ ap Err p.2)

pub push_member-returns-in-Ok : goal.push_member-returns-in-Ok
push_member-returns-in-Ok g t c =
    let p = c.in-Ok.ensures in
    let k = c.args.member.now.0.now in
    (p.0, ap (below (at_key k)) p.1, p.2 ∙ ap (λ o. o ++ spelling p.0) c.in_ok-push_text.ensures ∙ append_assoc c.args.out.now.items (string 3 k) (spelling p.0), p.3)

pub push_member-returns-in_err-put_key-in-Err : goal.push_member-returns-in_err-put_key-in-Err
push_member-returns-in_err-put_key-in-Err g t c =
    let p = err_from_is_err_and c.from_residual-in_err-put_key-in-Err.result c.from_residual-in_err-put_key-in-Err.ensures.1 in
    PutsAt-refused (λ v. string 3 c.args.member.now.0.now ++ spelling v) c.from_residual-in_err-put_key-in-Err.result _ _ _ _ _ (p.1 ∙ ap Err p.2)

pub push_member-returns-in_ok-put_key-in-Err : goal.push_member-returns-in_ok-put_key-in-Err
push_member-returns-in_ok-put_key-in-Err g t c =
    FailsAt-below (kind_of c.in-Err.kind) _ _ _ (at_key c.args.member.now.0.now) (value_at c.args.levels (value_view c.args.member.now.1)) c.in_ok-put_key-in-Err.ensures c.in-Err.ensures
