use Rattle.std.proofs.Common.{◌≡◌, ℕ, ◌+◌, ◌<◌, ◌≤◌, ◌++◌, length, drop, get_or, sym, ap, subst, ◌∙◌, arith, rules}
use Rattle.std.proofs.lemmas.Result.{on_ok_weaker}
use Rattle.spec.specs.Head.{head}
use Rattle.spec.specs.DagCbor.{string, spelling, spelling_of_values, spelling_of_entries}
use Rattle.dagcbor.specs.View.{view, view_items, view_fields}
use Rattle.dagcbor.proofs.ItemByItem.{spelling-List, spelling-Map, spelling-at, entries-at, item-within, field-within}
use Rattle.dagcbor.proofs.writing.+push.Goals as goal

pub push_value-returns-in_ok-push_head-in-List : goal.push_value-returns-in_ok-push_head-in-List
push_value-returns-in_ok-push_head-in-List g t c =
    let v = c.in-List.items in
    let out = c.args.out.now.items in
    let start : c.push_head.new.out.items ≡ out ++ head 4 (length v.items) = c.in_ok-push_head-in-List.ensures.ok ∙ ap (λ (n : ℕ). out ++ head 4 n) (c.len.ensures ∙ v.ok.0) in
    on_ok_weaker c.push_items.result (λ e. e ∙ ap (λ x. x ++ spelling_of_values (view_items v.items)) start ∙ spelling-List out v ∙ ap (λ x. out ++ spelling (view x)) (sym c.in-List.is)) c.push_items.ensures

pub push_value-returns-in_ok-push_head-in-Map : goal.push_value-returns-in_ok-push_head-in-Map
push_value-returns-in_ok-push_head-in-Map g t c =
    let v = c.in-Map.fields in
    let out = c.args.out.now.items in
    let start : c.push_head-in-Map.new.out.items ≡ out ++ head 5 (length v.items) = c.in_ok-push_head-in-Map.ensures.ok ∙ ap (λ (n : ℕ). out ++ head 5 n) (c.len-in-Map.ensures ∙ v.ok.0) in
    on_ok_weaker c.push_fields.result (λ e. e ∙ ap (λ x. x ++ spelling_of_entries (view_fields v.items)) start ∙ spelling-Map out v ∙ ap (λ x. out ++ spelling (view x)) (sym c.in-Map.is)) c.push_fields.ensures

pub push_items-push_value-requires : goal.push_items-push_value-requires
push_items-push_value-requires g t c κs within =
    let xs = c.deref-item-items.result.now in
    let i = c.loop-item.item-index in
    let x = c.item-item.result in
    let here : length (spelling (view x)) ≤ length (spelling_of_values (view_items xs)) =
    subst (λ y. length (spelling (view y)) ≤ length (spelling_of_values (view_items xs))) (sym c.item-item.is) (item-within xs i x (omega arith)) in
    let no_longer : length (spelling (view x)) ≤ length (spelling_of_values (view_items c.args.items.now.items)) =
    subst (λ ys. length (spelling (view x)) ≤ length (spelling_of_values (view_items ys))) c.deref-item-items.ensures.value here in
    search rules

pub push_items-loop-item-preserved : goal.push_items-loop-item-preserved
push_items-loop-item-preserved g t c =
    let l = c.loop-item in
    let vs = c.args.items.now.items in
    let i = l.item-index in
    let x = c.item-item.result in
    let is : x ≡ get_or vs i x = c.item-item.is ∙ ap (λ ys. get_or ys i x) c.deref-item-items.ensures.value in
    let lt : i < length vs = subst (λ ys. i < length ys) c.deref-item-items.ensures.value (omega arith) in
    l.invariant ∙ spelling-at l.out.items vs i x lt is ∙ ap (λ out. out ++ spelling_of_values (view_items (drop (i + 1) vs))) (sym c.in_ok-push_value.ensures)

pub push_fields-push_value-requires : goal.push_fields-push_value-requires
push_fields-push_value-requires g t c κs within =
    let xs = c.deref-field-items.result.now in
    let i = c.loop-field.field-index in
    let x = c.field-item.result in
    let here : length (spelling (view x.1)) ≤ length (spelling_of_entries (view_fields xs)) =
    subst (λ y. length (spelling (view y.1)) ≤ length (spelling_of_entries (view_fields xs))) (sym c.field-item.is) (field-within xs i x (omega arith)) in
    let no_longer : length (spelling (view x.1)) ≤ length (spelling_of_entries (view_fields c.args.fields.now.items)) =
    subst (λ ys. length (spelling (view x.1)) ≤ length (spelling_of_entries (view_fields ys))) c.deref-field-items.ensures.value here in
    search rules

pub push_fields-loop-field-preserved : goal.push_fields-loop-field-preserved
push_fields-loop-field-preserved g t c =
    let l = c.loop-field in
    let ms = c.args.fields.now.items in
    let i = l.field-index in
    let x = c.field-item.result in
    let is : x ≡ get_or ms i x = c.field-item.is ∙ ap (λ ys. get_or ys i x) c.deref-field-items.ensures.value in
    let lt : i < length ms = subst (λ ys. i < length ys) c.deref-field-items.ensures.value (omega arith) in
    let wrote : c.push_value.new.out.items ≡ (l.out.items ++ string 3 x.0.now) ++ spelling (view x.1) = c.in_ok-push_value.ensures ∙ ap (λ out. out ++ spelling (view x.1)) c.in_ok-push_text.ensures in
    l.invariant ∙ entries-at l.out.items ms i x lt is ∙ ap (λ out. out ++ spelling_of_entries (view_fields (drop (i + 1) ms))) (sym wrote)
