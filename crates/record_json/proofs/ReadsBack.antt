-- The tree of a value means that value.
use Rattle.std.proofs.Common.{◌≡◌, ℕ, zero, suc, ◌^◌, Bool, true, false, ltb, List, ◌∷◌, map, Option, None, Some, Result, Ok, refl, sym, ap, ◌∙◌}
use Rattle.std.specs.Prelude.{not}
use Rattle.std.specs.Str.{is_utf8, bytes_eq}
use Rattle.std.proofs.lemmas.Bool.{false_from_ne_true}
use Rattle.std.proofs.lemmas.Option.{same_Some}
use Rattle.std.proofs.lemmas.Slice.Eq.{bytes_eq-Decides}
use Rattle.base64.specs.Engines.{standard_no_pad_indifferent}
use Rattle.base64.proofs.EngineFacts.{decode_of-encode_of}
use Rattle.spec.specs.DagCbor.{Value, Null, Boolean, Integer, Bytes, Text, Items, Fields, Link, Values, NoValue, ValueThen, Entries, NoEntry, EntryThen, count_values, count_entries, is_key_below, fits_length, is_lawful_within, are_lawful_within, are_entries_within}
use Rattle.spec.specs.Writes.{is_map}
use Rattle.spec.specs.Reading.{◌>>=◌}
use Rattle.spec.proofs.Bools.{both}
use Rattle.json.specs.Json.{Json, document}
use Rattle.record_json.specs.Form.{is_reserved, tree_of, trees_of, members_of, json_of, has_form, have_form, fields_have_form}
use Rattle.record_json.specs.KeyOrder.{insert, in_order, keys_of, doubled_key}
use Rattle.record_json.specs.Reading.{Fault, here, or_bad_link, or_bad_bytes, has_reserved, members_list, members_at, entries_of, value_at, values_from, value_of_tree, value_of_json}
use Rattle.record_json.specs.OfBytes.{IsOfBytes, AreOfBytes, EntriesAreOfBytes}
use Rattle.record_json.specs.Laws.{IsWritable}
use Rattle.record_json.proofs.Trees.{document-json_of}
use Rattle.record_json.proofs.LinkTexts.{link_of_text-text}
use Rattle.record_json.proofs.Numerals.{integer_of-signed_decimal}
use Rattle.record_json.proofs.KeyOrders.{not_above, not_below_itself, in_order-map}
use Rattle.record_json.proofs.Pushes.{object_of-fields, members_at-list}

not-true : (b : Bool) → not b ≡ true → b ≡ false
not-true true e = absurd cc
not-true false e = refl

-- no key of a value with a form stands for a link or for bytes
has_reserved-members_of : (es : Entries) → fields_have_form es ≡ true → has_reserved (members_of es) ≡ false
has_reserved-members_of NoEntry form = refl
has_reserved-members_of (EntryThen k v es) form =
    let p = both _ (fields_have_form es) form in
    let q = both (not (is_reserved k)) (has_form v) p.0 in
    rw (not-true (is_reserved k) q.0) (has_reserved-members_of es p.1)

-- ---- the keys of a lawful map stand in order

next_key : (levels : ℕ) (k l : List ℕ) (w : Value) (es : Entries) → are_entries_within levels (Some k) (EntryThen l w es) ≡ true → is_key_below k l ≡ true
next_key levels k l w es are =
    let p = both _ (are_entries_within levels (Some l) es) are in
    let q = both _ (is_lawful_within levels w) p.0 in
    let r = both _ (is_utf8 l) q.0 in
    (both (is_key_below k l) (fits_length l) r.0).0

behind_key : (levels : ℕ) (before : Option (List ℕ)) (k : List ℕ) (v : Value) (es : Entries) → are_entries_within levels before (EntryThen k v es) ≡ true → are_entries_within levels (Some k) es ≡ true
behind_key levels before k v es are = (both _ (are_entries_within levels (Some k) es) are).1

insert-first : (k l : List ℕ) (i j : Json) (ms : List (List ℕ × Json)) → is_key_below k l ≡ true → insert (k, i) ((l, j) ∷ ms) ≡ (k, i) ∷ (l, j) ∷ ms
insert-first k l i j ms next = rw (not_above k l next) refl

in_order-entries : (levels : ℕ) (before : Option (List ℕ)) (es : Entries) → are_entries_within levels before es ≡ true → in_order (members_list (members_of es)) ≡ members_list (members_of es)
in_order-entries levels before NoEntry are = refl
in_order-entries levels before (EntryThen k v NoEntry) are = refl
in_order-entries levels before (EntryThen k v (EntryThen l w es)) are =
    let rest = behind_key levels before k v (EntryThen l w es) are in
    ap (insert (k, tree_of v)) (in_order-entries levels (Some k) (EntryThen l w es) rest) ∙ insert-first k l (tree_of v) (tree_of w) (members_list (members_of es)) (next_key levels k l w es rest)

differs : (k l : List ℕ) → is_key_below k l ≡ true → bytes_eq k l ≡ false
differs k l next = false_from_ne_true (bytes_eq k l) (λ e. not_below_itself k (ap (is_key_below k) ((bytes_eq-Decides k l).0 e) ∙ next))

once-entries : (levels : ℕ) (before : Option (List ℕ)) (es : Entries) → are_entries_within levels before es ≡ true → doubled_key (keys_of (members_list (members_of es))) ≡ None
once-entries levels before NoEntry are = refl
once-entries levels before (EntryThen k v NoEntry) are = refl
once-entries levels before (EntryThen k v (EntryThen l w es)) are =
    let rest = behind_key levels before k v (EntryThen l w es) are in
    rw (differs k l (next_key levels k l w es rest)) (once-entries levels (Some k) (EntryThen l w es) rest)

doubled-entries : (levels : ℕ) (es : Entries) → are_entries_within levels None es ≡ true → doubled_key (keys_of (in_order (members_list (members_of es)))) ≡ None
doubled-entries levels es are = ap (λ ms. doubled_key (keys_of ms)) (in_order-entries levels None es are) ∙ once-entries levels None es are

in_order-at : (levels : ℕ) (es : Entries) → are_entries_within levels None es ≡ true → in_order (members_at levels (members_of es)) ≡ members_at levels (members_of es)
in_order-at levels es are =
    let ms = members_of es in
    let meant : List ℕ × Json → List ℕ × Result Value Fault = λ p. (p.0, value_at levels p.1) in
    ap in_order (members_at-list levels ms) ∙ in_order-map (value_at levels) (members_list ms) ∙ ap (map meant) (in_order-entries levels None es are) ∙ sym (members_at-list levels ms)

-- ---- values

mutual
  value_at-tree_of : (levels : ℕ) (v : Value) → is_lawful_within levels v ≡ true → has_form v ≡ true → IsOfBytes v → value_at levels (tree_of v) ≡ Ok v
  value_at-tree_of levels Null lawful form of_bytes = refl
  value_at-tree_of levels (Boolean b) lawful form of_bytes = refl
  value_at-tree_of levels (Integer z) lawful form of_bytes = ap here (integer_of-signed_decimal z form)
  value_at-tree_of zero (Bytes b) lawful form of_bytes = ap (λ r. here (or_bad_bytes r)) (decode_of-encode_of standard_no_pad_indifferent b tt of_bytes)
  value_at-tree_of (suc levels) (Bytes b) lawful form of_bytes = ap (λ r. here (or_bad_bytes r)) (decode_of-encode_of standard_no_pad_indifferent b tt of_bytes)
  value_at-tree_of levels (Text t) lawful form of_bytes = refl
  value_at-tree_of zero (Items vs) lawful form of_bytes = absurd cc
  value_at-tree_of (suc levels) (Items vs) lawful form of_bytes =
      let p = both (ltb (count_values vs) (2 ^ 64)) (are_lawful_within levels vs) lawful in
      ap (λ (r : Result Values Fault). r >>= λ vs. Ok (Items vs)) (values_from-trees_of levels 0 vs p.1 form of_bytes)
  value_at-tree_of zero (Fields es) lawful form of_bytes = absurd cc
  value_at-tree_of (suc levels) (Fields es) lawful form of_bytes =
      let p = both (ltb (count_entries es) (2 ^ 64)) (are_entries_within levels None es) lawful in
      let ms = members_of es in
      object_of-fields ms (entries_of (in_order (members_at levels ms))) (doubled-entries levels es p.1) (has_reserved-members_of es form)
      ∙ ap (λ fs. entries_of fs >>= λ es. Ok (Fields es)) (in_order-at levels es p.1)
      ∙ ap (λ (r : Result Entries Fault). r >>= λ es. Ok (Fields es)) (entries_of-members_of levels None es p.1 form of_bytes)
  value_at-tree_of zero (Link c) lawful form of_bytes = ap (λ r. here (or_bad_link r)) (link_of_text-text c of_bytes form)
  value_at-tree_of (suc levels) (Link c) lawful form of_bytes = ap (λ r. here (or_bad_link r)) (link_of_text-text c of_bytes form)

  values_from-trees_of : (levels i : ℕ) (vs : Values) → are_lawful_within levels vs ≡ true → have_form vs ≡ true → AreOfBytes vs → values_from levels i (trees_of vs) ≡ Ok vs
  values_from-trees_of levels i NoValue lawful form of_bytes = refl
  values_from-trees_of levels i (ValueThen v vs) lawful form of_bytes =
      let p = both (is_lawful_within levels v) (are_lawful_within levels vs) lawful in
      let q = both (has_form v) (have_form vs) form in
      rw (value_at-tree_of levels v p.0 q.0 of_bytes.0, values_from-trees_of levels (suc i) vs p.1 q.1 of_bytes.1) refl

  entries_of-members_of : (levels : ℕ) (before : Option (List ℕ)) (es : Entries) → are_entries_within levels before es ≡ true → fields_have_form es ≡ true → EntriesAreOfBytes es
      → entries_of (members_at levels (members_of es)) ≡ Ok es
  entries_of-members_of levels before NoEntry lawful form of_bytes = refl
  entries_of-members_of levels before (EntryThen k v es) lawful form of_bytes =
      let rest = both _ (are_entries_within levels (Some k) es) lawful in
      let value = both _ (is_lawful_within levels v) rest.0 in
      let p = both _ (fields_have_form es) form in
      let q = both (not (is_reserved k)) (has_form v) p.0 in
      rw (value_at-tree_of levels v value.1 q.1 of_bytes.0, entries_of-members_of levels (Some k) es rest.1 p.1 of_bytes.1) refl

pub value_of_tree-tree_of : (v : Value) → IsWritable v → value_of_tree (tree_of v) ≡ Ok v
unfolding value_of_tree
value_of_tree-tree_of v is = value_at-tree_of 64 v is.lawful is.form is.of_bytes

pub value_of_json-json_of : (v : Value) → IsWritable v → is_map v ≡ true → value_of_json (json_of v) ≡ Ok v
unfolding value_of_json
value_of_json-json_of v is map = rw (document-json_of v is.lawful is.form, value_of_tree-tree_of v is, map) refl

same_values : (v w : Value) (read : Result Value Fault) → read ≡ Ok v → read ≡ Ok w → v ≡ w
same_values v w read one other = cc

pub no_text_for_two : (v w : Value) → IsWritable v → IsWritable w → json_of v ≡ json_of w → v ≡ w
no_text_for_two v w one other same =
    let trees : tree_of v ≡ tree_of w =
    same_Some (tree_of v) (tree_of w) (sym (document-json_of v one.lawful one.form) ∙ ap document same ∙ document-json_of w other.lawful other.form) in
    same_values v w (value_of_tree (tree_of v)) (value_of_tree-tree_of v one) (ap value_of_tree trees ∙ value_of_tree-tree_of w other)
