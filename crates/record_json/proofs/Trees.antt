-- The text of a lawful value with a form is JSON: its tree is no deeper than a reader goes, and its numbers are numbers.
use Rattle.std.proofs.Common.{◌≡◌, ℕ, zero, suc, ◌+◌, ◌-◌, ◌^◌, ◌<◌, ◌≤◌, true, ltb, List, Option, None, Some, ℤ, pos, negsuc, arith}
use Rattle.std.specs.Prelude.{not}
use Rattle.std.specs.Int.Signed.{mag}
use Rattle.std.proofs.lemmas.Bool.{ltb-true}
use Rattle.json.specs.Json.{document}
use Rattle.json.specs.Tree.{depth, items_depth, members_depth, HasNumbers, ItemsHaveNumbers, MembersHaveNumbers}
use Rattle.json.proofs.Printed.Decimals.{IsNumber-signed_decimal}
use Rattle.json.proofs.Printed.Trees.{document-print}
use Rattle.spec.specs.DagCbor.{Value, Null, Boolean, Integer, Bytes, Text, Items, Fields, Link, Values, NoValue, ValueThen, Entries, NoEntry, EntryThen, count_values, count_entries, is_lawful_within, are_lawful_within, are_entries_within, is_lawful}
use Rattle.spec.proofs.Bools.{both}
use Rattle.record_json.specs.Form.{is_reserved, tree_of, trees_of, members_of, json_of, is_safe, has_form, have_form, fields_have_form}

-- ---- depth

mutual
  depth-tree_of : (levels : ℕ) (v : Value) → is_lawful_within levels v ≡ true → depth (tree_of v) ≤ levels + 1
  depth-tree_of levels Null is = omega arith
  depth-tree_of levels (Boolean b) is = omega arith
  depth-tree_of levels (Integer z) is = omega arith
  depth-tree_of levels (Bytes b) is = omega arith
  depth-tree_of levels (Text t) is = omega arith
  depth-tree_of zero (Items vs) is = absurd cc
  depth-tree_of (suc levels) (Items vs) is = omega (arith, depth-trees_of levels vs (both (ltb (count_values vs) (2 ^ 64)) (are_lawful_within levels vs) is).1)
  depth-tree_of zero (Fields es) is = absurd cc
  depth-tree_of (suc levels) (Fields es) is = omega (arith, depth-members_of levels None es (both (ltb (count_entries es) (2 ^ 64)) (are_entries_within levels None es) is).1)
  depth-tree_of levels (Link c) is = omega arith

  depth-trees_of : (levels : ℕ) (vs : Values) → are_lawful_within levels vs ≡ true → items_depth (trees_of vs) ≤ levels + 1
  depth-trees_of levels NoValue are = omega arith
  depth-trees_of levels (ValueThen v vs) are =
      let p = both (is_lawful_within levels v) (are_lawful_within levels vs) are in omega (arith, depth-tree_of levels v p.0, depth-trees_of levels vs p.1)

  depth-members_of : (levels : ℕ) (before : Option (List ℕ)) (es : Entries) → are_entries_within levels before es ≡ true → members_depth (members_of es) ≤ levels + 1
  depth-members_of levels before NoEntry are = omega arith
  depth-members_of levels before (EntryThen k v es) are =
      let rest = both _ (are_entries_within levels (Some k) es) are in
      let value = both _ (is_lawful_within levels v) rest.0 in
      omega (arith, depth-tree_of levels v value.1, depth-members_of levels (Some k) es rest.1)

-- ---- numbers

pub mag-is_safe : (z : ℤ) → is_safe z ≡ true → mag z < 2 ^ 63
mag-is_safe (pos n) safe = let lt = ltb-true n (2 ^ 53) safe in omega arith
mag-is_safe (negsuc n) safe = let lt = ltb-true n (2 ^ 53 - 1) safe in omega arith

mutual
  HasNumbers-tree_of : (v : Value) → has_form v ≡ true → HasNumbers (tree_of v)
  HasNumbers-tree_of Null form = tt
  HasNumbers-tree_of (Boolean b) form = tt
  HasNumbers-tree_of (Integer z) form = IsNumber-signed_decimal z (mag-is_safe z form)
  HasNumbers-tree_of (Bytes b) form = (tt, tt)
  HasNumbers-tree_of (Text t) form = tt
  HasNumbers-tree_of (Items vs) form = ItemsHaveNumbers-trees_of vs form
  HasNumbers-tree_of (Fields es) form = MembersHaveNumbers-members_of es form
  HasNumbers-tree_of (Link c) form = (tt, tt)

  ItemsHaveNumbers-trees_of : (vs : Values) → have_form vs ≡ true → ItemsHaveNumbers (trees_of vs)
  ItemsHaveNumbers-trees_of NoValue form = tt
  ItemsHaveNumbers-trees_of (ValueThen v vs) form =
      let p = both (has_form v) (have_form vs) form in (HasNumbers-tree_of v p.0, ItemsHaveNumbers-trees_of vs p.1)

  MembersHaveNumbers-members_of : (es : Entries) → fields_have_form es ≡ true → MembersHaveNumbers (members_of es)
  MembersHaveNumbers-members_of NoEntry form = tt
  MembersHaveNumbers-members_of (EntryThen k v es) form =
      let p = both _ (fields_have_form es) form in
      let q = both (not (is_reserved k)) (has_form v) p.0 in
      (HasNumbers-tree_of v q.1, MembersHaveNumbers-members_of es p.1)

pub document-json_of : (v : Value) → is_lawful v ≡ true → has_form v ≡ true → document (json_of v) ≡ Some (tree_of v)
document-json_of v lawful form =
    let shallow = depth-tree_of 64 v lawful in document-print (tree_of v) (HasNumbers-tree_of v form) (omega arith)
