-- What is read has a JSON form, and is a map.
use Rattle.std.proofs.Common.{◌≡◌, ℕ, zero, suc, Bool, true, false, ◌&&◌, not, cond, List, [], ◌∷◌, Option, Some, None, Result, Ok, Err, refl, sym, ap, ◌∙◌}
use Rattle.std.specs.Prelude.{⊤}
use Rattle.std.specs.Str.{bytes_eq}
use Rattle.std.specs.Str.Parse.{signed_digits_value}
use Rattle.std.proofs.lemmas.Bool.{and_parts, and_from, or_parts, not_from_false}
use Rattle.spec.specs.Reading.{◌>>=◌, ensure}
use Rattle.spec.specs.Cid.{text, is_version_1}
use Rattle.spec.specs.DagCbor.{Value, Null, Boolean, Integer, Bytes, Text, Items, Fields, Link, Values, NoValue, ValueThen, Entries, NoEntry, EntryThen, is_key_below}
use Rattle.spec.specs.Writes.{is_map}
use Rattle.json.specs.Json as json
use Rattle.record_json.specs.LinkText.{bytes_of_letters, link_of_text}
use Rattle.record_json.specs.Form.{link_key, is_reserved, is_safe, has_form, have_form, fields_have_form}
use Rattle.record_json.specs.KeyOrder.{insert, in_order}
use Rattle.record_json.specs.Reading.{Kind, Fault, Float, IntegerRange, NotAMap, TooDeep, at_key, at_place, here, below, is_numeral, without_minus, integer_of, or_bad_link, link_in, or_bad_bytes, bytes_in, has_reserved, special_of, distinct, object_of, entries_of, value_at, values_from, members_at, value_of_tree, or_not_json, value_of_json}
use Rattle.record_json.proofs.Pushes.{bind-ok, first_doubled}
use Rattle.record_json.proofs.Records.{here-ok, ensured}

below-ok : {X : Type 0} → (step : List ℕ) (r : Result X Fault) (x : X) → below step r ≡ Ok x → r ≡ Ok x
below-ok step (Ok y) x e = let same : y ≡ x = cc in ap Ok same
below-ok step (Err f) x e = absurd cc

-- ---- numbers, links and bytes

formed : (w v : Value) (r : Result Value Kind) → r ≡ Ok w → r ≡ Ok v → has_form w ≡ true → has_form v ≡ true
formed w v r one other is = let same : w ≡ v = cc in ap has_form (sym same) ∙ is

integer-form : (s : List ℕ) (v : Value) → integer_of s ≡ Ok v → has_form v ≡ true
integer-form s v e =
    let z = signed_digits_value 10 s in
    let p = bind-ok (ensure (is_numeral (without_minus s)) Float) (λ one. ensure (is_safe z) IntegerRange >>= λ two. Ok (Integer z)) v e in
    let q = bind-ok (ensure (is_safe z) IntegerRange) (λ two. Ok (Integer z)) v p.2 in
    formed (Integer z) v _ refl q.2 (ensured (is_safe z) IntegerRange q.0 q.1)

kept : (t : Bool) (c d : List ℕ) → cond t (Some d) None ≡ Some c → (t ≡ true) × (d ≡ c)
kept true c d e = let same : d ≡ c = cc in (refl, same)
kept false c d e = absurd cc

version-form : (s c : List ℕ) → link_of_text s ≡ Some c → is_version_1 c ≡ true
version-form s c e =
    let d = bytes_of_letters s in
    let p = kept (bytes_eq (text d) s && is_version_1 d) c d e in
    ap is_version_1 (sym p.1) ∙ (and_parts (bytes_eq (text d) s) (is_version_1 d) p.0).1

link-form : (o : Option (List ℕ)) (v : Value) → ((c : List ℕ) → o ≡ Some c → is_version_1 c ≡ true) → or_bad_link o ≡ Ok v → has_form v ≡ true
link-form None v first e = absurd cc
link-form (Some c) v first e = formed (Link c) v _ refl e (first c refl)

bytes-form : {E : Type 0} → (r : Result (List ℕ) E) (v : Value) → or_bad_bytes r ≡ Ok v → has_form v ≡ true
bytes-form (Err x) v e = absurd cc
bytes-form (Ok b) v e = formed (Bytes b) v _ refl e refl

link_in-form : (j : json.Json) (v : Value) → link_in j ≡ Ok v → has_form v ≡ true
link_in-form json.null v e = absurd cc
link_in-form (json.boolean b) v e = absurd cc
link_in-form (json.number s) v e = absurd cc
link_in-form (json.string s) v e = link-form (link_of_text s) v (version-form s) e
link_in-form (json.array js) v e = absurd cc
link_in-form (json.object ms) v e = absurd cc

bytes_in-form : (j : json.Json) (v : Value) → bytes_in j ≡ Ok v → has_form v ≡ true
bytes_in-form json.null v e = absurd cc
bytes_in-form (json.boolean b) v e = absurd cc
bytes_in-form (json.number s) v e = absurd cc
bytes_in-form (json.string s) v e = bytes-form _ v e
bytes_in-form (json.array js) v e = absurd cc
bytes_in-form (json.object ms) v e = absurd cc

either-form : (t : Bool) (j : json.Json) (v : Value) → cond t (link_in j) (bytes_in j) ≡ Ok v → has_form v ≡ true
either-form true j v e = link_in-form j v e
either-form false j v e = bytes_in-form j v e

special-form : (ms : json.Members) (v : Value) → special_of ms ≡ Ok v → has_form v ≡ true
special-form json.no_members v e = absurd cc
special-form (json.member k j json.no_members) v e = either-form (bytes_eq k link_key) j v e
special-form (json.member k j (json.member l i ms)) v e = absurd cc

-- ---- members, in any order

record IsFormed (m : List ℕ × Result Value Fault) : Type 0 where
  plain : is_reserved m.0 ≡ false
  read : (v : Value) → m.1 ≡ Ok v → has_form v ≡ true

abbrev AreFormed : List (List ℕ × Result Value Fault) → Type 0
AreFormed [] = ⊤
AreFormed (m ∷ ms) = IsFormed m × AreFormed ms

AreFormed-insert : (m : List ℕ × Result Value Fault) (ns : List (List ℕ × Result Value Fault)) → IsFormed m → AreFormed ns → AreFormed (insert m ns)
AreFormed-insert m [] is are = (is, tt)
AreFormed-insert m (n ∷ ns) is are = by_case (is_key_below n.0 m.0) (AreFormed-insert m ns is are.1)
  where
    by_case : (t : Bool) → AreFormed (insert m ns) → AreFormed (cond t (n ∷ insert m ns) (m ∷ n ∷ ns))
    by_case true later = (are.0, later)
    by_case false later = (is, are)

AreFormed-in_order : (ms : List (List ℕ × Result Value Fault)) → AreFormed ms → AreFormed (in_order ms)
AreFormed-in_order [] are = tt
AreFormed-in_order (m ∷ ms) are = AreFormed-insert m (in_order ms) are.0 (AreFormed-in_order ms are.1)

entries-form : (ms : List (List ℕ × Result Value Fault)) (es : Entries) → AreFormed ms → entries_of ms ≡ Ok es → fields_have_form es ≡ true
entries-form [] es are e = let same : NoEntry ≡ es = cc in ap fields_have_form (sym same)
entries-form (m ∷ ms) es are e =
    let p = bind-ok (below (at_key m.0) m.1) (λ v. entries_of ms >>= λ fs. Ok (EntryThen m.0 v fs)) es e in
    let q = bind-ok (entries_of ms) (λ fs. Ok (EntryThen m.0 p.0 fs)) es p.2 in
    let last = q.2 in
    let same : EntryThen m.0 p.0 q.0 ≡ es = cc in
    let value = are.0.read p.0 (below-ok (at_key m.0) m.1 p.0 p.1) in
    ap fields_have_form (sym same)
    ∙ and_from (not (is_reserved m.0) && has_form p.0) (fields_have_form q.0) (and_from (not (is_reserved m.0)) (has_form p.0) (not_from_false (is_reserved m.0) are.0.plain) value) (entries-form ms q.0 are.1 q.1)

either-fields : (ms : json.Members) (entries : Result Entries Fault) (v : Value) (t : Bool) → has_reserved ms ≡ t → (has_reserved ms ≡ false → (es : Entries) → entries ≡ Ok es → fields_have_form es ≡ true)
    → cond t (here (special_of ms)) (entries >>= λ es. Ok (Fields es)) ≡ Ok v → has_form v ≡ true
either-fields ms entries v true is fields e = special-form ms v (here-ok (special_of ms) v e)
either-fields ms entries v false is fields e =
    let p = bind-ok entries (λ es. Ok (Fields es)) v e in
    let last = p.2 in
    let same : Fields p.0 ≡ v = cc in
    ap has_form (sym same) ∙ fields is p.0 p.1

object-form : (ms : json.Members) (entries : Result Entries Fault) (v : Value) → (has_reserved ms ≡ false → (es : Entries) → entries ≡ Ok es → fields_have_form es ≡ true) → object_of ms entries ≡ Ok v → has_form v ≡ true
object-form ms entries v fields e =
    let p = bind-ok (distinct (first_doubled ms)) (λ once. cond (has_reserved ms) (here (special_of ms)) (entries >>= λ es. Ok (Fields es))) v e in
    either-fields ms entries v (has_reserved ms) refl fields p.2

no_entries : (es : Entries) → here (Err TooDeep) ≡ Ok es → fields_have_form es ≡ true
no_entries es e = absurd cc

-- ---- values

mutual
  value-form : (levels : ℕ) (j : json.Json) (v : Value) → value_at levels j ≡ Ok v → has_form v ≡ true
  value-form levels json.null v e = let same : Null ≡ v = cc in ap has_form (sym same)
  value-form levels (json.boolean b) v e = let same : Boolean b ≡ v = cc in ap has_form (sym same)
  value-form levels (json.number s) v e = integer-form s v (here-ok (integer_of s) v e)
  value-form levels (json.string s) v e = let same : Text s ≡ v = cc in ap has_form (sym same)
  value-form zero (json.array js) v e = absurd cc
  value-form (suc levels) (json.array js) v e =
      let p = bind-ok (values_from levels 0 js) (λ vs. Ok (Items vs)) v e in
      let last = p.2 in
      let same : Items p.0 ≡ v = cc in
      ap has_form (sym same) ∙ values-form levels 0 js p.0 p.1
  value-form zero (json.object ms) v e = object-form ms (here (Err TooDeep)) v (λ plain es f. no_entries es f) e
  value-form (suc levels) (json.object ms) v e =
      object-form ms (entries_of (in_order (members_at levels ms))) v (λ plain es f. entries-form (in_order (members_at levels ms)) es (AreFormed-in_order (members_at levels ms) (members-form levels ms plain)) f) e

  values-form : (levels i : ℕ) (js : json.Items) (vs : Values) → values_from levels i js ≡ Ok vs → have_form vs ≡ true
  values-form levels i json.no_items vs e = let same : NoValue ≡ vs = cc in ap have_form (sym same)
  values-form levels i (json.item j js) vs e =
      let p = bind-ok (below (at_place i) (value_at levels j)) (λ v. values_from levels (suc i) js >>= λ ws. Ok (ValueThen v ws)) vs e in
      let q = bind-ok (values_from levels (suc i) js) (λ ws. Ok (ValueThen p.0 ws)) vs p.2 in
      let last = q.2 in
      let same : ValueThen p.0 q.0 ≡ vs = cc in
      ap have_form (sym same) ∙ and_from (has_form p.0) (have_form q.0) (value-form levels j p.0 (below-ok (at_place i) (value_at levels j) p.0 p.1)) (values-form levels (suc i) js q.0 q.1)

  members-form : (levels : ℕ) (ms : json.Members) → has_reserved ms ≡ false → AreFormed (members_at levels ms)
  members-form levels json.no_members plain = tt
  members-form levels (json.member k j ms) plain =
      let p = or_parts (is_reserved k) (has_reserved ms) plain in (record { plain = p.0; read = λ v e. value-form levels j v e }, members-form levels ms p.1)

-- ---- a whole text

pub read-form : (s : List ℕ) (v : Value) → value_of_json s ≡ Ok v → has_form v ≡ true
unfolding value_of_json value_of_tree
read-form s v e =
    let p = bind-ok (here (or_not_json (json.document s))) (λ j. value_of_tree j >>= λ w. here (ensure (is_map w) NotAMap) >>= λ map_ok. Ok w) v e in
    let q = bind-ok (value_of_tree p.0) (λ w. here (ensure (is_map w) NotAMap) >>= λ map_ok. Ok w) v p.2 in
    let r = bind-ok (here (ensure (is_map q.0) NotAMap)) (λ map_ok. Ok q.0) v q.2 in
    let last = r.2 in
    let same : q.0 ≡ v = cc in
    ap has_form (sym same) ∙ value-form 64 p.0 q.0 q.1

pub read-map : (s : List ℕ) (v : Value) → value_of_json s ≡ Ok v → is_map v ≡ true
unfolding value_of_json
read-map s v e =
    let p = bind-ok (here (or_not_json (json.document s))) (λ j. value_of_tree j >>= λ w. here (ensure (is_map w) NotAMap) >>= λ map_ok. Ok w) v e in
    let q = bind-ok (value_of_tree p.0) (λ w. here (ensure (is_map w) NotAMap) >>= λ map_ok. Ok w) v p.2 in
    let r = bind-ok (here (ensure (is_map q.0) NotAMap)) (λ map_ok. Ok q.0) v q.2 in
    let last = r.2 in
    let same : q.0 ≡ v = cc in
    ap is_map (sym same) ∙ ensured (is_map q.0) NotAMap r.0 (here-ok (ensure (is_map q.0) NotAMap) r.0 r.1)
