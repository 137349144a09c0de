-- What a whole text means, and which trees mean maps.
use Rattle.std.proofs.Common.{◌≡◌, ℕ, zero, suc, Bool, true, false, not, cond, List, [], ◌∷◌, ◌++◌, length, get_or, Option, Some, None, Result, Ok, Err, Vec, ℤ, refl, sym, ap, subst, ◌∙◌, arith}
use Rattle.std.specs.Borrow.{Bor}
use Rattle.std.specs.Prelude.{option_map}
use Rattle.std.specs.Str.{bytes_eq}
use mir.Syntax.{w64}
use mir.Val.{SFits}
use Rattle.std.proofs.lemmas.List.{append-nil}
use Rattle.spec.specs.Reading.{◌>>=◌, Fails, ensure}
use Rattle.spec.specs.DagCbor.{Value, Null, Boolean, Integer, Bytes, Text, Items, Fields, Link, Entries, spelling}
use Rattle.spec.specs.Writes.{is_map}
use Rattle.json.specs.Json as json
use Rattle.json.specs.Value.{value_view, members_view}
use Rattle.json.specs.declared.value.Value.{Value as JsonValue}
use Rattle.std.specs.Str.Parse.{signed_digits_value}
use Rattle.record_json.specs.LinkText.{link_of_text}
use Rattle.record_json.specs.Form.{link_key, is_safe}
use Rattle.record_json.specs.Reading.{Kind, Fault, Float, IntegerRange, BadDollar, NotAMap, here, is_numeral, without_minus, integer_of, or_bad_link, link_in, or_bad_bytes, bytes_in, has_reserved, special_of, is_map_tree, distinct, object_of, value_at, values_from, value_of_tree, or_not_json, value_of_json}
use Rattle.record_json.specs.Puts.{FailsAt, PutsAt, IsFault}
use Rattle.record_json.proofs.Trees.{mag-is_safe}
use Rattle.record_json.proofs.Pushes.{bind-ok, object-is, first_doubled, FailsAt-then, FailsAt-here, FailsAt-same}

-- ---- objects of one member

pub special_of-many : {A : Type 0} → (ms : List (Bor (List ℕ) × JsonValue A)) → (length ms ≡ 1 → ⊥) → special_of (members_view ms) ≡ Err BadDollar
special_of-many [] many = refl
special_of-many (m ∷ []) many = absurd (many refl)
special_of-many (m ∷ n ∷ ms) many = refl

pub special_of-one : {A : Type 0} → (ms : List (Bor (List ℕ) × JsonValue A)) (m : Bor (List ℕ) × JsonValue A) → length ms ≡ 1 → m ≡ get_or ms 0 m
    → special_of (members_view ms) ≡ cond (bytes_eq m.0.now link_key) (link_in (value_view m.1)) (bytes_in (value_view m.1))
special_of-one [] m one is = absurd (omega arith)
special_of-one {A} (n ∷ []) m one is = ap (λ (x : Bor (List ℕ) × JsonValue A). cond (bytes_eq x.0.now link_key) (link_in (value_view x.1)) (bytes_in (value_view x.1))) (sym is)
special_of-one (n ∷ o ∷ ms) m one is = absurd (omega arith)

-- ---- links and numbers

pub link_found : {A : Type 0} → (o : Option (Vec ℕ A)) (cid : Vec ℕ A) (s t : List ℕ) → option_map (λ b. b.items) o ≡ link_of_text s → o ≡ Some cid → s ≡ t → link_of_text t ≡ Some cid.items
link_found {A} o cid s t e is same = ap link_of_text (sym same) ∙ sym e ∙ ap (option_map (λ (b : Vec ℕ A). b.items)) is

pub ensured : {E : Type 0} → (t : Bool) (x : E) (u : Unit {0}) → ensure t x ≡ Ok u → t ≡ true
ensured true x u e = refl
ensured false x u e = absurd cc

-- a number that is read has 64 bits
pub integer_of-fits : (s : List ℕ) (z : ℤ) → integer_of s ≡ Ok (Integer z) → SFits w64 z
integer_of-fits s z e =
    let v = signed_digits_value 10 s in
    let p = bind-ok (ensure (is_numeral (without_minus s)) Float) (λ one. ensure (is_safe v) IntegerRange >>= λ two. Ok (Integer v)) (Integer z) e in
    let q = bind-ok (ensure (is_safe v) IntegerRange) (λ two. Ok (Integer v)) (Integer z) p.2 in
    let last = q.2 in
    let same : v ≡ z = cc in
    subst (SFits w64) same (record { sfits = mag-is_safe v (ensured (is_safe v) IntegerRange q.0 q.1) })

-- ---- which trees mean maps

pub here-ok : {X : Type 0} → (r : Result X Kind) (x : X) → here r ≡ Ok x → r ≡ Ok x
here-ok (Ok y) x e = let same : y ≡ x = cc in ap Ok same
here-ok (Err k) x e = absurd cc

no_map : (v w : Value) (r : Result Value Kind) → r ≡ Ok w → r ≡ Ok v → is_map w ≡ false → false ≡ is_map v
no_map v w r one other none = let same : w ≡ v = cc in sym none ∙ ap is_map same

link-no_map : (o : Option (List ℕ)) (v : Value) → or_bad_link o ≡ Ok v → false ≡ is_map v
link-no_map None v e = absurd cc
link-no_map (Some c) v e = no_map v (Link c) _ refl e refl

bytes-no_map : {E : Type 0} → (r : Result (List ℕ) E) (v : Value) → or_bad_bytes r ≡ Ok v → false ≡ is_map v
bytes-no_map (Err x) v e = absurd cc
bytes-no_map (Ok b) v e = no_map v (Bytes b) _ refl e refl

link_in-no_map : (j : json.Json) (v : Value) → link_in j ≡ Ok v → false ≡ is_map v
link_in-no_map json.null v e = absurd cc
link_in-no_map (json.boolean b) v e = absurd cc
link_in-no_map (json.number s) v e = absurd cc
link_in-no_map (json.string s) v e = link-no_map _ v e
link_in-no_map (json.array js) v e = absurd cc
link_in-no_map (json.object ms) v e = absurd cc

bytes_in-no_map : (j : json.Json) (v : Value) → bytes_in j ≡ Ok v → false ≡ is_map v
bytes_in-no_map json.null v e = absurd cc
bytes_in-no_map (json.boolean b) v e = absurd cc
bytes_in-no_map (json.number s) v e = absurd cc
bytes_in-no_map (json.string s) v e = bytes-no_map _ v e
bytes_in-no_map (json.array js) v e = absurd cc
bytes_in-no_map (json.object ms) v e = absurd cc

either-no_map : (t : Bool) (j : json.Json) (v : Value) → cond t (link_in j) (bytes_in j) ≡ Ok v → false ≡ is_map v
either-no_map true j v e = link_in-no_map j v e
either-no_map false j v e = bytes_in-no_map j v e

special-no_map : (ms : json.Members) (v : Value) → special_of ms ≡ Ok v → false ≡ is_map v
special-no_map json.no_members v e = absurd cc
special-no_map (json.member k j json.no_members) v e = either-no_map (bytes_eq k link_key) j v e
special-no_map (json.member k j (json.member l i ms)) v e = absurd cc

integer-no_map : (s : List ℕ) (v : Value) → integer_of s ≡ Ok v → false ≡ is_map v
integer-no_map s v e =
    let z = signed_digits_value 10 s in
    let p = bind-ok (ensure (is_numeral (without_minus s)) Float) (λ one. ensure (is_safe z) IntegerRange >>= λ two. Ok (Integer z)) v e in
    let q = bind-ok (ensure (is_safe z) IntegerRange) (λ two. Ok (Integer z)) v p.2 in
    no_map v (Integer z) _ refl q.2 refl

either-map : (ms : json.Members) (entries : Result Entries Fault) (v : Value) (t : Bool) → cond t (here (special_of ms)) (entries >>= λ es. Ok (Fields es)) ≡ Ok v → not t ≡ is_map v
either-map ms entries v true e = special-no_map ms v (here-ok (special_of ms) v e)
either-map ms entries v false e =
    let p = bind-ok entries (λ es. Ok (Fields es)) v e in
    let last = p.2 in
    let same : Fields p.0 ≡ v = cc in
    ap is_map same

object-map : (ms : json.Members) (entries : Result Entries Fault) (v : Value) → object_of ms entries ≡ Ok v → not (has_reserved ms) ≡ is_map v
object-map ms entries v e =
    let p = bind-ok (distinct (first_doubled ms)) (λ once. cond (has_reserved ms) (here (special_of ms)) (entries >>= λ es. Ok (Fields es))) v e in
    either-map ms entries v (has_reserved ms) p.2

pub is_map_tree-is : (levels : ℕ) (j : json.Json) (v : Value) → value_at levels j ≡ Ok v → is_map_tree j ≡ is_map v
is_map_tree-is levels json.null v e = let same : Null ≡ v = cc in ap is_map same
is_map_tree-is levels (json.boolean b) v e = let same : Boolean b ≡ v = cc in ap is_map same
is_map_tree-is levels (json.number s) v e = integer-no_map s v (here-ok (integer_of s) v e)
is_map_tree-is levels (json.string s) v e = let same : Text s ≡ v = cc in ap is_map same
is_map_tree-is zero (json.array js) v e = absurd cc
is_map_tree-is (suc levels) (json.array js) v e =
    let p = bind-ok (values_from levels 0 js) (λ vs. Ok (Items vs)) v e in
    let last = p.2 in
    let same : Items p.0 ≡ v = cc in
    ap is_map same
is_map_tree-is levels (json.object ms) v e = let is = object-is levels ms in object-map ms is.0 v (sym is.1 ∙ e)

-- ---- a whole text

record_of : Result Value Fault → Result Value Fault
record_of r = r >>= λ v. here (ensure (is_map v) NotAMap) >>= λ map_ok. Ok v

value_of_json-is : (s : List ℕ) (j : json.Json) → or_not_json (json.document s) ≡ Ok j → value_of_json s ≡ record_of (value_at 64 j)
unfolding value_of_json value_of_tree record_of
value_of_json-is s j e = ap (λ (r : Result json.Json Kind). here r >>= λ i. record_of (value_of_tree i)) e

pub FailsAt-no_json : (o : Option Kind) (before : List ℕ) (s : List ℕ) → Fails o (or_not_json (json.document s)) → FailsAt o before before (value_of_json s)
unfolding value_of_json
FailsAt-no_json o before s f = FailsAt-then o before before (here (or_not_json (json.document s))) _ (FailsAt-here o before (or_not_json (json.document s)) f)

pub FailsAt-value : (o : Option Kind) (before after s : List ℕ) (j : json.Json) → or_not_json (json.document s) ≡ Ok j → FailsAt o before after (value_at 64 j) → FailsAt o before after (value_of_json s)
unfolding record_of
FailsAt-value o before after s j e f = FailsAt-same o before after (value_of_json s) (record_of (value_at 64 j)) (value_of_json-is s j e) (FailsAt-then o before after (value_at 64 j) _ f)

record-map : (r : Result Value Fault) (v : Value) → r ≡ Ok v → is_map v ≡ true → record_of r ≡ Ok v
unfolding record_of
record-map r v e is = rw (e, is) refl

record-no_map : (r : Result Value Fault) (v : Value) → r ≡ Ok v → is_map v ≡ false → record_of r ≡ Err (record { kind = NotAMap; path = [] })
unfolding record_of
record-no_map r v e none = rw (e, none) refl

pub FailsAt-no_map : (old new before after s : List ℕ) (j : json.Json) → or_not_json (json.document s) ≡ Ok j → is_map_tree j ≡ false → PutsAt spelling (Ok tt) old new before after (value_at 64 j)
    → FailsAt (Some NotAMap) before after (value_of_json s)
FailsAt-no_map old new before after s j e none p =
    ([], value_of_json-is s j e ∙ record-no_map (value_at 64 j) p.0 p.1 (sym (is_map_tree-is 64 j p.0 p.1) ∙ none), p.3)

pub PutsAt-record : (old new before after s : List ℕ) (j : json.Json) → or_not_json (json.document s) ≡ Ok j → is_map_tree j ≡ true → PutsAt spelling (Ok tt) old new before after (value_at 64 j)
    → PutsAt spelling (Ok tt) old new before after (value_of_json s)
PutsAt-record old new before after s j e is p =
    (p.0, value_of_json-is s j e ∙ record-map (value_at 64 j) p.0 p.1 (sym (is_map_tree-is 64 j p.0 p.1) ∙ is), p.2, p.3)

pub IsFault-whole : (o : Option Kind) (before after : List ℕ) (read : Result Value Fault) → before ≡ [] → FailsAt o before after read → IsFault o after read
IsFault-whole None before after read none f = tt
IsFault-whole (Some k) before after read none f = f.1 ∙ ap (λ (w : List ℕ). Err (record { kind = k; path = w })) (sym (f.2 ∙ ap (λ (b : List ℕ). f.0 ++ b) none ∙ append-nil f.0))
