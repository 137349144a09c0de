-- What is read as a value is the one spelling of it, each byte.
use Rattle.std.proofs.Common.{◌≡◌, ℕ, zero, suc, ◌+◌, ◌/◌, ◌%◌, ◌^◌, ◌<◌, ◌≤◌, Bool, true, false, cond, ◌&&◌, ◌||◌, eqb, ltb, List, [], ◌∷◌, ◌++◌, length, get_or, drop, Option, Some, None, Result, Ok, Err, refl, sym, ap, subst, ◌∙◌, arith}
use Rattle.std.specs.Prelude.{pos, negsuc}
use Rattle.std.specs.Str.{is_utf8}
use Rattle.std.proofs.lemmas.Bool.{lt-ltb, ltb-true, eqb-true, le-ltb, ne_eqb}
use Rattle.std.proofs.lemmas.List.{append-nil, nil_from_length}
use Rattle.spec.specs.Reading.{◌>>=◌, front}
use Rattle.spec.specs.Head.{CborFault, Truncated, Float, Indefinite, Simple, BadTag, BadLink, BadUtf8, KeyNotText, KeyOrder, IntegerRange, Trailing, head, head_at, argument_at, simple_at, major_of, SimpleValue, Array, Map}
use Rattle.spec.specs.Cid.{is_cid}
use Rattle.spec.specs.DagCbor.{Value, Null, Boolean, Integer, Bytes, Text, Items, Fields, Link, Values, NoValue, ValueThen, Entries, NoEntry, EntryThen, count_values, count_entries, string, spelling, spelling_of_values, spelling_of_entries, is_next_key, fits_length, is_lawful_within, are_lawful_within, are_entries_within, is_lawful, head_of, text_of, link_of, key_of, items_at, fields_at, content_of, simple_value, value_at, read}
use Rattle.spec.proofs.HeadLaws.{head_takes}
use Rattle.spec.proofs.Bools.{both, and}
use Rattle.spec.proofs.DagCborLaws.{within}
use Rattle.spec.proofs.Taking.{IsBytes, Takes, Takes-then, bind_ok, bind_then, ensure_ok, ok_is, front_ok}

record TakesValue (levels : ℕ) (bytes : List ℕ) (x : Value × List ℕ) : Type 0 where
  takes : Takes bytes (spelling x.0) x.1
  lawful : is_lawful_within levels x.0 ≡ true

-- ---- heads and strings

head_major : (b : ℕ) (bytes : List ℕ) (h : (ℕ × ℕ) × List ℕ) → head_at (b ∷ bytes) ≡ Ok h → h.0.0 ≡ b / 32
unfolding head_at
head_major b bytes h e =
    let a = bind_ok (cond (ltb b 224) (argument_at (b % 32) bytes) (simple_at (b % 32) bytes)) (λ x. Ok ((b / 32, x.0), x.1)) h e in
    sym (ap (λ (p : (ℕ × ℕ) × List ℕ). p.0.0) (ok_is CborFault ((b / 32, a.0.0), a.0.1) h a.2))

head_of_takes : (m : ℕ) (fault : CborFault) (bytes : List ℕ) (x : ℕ × List ℕ) → m < 7 → IsBytes bytes → head_of m fault bytes ≡ Ok x → Takes bytes (head m x.0) x.1 × (x.0 < 2 ^ 64)
head_of_takes m fault [] x small fits e = absurd cc
head_of_takes m fault (b ∷ bytes) x small fits e =
    let a = ensure_ok (eqb (b / 32) m) fault (λ ok. head_at (b ∷ bytes) >>= λ h. Ok (h.0.1, h.1)) x e in
    bind_then (head_at (b ∷ bytes)) (λ h. Ok (h.0.1, h.1)) x a.1 (λ h e0 r0.
    let is_m : h.0.0 ≡ m = head_major b bytes h e0 ∙ eqb-true (b / 32) m a.0 in
    let read : head_at (b ∷ bytes) ≡ Ok ((m, h.0.1), h.1) = e0 ∙ ap (λ (k : ℕ). made k h.0.1 h.1) is_m in
    subst (λ (y : ℕ × List ℕ). Takes (b ∷ bytes) (head m y.0) y.1 × (y.0 < 2 ^ 64)) (ok_is CborFault (h.0.1, h.1) x r0) (head_takes (b ∷ bytes) m h.0.1 h.1 fits small read))
  where
    made : ℕ → ℕ → List ℕ → Result ((ℕ × ℕ) × List ℕ) CborFault
    made k n rest = Ok ((k, n), rest)

-- a head and as many bytes
string_takes : (m n : ℕ) (bytes rest : List ℕ) (c : List ℕ × List ℕ) → Takes bytes (head m n) rest → n < 2 ^ 64 → front Truncated n rest ≡ Ok c → Takes bytes (string m c.0) c.1 × (fits_length c.0 ≡ true)
string_takes m n bytes rest c t lt e =
    let f = front_ok Truncated n rest c t.rest_fits e in
    let whole : Takes bytes (head m n ++ c.0) c.1 = Takes-then bytes (head m n) rest c.0 c.1 t f.0 in
    (subst (λ (k : ℕ). Takes bytes (head m k ++ c.0) c.1) (sym f.1) whole, lt-ltb (length c.0) (2 ^ 64) (omega (arith, f.1)))

text_takes : (m n : ℕ) (bytes rest : List ℕ) (c : List ℕ × List ℕ) → Takes bytes (head m n) rest → n < 2 ^ 64 → text_of n rest ≡ Ok c → Takes bytes (string m c.0) c.1 × (fits_length c.0 ≡ true) × (is_utf8 c.0 ≡ true)
text_takes m n bytes rest c t lt e =
    bind_then (front Truncated n rest) _ c e (λ d e0 r0.
    let u = ensure_ok (is_utf8 d.0) BadUtf8 (λ ok. Ok d) c r0 in
    let s = string_takes m n bytes rest d t lt e0 in
    subst (λ (y : List ℕ × List ℕ). Takes bytes (string m y.0) y.1 × (fits_length y.0 ≡ true) × (is_utf8 y.0 ≡ true)) (ok_is CborFault d c u.1) (s.0, s.1, u.0))

-- ---- false, true and null

failed : (a b : Bool) (y : ℕ × List ℕ) → cond a (Err Float) (cond b (Err Indefinite) (Err Simple)) ≡ Ok y → ⊥
failed true b y e = cc
failed false true y e = cc
failed false false y e = cc

simple-case : (low : ℕ) (bytes : List ℕ) (y : ℕ × List ℕ) (a b c : Bool) → eqb low 20 ≡ a → eqb low 21 ≡ b → eqb low 22 ≡ c
    → cond (a || b || c) (Ok (low, bytes)) (cond (eqb low 25 || eqb low 26 || eqb low 27) (Err Float) (cond (eqb low 31) (Err Indefinite) (Err Simple))) ≡ Ok y
    → ((224 + low) ∷ bytes) ≡ spelling (simple_value y.0) ++ y.1
simple-case low bytes y true b c h i j e =
    let l : low ≡ 20 = eqb-true low 20 h in
    ap (λ (k : ℕ). (224 + k) ∷ bytes) l ∙ ap (λ (p : ℕ × List ℕ). spelling (simple_value p.0) ++ p.1) (ap (λ (k : ℕ). (k, bytes)) (sym l) ∙ ok_is CborFault (low, bytes) y e)
simple-case low bytes y false true c h i j e =
    let l : low ≡ 21 = eqb-true low 21 i in
    ap (λ (k : ℕ). (224 + k) ∷ bytes) l ∙ ap (λ (p : ℕ × List ℕ). spelling (simple_value p.0) ++ p.1) (ap (λ (k : ℕ). (k, bytes)) (sym l) ∙ ok_is CborFault (low, bytes) y e)
simple-case low bytes y false false true h i j e =
    let l : low ≡ 22 = eqb-true low 22 j in
    ap (λ (k : ℕ). (224 + k) ∷ bytes) l ∙ ap (λ (p : ℕ × List ℕ). spelling (simple_value p.0) ++ p.1) (ap (λ (k : ℕ). (k, bytes)) (sym l) ∙ ok_is CborFault (low, bytes) y e)
simple-case low bytes y false false false h i j e = absurd (failed (eqb low 25 || eqb low 26 || eqb low 27) (eqb low 31) y e)

simple_rest : (low : ℕ) (bytes : List ℕ) (y : ℕ × List ℕ) (t : Bool) → cond t (Ok (low, bytes)) (cond (eqb low 25 || eqb low 26 || eqb low 27) (Err Float) (cond (eqb low 31) (Err Indefinite) (Err Simple))) ≡ Ok y → y.1 ≡ bytes
simple_rest low bytes y true e = sym (ap (λ (p : ℕ × List ℕ). p.1) (ok_is CborFault (low, bytes) y e))
simple_rest low bytes y false e = absurd (failed (eqb low 25 || eqb low 26 || eqb low 27) (eqb low 31) y e)

simple_takes : (bytes : List ℕ) (m n : ℕ) (rest : List ℕ) → IsBytes bytes → 7 ≤ m → head_at bytes ≡ Ok ((m, n), rest) → Takes bytes (spelling (simple_value n)) rest
unfolding head_at
simple_takes [] m n rest fits big e = absurd cc
simple_takes (b ∷ bytes) m n rest fits big e =
    let a = bind_ok (cond (ltb b 224) (argument_at (b % 32) bytes) (simple_at (b % 32) bytes)) (λ x. Ok ((b / 32, x.0), x.1)) ((m, n), rest) e in
    let triple = ok_is CborFault ((b / 32, a.0.0), a.0.1) ((m, n), rest) a.2 in
    let is_m : b / 32 ≡ m = ap (λ (p : (ℕ × ℕ) × List ℕ). p.0.0) triple in
    let is_y : ◌≡◌ {A = ℕ × List ℕ} (a.0.0, a.0.1) (n, rest) = ap (λ (p : (ℕ × ℕ) × List ℕ). (p.0.1, p.1)) triple in
    let lt : b < 256 = fits 0 in
    let above : ltb b 224 ≡ false = le-ltb b 224 (omega arith) in
    let low : ℕ = b % 32 in
    let read : simple_at low bytes ≡ Ok (a.0.0, a.0.1) = ap (λ (t : Bool). cond t (argument_at low bytes) (simple_at low bytes)) (sym above) ∙ a.1 in
    let first : 224 + low ≡ b = omega arith in
    let parts = simple-case low bytes (a.0.0, a.0.1) (eqb low 20) (eqb low 21) (eqb low 22) refl refl refl read in
    let ends = simple_rest low bytes (a.0.0, a.0.1) (eqb low 20 || eqb low 21 || eqb low 22) read in
    let got : Takes (b ∷ bytes) (spelling (simple_value a.0.0)) a.0.1 = record {
      parts = ap (λ (k : ℕ). k ∷ bytes) (sym first) ∙ parts;
      rest_fits = subst IsBytes (sym ends) (λ i. fits (suc i));
    } in
    subst (λ (y : ℕ × List ℕ). Takes (b ∷ bytes) (spelling (simple_value y.0)) y.1) is_y got

simple-cond : (levels : ℕ) (s t : Bool) → is_lawful_within levels (cond s (Boolean false) (cond t (Boolean true) Null)) ≡ true
simple-cond levels true t = refl
simple-cond levels false true = refl
simple-cond levels false false = refl

-- ---- links

link_takes : (n : ℕ) (bytes rest : List ℕ) (x : Value × List ℕ) (levels : ℕ) → Takes bytes (head 6 n) rest → link_of n rest ≡ Ok x → TakesValue levels bytes x
link_takes n bytes rest x levels t e =
    let a = ensure_ok (eqb n 42) BadTag _ x e in
    let is_42 : n ≡ 42 = eqb-true n 42 a.0 in
    bind_then (head_of 2 BadLink rest) _ x a.1 (λ k e0 r0.
    let h = head_of_takes 2 BadLink rest k (omega arith) t.rest_fits e0 in
    bind_then (front Truncated k.0 k.1) _ x r0 (λ c e1 r1.
    let s = string_takes 2 k.0 rest k.1 c h.0 h.1 e1 in
    let b = ensure_ok (ltb 0 (length c.0) && eqb (get_or c.0 0 0) 0 && is_cid (drop 1 c.0)) BadLink (λ ok. Ok (Link (drop 1 c.0), c.1)) x r1 in
    let p = both (ltb 0 (length c.0) && eqb (get_or c.0 0 0) 0) (is_cid (drop 1 c.0)) b.0 in
    let q = both (ltb 0 (length c.0)) (eqb (get_or c.0 0 0) 0) p.0 in
    let zero_first : c.0 ≡ 0 ∷ drop 1 c.0 = front-zero c.0 (ltb-true 0 (length c.0) q.0) (eqb-true (get_or c.0 0 0) 0 q.1) in
    let tag : Takes bytes (head 6 42) rest = subst (λ (k : ℕ). Takes bytes (head 6 k) rest) is_42 t in
    let content : Takes rest (string 2 (0 ∷ drop 1 c.0)) c.1 = subst (λ (y : List ℕ). Takes rest (string 2 y) c.1) zero_first s.0 in
    let long : fits_length (0 ∷ drop 1 c.0) ≡ true = subst (λ (y : List ℕ). fits_length y ≡ true) zero_first s.1 in
    subst (TakesValue levels bytes) (ok_is CborFault (Link (drop 1 c.0), c.1) x b.1)
    (record { takes = Takes-then bytes (head 6 42) rest (string 2 (0 ∷ drop 1 c.0)) c.1 tag content; lawful = and _ _ long p.1 })))
  where
    front-zero : (c : List ℕ) → 0 < length c → get_or c 0 0 ≡ 0 → c ≡ 0 ∷ drop 1 c
    front-zero [] l z = absurd (omega arith)
    front-zero (y ∷ ys) l z = ap (λ (k : ℕ). k ∷ ys) z

-- ---- lists and maps

abbrev ReadsValues : ℕ → Type 0
ReadsValues levels = (bytes : List ℕ) (x : Value × List ℕ) → IsBytes bytes → value_at levels bytes ≡ Ok x → TakesValue levels bytes x

values_take : (levels : ℕ) → ReadsValues levels → (n : ℕ) (bytes : List ℕ) (x : Values × List ℕ) → IsBytes bytes → items_at (value_at levels) n bytes ≡ Ok x
    → Takes bytes (spelling_of_values x.0) x.1 × (count_values x.0 ≡ n) × (are_lawful_within levels x.0 ≡ true)
values_take levels ih zero bytes x fits e =
    subst (λ (y : Values × List ℕ). Takes bytes (spelling_of_values y.0) y.1 × (count_values y.0 ≡ 0) × (are_lawful_within levels y.0 ≡ true)) (ok_is CborFault (NoValue, bytes) x e)
    (record { parts = refl; rest_fits = fits }, refl, refl)
values_take levels ih (suc n) bytes x fits e =
    bind_then (value_at levels bytes) _ x e (λ v e0 r0.
    let a = ih bytes v fits e0 in
    bind_then (items_at (value_at levels) n v.1) _ x r0 (λ vs e1 r1.
    let b = values_take levels ih n v.1 vs a.takes.rest_fits e1 in
    subst (λ (y : Values × List ℕ). Takes bytes (spelling_of_values y.0) y.1 × (count_values y.0 ≡ suc n) × (are_lawful_within levels y.0 ≡ true)) (ok_is CborFault (ValueThen v.0 vs.0, vs.1) x r1)
    (Takes-then bytes (spelling v.0) v.1 (spelling_of_values vs.0) vs.1 a.takes b.0, ap suc b.1, and _ _ a.lawful b.2)))

key_takes : (before : Option (List ℕ)) (bytes : List ℕ) (x : List ℕ × List ℕ) → IsBytes bytes → key_of before bytes ≡ Ok x
    → Takes bytes (string 3 x.0) x.1 × (is_next_key before x.0 ≡ true) × (fits_length x.0 ≡ true) × (is_utf8 x.0 ≡ true)
key_takes before bytes x fits e =
    bind_then (head_of 3 KeyNotText bytes) _ x e (λ n e0 r0.
    let h = head_of_takes 3 KeyNotText bytes n (omega arith) fits e0 in
    bind_then (text_of n.0 n.1) _ x r0 (λ k e1 r1.
    let t = text_takes 3 n.0 bytes n.1 k h.0 h.1 e1 in
    let o = ensure_ok (is_next_key before k.0) KeyOrder (λ ok. Ok k) x r1 in
    subst (λ (y : List ℕ × List ℕ). Takes bytes (string 3 y.0) y.1 × (is_next_key before y.0 ≡ true) × (fits_length y.0 ≡ true) × (is_utf8 y.0 ≡ true)) (ok_is CborFault k x o.1)
    (t.0, o.0, t.1, t.2)))

entries_take : (levels : ℕ) → ReadsValues levels → (n : ℕ) (before : Option (List ℕ)) (bytes : List ℕ) (x : Entries × List ℕ) → IsBytes bytes → fields_at (value_at levels) before n bytes ≡ Ok x
    → Takes bytes (spelling_of_entries x.0) x.1 × (count_entries x.0 ≡ n) × (are_entries_within levels before x.0 ≡ true)
entries_take levels ih zero before bytes x fits e =
    subst (λ (y : Entries × List ℕ). Takes bytes (spelling_of_entries y.0) y.1 × (count_entries y.0 ≡ 0) × (are_entries_within levels before y.0 ≡ true)) (ok_is CborFault (NoEntry, bytes) x e)
    (record { parts = refl; rest_fits = fits }, refl, refl)
entries_take levels ih (suc n) before bytes x fits e =
    bind_then (key_of before bytes) _ x e (λ k e0 r0.
    let a = key_takes before bytes k fits e0 in
    bind_then (value_at levels k.1) _ x r0 (λ v e1 r1.
    let b = ih k.1 v a.0.rest_fits e1 in
    bind_then (fields_at (value_at levels) (Some k.0) n v.1) _ x r1 (λ es e2 r2.
    let c = entries_take levels ih n (Some k.0) v.1 es b.takes.rest_fits e2 in
    let two = Takes-then bytes (string 3 k.0) k.1 (spelling v.0) v.1 a.0 b.takes in
    subst (λ (y : Entries × List ℕ). Takes bytes (spelling_of_entries y.0) y.1 × (count_entries y.0 ≡ suc n) × (are_entries_within levels before y.0 ≡ true)) (ok_is CborFault (EntryThen k.0 v.0 es.0, es.1) x r2)
    (Takes-then bytes (string 3 k.0 ++ spelling v.0) v.1 (spelling_of_entries es.0) es.1 two c.0, ap suc c.1, and _ _ (and _ _ (and _ _ (and _ _ a.1 a.2) a.3) b.lawful) c.2))))

-- ---- values

abbrev ReadsBelow : ℕ → Type 0
ReadsBelow zero = Unit {0}
ReadsBelow (suc levels) = ReadsValues levels

items_take : (levels : ℕ) → ReadsBelow levels → (n : ℕ) (bytes rest : List ℕ) (x : Value × List ℕ) → Takes bytes (head 4 n) rest → n < 2 ^ 64 → content_of (within levels) Array n rest ≡ Ok x → TakesValue levels bytes x
items_take zero ih n bytes rest x t lt e = absurd cc
items_take (suc levels) ih n bytes rest x t lt e =
    bind_then (items_at (value_at levels) n rest) _ x e (λ vs e0 r0.
    let v = values_take levels ih n rest vs t.rest_fits e0 in
    let whole = Takes-then bytes (head 4 n) rest (spelling_of_values vs.0) vs.1 t v.0 in
    let counted : Takes bytes (spelling (Items vs.0)) vs.1 = subst (λ (k : ℕ). Takes bytes (head 4 k ++ spelling_of_values vs.0) vs.1) (sym v.1) whole in
    subst (TakesValue (suc levels) bytes) (ok_is CborFault (Items vs.0, vs.1) x r0) (record { takes = counted; lawful = and _ _ (lt-ltb (count_values vs.0) (2 ^ 64) (omega (arith, v.1))) v.2 }))

fields_take : (levels : ℕ) → ReadsBelow levels → (n : ℕ) (bytes rest : List ℕ) (x : Value × List ℕ) → Takes bytes (head 5 n) rest → n < 2 ^ 64 → content_of (within levels) Map n rest ≡ Ok x → TakesValue levels bytes x
fields_take zero ih n bytes rest x t lt e = absurd cc
fields_take (suc levels) ih n bytes rest x t lt e =
    bind_then (fields_at (value_at levels) None n rest) _ x e (λ es e0 r0.
    let v = entries_take levels ih n None rest es t.rest_fits e0 in
    let whole = Takes-then bytes (head 5 n) rest (spelling_of_entries es.0) es.1 t v.0 in
    let counted : Takes bytes (spelling (Fields es.0)) es.1 = subst (λ (k : ℕ). Takes bytes (head 5 k ++ spelling_of_entries es.0) es.1) (sym v.1) whole in
    subst (TakesValue (suc levels) bytes) (ok_is CborFault (Fields es.0, es.1) x r0) (record { takes = counted; lawful = and _ _ (lt-ltb (count_entries es.0) (2 ^ 64) (omega (arith, v.1))) v.2 }))

major-simple : (m : ℕ) → 7 ≤ m → major_of m ≡ SimpleValue
major-simple m big =
    rw (
      ne_eqb m 0 (λ e. omega arith),
      ne_eqb m 1 (λ e. omega arith),
      ne_eqb m 2 (λ e. omega arith),
      ne_eqb m 3 (λ e. omega arith),
      ne_eqb m 4 (λ e. omega arith),
      ne_eqb m 5 (λ e. omega arith),
      ne_eqb m 6 (λ e. omega arith),
    ) refl

content_takes : (levels : ℕ) → ReadsBelow levels → (m n : ℕ) (bytes rest : List ℕ) (x : Value × List ℕ) → IsBytes bytes → head_at bytes ≡ Ok ((m, n), rest) → content_of (within levels) (major_of m) n rest ≡ Ok x → TakesValue levels bytes x
content_takes levels ih zero n bytes rest x fits h e =
    let t = head_takes bytes 0 n rest fits (omega arith) h in
    let a = ensure_ok (ltb n (2 ^ 63)) IntegerRange (λ ok. Ok (Integer (pos n), rest)) x e in
    subst (TakesValue levels bytes) (ok_is CborFault (Integer (pos n), rest) x a.1) (record { takes = t.0; lawful = a.0 })
content_takes levels ih (suc zero) n bytes rest x fits h e =
    let t = head_takes bytes 1 n rest fits (omega arith) h in
    let a = ensure_ok (ltb n (2 ^ 63)) IntegerRange (λ ok. Ok (Integer (negsuc n), rest)) x e in
    subst (TakesValue levels bytes) (ok_is CborFault (Integer (negsuc n), rest) x a.1) (record { takes = t.0; lawful = a.0 })
content_takes levels ih (suc (suc zero)) n bytes rest x fits h e =
    let t = head_takes bytes 2 n rest fits (omega arith) h in
    bind_then (front Truncated n rest) _ x e (λ c e0 r0.
    let s = string_takes 2 n bytes rest c t.0 t.1 e0 in
    subst (TakesValue levels bytes) (ok_is CborFault (Bytes c.0, c.1) x r0) (record { takes = s.0; lawful = s.1 }))
content_takes levels ih (suc (suc (suc zero))) n bytes rest x fits h e =
    let t = head_takes bytes 3 n rest fits (omega arith) h in
    bind_then (text_of n rest) _ x e (λ c e0 r0.
    let s = text_takes 3 n bytes rest c t.0 t.1 e0 in
    subst (TakesValue levels bytes) (ok_is CborFault (Text c.0, c.1) x r0) (record { takes = s.0; lawful = and _ _ s.1 s.2 }))
content_takes levels ih (suc (suc (suc (suc zero)))) n bytes rest x fits h e =
    let t = head_takes bytes 4 n rest fits (omega arith) h in items_take levels ih n bytes rest x t.0 t.1 e
content_takes levels ih (suc (suc (suc (suc (suc zero))))) n bytes rest x fits h e =
    let t = head_takes bytes 5 n rest fits (omega arith) h in fields_take levels ih n bytes rest x t.0 t.1 e
content_takes levels ih (suc (suc (suc (suc (suc (suc zero)))))) n bytes rest x fits h e =
    let t = head_takes bytes 6 n rest fits (omega arith) h in link_takes n bytes rest x levels t.0 e
content_takes levels ih (suc (suc (suc (suc (suc (suc (suc m))))))) n bytes rest x fits h e =
    let t = simple_takes bytes (suc (suc (suc (suc (suc (suc (suc m))))))) n rest fits (omega arith) h in
    let is = major-simple (suc (suc (suc (suc (suc (suc (suc m))))))) (omega arith) in
    let read : content_of (within levels) SimpleValue n rest ≡ Ok x = sym (ap (λ j. content_of (within levels) j n rest) is) ∙ e in
    subst (TakesValue levels bytes) (ok_is CborFault (simple_value n, rest) x read) (record { takes = t; lawful = simple-cond levels (eqb n 20) (eqb n 21) })

value_takes : (levels : ℕ) → ReadsValues levels
unfolding value_at
value_takes zero bytes x fits e = bind_then (head_at bytes) _ x e (λ h e0 r0. content_takes zero tt h.0.0 h.0.1 bytes h.1 x fits e0 r0)
value_takes (suc levels) bytes x fits e = bind_then (head_at bytes) _ x e (λ h e0 r0. content_takes (suc levels) (value_takes levels) h.0.0 h.0.1 bytes h.1 x fits e0 r0)

-- what is read is spelled so, and has a spelling
pub read_takes : (bytes : List ℕ) (v : Value) → IsBytes bytes → read bytes ≡ Ok v → (bytes ≡ spelling v) × (is_lawful v ≡ true)
unfolding read
read_takes bytes v fits e =
    bind_then (value_at 64 bytes) _ v e (λ x e0 r0.
    let t = value_takes 64 bytes x fits e0 in
    let a = ensure_ok (eqb (length x.1) 0) Trailing (λ ok. Ok x.0) v r0 in
    let nothing : x.1 ≡ [] = nil_from_length x.1 (eqb-true (length x.1) 0 a.0) in
    let same : x.0 ≡ v = ok_is CborFault x.0 v a.1 in
    let text : bytes ≡ spelling x.0 = t.takes.parts ∙ ap (λ (y : List ℕ). spelling x.0 ++ y) nothing ∙ append-nil (spelling x.0) in
    subst (λ (y : Value). (bytes ≡ spelling y) × (is_lawful y ≡ true)) same (text, t.lawful))
