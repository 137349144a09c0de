-- A key is found by the rows alone, as it is by the entries.
use Rattle.std.proofs.Common.{◌≡◌, ◌⊎◌, inl, inr, ℕ, suc, ◌+◌, ◌<◌, ◌≤◌, true, false, ◌&&◌, cond, eqb, List, [], ◌∷◌, length, drop, Option, None, Some, refl, sym, ap, ◌∙◌, arith}
use Rattle.std.specs.declared.cmp.Ordering.{Ordering}
use Rattle.std.specs.declared.cmp.Ordering.TheVariants.{Less, Equal, Greater}
use Rattle.std.specs.Ordering.{nat_cmp, is_lt}
use Rattle.std.proofs.lemmas.Bool.{cases_lt, le-ltb, lt-ltb, eq-eqb, ne_eqb}
use Rattle.spec.specs.NodeFormat.{Entry, common, is_key, are_keys_after}
use Rattle.spec.specs.Proof.{Place, Here, by_order, gap_of, place}
use Rattle.spec.proofs.Bools.{both}
use Rattle.node.specs.Rows.{Row, row_after, rows}
use Rattle.node.specs.Search.{gap_before, order_after, common_after}
use Rattle.node.specs.Views.{row_with}
use Rattle.node.proofs.Comparing.{cmp, beside, cmp-turn, common-turn, cmp-equal}

-- ---- one entry

less_than : (p s : ℕ) → p < s → nat_cmp p s ≡ Less
less_than p s h = rw (lt-ltb p s h) refl

as_much : (p s : ℕ) → p ≡ s → nat_cmp p s ≡ Equal
as_much p s h = rw (le-ltb p s (omega arith), eq-eqb p s h) refl

more_than : (p s : ℕ) → s < p → nat_cmp p s ≡ Greater
more_than p s h = rw (le-ltb p s (omega arith), ne_eqb p s (λ e. omega arith)) refl

-- the row tells how the entry's key compares with the sought one, and what they have in common
record Tells (before : List ℕ) (e : Entry) (key : List ℕ) : Type 0 where
  order : order_after (common before key) key (row_after before e) ≡ cmp e.key key
  same : common_after (common before key) key (row_after before e) ≡ common e.key key

-- the key before is less than the sought one, or there is none
abbrev IsAhead : List ℕ → List ℕ → Type 0
IsAhead before key = (before ≡ []) ⊎ (is_lt (cmp before key) ≡ true)

longer : (before key : List ℕ) (p : ℕ) → IsAhead before key → p < length before → is_lt (cmp before key) ≡ true
longer before key p (inl none) lt = absurd (omega (arith, ap length none))
longer before key p (inr less) lt = less

tells : (before : List ℕ) (e : Entry) (key : List ℕ) → is_lt (cmp before e.key) ≡ true → IsAhead before key → common before key ≤ length before → common before e.key ≤ length before → Tells before e key
tells before e key less ahead fits fits_too =
    let p = common before e.key in
    let s = common before key in
    elim (cases_lt p s) [
      | inl lt ↦
          let o = less_than p s lt in
          let w = (beside before e.key key less).fewer lt in
          record { order = rw o (sym w.0); same = rw o (sym w.1) }
      | inr le ↦ elim (cases_lt s p) [
        | inl lt ↦
            let o = more_than p s lt in
            let w = (beside before key e.key (longer before key s ahead (omega arith))).fewer lt in
            record { order = rw o (sym (cmp-turn key e.key w.0)); same = rw o (sym (common-turn e.key key ∙ w.1)) }
        | inr ge ↦
            let eq : p ≡ s = omega arith in
            let o = as_much p s eq in
            let w = (beside before e.key key less).as_many eq in
            record {
              order = rw o (ap (λ (n : ℕ). cmp (drop p e.key) (drop n key)) (sym eq) ∙ sym w.0);
              same = rw o (ap (λ (n : ℕ). n + common (drop p e.key) (drop n key)) (sym eq) ∙ sym w.1);
            }
      ]
    ]

-- ---- all entries

pub common-fits : (xs ys : List ℕ) → common xs ys ≤ length xs
common-fits [] ys = omega arith
common-fits (x ∷ xs) [] = omega arith
common-fits (x ∷ xs) (y ∷ ys) = elim (eqb x y) as (λ t. cond t (suc (common xs ys)) 0 ≤ length (x ∷ xs)) [ true ↦ let h = common-fits xs ys in omega arith | false ↦ omega arith ]

by_less : {X : Type 0} (o : Ordering) (x y a b : X) → (o ≡ Less → x ≡ y) → by_order o x a b ≡ by_order o y a b
by_less Less x y a b h = h refl
by_less Equal x y a b h = refl
by_less Greater x y a b h = refl

-- ---- the gap before the key

-- the link in the gap, by the rows
abbrev pub gap_found : List ℕ → ℕ → Option (List ℕ) → List Row → Option (List ℕ)
gap_found key same gap [] = gap
gap_found key same gap (r ∷ rs) = by_order (order_after same key r) (gap_found key (common_after same key r) r.tree rs) gap gap

gap_from : (before key : List ℕ) (gap : Option (List ℕ)) (es : List Entry) → are_keys_after before es ≡ true → IsAhead before key → gap_found key (common before key) gap (rows before es) ≡ gap_before key gap es
gap_from before key gap [] keys ahead = refl
gap_from before key gap (e ∷ es) keys ahead =
    let parts = both (is_lt (cmp before e.key) && is_key e.key) (are_keys_after e.key es) keys in
    let less = both (is_lt (cmp before e.key)) (is_key e.key) parts.0 in
    let t = tells before e key less.0 ahead (common-fits before key) (common-fits before e.key) in
    let first : gap_found key (common before key) gap (rows before (e ∷ es)) ≡ by_order (cmp e.key key) (gap_found key (common e.key key) e.tree (rows e.key es)) gap gap =
    rw (t.order, t.same) refl in
    first ∙ by_less (cmp e.key key) _ _ _ _ (λ is. gap_from e.key key e.tree es parts.1 (inr (ap is_lt is)))

pub gap_found-before : (key : List ℕ) (gap : Option (List ℕ)) (es : List Entry) → are_keys_after [] es ≡ true → gap_found key 0 gap (rows [] es) ≡ gap_before key gap es
gap_found-before key gap es keys = gap_from [] key gap es keys (inl refl)

pub gap_found-less : (key : List ℕ) (same : ℕ) (gap : Option (List ℕ)) (r : Row) (rs : List Row) → order_after same key r ≡ Less → gap_found key same gap (r ∷ rs) ≡ gap_found key (common_after same key r) r.tree rs
gap_found-less key same gap r rs o = rw o refl

pub gap_found-here : (key : List ℕ) (same : ℕ) (gap : Option (List ℕ)) (r : Row) (rs : List Row) → order_after same key r ≡ Equal → gap_found key same gap (r ∷ rs) ≡ gap
gap_found-here key same gap r rs o = rw o refl

pub gap_found-past : (key : List ℕ) (same : ℕ) (gap : Option (List ℕ)) (r : Row) (rs : List Row) → order_after same key r ≡ Greater → gap_found key same gap (r ∷ rs) ≡ gap
gap_found-past key same gap r rs o = rw o refl

-- ---- the entries before it

-- how many they are, by the rows
abbrev pub row_found : List ℕ → ℕ → List Row → Option Row
row_found key same [] = None
row_found key same (r ∷ rs) = by_order (order_after same key r) (row_found key (common_after same key r) rs) (Some r) None

row_from : (before key : List ℕ) (es : List Entry) → are_keys_after before es ≡ true → IsAhead before key → row_found key (common before key) (rows before es) ≡ row_with key before es
row_from before key [] keys ahead = refl
row_from before key (e ∷ es) keys ahead =
    let parts = both (is_lt (cmp before e.key) && is_key e.key) (are_keys_after e.key es) keys in
    let less = both (is_lt (cmp before e.key)) (is_key e.key) parts.0 in
    let t = tells before e key less.0 ahead (common-fits before key) (common-fits before e.key) in
    let first : row_found key (common before key) (rows before (e ∷ es)) ≡ by_order (cmp e.key key) (row_found key (common e.key key) (rows e.key es)) (Some (row_after before e)) None =
    rw (t.order, t.same) refl in
    first ∙ by_less (cmp e.key key) _ _ _ _ (λ is. row_from e.key key es parts.1 (inr (ap is_lt is)))

pub row_found-with : (key : List ℕ) (es : List Entry) → are_keys_after [] es ≡ true → row_found key 0 (rows [] es) ≡ row_with key [] es
row_found-with key es keys = row_from [] key es keys (inl refl)

pub row_found-less : (key : List ℕ) (same : ℕ) (r : Row) (rs : List Row) → order_after same key r ≡ Less → row_found key same (r ∷ rs) ≡ row_found key (common_after same key r) rs
row_found-less key same r rs o = rw o refl

pub row_found-here : (key : List ℕ) (same : ℕ) (r : Row) (rs : List Row) → order_after same key r ≡ Equal → row_found key same (r ∷ rs) ≡ Some r
row_found-here key same r rs o = rw o refl

pub row_found-past : (key : List ℕ) (same : ℕ) (r : Row) (rs : List Row) → order_after same key r ≡ Greater → row_found key same (r ∷ rs) ≡ None
row_found-past key same r rs o = rw o refl

-- ---- what is known by the gap and the row

-- the key's place
abbrev pub place_sought : List ℕ → Option (List ℕ) → Option Row → Place
place_sought key gap None = gap_of gap
place_sought key gap (Some r) = Here (record { key = key; value = r.value; tree = r.tree })

place-by : (o : Ordering) (e : Entry) (key : List ℕ) (gap further : Option (List ℕ)) (r : Row) (found : Option Row) (p : Place)
    → cmp e.key key ≡ o → r.value ≡ e.value → r.tree ≡ e.tree → place_sought key further found ≡ p
    → place_sought key (by_order o further gap gap) (by_order o found (Some r) None) ≡ by_order o p (Here e) (gap_of gap)
place-by Less e key gap further r found p is v t h = h
place-by Equal e key gap further r found p is v t h =
    rw (v, t) (ap (λ (k : List ℕ). Here (record { key = k; value = e.value; tree = e.tree })) (sym (cmp-equal e.key key is)))
place-by Greater e key gap further r found p is v t h = refl

pub place-sought : (before key : List ℕ) (gap : Option (List ℕ)) (es : List Entry) → place_sought key (gap_before key gap es) (row_with key before es) ≡ place key gap es
place-sought before key gap [] = refl
place-sought before key gap (e ∷ es) =
    place-by (cmp e.key key) e key gap (gap_before key e.tree es) (row_after before e) (row_with key e.key es) (place key e.tree es)
    refl refl refl (place-sought e.key key e.tree es)

-- and the links beside it
