-- Lawful lists and maps, item by item.
use Rattle.std.proofs.Common.{◌≡◌, ℕ, zero, suc, ◌+◌, ◌-◌, ◌^◌, ◌<◌, ◌≤◌, ◌++◌, append_assoc, true, ltb, List, [], ◌∷◌, length, drop, get_or, None, Vec, refl, sym, ap, ◌∙◌, arith, rules}
use Rattle.std.specs.Borrow.{Bor}
use Rattle.std.proofs.lemmas.List.{at_drop_more, length-append}
use Rattle.std.proofs.lemmas.Bool.{lt-ltb}
use Rattle.spec.specs.Head.{head}
use Rattle.spec.specs.DagCbor.{Items, Fields, ValueThen, EntryThen, string, spelling, spelling_of_values, spelling_of_entries, count_values, count_entries, is_lawful_within, are_lawful_within, are_entries_within}
use Rattle.dagcbor.specs.View.{view, view_items, view_fields}
use Rattle.dagcbor.specs.declared.value.Value.{Value, List as ValueList, Map, the_lemmas}

pub view-List : {A : Type 0} → (v : Vec (Value A) A) → view (ValueList v) ≡ Items (view_items v.items)
view-List v = search (rules, the_lemmas)

pub view-Map : {A : Type 0} → (v : Vec (Bor (List ℕ) × Value A) A) → view (Map v) ≡ Fields (view_fields v.items)
view-Map v = search (rules, the_lemmas)

pub count_values-items : {A : Type 0} → (vs : List (Value A)) → count_values (view_items vs) ≡ length vs
count_values-items [] = refl
count_values-items (v ∷ vs) = ap suc (count_values-items vs)

pub count_entries-fields : {A : Type 0} → (ms : List (Bor (List ℕ) × Value A)) → count_entries (view_fields ms) ≡ length ms
count_entries-fields [] = refl
count_entries-fields (m ∷ ms) = ap suc (count_entries-fields ms)

pub lawful-List : {A : Type 0} → (levels : ℕ) (v : Vec (Value A) A) → 0 < levels → length v.items < 2 ^ 64 → are_lawful_within (levels - 1) (view_items v.items) ≡ is_lawful_within levels (view (ValueList v))
lawful-List zero v some few = absurd (omega arith)
lawful-List (suc levels) v some few =
    let e : suc levels - 1 ≡ levels = omega arith in
    let fits : ltb (count_values (view_items v.items)) (2 ^ 64) ≡ true = lt-ltb _ _ (rw (count_values-items v.items) few) in
    rw (e, view-List v, fits) refl

pub lawful-Map : {A : Type 0} → (levels : ℕ) (v : Vec (Bor (List ℕ) × Value A) A) → 0 < levels → length v.items < 2 ^ 64
    → are_entries_within (levels - 1) None (view_fields v.items) ≡ is_lawful_within levels (view (Map v))
lawful-Map zero v some few = absurd (omega arith)
lawful-Map (suc levels) v some few =
    let e : suc levels - 1 ≡ levels = omega arith in
    let fits : ltb (count_entries (view_fields v.items)) (2 ^ 64) ≡ true = lt-ltb _ _ (rw (count_entries-fields v.items) few) in
    rw (e, view-Map v, fits) refl

-- ---- what was written, and what is left to write

pub spelling-List : {A : Type 0} → (out : List ℕ) (v : Vec (Value A) A) → (out ++ head 4 (length v.items)) ++ spelling_of_values (view_items v.items) ≡ out ++ spelling (view (ValueList v))
spelling-List out v = rw (view-List v, count_values-items v.items) (append_assoc out (head 4 (length v.items)) (spelling_of_values (view_items v.items)))

pub spelling-Map : {A : Type 0} → (out : List ℕ) (v : Vec (Bor (List ℕ) × Value A) A) → (out ++ head 5 (length v.items)) ++ spelling_of_entries (view_fields v.items) ≡ out ++ spelling (view (Map v))
spelling-Map out v = rw (view-Map v, count_entries-fields v.items) (append_assoc out (head 5 (length v.items)) (spelling_of_entries (view_fields v.items)))

pub spelling-at : {A : Type 0} → (out : List ℕ) (vs : List (Value A)) (i : ℕ) (v : Value A) → i < length vs → v ≡ get_or vs i v
    → out ++ spelling_of_values (view_items (drop i vs)) ≡ (out ++ spelling (view v)) ++ spelling_of_values (view_items (drop (i + 1) vs))
spelling-at out vs i v lt is =
    let rest = view_items (drop (i + 1) vs) in
    at_drop_more (λ xs. out ++ spelling_of_values (view_items xs)) vs i v lt ∙ ap (λ x. out ++ spelling_of_values (ValueThen (view x) rest)) (sym is)
    ∙ sym (append_assoc out (spelling (view v)) (spelling_of_values rest))

grouped : (a b c d : List ℕ) → a ++ (b ++ c ++ d) ≡ ((a ++ b) ++ c) ++ d
grouped a b c d = rw (append_assoc (a ++ b) c d, append_assoc a b (c ++ d), append_assoc b c d) refl

pub entries-at : {A : Type 0} → (out : List ℕ) (ms : List (Bor (List ℕ) × Value A)) (i : ℕ) (m : Bor (List ℕ) × Value A) → i < length ms → m ≡ get_or ms i m
    → out ++ spelling_of_entries (view_fields (drop i ms)) ≡ ((out ++ string 3 m.0.now) ++ spelling (view m.1)) ++ spelling_of_entries (view_fields (drop (i + 1) ms))
entries-at out ms i m lt is =
    let rest = view_fields (drop (i + 1) ms) in
    at_drop_more (λ xs. out ++ spelling_of_entries (view_fields xs)) ms i m lt ∙ ap (λ x. out ++ spelling_of_entries (EntryThen x.0.now (view x.1) rest)) (sym is)
    ∙ grouped out (string 3 m.0.now) (spelling (view m.1)) (spelling_of_entries rest)

-- ---- a part is spelled in less room than the whole

pub item-within : {A : Type 0} → (vs : List (Value A)) (i : ℕ) (d : Value A) → i < length vs → length (spelling (view (get_or vs i d))) ≤ length (spelling_of_values (view_items vs))
item-within [] i d lt = absurd (omega arith)
item-within (v ∷ vs) zero d lt = omega (arith, length-append (spelling (view v)) (spelling_of_values (view_items vs)))
item-within (v ∷ vs) (suc i) d lt = omega (arith, length-append (spelling (view v)) (spelling_of_values (view_items vs)), item-within vs i d (omega arith))

pub field-within : {A : Type 0} → (ms : List (Bor (List ℕ) × Value A)) (i : ℕ) (d : Bor (List ℕ) × Value A) → i < length ms → length (spelling (view (get_or ms i d).1)) ≤ length (spelling_of_entries (view_fields ms))
field-within [] i d lt = absurd (omega arith)
field-within (m ∷ ms) zero d lt =
    let value = spelling (view m.1) in
    let key = string 3 m.0.now in
    let rest = spelling_of_entries (view_fields ms) in
    omega (arith, length-append (key ++ value) rest, length-append key value)
field-within (m ∷ ms) (suc i) d lt =
    let value = spelling (view m.1) in
    let key = string 3 m.0.now in
    let rest = spelling_of_entries (view_fields ms) in
    omega (arith, length-append (key ++ value) rest, length-append key value, field-within ms i d (omega arith))
