-- Operations put into their places one after the other.
use Rattle.std.proofs.Common.{◌≡◌, ℕ, suc, ◌+◌, ◌<◌, ◌≤◌, Bool, true, false, List, [], ◌∷◌, length, drop, get_or, refl, sym, ap, ◌∙◌, arith}
use Rattle.std.specs.List.{insert}
use Rattle.std.specs.Ordering.{is_gt}
use Rattle.std.proofs.lemmas.List.{at_drop_more, drop_all}
use Rattle.std.specs.declared.cmp.Ordering.{Ordering}
use Rattle.std.specs.declared.cmp.Ordering.TheVariants.{Less, Equal, Greater}
use Rattle.edit_laws.specs.Order.{order}
use Rattle.change_laws.specs.Told.{KeyChange}
use Rattle.event_laws.specs.Verdict.{Placed, insert_at, insert_op, ordered, placed_from}
use Rattle.commit_events.specs.Order.{further, place_among}

-- ---- where one goes

further-yes : (o : Ordering) (n : ℕ) → is_gt o ≡ true → further o n ≡ 0
further-yes Less n h = absurd cc
further-yes Equal n h = absurd cc
further-yes Greater n h = refl

further-no : (o : Ordering) (n : ℕ) → is_gt o ≡ false → further o n ≡ suc n
further-no Less n h = refl
further-no Equal n h = refl
further-no Greater n h = absurd cc

-- with those that were passed, it goes where it goes among those to come
abbrev pub Passed : List Placed → List ℕ → ℕ → Type 0
Passed ds key i = i + place_among (drop i ds) key ≡ place_among ds key

among-at : (ds : List Placed) (key : List ℕ) (i : ℕ) (d : Placed) → i < length ds → d ≡ get_or ds i d
    → place_among (drop i ds) key ≡ further (order d.1.key key) (place_among (drop (i + 1) ds) key)
among-at ds key i d lt is =
    at_drop_more (λ xs. place_among xs key) ds i d lt
    ∙ ap (λ (x : Placed). place_among (x ∷ drop (i + 1) ds) key) (sym is)

pub passed-next : (ds : List Placed) (key : List ℕ) (i : ℕ) (d : Placed) (b : Bool) → i < length ds → d ≡ get_or ds i d
    → b ≡ is_gt (order d.1.key key) → b ≡ false → Passed ds key i → Passed ds key (i + 1)
passed-next ds key i d b lt is e false_is h =
    let n = place_among (drop (i + 1) ds) key in
    let f = among-at ds key i d lt is ∙ further-no (order d.1.key key) n (sym e ∙ false_is) in
    omega arith

pub passed-here : (ds : List Placed) (key : List ℕ) (i : ℕ) (d : Placed) (b : Bool) → i < length ds → d ≡ get_or ds i d
    → b ≡ is_gt (order d.1.key key) → b ≡ true → Passed ds key i → i ≡ place_among ds key
passed-here ds key i d b lt is e true_is h =
    let n = place_among (drop (i + 1) ds) key in
    let f = among-at ds key i d lt is ∙ further-yes (order d.1.key key) n (sym e ∙ true_is) in
    omega arith

pub passed-all : (ds : List Placed) (key : List ℕ) (i n : ℕ) → length ds ≤ i → n ≡ length ds → i ≤ length ds → Passed ds key i
    → n ≡ place_among ds key
passed-all ds key i n all is most h =
    let f : place_among (drop i ds) key ≡ 0 = ap (λ (xs : List Placed). place_among xs key) (drop_all i ds all) in
    omega arith

-- ---- and goes there

inserted-at : (o : Ordering) (c d : Placed) (ds more : List Placed) (n : ℕ) → more ≡ insert ds n c
    → insert (d ∷ ds) (further o n) c ≡ insert_at o c d ds more
inserted-at Less c d ds more n h = ap (λ (xs : List Placed). d ∷ xs) (sym h)
inserted-at Equal c d ds more n h = ap (λ (xs : List Placed). d ∷ xs) (sym h)
inserted-at Greater c d ds more n h = refl

pub inserted : (c : Placed) (ds : List Placed) → insert ds (place_among ds c.1.key) c ≡ insert_op c ds
inserted c [] = refl
inserted c (d ∷ ds) =
    inserted-at (order d.1.key c.1.key) c d ds (insert_op c ds) (place_among ds c.1.key) (sym (inserted c ds))

-- ---- one after the other

-- those put into their places and those from a place on make all in order
abbrev pub Orders : List Placed → List KeyChange → ℕ → Type 0
Orders ds cs i = ordered ds (placed_from i (drop i cs)) ≡ ordered [] (placed_from 0 cs)

pub orders-next : (ds more : List Placed) (cs : List KeyChange) (i n : ℕ) (op copy : KeyChange) → i < length cs
    → op ≡ get_or cs i op → copy ≡ op → n ≡ place_among ds op.key → more ≡ insert ds n (i, copy) → Orders ds cs i
    → Orders more cs (i + 1)
orders-next ds more cs i n op copy lt is same at put h =
    let next : i + 1 ≡ suc i = omega arith in
    let rest = drop (i + 1) cs in
    let here : drop i cs ≡ op ∷ rest =
    at_drop_more (λ xs. xs) cs i op lt ∙ ap (λ (x : KeyChange). x ∷ rest) (sym is) in
    let there : more ≡ insert_op (i, op) ds =
    put ∙ ap (λ (c : KeyChange). insert ds n (i, c)) same ∙ ap (λ (k : ℕ). insert ds k (i, op)) at ∙ inserted (i, op) ds in
    ap (λ (xs : List Placed). ordered xs (placed_from (i + 1) rest)) there
    ∙ ap (λ (k : ℕ). ordered (insert_op (i, op) ds) (placed_from k rest)) next
    ∙ sym (ap (λ (xs : List KeyChange). ordered ds (placed_from i xs)) here) ∙ h

pub orders-all : (ds : List Placed) (cs : List KeyChange) (i : ℕ) → length cs ≤ i → Orders ds cs i
    → ds ≡ ordered [] (placed_from 0 cs)
orders-all ds cs i all h = sym (ap (λ (xs : List KeyChange). ordered ds (placed_from i xs)) (drop_all i cs all)) ∙ h
