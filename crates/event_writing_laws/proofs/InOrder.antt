-- Operations whose keys ascend stand in their order, and no two have one key.
use Rattle.std.proofs.Common.{◌≡◌, ℕ, suc, Bool, true, false, cond, List, [], ◌∷◌, ◌++◌, map, refl, sym, ap, ◌∙◌, append-nil, append_assoc}
use Rattle.std.specs.List.{AllByRecursion}
use Rattle.std.specs.declared.option.Option.TheVariants.{Some, None}
use Rattle.std.specs.declared.cmp.Ordering.TheVariants.{Greater}
use Rattle.edit_laws.specs.Order.{if_equal, order}
use Rattle.edit_laws.proofs.Orders.{turned}
use Rattle.batch_laws.specs.Batch.{AreAscending, IsLater}
use Rattle.change_laws.specs.Told.{KeyChange, undone}
use Rattle.event_laws.specs.Verdict.{Placed, doubled_after, insert_at, insert_op, is_seen, ordered, ordered_ops, placed_from}

abbrev Keys : Type 0
Keys = List (List ℕ)

-- these keys stand before those of all of these operations
abbrev AreBelow : Keys → List KeyChange → Type 0
AreBelow ks cs = AllByRecursion (λ k. AllByRecursion (IsLater k) (undone cs)) ks

below-first : (c : KeyChange) (cs : List KeyChange) (ks : Keys) → AreBelow ks (c ∷ cs)
    → AllByRecursion (λ k. order c.key k ≡ Greater) ks
below-first c cs [] h = tt
below-first c cs (k ∷ ks) h = (h.0.0, below-first c cs ks h.1)

below-rest : (c : KeyChange) (cs : List KeyChange) (ks : Keys) → AreBelow ks (c ∷ cs) → AreBelow ks cs
below-rest c cs [] h = tt
below-rest c cs (k ∷ ks) h = (h.0.1, below-rest c cs ks h.1)

-- ---- no key twice

unseen : (ks : Keys) (key : List ℕ) → AllByRecursion (λ k. order key k ≡ Greater) ks → is_seen ks key ≡ false
unseen [] key h = refl
unseen (k ∷ ks) key h = ap (λ o. if_equal o true (is_seen ks key)) (turned key k h.0) ∙ unseen ks key h.1

single-after : (ks : Keys) (place : ℕ) (cs : List KeyChange) → AreAscending (undone cs) → AreBelow ks cs
    → doubled_after ks place cs ≡ None
single-after ks place [] a h = refl
single-after ks place (c ∷ cs) a h =
    ap (λ (b : Bool). cond b (Some place) (doubled_after (c.key ∷ ks) (suc place) cs)) (unseen ks c.key (below-first c cs ks h))
    ∙ single-after (c.key ∷ ks) (suc place) cs a.1 (a.0, below-rest c cs ks h)

pub single-ascending : (cs : List KeyChange) → AreAscending (undone cs) → doubled_after [] 0 cs ≡ None
single-ascending cs a = single-after [] 0 cs a tt

-- ---- in their order

abbrev keys_of : List Placed → Keys
keys_of ds = map (λ d. d.1.key) ds

below-more : (d : Placed) (cs : List KeyChange) (ds : List Placed) → AllByRecursion (IsLater d.1.key) (undone cs)
    → AreBelow (keys_of ds) cs → AreBelow (keys_of (ds ++ d ∷ [])) cs
below-more d cs [] k h = (k, tt)
below-more d cs (x ∷ ds) k h = (h.0, below-more d cs ds k h.1)

insert-last : (c : Placed) (ds : List Placed) → AllByRecursion (λ k. order c.1.key k ≡ Greater) (keys_of ds)
    → insert_op c ds ≡ ds ++ c ∷ []
insert-last c [] h = refl
insert-last c (d ∷ ds) h =
    ap (λ o. insert_at o c d ds (insert_op c ds)) (turned c.1.key d.1.key h.0)
    ∙ ap (λ (xs : List Placed). d ∷ xs) (insert-last c ds h.1)

appended : (place : ℕ) (sorted : List Placed) (cs : List KeyChange) → AreAscending (undone cs) → AreBelow (keys_of sorted) cs
    → ordered sorted (placed_from place cs) ≡ sorted ++ placed_from place cs
appended place sorted [] a h = sym (append-nil sorted)
appended place sorted (c ∷ cs) a h =
    ap (λ (xs : List Placed). ordered xs (placed_from (suc place) cs))
    (insert-last (place, c) sorted (below-first c cs (keys_of sorted) h))
    ∙ appended (suc place) (sorted ++ (place, c) ∷ []) cs a.1
    (below-more (place, c) cs sorted a.0 (below-rest c cs (keys_of sorted) h))
    ∙ append_assoc sorted ((place, c) ∷ []) (placed_from (suc place) cs)

placed-changes : (place : ℕ) (cs : List KeyChange) → map (λ x. x.1) (placed_from place cs) ≡ cs
placed-changes place [] = refl
placed-changes place (c ∷ cs) = ap (λ (xs : List KeyChange). c ∷ xs) (placed-changes (suc place) cs)

pub in-order : (cs : List KeyChange) → AreAscending (undone cs) → ordered_ops cs ≡ cs
in-order cs a = ap (map (λ (x : Placed). x.1)) (appended 0 [] cs a tt) ∙ placed-changes 0 cs
