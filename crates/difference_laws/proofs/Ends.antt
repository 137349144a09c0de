-- What the pairs that are left of two lists say of their values.
use Rattle.std.proofs.Common.{◌≡◌, ◌≢◌, ◌⊎◌, inl, inr, ℕ, ◌+◌, ◌≤◌, List, [], ◌∷◌, refl, sym, ap, ◌∙◌, arith, Option}
use Rattle.std.specs.declared.option.Option.TheVariants.{Some, None}
use Rattle.std.specs.declared.cmp.Ordering.{Ordering}
use Rattle.std.specs.declared.cmp.Ordering.TheVariants.{Less, Equal, Greater}
use Rattle.std.specs.List.{AllByRecursion}
use Rattle.spec.specs.Tree.{Pair}
use Rattle.spec.specs.Blocks.{value_of}
use Rattle.edit_laws.specs.Order.{order}
use Rattle.edit_laws.specs.Changes.{one_if_equal}
use Rattle.edit_laws.specs.Pairs.{Each, IsAfter, Ascending, value_in}
use Rattle.edit_laws.proofs.Orders.{order-same, order-equal, after-same, after-trans}
use Rattle.edit_laws.proofs.RecordMaps.{find-is}
use Rattle.change_laws.specs.Told.{KeyChange}
use Rattle.difference_laws.specs.Laws.{AreReal, IsDifference}
use Rattle.difference_laws.proofs.Weighing.{tally}

abbrev here : Ordering → ℕ → ℕ
here Less n = 0
here Equal n = n
here Greater n = 0

-- 1 for a pair of this key and this value
abbrev pub is_pair : List ℕ → List ℕ → Pair → ℕ
is_pair key v e = here (order e.0 key) (one_if_equal (order e.1 v))

abbrev pub meets : Option (List ℕ) → List ℕ → ℕ
meets None v = 0
meets (Some u) v = one_if_equal (order u v)

none-after : (key v : List ℕ) (es : List Pair) → Each (IsAfter key) es → tally (is_pair key v) es ≡ 0
none-after key v [] h = refl
none-after key v (e ∷ es) h = let i = none-after key v es h.1 in rw h.0 (omega arith)

later-all : (key k : List ℕ) (es : List Pair) → ((e : Pair) → order e.0 k ≡ Greater → order e.0 key ≡ Greater)
    → Each (IsAfter k) es → Each (IsAfter key) es
later-all key k [] f h = tt
later-all key k (e ∷ es) f h = (f e h.0, later-all key k es f h.1)

tally-case : (key v : List ℕ) (e : Pair) (es : List Pair) (o : Ordering) → order e.0 key ≡ o → Each (IsAfter e.0) es
    → tally (is_pair key v) es ≡ meets (value_in key es) v
    → tally (is_pair key v) (e ∷ es) ≡ meets (value_in key (e ∷ es)) v
tally-case key v e es Less q a i = rw q (omega arith)
tally-case key v e es Equal q a i =
    let z = none-after key v es (later-all key e.0 es (λ x h. after-same x.0 e.0 key h q) a) in rw q (omega arith)
tally-case key v e es Greater q a i =
    let z = none-after key v es (later-all key e.0 es (λ x h. after-trans x.0 e.0 key h q) a) in rw q (omega arith)

-- in order, a pair is there just where its key has its value
pub tally-meets : (key v : List ℕ) (es : List Pair) → Ascending es
    → tally (is_pair key v) es ≡ meets (value_in key es) v
tally-meets key v [] h = refl
tally-meets key v (e ∷ es) h = tally-case key v e es (order e.0 key) refl h.0 (tally-meets key v es h.1)

-- ---- values of which the same is met

meets-itself : (a : List ℕ) → meets (Some a) a ≡ 1
meets-itself a = ap one_if_equal (order-same a)

equal-of : (o : Ordering) → 1 ≤ one_if_equal o → o ≡ Equal
equal-of Less h = absurd (omega arith)
equal-of Equal h = refl
equal-of Greater h = absurd (omega arith)

met-is : (x : Option (List ℕ)) (a : List ℕ) → 1 ≤ meets x a → x ≡ Some a
met-is None a h = absurd (omega arith)
met-is (Some u) a h = ap (λ t. Some t) (order-equal u a (equal-of (order u a) h))

same-met : (x y : Option (List ℕ)) → ((v : List ℕ) → meets x v ≡ meets y v) → x ≡ y
same-met None None h = refl
same-met None (Some b) h = let i = h b in let j = meets-itself b in absurd (omega arith)
same-met (Some a) y h = let i = h a in let j = meets-itself a in sym (met-is y a (omega arith))

are-left : (p x q y : Option (List ℕ)) → ((v : List ℕ) → meets p v ≤ meets x v) → ((v : List ℕ) → meets q v ≤ meets y v)
    → ((v : List ℕ) → meets x v + meets q v ≡ meets y v + meets p v)
    → ((p ≡ x) × (q ≡ y)) ⊎ ((p ≡ None) × (q ≡ None) × (x ≡ y))
are-left (Some a) x q y f g h =
    let i = f a in let j = meets-itself a in
    let e : x ≡ Some a = met-is x a (omega arith) in
    inl (sym e, same-met q y (λ v. (let k = h v in let l = ap (λ t. meets t v) e in omega arith)))
are-left None x (Some b) y f g h =
    let i = g b in let j = meets-itself b in
    let e : y ≡ Some b = met-is y b (omega arith) in
    inl (same-met None x (λ v. (let k = h v in let l = ap (λ t. meets t v) e in omega arith)), sym e)
are-left None x None y f g h = inr (refl, refl, same-met x y (λ v. (let k = h v in omega arith)))

-- ---- what two lists differ by

-- what is left of two lists of pairs, in order: as many went of the one as of the other
pub record Left (es fs xs ys : List Pair) : Type 0 where
  pub old : Ascending es
  pub new : Ascending fs
  pub old_left : Ascending xs
  pub new_left : Ascending ys
  pub old_of : (f : Pair → ℕ) → tally f xs ≤ tally f es
  pub new_of : (f : Pair → ℕ) → tally f ys ≤ tally f fs
  pub even : (f : Pair → ℕ) → tally f es + tally f ys ≡ tally f fs + tally f xs

module _ (es fs xs ys : List Pair) (h : Left es fs xs ys) where
  left-at : (key : List ℕ) → ((value_of key xs ≡ value_of key es) × (value_of key ys ≡ value_of key fs))
      ⊎ ((value_of key xs ≡ None) × (value_of key ys ≡ None) × (value_of key es ≡ value_of key fs))
  left-at key =
      rw (find-is key xs h.old_left, find-is key es h.old, find-is key ys h.new_left, find-is key fs h.new)
      (are-left (value_in key xs) (value_in key es) (value_in key ys) (value_in key fs)
      (λ v. (let a = tally-meets key v xs h.old_left in let b = tally-meets key v es h.old in
      let c = h.old_of (is_pair key v) in omega arith))
      (λ v. (let a = tally-meets key v ys h.new_left in let b = tally-meets key v fs h.new in
      let c = h.new_of (is_pair key v) in omega arith))
      (λ v. (let a = tally-meets key v xs h.old_left in let b = tally-meets key v es h.old in
      let c = tally-meets key v ys h.new_left in let d = tally-meets key v fs h.new in
      let e = h.even (is_pair key v) in omega arith)))

  both-at : (c : KeyChange) → c.before ≢ c.after → value_of c.key xs ≡ c.before → value_of c.key ys ≡ c.after
      → (value_of c.key es ≡ c.before) × (value_of c.key fs ≡ c.after)
  both-at c real p q =
      elim (left-at c.key) [
        | inl w ↦ (sym w.0 ∙ p, sym w.1 ∙ q)
        | inr w ↦ absurd (real (sym p ∙ w.0 ∙ sym w.1 ∙ q))
      ]

  each-before : (cs : List KeyChange) → AreReal cs → AllByRecursion (λ c. value_of c.key xs ≡ c.before) cs
      → AllByRecursion (λ c. value_of c.key ys ≡ c.after) cs → AllByRecursion (λ c. value_of c.key es ≡ c.before) cs
  each-before [] r p q = tt
  each-before (c ∷ cs) r p q = ((both-at c r.0 p.0 q.0).0, each-before cs r.1 p.1 q.1)

  each-after : (cs : List KeyChange) → AreReal cs → AllByRecursion (λ c. value_of c.key xs ≡ c.before) cs
      → AllByRecursion (λ c. value_of c.key ys ≡ c.after) cs → AllByRecursion (λ c. value_of c.key fs ≡ c.after) cs
  each-after [] r p q = tt
  each-after (c ∷ cs) r p q = ((both-at c r.0 p.0 q.0).1, each-after cs r.1 p.1 q.1)

  other-at : (key : List ℕ) → value_of key xs ≡ value_of key ys → value_of key es ≡ value_of key fs
  other-at key e = elim (left-at key) [ inl w ↦ sym w.0 ∙ e ∙ w.1 | inr w ↦ w.2 ]

  pub differ-so : (cs : List KeyChange) → IsDifference cs xs ys → IsDifference cs es fs
  differ-so cs d = record {
    ascending = d.ascending;
    real = d.real;
    differ = record {
      before = each-before cs d.real d.differ.before d.differ.after;
      after = each-after cs d.real d.differ.before d.differ.after;
      others = λ key n. other-at key (d.differ.others key n);
    };
  }
