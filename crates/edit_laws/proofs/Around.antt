-- A list in order, taken apart at a key.
use Rattle.std.proofs.Common.{◌≡◌, ℕ, List, [], ◌∷◌, ◌++◌, refl, ap, Option}
use Rattle.std.specs.declared.option.Option.TheVariants.{Some, None}
use Rattle.std.specs.declared.cmp.Ordering.{Ordering}
use Rattle.std.specs.declared.cmp.Ordering.TheVariants.{Less, Equal, Greater}
use Rattle.edit_laws.specs.Order.{order}
use Rattle.spec.specs.Tree.{Pair}
use Rattle.edit_laws.specs.Pairs.{Each, IsBefore, IsAfter, Ascending, value_in}
use Rattle.edit_laws.proofs.Orders.{order-same, after-same, after-trans, order-equal}

-- the pairs with a key: none or one
pub data Here (key : List ℕ) : List Pair → Type 0 where
  absent : Here key []
  present : (e : Pair) → e.0 ≡ key → Here key (e ∷ [])

-- a list in order is what stands before a key, the pair with the key or nothing, and what stands after it
pub record Around (key : List ℕ) (es : List Pair) : Type 0 where
  pub front : List Pair
  pub mid : List Pair
  pub back : List Pair
  pub whole : es ≡ front ++ (mid ++ back)
  pub front_before : Each (IsBefore key) front
  pub mid_here : Here key mid
  pub back_after : Each (IsAfter key) back

abbrev pub value_of : List Pair → Option (List ℕ)
value_of [] = None
value_of (e ∷ es) = Some e.1

present-equal : (key : List ℕ) (e : Pair) → e.0 ≡ key → order e.0 key ≡ Equal
present-equal key e h = rw h (order-same key)

pub value_in-around : (key : List ℕ) (xs mid ys : List Pair) → Each (IsBefore key) xs → Here key mid
    → Each (IsAfter key) ys
    → value_in key (xs ++ (mid ++ ys)) ≡ value_of mid
value_in-around key (x ∷ xs) mid ys hx hm hy = rw hx.0 (value_in-around key xs mid ys hx.1 hm hy)
value_in-around key [] [] [] hx hm hy = refl
value_in-around key [] [] (y ∷ ys) hx hm hy = rw hy.0
value_in-around key [] (_ ∷ _) ys hx (present e q) hy = rw (present-equal key e q)

pub all-after-same : (key k : List ℕ) (es : List Pair) → order k key ≡ Equal → Each (IsAfter k) es
    → Each (IsAfter key) es
all-after-same key k [] h a = tt
all-after-same key k (e ∷ es) h a = (after-same e.0 k key a.0 h, all-after-same key k es h a.1)

pub all-after-trans : (key k : List ℕ) (es : List Pair) → order k key ≡ Greater → Each (IsAfter k) es
    → Each (IsAfter key) es
all-after-trans key k [] h a = tt
all-after-trans key k (e ∷ es) h a = (after-trans e.0 k key a.0 h, all-after-trans key k es h a.1)

around-first : (key : List ℕ) (e : Pair) (es : List Pair) (o : Ordering) → order e.0 key ≡ o → Each (IsAfter e.0) es
    → Around key es → Around key (e ∷ es)
around-first key e es Less h a r = record {
  front = e ∷ r.front;
  mid = r.mid;
  back = r.back;
  whole = ap (λ t. e ∷ t) r.whole;
  front_before = (h, r.front_before);
  mid_here = r.mid_here;
  back_after = r.back_after;
}
around-first key e es Equal h a r = record {
  front = [];
  mid = e ∷ [];
  back = es;
  whole = refl;
  front_before = tt;
  mid_here = present e (order-equal e.0 key h);
  back_after = all-after-same key e.0 es h a;
}
around-first key e es Greater h a r = record {
  front = [];
  mid = [];
  back = e ∷ es;
  whole = refl;
  front_before = tt;
  mid_here = absent;
  back_after = (h, all-after-trans key e.0 es h a);
}

pub around : (key : List ℕ) (es : List Pair) → Ascending es → Around key es
around key [] h = record {
  front = [];
  mid = [];
  back = [];
  whole = refl;
  front_before = tt;
  mid_here = absent;
  back_after = tt;
}
around key (e ∷ es) h = around-first key e es (order e.0 key) refl h.0 (around key es h.1)
