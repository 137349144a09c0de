-- What the walk meets are the values that the changed keys had.
use Rattle.std.proofs.Common.{◌≡◌, ℕ, zero, suc, List, [], ◌∷◌, ◌++◌, map, refl, sym, ap, subst, ◌∙◌, Option}
use Rattle.std.specs.declared.option.Option.TheVariants.{Some}
use Rattle.std.specs.declared.cmp.Ordering.{Ordering}
use Rattle.std.specs.declared.cmp.Ordering.TheVariants.{Less, Equal, Greater}
use Rattle.spec.specs.Layer.{layer}
use Rattle.spec.specs.Tree.{Pair, Node, Part, Last, More, Nothing, Sub, EachUnder, pairs_in, pairs_under, top}
use Rattle.spec.specs.NodeFormat.{Shape, shape, part_link, shape_cid}
use Rattle.spec.proofs.TreeLaws.{pairs-top}
use Rattle.edit_laws.specs.Order.{order}
use Rattle.edit_laws.specs.Pairs.{Each, Ascending, IsBefore, value_in, value_first}
use Rattle.edit_laws.specs.Sources.{Holds, shown_by}
use Rattle.edit_laws.specs.TreeEdit.{layer_of}
use Rattle.edit_laws.proofs.Within.{within-top, IsWithin, AllWithin}
use Rattle.edit_laws.proofs.EachPair.{halves}
use Rattle.edit_laws.proofs.Orders.{order-equal, order-same, turned, turned_back, before-trans}
use Rattle.edit_laws.proofs.OverSource.{holds-top}
use Rattle.edit_laws.proofs.RecordMaps.{ascending-sorted, find-is}
use Rattle.batch_laws.specs.Batch.{Change, if_less, if_greater, before, at_key, after, AreAscending}
use Rattle.batch_laws.specs.Previous.{values, value_met, previous_node, previous_gap}
use Rattle.batch_laws.specs.Laws.Sources.{PreviousIsValues}
use Rattle.batch_laws.proofs.Bridges.{layer-same}
use Rattle.batch_laws.proofs.OneByOne.{AllLater, later-before, later-at, later-after, later-same, later-trans}

abbrev pub Value : Type 0
Value = Option (List ℕ)

abbrev pub values_in : List Change → List Pair → List Value
values_in cs es = map (λ c. value_in c.0 es) cs

-- ---- changes before and after a key

each-before : (k key : List ℕ) (cs : List Change) → AllLater k cs → AllLater k (before key cs)
each-before k key [] h = tt
each-before k key (c ∷ cs) h = each-less k key c cs (order c.0 key) h (each-before k key cs h.1)
  where
    each-less : (k key : List ℕ) (c : Change) (cs : List Change) (o : Ordering) → AllLater k (c ∷ cs)
        → AllLater k (before key cs) → AllLater k (if_less o c (before key cs))
    each-less k key c cs Less h i = (h.0, i)
    each-less k key c cs Equal h i = i
    each-less k key c cs Greater h i = i

-- those before a key still ascend, and those after it
pub ascending-before : (key : List ℕ) (cs : List Change) → AreAscending cs → AreAscending (before key cs)
ascending-before key [] h = tt
ascending-before key (c ∷ cs) h =
    ascending-less key c cs (order c.0 key) (each-before c.0 key cs h.0) (ascending-before key cs h.1)
  where
    ascending-less : (key : List ℕ) (c : Change) (cs : List Change) (o : Ordering) → AllLater c.0 (before key cs)
        → AreAscending (before key cs) → AreAscending (if_less o c (before key cs))
    ascending-less key c cs Less h i = (h, i)
    ascending-less key c cs Equal h i = i
    ascending-less key c cs Greater h i = i

-- the first change after a key comes with all later ones
pub ascending-after : (key : List ℕ) (cs : List Change) → AreAscending cs → AreAscending (after key cs)
ascending-after key [] h = tt
ascending-after key (c ∷ cs) h = ascending-greater key c cs (order c.0 key) refl h (ascending-after key cs h.1)
  where
    ascending-greater : (key : List ℕ) (c : Change) (cs : List Change) (o : Ordering) → order c.0 key ≡ o
        → AreAscending (c ∷ cs) → AreAscending (after key cs) → AreAscending (if_greater o c (after key cs))
    ascending-greater key c cs Less q h i = i
    ascending-greater key c cs Equal q h i = i
    ascending-greater key c cs Greater q h i =
        subst (λ t. AreAscending (c ∷ t)) (sym (later-after key cs (later-trans key c.0 cs q h.0))) h

-- ---- the value of a key around a pair

value-before : (key : List ℕ) (xs : List Pair) (e : Pair) (ys : List Pair) → order e.0 key ≡ Greater
    → value_in key (xs ++ (e ∷ ys)) ≡ value_in key xs
value-before key [] e ys g = rw g refl
value-before key (x ∷ xs) e ys g = ap (value_first (order x.0 key) x) (value-before key xs e ys g)

value-at : (key : List ℕ) (xs : List Pair) (e : Pair) (ys : List Pair) → key ≡ e.0 → Each (IsBefore e.0) xs
    → value_in key (xs ++ (e ∷ ys)) ≡ Some e.1
value-at key [] e ys q h = let o : order e.0 key ≡ Equal = subst (λ k. order e.0 k ≡ Equal) (sym q) (order-same e.0) in
    rw o refl
value-at key (x ∷ xs) e ys q h = let o : order x.0 key ≡ Less = subst (λ k. order x.0 k ≡ Less) (sym q) h.0 in
    rw o (value-at key xs e ys q h.1)

value-after : (key : List ℕ) (xs : List Pair) (e : Pair) (ys : List Pair) → order e.0 key ≡ Less
    → Each (IsBefore e.0) xs → value_in key (xs ++ (e ∷ ys)) ≡ value_in key ys
value-after key [] e ys l h = rw l refl
value-after key (x ∷ xs) e ys l h = rw (before-trans x.0 e.0 key h.0 l) (value-after key xs e ys l h.1)

-- ---- the values of changes around a pair

both-same : (x y : Value) (xs ys : List Value) → x ≡ y → xs ≡ ys → x ∷ xs ≡ y ∷ ys
both-same x y xs ys q r = rw (q, r) refl

values-after : (cs : List Change) (xs : List Pair) (e : Pair) (ys : List Pair) → AllLater e.0 cs
    → Each (IsBefore e.0) xs → values_in cs (xs ++ (e ∷ ys)) ≡ values_in cs ys
values-after [] xs e ys a h = refl
values-after (c ∷ cs) xs e ys a h =
    both-same _ _ _ _ (value-after c.0 xs e ys (turned c.0 e.0 a.0) h) (values-after cs xs e ys a.1 h)

abbrev ValuesAt : List Change → List Pair → Pair → List Pair → Type 0
ValuesAt cs xs e ys = values_in cs (xs ++ (e ∷ ys))
    ≡ values_in (before e.0 cs) xs ++ (value_met (at_key e.0 cs) e ++ values_in (after e.0 cs) ys)

values-case : (c : Change) (cs : List Change) (xs : List Pair) (e : Pair) (ys : List Pair) (o : Ordering)
    → order c.0 e.0 ≡ o → AllLater c.0 cs → Each (IsBefore e.0) xs → ValuesAt cs xs e ys → ValuesAt (c ∷ cs) xs e ys
values-case c cs xs e ys Less q a h i =
    rw q (both-same _ _ _ _ (value-before c.0 xs e ys (turned_back c.0 e.0 q)) i)
values-case c cs xs e ys Equal q a h i =
    let k = order-equal c.0 e.0 q in
    let l = later-same e.0 c.0 cs (sym k) a in
    rw (q, later-before e.0 cs l, later-after e.0 cs l)
    (both-same _ _ _ _ (value-at c.0 xs e ys k h) (values-after cs xs e ys l h))
values-case c cs xs e ys Greater q a h i =
    let l = later-trans e.0 c.0 cs q a in
    rw (q, later-before e.0 cs l, later-at e.0 cs l, later-after e.0 cs l)
    (values-after (c ∷ cs) xs e ys (q, l) h)

pub values-at : (cs : List Change) (xs : List Pair) (e : Pair) (ys : List Pair) → AreAscending cs → Each (IsBefore e.0) xs
    → ValuesAt cs xs e ys
values-at [] xs e ys a h = refl
values-at (c ∷ cs) xs e ys a h = values-case c cs xs e ys (order c.0 e.0) refl a.0 h (values-at cs xs e ys a.1 h)

-- ---- over a source that shows the nodes of a tree

module _ (digest : List ℕ → List ℕ) (shows : List ℕ → Option Shape) where
  abbrev Shown : Node → Type 0
  Shown m = shows (shape_cid digest (shape digest m)) ≡ Some (shape digest m)

  abbrev Meets : ℕ → Type 0
  Meets k = (p : Part) (cs : List Change) → IsWithin k p → Holds digest shows p → Ascending (pairs_in p)
      → AreAscending cs → previous_gap shows k (part_link digest p) cs ≡ values_in cs (pairs_in p)

  meets-node : (k : ℕ) → Meets k → (m : Node) (cs : List Change) → AllWithin k m → EachUnder Shown m
      → Ascending (pairs_under m) → AreAscending cs
      → previous_node (previous_gap shows k) cs (shape digest m) ≡ values_in cs (pairs_under m)
  meets-node k ih (Last p) cs w v a h = ih p cs w v a h
  meets-node k ih (More p e r) cs w v a h =
      let parts = halves (pairs_in p) e (pairs_under r) a in
      rw (
        ih p (before e.0 cs) w.0 v.0 parts.front (ascending-before e.0 cs h),
        meets-node k ih r (after e.0 cs) w.1 v.1 parts.back (ascending-after e.0 cs h),
      )
      (sym (values-at cs (pairs_in p) e (pairs_under r) h parts.before))

  meets : (k : ℕ) → Meets k
  meets zero Nothing cs w v a h = refl
  meets (suc k) Nothing cs w v a h = refl
  meets zero (Sub m) cs w v a h = absurd w
  meets (suc k) (Sub m) [] w v a h = refl
  meets (suc k) (Sub m) (c ∷ cs) w v a h = rw v.0 (meets-node k (meets k) m (c ∷ cs) w v.1 a h)

pub values-same : (cs : List Change) (es : List Pair) → Ascending es → values_in cs es ≡ values cs es
values-same [] es a = refl
values-same (c ∷ cs) es a = both-same _ _ _ _ (sym (find-is c.0 es a)) (values-same cs es a)

pub previous-is_values : PreviousIsValues
previous-is_values digest bits fits gives cs es are has h =
    let lay = layer digest bits in
    let shows = shown_by gives in
    let m = top lay es in
    let k = layer_of lay m in
    let a = ascending-sorted es are.sorted in
    let q = pairs-top lay es in
    rw (layer-same digest shows lay m)
    (meets-node digest shows k (meets digest shows k) m cs (within-top lay es)
    (holds-top digest bits fits gives es are has).1 (subst Ascending (sym q) a) h)
    ∙ ap (values_in cs) q ∙ values-same cs es a
