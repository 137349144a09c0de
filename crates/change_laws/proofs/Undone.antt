-- Changes undone, and the pairs that they leave.
use Rattle.std.proofs.Common.{◌≡◌, ℕ, List, [], ◌∷◌, refl, sym, ap, subst, ◌∙◌, Option}
use Rattle.std.specs.Prelude.{Contains}
use Rattle.std.specs.List.{AllByRecursion}
use Rattle.std.specs.declared.option.Option.TheVariants.{Some, None}
use Rattle.std.specs.declared.cmp.Ordering.{Ordering}
use Rattle.std.specs.declared.cmp.Ordering.TheVariants.{Less, Equal, Greater}
use Rattle.spec.specs.Layer.{layer}
use Rattle.spec.specs.Tree.{Pair, Node, Part, Last, More, Nothing, Sub, EachNode, EachUnder, top, pairs_in}
use Rattle.spec.specs.NodeFormat.{Shape, shape, shape_bytes, shape_cid, part_link}
use Rattle.spec.specs.Blocks.{ArePairs, nodes, value_of}
use Rattle.spec.proofs.SameTree.{Stands, same_shape}
use Rattle.spec.proofs.RootLaws.{stands-top}
use Rattle.spec.proofs.TreeLaws.{pairs-top}
use Rattle.edit_laws.specs.Order.{order}
use Rattle.edit_laws.proofs.Orders.{order-same, order-equal, turned}
use Rattle.edit_laws.proofs.RecordMaps.{ascending-sorted}
use Rattle.batch_laws.specs.Batch.{IsLater, at_key, if_same, changed, AreAscending}
use Rattle.batch_laws.specs.Collecting.{value_after}
use Rattle.batch_laws.proofs.Collected.{ascending-changed}
use Rattle.batch_laws.proofs.Lawful.{pairs-changed}
use Rattle.batch_laws.proofs.WritesAtOnce.{value-is_changed}
use Rattle.change_laws.specs.Told.{KeyChange, undone, DifferBy}
use Rattle.change_laws.specs.Laws.{OldIsUndone}
use Rattle.change_laws.proofs.Pairs.{values-name}

-- ---- what is told of a key

abbrev IsToldIn : List KeyChange → KeyChange → Type 0
IsToldIn cs d = at_key d.key (undone cs) ≡ Some d.before

told-later : (c : KeyChange) (rest ds : List KeyChange) → AllByRecursion (IsLater c.key) (undone ds)
    → AllByRecursion (IsToldIn rest) ds → AllByRecursion (IsToldIn (c ∷ rest)) ds
told-later c rest [] a h = tt
told-later c rest (d ∷ ds) a h = (rw (turned d.key c.key a.0) h.0, told-later c rest ds a.1 h.1)

told-each : (cs : List KeyChange) → AreAscending (undone cs) → AllByRecursion (IsToldIn cs) cs
told-each [] a = tt
told-each (c ∷ cs) a = (rw (order-same c.key) refl, told-later c cs cs a.0 (told-each cs a.1))

-- ---- undone changes differ by what is told

undone-each : (all cs : List KeyChange) (new : List Pair) → AreAscending (undone all) → ArePairs new
    → AllByRecursion (IsToldIn all) cs
    → AllByRecursion (λ c. value_of c.key (changed (undone all) new) ≡ c.before) cs
undone-each all [] new a are h = tt
undone-each all (c ∷ cs) new a are h = (
  value-is_changed c.key (undone all) new a are.sorted ∙ ap (λ o. value_after o (value_of c.key new)) h.0,
  undone-each all cs new a are h.1,
)

pub undone-differ : (cs : List KeyChange) (new : List Pair) → AreAscending (undone cs) → ArePairs new
    → AllByRecursion (λ c. value_of c.key new ≡ c.after) cs → DifferBy cs (changed (undone cs) new) new
undone-differ cs new a are h = record {
  before = undone-each cs cs new a are (told-each cs a);
  after = h;
  others = λ key none. value-is_changed key (undone cs) new a are.sorted
      ∙ ap (λ o. value_after o (value_of key new)) none;
}

-- ---- and lists that differ by it are undone

some-is : {A : Type 0} (x y : A) → ◌≡◌ {A = Option A} (Some x) (Some y) → x ≡ y
some-is x y q = cc

none-some : {A B : Type 0} (x : A) → ◌≡◌ {A = Option A} None (Some x) → B
none-some x q = absurd cc

abbrev Before : List Pair → KeyChange → Type 0
Before old c = value_of c.key old ≡ c.before

told-case : (c : KeyChange) (cs : List KeyChange) (old : List Pair) (key : List ℕ) (v : Option (List ℕ)) (o : Ordering)
    → order c.key key ≡ o → Before old c → (at_key key (undone cs) ≡ Some v → value_of key old ≡ v)
    → if_same o (c.key, c.before) (at_key key (undone cs)) ≡ Some v → value_of key old ≡ v
told-case c cs old key v Less q h i e = i e
told-case c cs old key v Equal q h i e =
    ap (λ k. value_of k old) (sym (order-equal c.key key q)) ∙ h ∙ some-is c.before v e
told-case c cs old key v Greater q h i e = i e

told-at : (cs : List KeyChange) (old : List Pair) (key : List ℕ) (v : Option (List ℕ)) → AllByRecursion (Before old) cs
    → at_key key (undone cs) ≡ Some v → value_of key old ≡ v
told-at [] old key v h e = none-some v e
told-at (c ∷ cs) old key v h e =
    told-case c cs old key v (order c.key key) refl h.0 (told-at cs old key v h.1) e

value-case : (cs : List KeyChange) (old new : List Pair) (key : List ℕ) → DifferBy cs old new
    → (o : Option (Option (List ℕ))) → at_key key (undone cs) ≡ o → value_of key old ≡ value_after o (value_of key new)
value-case cs old new key differ None q = differ.others key q
value-case cs old new key differ (Some v) q = told-at cs old key v differ.before q

pub differ-undone : (cs : List KeyChange) (old new : List Pair) → AreAscending (undone cs) → ArePairs old → ArePairs new
    → DifferBy cs old new → old ≡ changed (undone cs) new
differ-undone cs old new a are_old are_new differ =
    let asc = ascending-sorted new are_new.sorted in
    values-name old (changed (undone cs) new) (ascending-sorted old are_old.sorted)
    (ascending-changed (undone cs) new a asc)
    (λ key. value-case cs old new key differ (at_key key (undone cs)) refl
    ∙ sym (value-is_changed key (undone cs) new a are_new.sorted))

-- ---- two trees with one root, of which no two nodes clash, each of another tree

module _ (digest : List ℕ → List ℕ) (Here There : Shape → Type 0)
    (clashfree : (s t : Shape) → Here s → There t → shape_cid digest s ≡ shape_cid digest t → s ≡ t) where
  mutual
    cross-part : (p q : Part) → EachNode (λ m. Here (shape digest m)) p → EachNode (λ m. There (shape digest m)) q
        → part_link digest p ≡ part_link digest q → p ≡ q
    cross-part Nothing Nothing h k e = refl
    cross-part Nothing (Sub m) h k e = cc
    cross-part (Sub m) Nothing h k e = cc
    cross-part (Sub m) (Sub n) h k e =
        ap Sub (cross-node m n h.1 k.1 (clashfree (shape digest m) (shape digest n) h.0 k.0 (cc)))

    cross-node : (m n : Node) → EachUnder (λ m. Here (shape digest m)) m → EachUnder (λ m. There (shape digest m)) n
        → shape digest m ≡ shape digest n → m ≡ n
    cross-node (Last p) (Last q) h k e = ap Last (cross-part p q h k (cc))
    cross-node (Last p) (More q f s) h k e = cc
    cross-node (More p e r) (Last q) h k c = cc
    cross-node (More p e r) (More q f s) h k c =
        let i = cross-part p q h.0 k.0 (cc) in
        let j = cross-node r s h.1 k.1 (cc) in
        let f' : e ≡ f = cc in
        cc

pub old-is_undone : OldIsUndone
old-is_undone digest bits fits old new are_old are_new cs keyed own few free shown =
    let back = changed (undone cs) new in
    let are_back = pairs-changed (undone cs) new are_new keyed own few in
    let here = nodes digest bits old in
    let there = nodes digest bits back in
    let t = top (layer digest bits) old in
    let u = top (layer digest bits) back in
    let root_is = shown.root_is in
    let equal : Sub t ≡ Sub u = cross-part digest (Stands (Contains here)) (Stands (Contains there))
    (λ s t h k e. same_shape s t h.1 k.1 (free (shape_bytes s) (shape_bytes t) h.0 k.0 e)) (Sub t) (Sub u)
    (stands-top digest bits fits old are_old here (λ b c. c)) (stands-top digest bits fits back are_back there (λ b c. c))
    (ap (λ c. Some c) root_is) in
    let same = sym (pairs-top (layer digest bits) old) ∙ ap pairs_in equal ∙ pairs-top (layer digest bits) back in
    (same, subst (λ es. DifferBy cs es new) (sym same) shown.differ)
