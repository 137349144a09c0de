-- What is told of two trees.
use Rattle.std.proofs.Common.{◌≡◌, ◌≢◌, inl, inr, ℕ, zero, suc, ◌+◌, ◌<◌, ◌≤◌, max, Bool, true, false, nat_eq, ◌&&◌, ◌||◌, List, [], ◌∷◌, ◌++◌, map, refl, sym, ap, ◌∙◌, subst, arith, Option, Result, Ok, Err}
use Rattle.std.proofs.lemmas.Bool.Decides.{nat_tests}
use Rattle.std.proofs.lemmas.Slice.Eq.{bytes_eq-Decides}
use Rattle.std.specs.Prelude.{Contains}
use Rattle.std.specs.Arc.{arc_value}
use Rattle.std.specs.List.{AllByRecursion}
use Rattle.std.specs.declared.sync.Arc.{Arc}
use Rattle.std.specs.declared.option.Option.TheVariants.{Some, None}
use Rattle.std.specs.declared.cmp.Ordering.{Ordering}
use Rattle.std.specs.declared.cmp.Ordering.TheVariants.{Less, Equal, Greater}
use Rattle.spec.specs.Cid.{IsDigest, cid}
use Rattle.spec.specs.Layer.{layer}
use Rattle.spec.specs.Tree.{Pair}
use Rattle.spec.specs.NodeFormat.{Shape, LastLink, is_key}
use Rattle.spec.specs.Blocks.{ArePairs, nodes, value_of}
use Rattle.spec.proofs.RootLaws.{in_head, in_tail}
use Rattle.spec.specs.Reading.{◌>>=◌}
use Rattle.edit_laws.specs.Changes.{count, has_cid, one_if_equal}
use Rattle.edit_laws.specs.Order.{order}
use Rattle.edit_laws.specs.Pairs.{Ascending, value_in, value_first}
use Rattle.edit_laws.specs.ShapeEdit.{layer_of_shape}
use Rattle.edit_laws.proofs.Lists.{contains-counted, counted-contains, count-map, From, from-map}
use Rattle.edit_laws.proofs.Orders.{order-equal, order-same}
use Rattle.edit_laws.proofs.RecordMaps.{ascending-sorted, find-is}
use Rattle.lookups.specs.Steps.{nodes_given}
use Rattle.lookups.specs.Trees.{HasTree, bytes_given}
use Rattle.batch_laws.specs.Batch.{AreKeyed}
use Rattle.change_laws.specs.Told.{KeyChange, undone}
use Rattle.difference_laws.specs.Lines.{Side, Stop, NotShown, both_opened, compared, compared_at, level, levels, links_in, opened_when, pairs_of, shared_when, side_at, unless}
use Rattle.difference_laws.specs.Lines as lines
use Rattle.difference_laws.specs.Laws.{AreReal, AreUnshared, HaveCompared, IsDifference, blocks_read}
use Rattle.difference_laws.proofs.Compared.{trees-compared}
use Rattle.difference.specs.Differences.{AreTold, EndsAt, IsDifferenceOf, IsReason, IsTold, IsUnended, IsWant}
use Rattle.difference.specs.Merged.{changes_told}
use Rattle.difference.specs.Sides.{IsStopped}
use Rattle.difference.specs.declared.outcome.Difference.{Difference}
use Rattle.difference.specs.declared.outcome.KeyDifference.{KeyDifference}
use Rattle.difference.proofs.Opens.{ok-is}
use Rattle.difference.specs.declared.faults.DifferenceFault.{DifferenceFault}
use Rattle.difference.specs.declared.faults.DifferenceFault.TheVariants.{BlockMissing, BadNode, TooDeep, NotTree, NoMemory}

-- ---- the keys of a difference are keys

key-case : (key v : List ℕ) (e : Pair) (rest : Option (List ℕ)) (o : Ordering) → order e.0 key ≡ o → is_key e.0 ≡ true
    → (rest ≡ Some v → is_key key ≡ true) → value_first o e rest ≡ Some v → is_key key ≡ true
key-case key v e rest Less q k f h = f h
key-case key v e rest Equal q k f h = ap is_key (sym (order-equal e.0 key q)) ∙ k
key-case key v e rest Greater q k f h = absurd cc

key-of : (key v : List ℕ) (es : List Pair) → AllByRecursion (λ e. is_key e.0 ≡ true) es → value_in key es ≡ Some v
    → is_key key ≡ true
key-of key v [] k h = absurd cc
key-of key v (e ∷ es) k h = key-case key v e (value_in key es) (order e.0 key) refl k.0 (key-of key v es k.1) h

module _ (es fs : List Pair) (are_es : ArePairs es) (are_fs : ArePairs fs) where
  key-is : (c : KeyChange) (o p : Option (List ℕ)) → c.before ≡ o → c.after ≡ p → c.before ≢ c.after
      → value_of c.key es ≡ c.before → value_of c.key fs ≡ c.after → is_key c.key ≡ true
  key-is c (Some v) p q r real h i =
      key-of c.key v es are_es.keys (sym (find-is c.key es (ascending-sorted es are_es.sorted)) ∙ h ∙ q)
  key-is c None (Some w) q r real h i =
      key-of c.key w fs are_fs.keys (sym (find-is c.key fs (ascending-sorted fs are_fs.sorted)) ∙ i ∙ r)
  key-is c None None q r real h i = absurd (real (q ∙ sym r))

  keys-are : (cs : List KeyChange) → AreReal cs → AllByRecursion (λ c. value_of c.key es ≡ c.before) cs
      → AllByRecursion (λ c. value_of c.key fs ≡ c.after) cs → AllByRecursion (λ c. is_key c.0 ≡ true) (undone cs)
  keys-are [] r p q = tt
  keys-are (c ∷ cs) r p q = (key-is c c.before c.after refl refl r.0 p.0 q.0, keys-are cs r.1 p.1 q.1)

  pub keyed : (cs : List KeyChange) → IsDifference cs es fs → AreKeyed (undone cs)
  keyed cs d = record { ascending = d.ascending; keys = keys-are cs d.real d.differ.before d.differ.after }

-- ---- CIDs of blocks of which each stands once

some-is : {A : Type 0} (x y : A) → ◌≡◌ {A = Option A} (Some x) (Some y) → x ≡ y
some-is x y q = cc

module _ (digest : List ℕ → List ℕ) (bits : ℕ) (gives : List ℕ → Option (List ℕ)) (es fs : List Pair)
    (has : (b : List ℕ) → Contains (nodes digest bits es) b → gives (cid digest b) ≡ Some b) where
  go-from : (go : List (List ℕ)) (c : List ℕ) → 0 < count c (map (cid digest) go)
      → (b : List ℕ) × Contains go b × (cid digest b ≡ c)
  go-from go c k =
      let f : From (cid digest) c go = from-map (cid digest) c go k in (f.source, contains-counted f.source go f.stands, f.is)

  go-has : (go : List (List ℕ)) (b c : List ℕ) → cid digest b ≡ c → Contains go b → 0 < count c (map (cid digest) go)
  go-has go b c e h =
      let i = counted-contains b go h in
      let j = count-map (cid digest) b go in
      subst (λ x. 0 < count x (map (cid digest) go)) e (omega arith)

  -- one more CID is another's only where the block is
  once-at : (b c : List ℕ) (go : List (List ℕ)) (n : ℕ) → count c (map (cid digest) go) ≡ n → cid digest b ≡ c
      → ((x : List ℕ) → Contains go x → cid digest x ≡ cid digest b → ⊥) → 1 + n ≤ 1
  once-at b c go zero e q f = omega arith
  once-at b c go (suc n) e q f = let s = go-from go c (omega arith) in absurd (f s.0 s.1 (s.2 ∙ sym q))

  once-case : (b c : List ℕ) (go : List (List ℕ)) (o : Ordering) → order (cid digest b) c ≡ o
      → ((x : List ℕ) → Contains go x → cid digest x ≡ cid digest b → ⊥) → count c (map (cid digest) go) ≤ 1
      → one_if_equal o + count c (map (cid digest) go) ≤ 1
  once-case b c go Less q f l = omega arith
  once-case b c go Greater q f l = omega arith
  once-case b c go Equal q f l = once-at b c go (count c (map (cid digest) go)) refl (order-equal (cid digest b) c q) f

  none-same : (b : List ℕ) (go : List (List ℕ)) → count b go ≡ 0 → ((x : List ℕ) → Contains (b ∷ go) x → Contains (nodes digest bits es) x)
      → (x : List ℕ) → Contains go x → cid digest x ≡ cid digest b → ⊥
  none-same b go z all x h e =
      let same : x ≡ b = some-is x b (sym (has x (all x (in_tail b x go h))) ∙ ap gives e ∙ has b (all b (in_head b go))) in
      let k : 0 < count b go = counted-contains b go (subst (Contains go) same h) in
      absurd (omega arith)

  once-cids : (go : List (List ℕ)) → ((b : List ℕ) → count b go ≤ 1)
      → ((b : List ℕ) → Contains go b → Contains (nodes digest bits es) b) → (c : List ℕ) → count c (map (cid digest) go) ≤ 1
  once-cids [] once all c = omega arith
  once-cids (b ∷ go) once all c =
      let here : one_if_equal (order b b) ≡ 1 = ap one_if_equal (order-same b) in
      let l = once b in
      let none : count b go ≡ 0 = omega arith in
      once-case b c go (order (cid digest b) c) refl (none-same b go none all)
      (once-cids go (λ x. (let m = once x in omega arith)) (λ x h. all x (in_tail b x go h)) c)

  pub differs : (are_es : ArePairs es) (are_fs : ArePairs fs) (changes : List KeyChange) (go come : List (List ℕ))
      → IsDifference changes es fs → AreUnshared digest bits es fs go come
      → IsDifferenceOf digest bits es fs changes come (map (cid digest) go)
  differs are_es are_fs changes go come d u = record {
    differ = d;
    keyed = keyed es fs are_es are_fs changes d;
    come_is = u.come_is;
    come_once = u.come_once;
    go_is = λ c. (
      (λ h. let s = go-from go c (counted-contains c (map (cid digest) go) h) in
          let i = (u.go_is s.0).0 s.1 in (s.0, i.0, i.1, s.2)),
      (λ h. contains-counted c (map (cid digest) go) (go-has go h.0 c h.3 ((u.go_is h.0).1 (h.1, h.2)))),
    );
    go_once = once-cids go u.go_once (λ b h. ((u.go_is b).0 h).0);
  }

-- ---- where opening ends

ends-same : (step : Result (Side × Side) Stop) (a b c d : Side) → step ≡ Ok (a, b) → step ≡ Ok (c, d) → (a ≡ c) × (b ≡ d)
ends-same step a b c d h k =
    let e : (a, b) ≡ (c, d) = ok-is (a, b) (c, d) (sym h ∙ k) in (ap (λ z. z.0) e, ap (λ z. z.1) e)

module _ {A : Type 0} (digest : List ℕ → List ℕ) (bits : ℕ) (fits : IsDigest digest) (gives : List ℕ → Option (Arc (List ℕ) A))
    (old new : List ℕ) (es fs : List Pair) (has_es : HasTree digest bits (bytes_given gives) old es)
    (has_fs : HasTree digest bits (bytes_given gives) new fs) where
  abbrev step : Result (Side × Side) Stop
  step = compared (nodes_given gives) (layer digest bits) old new

  both : HaveCompared digest bits (bytes_given gives) es fs
  both = trees-compared digest bits fits (bytes_given gives) es fs has_es.pairs has_fs.pairs has_es.nodes has_fs.nodes

  step-is : step ≡ Ok (both.old, both.new)
  step-is = (λ i. compared (nodes_given gives) (layer digest bits) (has_es.root_is i) (has_fs.root_is i)) ∙ both.is

  told-at : (a b : Side) (changes : List KeyChange) (come go : List (List ℕ)) → (a ≡ both.old) × (b ≡ both.new)
      → AreTold digest a b changes come go → IsDifferenceOf digest bits es fs changes come go
  told-at a b changes come go q t =
      let d : IsDifference changes es fs =
      both.are.differ changes (subst (λ z. IsDifference changes (pairs_of z.line) (pairs_of both.new.line)) q.0
      (subst (λ z. IsDifference changes (pairs_of a.line) (pairs_of z.line)) q.1 t.differ)) in
      let come_is : blocks_read both.new ≡ come = sym (t.come_are ∙ ap blocks_read q.1) in
      let go_is : map (cid digest) (blocks_read both.old) ≡ go = sym (t.go_are ∙ ap (λ z. map (cid digest) (blocks_read z)) q.0) in
      subst (λ z. IsDifferenceOf digest bits es fs changes come z) go_is
      (subst (λ z. IsDifferenceOf digest bits es fs changes z (map (cid digest) (blocks_read both.old))) come_is
      (differs digest bits (bytes_given gives) es fs has_es.nodes has_es.pairs has_fs.pairs changes (blocks_read both.old)
      (blocks_read both.new) d both.are.unshared))

  pub told-trees : (changes : List KeyChange) (come go : List (List ℕ)) → EndsAt step (λ a b. AreTold digest a b changes come go)
      → IsDifferenceOf digest bits es fs changes come go
  told-trees changes come go e =
      told-at e.old e.new changes come go (ends-same step e.old e.new both.old both.new e.is step-is) e.holds

  -- no reason but a want of memory
  no-err : (e : Stop) → step ≡ Err e → ⊥
  no-err e h = let z : ◌≡◌ {A = Result (Side × Side) Stop} (Ok (both.old, both.new)) (Err e) = sym step-is ∙ h in cc

  pub stopped-trees : (fault : DifferenceFault) → IsStopped gives step fault → IsWant fault
  stopped-trees (BlockMissing c) h = no-err (NotShown c) h.1
  stopped-trees (BadNode c) h = no-err (NotShown c) h.1
  stopped-trees TooDeep h = h
  stopped-trees NotTree h = no-err lines.NotTree h
  stopped-trees NoMemory h = tt

  unended-at : (a b : Side) (fault : DifferenceFault) → (a ≡ both.old) × (b ≡ both.new) → IsUnended a b fault → IsWant fault
  unended-at a b (BlockMissing c) q h = h
  unended-at a b (BadNode c) q h = h
  unended-at a b TooDeep q h =
      h ((λ i. links_in (q.0 i).line ++ links_in (q.1 i).line) ∙ (λ i. both.are.old_ends i ++ both.are.new_ends i))
  unended-at a b NotTree q h =
      h.2 (
        subst (λ z. Ascending (pairs_of z.line)) (sym q.0) both.are.old_ascends,
        subst (λ z. Ascending (pairs_of z.line)) (sym q.1) both.are.new_ascends,
      )
  unended-at a b NoMemory q h = tt

  pub unended-trees : (a b : Side) (fault : DifferenceFault) → step ≡ Ok (a, b) → IsUnended a b fault → IsWant fault
  unended-trees a b fault e h = unended-at a b fault (ends-same step a b both.old both.new e step-is) h

-- ---- reasons

pub stopped-reason : {A : Type 0} (gives : List ℕ → Option A) (result : Result (Side × Side) Stop) (fault : DifferenceFault)
    → IsStopped gives result fault → IsReason gives result fault
stopped-reason gives result (BlockMissing c) h = h
stopped-reason gives result (BadNode c) h = h
stopped-reason gives result TooDeep h = absurd h
stopped-reason gives result NotTree h = inl h
stopped-reason gives result NoMemory h = tt

pub unended-reason : {A : Type 0} (gives : List ℕ → Option A) (result : Result (Side × Side) Stop) (a b : Side) (fault : DifferenceFault)
    → result ≡ Ok (a, b) → IsUnended a b fault → IsReason gives result fault
unended-reason gives result a b (BlockMissing c) e h = absurd h
unended-reason gives result a b (BadNode c) e h = absurd h
unended-reason gives result a b TooDeep e h = record { old = a; new = b; is = e; holds = h }
unended-reason gives result a b NotTree e h = inr (record { old = a; new = b; is = e; holds = h })
unended-reason gives result a b NoMemory e h = tt

-- ---- equal roots

empty : ℕ → Side
empty k = record { left = k; line = LastLink None; read = [] }

record BothEmpty (r : Result (Side × Side) Stop) : Type 0 where
  k : ℕ
  j : ℕ
  is : r ≡ Ok (empty k, empty j)

module _ (shows : List ℕ → Option Shape) where
  opens-empty : (n : ℕ) (p : Bool) (k : ℕ) → (m : ℕ) × (opened_when shows n p (empty k) ≡ Ok (empty m))
  unfolding empty
  opens-empty n true k = (n, refl)
  opens-empty n false k = (k, refl)

  shares-empty : (t : Bool) (k j : ℕ) → shared_when t (empty k) (empty j) ≡ (empty k, empty j)
  unfolding empty
  shares-empty true k j = refl
  shares-empty false k j = refl

  level-empty : (n : ℕ) (k j : ℕ) → BothEmpty (level shows n (empty k) (empty j))
  unfolding empty
  level-empty n k j =
      let p = nat_eq k (suc n) in
      let q = nat_eq j (suc n) in
      let a = opens-empty n p k in
      let b = opens-empty n q j in
      record {
        k = a.0;
        j = b.0;
        is = ap (λ x. both_opened shows n p q x) (shares-empty (p && q) k j)
            ∙ ap (λ r. r >>= λ x. opened_when shows n q (empty j) >>= λ y. Ok (x, y)) a.1
            ∙ ap (λ r. r >>= λ y. Ok (empty a.0, y)) b.1;
      }

  levels-empty : (n : ℕ) (k j : ℕ) → BothEmpty (levels shows n (empty k) (empty j))
  levels-empty zero k j = record { k = k; j = j; is = refl }
  levels-empty (suc n) k j =
      let s = level-empty n k j in
      let t = levels-empty n s.k s.j in
      record { k = t.k; j = t.j; is = ap (λ r. r >>= λ x. levels shows n x.0 x.1) s.is ∙ t.is }

  own-cid : (c : List ℕ) → has_cid c (c ∷ []) ≡ true
  own-cid c = ap (λ b. b || false) ((bytes_eq-Decides c c).1 refl)

  module _ (layer : List ℕ → ℕ) (r : List ℕ) (s : Shape) where
    abbrev start : Side
    start = side_at layer r s

    same-number : nat_eq (suc (layer_of_shape layer s)) (suc (layer_of_shape layer s)) ≡ true
    same-number = let n = layer_of_shape layer s in grind (arith, nat_tests)

    first-level : level shows (layer_of_shape layer s) start start
        ≡ Ok (empty (layer_of_shape layer s), empty (layer_of_shape layer s))
    unfolding empty
    first-level =
        let n = layer_of_shape layer s in
        (λ i. both_opened shows n (same-number i) (same-number i) (shared_when (same-number i && same-number i) start start))
        ∙ (λ i. both_opened shows n true true (
          record { left = suc n; line = LastLink (unless (own-cid r i) r); read = [] },
          record { left = suc n; line = LastLink (unless (own-cid r i) r); read = [] },
        ))

    same-root : shows r ≡ Some s → BothEmpty (compared shows layer r r)
    same-root h =
        let n = layer_of_shape layer s in
        let t = levels-empty n n n in
        let m : max (suc n) (suc n) ≡ suc n = omega arith in
        record {
          k = t.k;
          j = t.j;
          is = (λ i. compared_at shows layer r r (h i) (h i)) ∙ ap (λ k. levels shows k start start) m
              ∙ ap (λ x. x >>= λ y. levels shows n y.0 y.1) first-level ∙ t.is;
        }

module _ {A : Type 0} (digest : List ℕ → List ℕ) (bits : ℕ) (fits : IsDigest digest) (gives : List ℕ → Option (Arc (List ℕ) A))
    (old new : List ℕ) (same : old ≡ new) where
  nothing-told : (k j : ℕ) → AreTold digest (empty k) (empty j) [] [] []
  unfolding empty
  nothing-told k j = record {
    old_ends = refl;
    new_ends = refl;
    old_ascends = tt;
    new_ascends = tt;
    differ = record { ascending = tt; real = tt; differ = record { before = tt; after = tt; others = λ key h. refl } };
    come_are = refl;
    go_are = refl;
  }

  shown-case : (o : Option Shape) → nodes_given gives old ≡ o → (es fs : List Pair)
      → HasTree digest bits (bytes_given gives) old es → HasTree digest bits (bytes_given gives) new fs
      → IsDifferenceOf digest bits es fs [] [] []
  shown-case None h es fs has_es has_fs =
      absurd (no-err digest bits fits gives old new es fs has_es has_fs (NotShown old)
      (ap (λ o. compared_at (nodes_given gives) (layer digest bits) old new o (nodes_given gives new)) h))
  shown-case (Some s) h es fs has_es has_fs =
      let e = same-root (nodes_given gives) (layer digest bits) old s h in
      told-trees digest bits fits gives old new es fs has_es has_fs [] [] [] (record {
        old = empty e.k;
        new = empty e.j;
        is = ap (compared (nodes_given gives) (layer digest bits) old) (sym same) ∙ e.is;
        holds = nothing-told e.k e.j;
      })

  -- two trees with one root in one source are the same
  pub equal-trees : (es fs : List Pair) → HasTree digest bits (bytes_given gives) old es
      → HasTree digest bits (bytes_given gives) new fs → IsDifferenceOf digest bits es fs [] [] []
  equal-trees = shown-case (nodes_given gives old) refl

-- ---- the answer

module _ {D A : Type 0} (digest : List ℕ → List ℕ) (bits : ℕ) (fits : IsDigest digest)
    (gives : List ℕ → Option (Arc (List ℕ) A)) (old new : List ℕ) (d : Difference D A) where
  pub equal-told : old ≡ new → d.changes.items ≡ [] → d.come.items ≡ [] → d.go.items ≡ [] → (es fs : List Pair)
      → HasTree digest bits (bytes_given gives) old es → HasTree digest bits (bytes_given gives) new fs
      → IsDifferenceOf digest bits es fs (changes_told d.changes.items) (map arc_value d.come.items) d.go.items
  equal-told same p q r es fs has_es has_fs =
      subst (λ z. IsDifferenceOf digest bits es fs (changes_told d.changes.items) (map arc_value d.come.items) z) (sym r)
      (subst (λ (z : List (Arc (List ℕ) A)). IsDifferenceOf digest bits es fs (changes_told d.changes.items) (map arc_value z) []) (sym q)
      (subst (λ (z : List (KeyDifference A)). IsDifferenceOf digest bits es fs (changes_told z) [] []) (sym p)
      (equal-trees digest bits fits gives old new same es fs has_es has_fs)))

  pub told-is : (a b : Side) → compared (nodes_given gives) (layer digest bits) old new ≡ Ok (a, b)
      → AreTold digest a b (changes_told d.changes.items) (map arc_value d.come.items) d.go.items
      → IsTold digest (compared (nodes_given gives) (layer digest bits) old new) d
  told-is a b e t = record { old = a; new = b; is = e; holds = t }

  pub told-of-trees : (a b : Side) → compared (nodes_given gives) (layer digest bits) old new ≡ Ok (a, b)
      → AreTold digest a b (changes_told d.changes.items) (map arc_value d.come.items) d.go.items → (es fs : List Pair)
      → HasTree digest bits (bytes_given gives) old es → HasTree digest bits (bytes_given gives) new fs
      → IsDifferenceOf digest bits es fs (changes_told d.changes.items) (map arc_value d.come.items) d.go.items
  told-of-trees a b e t es fs has_es has_fs =
      told-trees digest bits fits gives old new es fs has_es has_fs (changes_told d.changes.items) (map arc_value d.come.items) d.go.items
      (told-is a b e t)

pub asked-in-all : (r r0 x y p q m n : ℕ) → r ≡ r0 + (x + y) → x ≡ max 1 p → y ≡ max 1 q → m ≡ q → n ≡ p
    → r ≡ r0 + (max 1 m + max 1 n)
asked-in-all r r0 x y p q m n h i j k l = omega arith
