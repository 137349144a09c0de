-- Two trees over a source that has the nodes of both.
use Rattle.std.proofs.Common.{◌≡◌, inl, inr, ℕ, zero, suc, ◌+◌, ◌≤◌, max, List, [], ◌∷◌, map, refl, sym, ap, subst, ◌∙◌, arith, Option}
use Rattle.std.specs.Prelude.{Contains}
use Rattle.std.specs.declared.option.Option.TheVariants.{Some}
use Rattle.std.specs.declared.cmp.Ordering.{Ordering}
use Rattle.std.specs.declared.cmp.Ordering.TheVariants.{Less, Equal, Greater}
use Rattle.std.specs.List.{AllByRecursion}
use Rattle.spec.specs.Cid.{IsDigest, cid}
use Rattle.spec.specs.Layer.{layer}
use Rattle.spec.specs.Laws.Tree.{HasLayer}
use Rattle.spec.specs.Tree.{Pair, Node, Last, Sub, EachNode, top, top_layer}
use Rattle.spec.specs.NodeFormat.{Shape, shape, shape_bytes, shape_cid, node_bytes}
use Rattle.spec.specs.Blocks.{ArePairs, nodes, root}
use Rattle.spec.proofs.LayeredTrees.{HasLayer-top, HasPairs-top}
use Rattle.spec.proofs.TreeLaws.{pairs-top}
use Rattle.edit_laws.specs.Changes.{count, marked, one_if_equal}
use Rattle.edit_laws.specs.Order.{order}
use Rattle.edit_laws.specs.Pairs.{Ascending}
use Rattle.edit_laws.specs.ShapeEdit.{layer_of_shape}
use Rattle.spec.specs.Sources.{HasNodes}
use Rattle.edit_laws.specs.Sources.{shown_by}
use Rattle.edit_laws.specs.Trace.{weight, weight_under, total}
use Rattle.edit_laws.proofs.BlockChanges.{count-total, count-nodes, bytes-once}
use Rattle.edit_laws.proofs.Lists.{contains-counted, counted-contains}
use Rattle.edit_laws.proofs.NodesOnce.{nodes-once}
use Rattle.edit_laws.proofs.Orders.{order-equal}
use Rattle.edit_laws.proofs.OverSource.{holds-top}
use Rattle.edit_laws.proofs.RecordMaps.{ascending-sorted}
use Rattle.edit_laws.proofs.ShapeBridges.{layer-shape}
use Rattle.edit_laws.proofs.Tops.{layer_of-top}
use Rattle.difference_laws.specs.Lines.{Side, links_in, pairs_of, side_at, levels, compared_at}
use Rattle.difference_laws.specs.Laws.{AreCompared, AreUnshared, HaveCompared, TreesAreCompared}
use Rattle.difference_laws.proofs.Ends.{Left, differ-so}
use Rattle.difference_laws.proofs.Kept.{AreApart, IsFull, PartsBelow, hit, none-below, no-weight, own-all}
use Rattle.difference_laws.proofs.Opening.{own, cid_of, links-are, pairs-are, IsShown}
use Rattle.difference_laws.proofs.Sides.{IsOpen, Finished, levels-do}
use Rattle.difference_laws.proofs.Weighing.{tally, rows, tally-part}

-- ---- nodes and their bytes

module _ (digest : List ℕ → List ℕ) where
  two-maps : (ks : List Node) → map shape_bytes (map (shape digest) ks) ≡ map (node_bytes digest) ks
  two-maps [] = refl
  two-maps (k ∷ ks) = ap (λ t. node_bytes digest k ∷ t) (two-maps ks)

  -- ---- a block isn't read on both sides

  with-case : (b : List ℕ) (x y : Node) (n : ℕ) (o : Ordering) → order (node_bytes digest y) b ≡ o
      → node_bytes digest x ≡ b → (cid_of digest x ≡ cid_of digest y → ⊥) → n ≡ 0 → one_if_equal o + n ≡ 0
  with-case b x y n Less q e h i = omega arith
  with-case b x y n Equal q e h i =
      absurd (h (ap (cid digest) (e ∙ sym (order-equal (node_bytes digest y) b q))))
  with-case b x y n Greater q e h i = omega arith

  none-with : (b : List ℕ) (x : Node) → node_bytes digest x ≡ b → (ys : List Node)
      → AllByRecursion (λ y. cid_of digest x ≡ cid_of digest y → ⊥) ys → total (marked (node_bytes digest) b) ys ≡ 0
  none-with b x e [] h = refl
  none-with b x e (y ∷ ys) h =
      with-case b x y (total (marked (node_bytes digest) b) ys) (order (node_bytes digest y) b) refl e h.0
      (none-with b x e ys h.1)

  both-case : (b : List ℕ) (x : Node) (ys : List Node) (n : ℕ)
      → AllByRecursion (λ y. cid_of digest x ≡ cid_of digest y → ⊥) ys
      → 1 ≤ total (marked (node_bytes digest) b) ys → (o : Ordering) → order (node_bytes digest x) b ≡ o
      → n ≡ 0 → one_if_equal o + n ≡ 0
  both-case b x ys n h k Less q i = omega arith
  both-case b x ys n h k Equal q i =
      let z = none-with b x (order-equal (node_bytes digest x) b q) ys h in absurd (omega arith)
  both-case b x ys n h k Greater q i = omega arith

  not-both : (b : List ℕ) (xs ys : List Node) → AreApart digest xs ys → 1 ≤ total (marked (node_bytes digest) b) ys
      → total (marked (node_bytes digest) b) xs ≡ 0
  not-both b [] ys h k = refl
  not-both b (x ∷ xs) ys h k =
      both-case b x ys (total (marked (node_bytes digest) b) xs) h.0 k (order (node_bytes digest x) b) refl
      (not-both b xs ys h.1 k)

-- ---- numbers of one block: read of the old and of the new tree, and in these

-- what is known of them
pub record Numbers (go come old new : ℕ) : Type 0 where
  pub go_old : go ≤ old
  pub come_new : come ≤ new
  pub old_once : old ≤ 1
  pub new_once : new ≤ 1
  pub even : go + new ≡ come + old
  pub apart : 1 ≤ come → go ≡ 0

go-some : (go come old new : ℕ) → Numbers go come old new → 1 ≤ go → (1 ≤ old) × (new ≡ 0)
go-some go zero old new h k = let a = h.go_old in let b = h.old_once in let c = h.even in (omega arith, omega arith)
go-some go (suc come) old new h k = let z = h.apart (omega arith) in absurd (omega arith)

come-some : (go come old new : ℕ) → Numbers go come old new → 1 ≤ come → (1 ≤ new) × (old ≡ 0)
come-some go come old new h k =
    let z = h.apart k in let a = h.come_new in let b = h.new_once in let c = h.even in (omega arith, omega arith)

some-go : (go come old new : ℕ) → Numbers go come old new → 1 ≤ old → new ≡ 0 → 1 ≤ go
some-go go come old new h k e = let a = h.come_new in let c = h.even in omega arith

some-come : (go come old new : ℕ) → Numbers go come old new → 1 ≤ new → old ≡ 0 → 1 ≤ come
some-come go come old new h k e = let a = h.go_old in let c = h.even in omega arith

none-of : (b : List ℕ) (xs : List (List ℕ)) (n : ℕ) → count b xs ≡ n → (Contains xs b → ⊥) → n ≡ 0
none-of b xs zero e h = refl
none-of b xs (suc n) e h = absurd (h (contains-counted b xs (omega arith)))

pub unshared-of : (digest : List ℕ → List ℕ) (bits : ℕ) (es fs : List Pair) (go come : List (List ℕ))
    → ((b : List ℕ) → Numbers (count b go) (count b come) (count b (nodes digest bits es)) (count b (nodes digest bits fs)))
    → AreUnshared digest bits es fs go come
unshared-of digest bits es fs go come h =
    let old = nodes digest bits es in
    let new = nodes digest bits fs in
    record {
      go_is = λ b. (
        (λ k. let i = go-some (count b go) (count b come) (count b old) (count b new) (h b) (counted-contains b go k) in
            let z = i.1 in
            (contains-counted b old i.0, λ m. let j = counted-contains b new m in absurd (omega arith))),
        (λ k. contains-counted b go (some-go (count b go) (count b come) (count b old) (count b new) (h b)
            (counted-contains b old k.0) (none-of b new (count b new) refl k.1))),
      );
      come_is = λ b. (
        (λ k. let i = come-some (count b go) (count b come) (count b old) (count b new) (h b) (counted-contains b come k) in
            let z = i.1 in
            (contains-counted b new i.0, λ m. let j = counted-contains b old m in absurd (omega arith))),
        (λ k. contains-counted b come (some-come (count b go) (count b come) (count b old) (count b new) (h b)
            (counted-contains b new k.0) (none-of b old (count b old) refl k.1))),
      );
      go_once = λ b. (let i = h b in let j = i.go_old in let k = i.old_once in omega arith);
      come_once = λ b. (let i = h b in let j = i.come_new in let k = i.new_once in omega arith);
    }

-- ---- from the roots

some-is : {A : Type 0} (x y : A) → ◌≡◌ {A = Option A} (Some x) (Some y) → x ≡ y
some-is x y q = cc

module _ (digest : List ℕ → List ℕ) (bits : ℕ) (fits : IsDigest digest) (gives : List ℕ → Option (List ℕ)) where
  abbrev lay : List ℕ → ℕ
  lay = layer digest bits

  abbrev shows : List ℕ → Option Shape
  shows = shown_by gives

  abbrev Held : Shape → Type 0
  Held s = shows (shape_cid digest s) ≡ Some s

  held-free : (s t : Shape) → Held s → Held t → shape_cid digest s ≡ shape_cid digest t → s ≡ t
  held-free s t h k e = some-is s t (sym h ∙ ap shows e ∙ k)

  module _ (es : List Pair) (are : ArePairs es) (has : HasNodes digest bits gives es) where
    abbrev whole : Node
    whole = top lay es

    holds : EachNode (IsShown digest shows) (Sub whole)
    holds = holds-top digest bits fits gives es are has

    once : (c : List ℕ) → weight (hit digest c) (Sub whole) ≤ 1
    once = nodes-once digest Held held-free lay es (ascending-sorted es are.sorted) holds

    abbrev start : Side
    start = side_at lay (root digest bits es) (shape digest whole)

    layer-is : layer_of_shape lay (shape digest whole) ≡ top_layer lay es
    layer-is = layer-shape digest lay whole ∙ layer_of-top lay es

    full : (xs : List Pair) → es ≡ xs → IsFull start.left (Sub whole)
    full [] e = (inr (ap suc (layer-is ∙ ap (top_layer lay) e)), HasPairs-top lay es)
    full (x ∷ xs) e =
        (inl (λ q. (let d : ◌≡◌ {A = List Pair} [] (x ∷ xs) = sym q ∙ pairs-top lay es ∙ e in absurd cc)), HasPairs-top lay es)

    opens : IsOpen digest shows lay whole start (Last (Sub whole)) []
    opens = record {
      line_is = refl;
      read_is = refl;
      below = subst (λ n. HasLayer lay n whole) (sym layer-is) (HasLayer-top lay es);
      shown = holds;
      full = full es refl;
      ascends = subst Ascending (sym (pairs-top lay es)) (ascending-sorted es are.sorted);
      own_is = λ f. refl;
      within = λ w. omega arith;
    }

  -- ---- to the ends

  module _ (es fs : List Pair) (are_es : ArePairs es) (are_fs : ArePairs fs) (has_es : HasNodes digest bits gives es)
      (has_fs : HasNodes digest bits gives fs) where
    whole-tally : (f : Pair → ℕ) (xs : List Pair) → tally f xs ≡ weight (rows f) (Sub (top lay xs))
    whole-tally f xs = ap (tally f) (sym (pairs-top lay xs)) ∙ tally-part f (Sub (top lay xs))

    -- one side at its end
    record End (A : Node) (s : Side) (ra : List Node) : Type 0 where
      ends : links_in s.line ≡ []
      ascends : Ascending (pairs_of s.line)
      left : (f : Pair → ℕ) → tally f (pairs_of s.line) ≡ total (rows f) ra
      within : (w : Node → ℕ) → total w ra ≤ weight w (Sub A)
      blocks : (b : List ℕ) → count b (map shape_bytes s.read) ≡ total (marked (node_bytes digest) b) ra

    end-of : (A : Node) (s : Side) (a : Node) (ra : List Node) → IsOpen digest shows lay A s a ra → s.left ≤ 0
        → End A s ra
    end-of A s a ra o l =
        let z : s.left ≡ 0 = omega arith in
        let low : PartsBelow lay zero a = subst (λ n. PartsBelow lay n a) z o.below in
        let pairs : pairs_of s.line ≡ own a = ap pairs_of o.line_is ∙ pairs-are digest a in
        record {
          ends = ap links_in o.line_is ∙ links-are digest a ∙ ap (map (cid_of digest)) (none-below lay a low);
          ascends = subst Ascending (own-all lay a low ∙ sym pairs) o.ascends;
          left = λ f. (ap (tally f) pairs ∙ o.own_is f);
          within = λ w. (let i = o.within w in omega arith);
          blocks = λ b. (ap (λ t. count b (map shape_bytes t)) o.read_is ∙ ap (count b) (two-maps digest ra)
              ∙ count-total (node_bytes digest) b ra);
        }

    compared-of : (x y : Side) (ra rb : List Node) → End (top lay es) x ra → End (top lay fs) y rb
        → ((w : Node → ℕ) → total w ra + weight w (Sub (top lay fs)) ≡ total w rb + weight w (Sub (top lay es)))
        → AreApart digest ra rb → AreCompared digest bits es fs x y
    compared-of x y ra rb p q even apart =
        let left : Left es fs (pairs_of x.line) (pairs_of y.line) = record {
          old = ascending-sorted es are_es.sorted;
          new = ascending-sorted fs are_fs.sorted;
          old_left = p.ascends;
          new_left = q.ascends;
          old_of = λ f. (let i = p.left f in let j = p.within (rows f) in let k = whole-tally f es in omega arith);
          new_of = λ f. (let i = q.left f in let j = q.within (rows f) in let k = whole-tally f fs in omega arith);
          even = λ f. (let i = p.left f in let j = q.left f in let k = whole-tally f es in let l = whole-tally f fs in
              let m = even (rows f) in omega arith);
        } in
        record {
          old_ends = p.ends;
          new_ends = q.ends;
          old_ascends = p.ascends;
          new_ascends = q.ascends;
          differ = differ-so es fs (pairs_of x.line) (pairs_of y.line) left;
          unshared = unshared-of digest bits es fs (map shape_bytes x.read) (map shape_bytes y.read) (λ b. (
              let w = marked (node_bytes digest) b in
              let i = p.blocks b in
              let j = q.blocks b in
              let k : count b (nodes digest bits es) ≡ weight w (Sub (top lay es)) = count-nodes digest b (Sub (top lay es)) in
              let l : count b (nodes digest bits fs) ≡ weight w (Sub (top lay fs)) = count-nodes digest b (Sub (top lay fs)) in
              let a = p.within w in
              let c = q.within w in
              let e = even w in
              record {
                go_old = omega arith;
                come_new = omega arith;
                old_once = bytes-once digest bits es (once es are_es has_es) b;
                new_once = bytes-once digest bits fs (once fs are_fs has_fs) b;
                even = omega arith;
                apart = λ h. (let n : 1 ≤ total w rb = omega arith in let z = not-both digest b ra rb apart n in
                    omega arith);
              }));
        }

    begun : Finished digest shows lay (top lay es) (top lay fs) (once es are_es has_es) (once fs are_fs has_fs)
        (levels shows (max (start es are_es has_es).left (start fs are_fs has_fs).left) (start es are_es has_es)
        (start fs are_fs has_fs))
    begun =
        let a = start es are_es has_es in
        let b = start fs are_fs has_fs in
        levels-do digest shows lay (top lay es) (top lay fs) (once es are_es has_es) (once fs are_fs has_fs)
        (max a.left b.left) a b (Last (Sub (top lay es))) (Last (Sub (top lay fs))) [] []
        (opens es are_es has_es) (opens fs are_fs has_fs) (omega arith) (omega arith) (λ w. omega arith)
        (record { old = tt; new = tt; apart = tt })

    low-left : (n : ℕ) (a : Node) (w : Node → ℕ) → n ≤ 0 → PartsBelow lay n a → weight_under w a ≡ 0
    low-left n a w l h = let z : n ≡ 0 = omega arith in no-weight lay w a (subst (λ k. PartsBelow lay k a) z h)

    pub have-compared : HaveCompared digest bits gives es fs
    have-compared =
        let f = begun in
        record {
          old = f.old;
          new = f.new;
          is = (λ i. compared_at shows lay (root digest bits es) (root digest bits fs) ((holds es are_es has_es).0 i)
              ((holds fs are_fs has_fs).0 i)) ∙ f.is;
          are = compared-of f.old f.new f.old_read f.new_read
              (end-of (top lay es) f.old f.old_node f.old_read f.old_stands f.old_low)
              (end-of (top lay fs) f.new f.new_node f.new_read f.new_stands f.new_low)
              (λ w. (let i = f.even w in
              let j = low-left f.old.left f.old_node w f.old_low f.old_stands.below in
              let k = low-left f.new.left f.new_node w f.new_low f.new_stands.below in omega arith))
              f.apart;
        }

pub trees-compared : TreesAreCompared
trees-compared digest bits fits gives es fs are_es are_fs has_es has_fs =
    have-compared digest bits fits gives es fs are_es are_fs has_es has_fs
