-- The path of a key that is there is that of a look-up.
use Rattle.std.proofs.Common.{◌≡◌, ℕ, zero, suc, ◌+◌, ◌<◌, Bool, true, false, nat_eq, List, [], ◌∷◌, ◌++◌, length, refl, sym, ap, ◌∙◌, subst, arith}
use Rattle.std.specs.declared.option.Option.TheVariants.{Some}
use Rattle.std.specs.declared.cmp.Ordering.TheVariants.{Equal}
use Rattle.std.proofs.lemmas.Bool.{eq-eqb, eqb-true, eqb-false}
use Rattle.spec.specs.Tree.{Pair, Node, Part, More, Sub, Groups, LastGroup, MoreGroups, cut, node_of, below, tree, top_layer, top}
use Rattle.edit_laws.specs.Order.{order}
use Rattle.edit_laws.specs.Pairs.{IsAfter, Ascending, value_in}
use Rattle.edit_laws.specs.TreeEdit.{first, with_first, locate, layer_of}
use Rattle.edit_laws.specs.Trace.{find_path, beside, delete_path_nodes}
use Rattle.spec.proofs.TreeLaws.{lower-from_top}
use Rattle.edit_laws.proofs.Around.{Here, absent, present, around, value_of, value_in-around}
use Rattle.edit_laws.proofs.Cut.{last_group, first_group, first-with_first}
use Rattle.edit_laws.proofs.Finding.{Lows, lows-down, outside-low, here-outside}
use Rattle.edit_laws.proofs.Groups.{InGroups, cut-in}
use Rattle.edit_laws.proofs.Orders.{order-same}
use Rattle.edit_laws.proofs.Places.{locate-outside, locate-here, sub-tree}
use Rattle.edit_laws.proofs.Tops.{layer_of-top, lows-of}

-- the nodes that a look-up reads below a node
abbrev pub below_path : List ℕ → ℕ → Node → List Node
below_path key n m = let h = (locate key m).here in beside key h (λ p q. []) (find_path n key (first h))

-- ---- a key that is there

-- what a delete reads below a node that has the key, or above one that has, and how deep
pub record ReadsBelow (layer : List ℕ → ℕ) (p : Pair) (n : ℕ) (m : Node) : Type 0 where
  pub delete : delete_path_nodes layer n p.0 m ≡ below_path p.0 n m
  pub deep : n ≡ length (delete_path_nodes layer n p.0 m) + layer p.0

here-reads : (layer : List ℕ → ℕ) (p : Pair) (n : ℕ) (m : Node) (g : Part) (e : Pair) (r : Node)
    → (locate p.0 m).here ≡ More g e r → order e.0 p.0 ≡ Equal → layer p.0 ≡ n → ReadsBelow layer p n m
here-reads layer p zero m g e r h o l = record {
  delete = rw (h, o) refl;
  deep = omega arith;
}
here-reads layer p (suc n) m g e r h o l =
    let b = eq-eqb (layer p.0) (suc n) l in
    record {
      delete = rw (b, h, o) refl;
      deep = rw b (omega arith);
    }

beside-after : {A : Type 0} (key : List ℕ) (p : Part) (part : List Pair → Part) (g : Groups) (x : Part → Part → A)
    (y : A) → InGroups (IsAfter key) g
    → beside key (with_first p (node_of part g)) x y ≡ y
beside-after key p part (LastGroup g) x y h = refl
beside-after key p part (MoreGroups g e r) x y h = rw h.1 refl

-- one layer above
deeper-reads : (layer : List ℕ → ℕ) (p : Pair) (n : ℕ) (m k : Node) → first (locate p.0 m).here ≡ Sub k
    → ((x : List Node) → beside p.0 (locate p.0 m).here (λ p q. []) x ≡ x) → nat_eq (layer p.0) (suc n) ≡ false
    → ReadsBelow layer p n k → ReadsBelow layer p (suc n) m
deeper-reads layer p n m k h s b i =
    let path = s (find_path (suc n) p.0 (first (locate p.0 m).here)) in
    record {
      delete = rw b (rw h (ap (λ t. k ∷ t) i.delete) ∙ sym (path ∙ ap (find_path (suc n) p.0) h));
      deep = rw (b, h) (let d = i.deep in omega arith);
    }

abbrev PresentAt : (List ℕ → ℕ) → Pair → ℕ → Type 0
PresentAt layer p n = (xs : List Pair) (e : Pair) (ys : List Pair) → e.0 ≡ p.0
    → Lows layer (suc n) p.0 xs (e ∷ []) ys → ReadsBelow layer p n (tree layer n (xs ++ e ∷ ys))

present-here : (layer : List ℕ → ℕ) (p : Pair) (n : ℕ) → nat_eq (layer p.0) n ≡ true → PresentAt layer p n
present-here layer p n b xs e ys q c =
    let o : order e.0 p.0 ≡ Equal = rw q (order-same p.0) in
    let k : nat_eq (layer e.0) n ≡ true = rw q b in
    here-reads layer p n (tree layer n (xs ++ e ∷ ys)) _ e (tree layer n ys)
    (ap (λ l. l.here) (locate-here layer n p.0 xs e ys k o c.front_before)) o (eqb-true (layer p.0) n b)

present-deeper : (layer : List ℕ → ℕ) (p : Pair) (n : ℕ) → PresentAt layer p n → nat_eq (layer p.0) (suc n) ≡ false
    → PresentAt layer p (suc n)
present-deeper layer p n ih b xs e ys q c =
    let o = here-outside layer (suc n) p.0 (e ∷ []) c.mid_here b in
    let d = lows-down layer (suc n) p.0 xs (e ∷ []) ys c (outside-low layer (suc n) (e ∷ []) c.mid_low o) in
    let us = last_group (cut layer (suc n) xs) in
    let vs = first_group (cut layer (suc n) ys) in
    let low = below layer (suc n) (us ++ e ∷ vs) in
    let h = ap (λ l. l.here) (locate-outside layer (suc n) p.0 xs (e ∷ []) ys o c.front_before c.back_after) in
    deeper-reads layer p n (tree layer (suc n) (xs ++ e ∷ ys)) (tree layer n (us ++ e ∷ vs))
    (ap first h ∙ first-with_first low (tree layer (suc n) ys) ∙ sym (sub-tree layer n us e vs))
    (λ x. ap (λ k. beside p.0 k (λ p q. []) x) h
    ∙ beside-after p.0 low (below layer (suc n)) (cut layer (suc n) ys) (λ p q. []) x
    (cut-in (IsAfter p.0) layer (suc n) ys c.back_after))
    b
    (ih us e vs q d)

present-cases : (layer : List ℕ → ℕ) (p : Pair) (n : ℕ) → PresentAt layer p n → (b : Bool)
    → nat_eq (layer p.0) (suc n) ≡ b → PresentAt layer p (suc n)
present-cases layer p n ih true b = present-here layer p (suc n) b
present-cases layer p n ih false b = present-deeper layer p n ih b

present-zero : (layer : List ℕ → ℕ) (p : Pair) (b : Bool) → nat_eq (layer p.0) zero ≡ b → PresentAt layer p zero
present-zero layer p true b xs e ys q c = present-here layer p zero b xs e ys q c
present-zero layer p false b xs e ys q c =
    let l : layer e.0 < 1 = c.mid_low.0 in
    let same : layer e.0 ≡ layer p.0 = ap layer q in
    let ne = eqb-false (layer p.0) zero b in
    absurd (omega arith)

present-reads : (layer : List ℕ → ℕ) (p : Pair) (n : ℕ) → PresentAt layer p n
present-reads layer p zero = present-zero layer p (nat_eq (layer p.0) zero) refl
present-reads layer p (suc n) = present-cases layer p n (present-reads layer p n) (nat_eq (layer p.0) (suc n)) refl

-- ---- the whole tree

-- where the key is in the tree
row-around : (layer : List ℕ → ℕ) (p : Pair) (t : ℕ) (xs mid ys : List Pair) → Here p.0 mid
    → Lows layer (suc t) p.0 xs mid ys → (v : List ℕ) → value_of mid ≡ Some v
    → ReadsBelow layer p t (tree layer t (xs ++ (mid ++ ys)))
row-around layer p t xs [] ys absent c v h = absurd cc
row-around layer p t xs (_ ∷ _) ys (present e q) c v h = present-reads layer p t xs e ys q c

pub row-reads : (layer : List ℕ → ℕ) (key : List ℕ) (es : List Pair) → Ascending es → (v : List ℕ)
    → value_in key es ≡ Some v
    → ReadsBelow layer (key, []) (layer_of layer (top layer es)) (top layer es)
row-reads layer key es s v h =
    let p : Pair = (key, []) in
    let a = around key es s in
    let t = top_layer layer es in
    let c = lows-of layer (suc t) key es a (lower-from_top layer t es (omega arith)) in
    let k : value_of a.mid ≡ Some v =
    sym (ap (value_in key) a.whole
    ∙ value_in-around key a.front a.mid a.back a.front_before a.mid_here a.back_after) ∙ h in
    rw (layer_of-top layer es)
    (subst (λ x. ReadsBelow layer p t (tree layer t x)) (sym a.whole)
    (row-around layer p t a.front a.mid a.back a.mid_here c v k))
