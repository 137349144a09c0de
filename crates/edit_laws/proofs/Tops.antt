-- The top of a tree: its layer, its pruning, and a look-up from it on.
use Rattle.std.proofs.Common.{◌≡◌, ◌⊎◌, ℕ, zero, suc, ◌<◌, ◌≤◌, max, Bool, true, false, nat_eq, List, [], ◌∷◌, ◌++◌, refl, sym, ap, subst, ◌∙◌, arith, inl, inr}
use Rattle.std.proofs.lemmas.Bool.{eqb-false, eqb-true, ne_eqb, cases_lt}
use Rattle.spec.specs.Tree.{Pair, Part, Last, Sub, Groups, LastGroup, MoreGroups, push, enter, cut, node_of, below, tree, top_layer, top}
use Rattle.edit_laws.specs.TreeEdit.{layer_of, prune, find}
use Rattle.edit_laws.specs.Pairs.{Each, Ascending, value_in}
use Rattle.spec.proofs.TreeLaws.{IsLower, lower-from_top}
use Rattle.edit_laws.proofs.Around.{Around, around, value_in-around}
use Rattle.edit_laws.proofs.EachPair.{each-left, each-right}
use Rattle.edit_laws.proofs.Finding.{Lows, find-tree}

cut-none : (layer : List ℕ → ℕ) (n : ℕ) (es : List Pair) → Each (IsLower layer n) es → cut layer n es ≡ LastGroup es
cut-none layer n [] h = refl
cut-none layer n (e ∷ es) h =
    let l : layer e.0 < n = h.0 in
    let b : nat_eq (layer e.0) n ≡ false = ne_eqb (layer e.0) n (λ q. omega arith) in
    rw (b, cut-none layer n es h.1)

tree-none : (layer : List ℕ → ℕ) (n : ℕ) (es : List Pair) → Each (IsLower layer n) es
    → tree layer n es ≡ Last (below layer n es)
tree-none layer n es h = ap (node_of (below layer n)) (cut-none layer n es h)

-- ---- the top's layer

pub top-from_lower : (layer : List ℕ → ℕ) (n : ℕ) (es : List Pair) → Each (IsLower layer (suc n)) es
    → top_layer layer es ≤ n
top-from_lower layer n [] h = omega arith
top-from_lower layer n (e ∷ es) h =
    let l : layer e.0 < suc n = h.0 in let i = top-from_lower layer n es h.1 in omega arith

-- a pair of layer n is in the list
abbrev HasLayer : (List ℕ → ℕ) → ℕ → List Pair → Type 0
HasLayer layer n [] = ⊥
HasLayer layer n (e ∷ es) = (layer e.0 ≡ n) ⊎ HasLayer layer n es

top-has : (layer : List ℕ → ℕ) (e : Pair) (es : List Pair) → HasLayer layer (top_layer layer (e ∷ es)) (e ∷ es)
top-has layer e [] = inl (omega arith)
top-has layer e (f ∷ fs) =
    let i = top-has layer f fs in
    let a = layer e.0 in
    let b = top_layer layer (f ∷ fs) in
    elim (cases_lt a b) [
      | inl h ↦ let q : max a b ≡ b = omega arith in inr (subst (λ m. HasLayer layer m (f ∷ fs)) (sym q) i)
      | inr h ↦ let q : a ≡ max a b = omega arith in inl q
    ]

-- the first pair of the layer
abbrev IsMore : (List ℕ → ℕ) → ℕ → Groups → Type 0
IsMore layer n (LastGroup g) = ⊥
IsMore layer n (MoreGroups g e r) = layer e.0 ≡ n

push-more : (layer : List ℕ → ℕ) (n : ℕ) (e : Pair) (g : Groups) → IsMore layer n g → IsMore layer n (push e g)
push-more layer n e (LastGroup g) h = h
push-more layer n e (MoreGroups g x r) h = h

enter-more : (layer : List ℕ → ℕ) (n : ℕ) (b : Bool) (e : Pair) (g : Groups) → nat_eq (layer e.0) n ≡ b
    → (layer e.0 ≡ n) ⊎ IsMore layer n g → IsMore layer n (enter b e g)
enter-more layer n true e g h k = eqb-true (layer e.0) n h
enter-more layer n false e g h (inl q) = absurd (eqb-false (layer e.0) n h q)
enter-more layer n false e g h (inr k) = push-more layer n e g k

has-more : (layer : List ℕ → ℕ) (n : ℕ) (es : List Pair) → HasLayer layer n es → IsMore layer n (cut layer n es)
has-more layer n [] h = absurd h
has-more layer n (e ∷ es) (inl q) = enter-more layer n (nat_eq (layer e.0) n) e (cut layer n es) refl (inl q)
has-more layer n (e ∷ es) (inr k) =
    enter-more layer n (nat_eq (layer e.0) n) e (cut layer n es) refl (inr (has-more layer n es k))

layer_of-more : (layer : List ℕ → ℕ) (n : ℕ) (part : List Pair → Part) (g : Groups) → IsMore layer n g
    → layer_of layer (node_of part g) ≡ n
layer_of-more layer n part (LastGroup g) h = absurd h
layer_of-more layer n part (MoreGroups g e r) h = h

prune-more : (layer : List ℕ → ℕ) (n : ℕ) (part : List Pair → Part) (g : Groups) → IsMore layer (suc n) g
    → prune (suc n) (node_of part g) ≡ node_of part g
prune-more layer n part (LastGroup g) h = absurd h
prune-more layer n part (MoreGroups g e r) h = refl

pub layer_of-top : (layer : List ℕ → ℕ) (es : List Pair) → layer_of layer (top layer es) ≡ top_layer layer es
layer_of-top layer [] = refl
layer_of-top layer (e ∷ es) =
    let n = top_layer layer (e ∷ es) in
    layer_of-more layer n (below layer n) (cut layer n (e ∷ es)) (has-more layer n (e ∷ es) (top-has layer e es))

-- ---- pruning

pub prune-tree : (layer : List ℕ → ℕ) (n : ℕ) (es : List Pair) → Each (IsLower layer (suc n)) es
    → prune n (tree layer n es) ≡ top layer es
prune-tree layer zero es h =
    let l = top-from_lower layer zero es h in
    let q : zero ≡ top_layer layer es = omega arith in
    ap (λ m. tree layer m es) q
prune-tree layer (suc n) [] h = refl
prune-tree layer (suc n) (e ∷ es) h =
    let l = top-from_lower layer (suc n) (e ∷ es) h in
    elim (cases_lt (top_layer layer (e ∷ es)) (suc n)) [
      | inl k ↦
          let c = lower-from_top layer n (e ∷ es) (omega arith) in
          ap (prune (suc n)) (tree-none layer (suc n) (e ∷ es) c) ∙ prune-tree layer n (e ∷ es) c
      | inr k ↦
          let q : top_layer layer (e ∷ es) ≡ suc n = omega arith in
          let m = subst (λ m. HasLayer layer m (e ∷ es)) q (top-has layer e es) in
          prune-more layer n (below layer (suc n)) (cut layer (suc n) (e ∷ es)) (has-more layer (suc n) (e ∷ es) m)
          ∙ ap (λ m. tree layer m (e ∷ es)) (sym q)
    ]

-- ---- the whole tree

pub lows-of : (layer : List ℕ → ℕ) (n : ℕ) (key : List ℕ) (es : List Pair) (a : Around key es)
    → Each (IsLower layer n) es → Lows layer n key a.front a.mid a.back
lows-of layer n key es a h =
    let k = subst (Each (IsLower layer n)) a.whole h in
    let r = each-right (IsLower layer n) a.front (a.mid ++ a.back) k in
    record {
      front_low = each-left (IsLower layer n) a.front (a.mid ++ a.back) k;
      mid_here = a.mid_here;
      mid_low = each-left (IsLower layer n) a.mid a.back r;
      back_low = each-right (IsLower layer n) a.mid a.back r;
      front_before = a.front_before;
      back_after = a.back_after;
    }

pub find-top : (layer : List ℕ → ℕ) (key : List ℕ) (es : List Pair) → Ascending es
    → find (suc (layer_of layer (top layer es))) key (Sub (top layer es)) ≡ value_in key es
find-top layer key es s =
    let a = around key es s in
    let t = top_layer layer es in
    let c = lows-of layer (suc t) key es a (lower-from_top layer t es (omega arith)) in
    rw (layer_of-top layer es)
    (ap (λ x. find (suc t) key (Sub (tree layer t x))) a.whole
    ∙ find-tree layer key t a.front a.mid a.back c
    ∙ sym (ap (value_in key) a.whole ∙ value_in-around key a.front a.mid a.back a.front_before a.mid_here a.back_after))
