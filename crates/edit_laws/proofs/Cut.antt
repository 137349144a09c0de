-- How a cut list joins, and where a key's place is in a node made from it.
use Rattle.std.proofs.Common.{◌≡◌, ℕ, Bool, true, false, nat_eq, List, [], ◌∷◌, ◌++◌, refl, ap, ◌∙◌}
use Rattle.spec.specs.Tree.{Pair, Node, Part, Last, More, Groups, LastGroup, MoreGroups, push, enter, cut, node_of, below, tree}
use Rattle.edit_laws.specs.TreeEdit.{first, with_first, onto, locate}
use Rattle.edit_laws.specs.Pairs.{IsBefore}

abbrev pub befores : (List Pair → Part) → Groups → List (Part × Pair)
befores part (LastGroup g) = []
befores part (MoreGroups g e r) = (part g, e) ∷ befores part r

abbrev pub last_group : Groups → List Pair
last_group (LastGroup g) = g
last_group (MoreGroups g e r) = last_group r

abbrev pub first_group : Groups → List Pair
first_group (LastGroup g) = g
first_group (MoreGroups g e r) = g

abbrev pub cursor : List Pair → Groups → Groups
cursor a (LastGroup g) = LastGroup (a ++ g)
cursor a (MoreGroups g e r) = MoreGroups (a ++ g) e r

abbrev pub glue : Groups → Groups → Groups
glue (LastGroup a) h = cursor a h
glue (MoreGroups a e r) h = MoreGroups a e (glue r h)

push-cursor : (e : Pair) (a : List Pair) (h : Groups) → push e (cursor a h) ≡ cursor (e ∷ a) h
push-cursor e a (LastGroup g) = refl
push-cursor e a (MoreGroups g x r) = refl

enter-glue : (b : Bool) (e : Pair) (g h : Groups) → enter b e (glue g h) ≡ glue (enter b e g) h
enter-glue true e g h = refl
enter-glue false e (LastGroup a) h = push-cursor e a h
enter-glue false e (MoreGroups a x r) h = refl

cursor-nil : (h : Groups) → h ≡ cursor [] h
cursor-nil (LastGroup g) = refl
cursor-nil (MoreGroups g e r) = refl

pub cut-append : (layer : List ℕ → ℕ) (n : ℕ) (xs ys : List Pair)
    → cut layer n (xs ++ ys) ≡ glue (cut layer n xs) (cut layer n ys)
cut-append layer n [] ys = cursor-nil (cut layer n ys)
cut-append layer n (e ∷ es) ys =
    let b = nat_eq (layer e.0) n in
    ap (enter b e) (cut-append layer n es ys) ∙ enter-glue b e (cut layer n es) (cut layer n ys)

node-cursor : (part : List Pair → Part) (a : List Pair) (h : Groups)
    → node_of part (cursor a h) ≡ with_first (part (a ++ first_group h)) (node_of part h)
node-cursor part a (LastGroup g) = refl
node-cursor part a (MoreGroups g e r) = refl

pub node-glue : (part : List Pair → Part) (g h : Groups)
    → node_of part (glue g h)
    ≡ onto (befores part g) (with_first (part (last_group g ++ first_group h)) (node_of part h))
node-glue part (LastGroup a) h = node-cursor part a h
node-glue part (MoreGroups a e r) h = ap (More (part a) e) (node-glue part r h)

pub tree-append : (layer : List ℕ → ℕ) (n : ℕ) (xs ys : List Pair)
    → tree layer n (xs ++ ys)
    ≡ onto (befores (below layer n) (cut layer n xs))
    (with_first (below layer n (last_group (cut layer n xs) ++ first_group (cut layer n ys))) (tree layer n ys))
tree-append layer n xs ys =
    ap (node_of (below layer n)) (cut-append layer n xs ys)
    ∙ node-glue (below layer n) (cut layer n xs) (cut layer n ys)

pub node-whole : (part : List Pair → Part) (g : Groups)
    → onto (befores part g) (Last (part (last_group g))) ≡ node_of part g
node-whole part (LastGroup a) = refl
node-whole part (MoreGroups a e r) = ap (More (part a) e) (node-whole part r)

pub first-with_first : (p : Part) (m : Node) → first (with_first p m) ≡ p
first-with_first p (Last q) = refl
first-with_first p (More q e r) = refl

-- P holds of the key of each
abbrev pub Keys : (Pair → Type 0) → List (Part × Pair) → Type 0
Keys P [] = Unit {0}
Keys P (x ∷ xs) = P x.1 × Keys P xs

pub locate-onto : (key : List ℕ) (ls : List (Part × Pair)) (m : Node) → Keys (IsBefore key) ls
    → locate key m ≡ record { before = []; here = m } → locate key (onto ls m) ≡ record { before = ls; here = m }
locate-onto key [] m h s = s
locate-onto key (x ∷ xs) m h s = rw h.0 (rw (locate-onto key xs m h.1 s))
