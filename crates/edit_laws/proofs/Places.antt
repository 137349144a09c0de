-- A key's place in the tree of a list that is taken apart at that key.
use Rattle.std.proofs.Common.{◌≡◌, ℕ, suc, true, false, nat_eq, List, [], ◌∷◌, ◌++◌, refl, ap, ◌∙◌, append-nil}
use Rattle.std.specs.declared.cmp.Ordering.TheVariants.{Equal}
use Rattle.edit_laws.specs.Order.{order}
use Rattle.spec.specs.Tree.{Pair, Part, More, Sub, Groups, LastGroup, MoreGroups, push, cut, node_of, below, tree}
use Rattle.edit_laws.specs.TreeEdit.{with_first, onto, locate}
use Rattle.edit_laws.specs.Pairs.{Each, IsBefore, IsAfter}
use Rattle.edit_laws.proofs.Cut.{befores, last_group, first_group, tree-append, locate-onto}
use Rattle.edit_laws.proofs.Groups.{cut-in, befores-in, stops}

abbrev pub IsOutside : (List ℕ → ℕ) → ℕ → Pair → Type 0
IsOutside layer n e = nat_eq (layer e.0) n ≡ false

first-push : (e : Pair) (g : Groups) → first_group (push e g) ≡ e ∷ first_group g
first-push e (LastGroup g) = refl
first-push e (MoreGroups g x r) = refl

rest-push : (part : List Pair → Part) (p : Part) (e : Pair) (g : Groups)
    → with_first p (node_of part (push e g)) ≡ with_first p (node_of part g)
rest-push part p e (LastGroup g) = refl
rest-push part p e (MoreGroups g x r) = refl

first-outside : (layer : List ℕ → ℕ) (n : ℕ) (mid ys : List Pair) → Each (IsOutside layer n) mid
    → first_group (cut layer n (mid ++ ys)) ≡ mid ++ first_group (cut layer n ys)
first-outside layer n [] ys h = refl
first-outside layer n (e ∷ mid) ys h =
    rw h.0 (first-push e (cut layer n (mid ++ ys)) ∙ ap (λ t. e ∷ t) (first-outside layer n mid ys h.1))

rest-outside : (layer : List ℕ → ℕ) (n : ℕ) (part : List Pair → Part) (p : Part) (mid ys : List Pair)
    → Each (IsOutside layer n) mid
    → with_first p (node_of part (cut layer n (mid ++ ys))) ≡ with_first p (node_of part (cut layer n ys))
rest-outside layer n part p [] ys h = refl
rest-outside layer n part p (e ∷ mid) ys h =
    rw h.0 (rest-push part p e (cut layer n (mid ++ ys)) ∙ rest-outside layer n part p mid ys h.1)

-- pairs of other layers stand in the group
pub tree-outside : (layer : List ℕ → ℕ) (n : ℕ) (xs mid ys : List Pair) → Each (IsOutside layer n) mid
    → tree layer n (xs ++ (mid ++ ys))
    ≡ onto (befores (below layer n) (cut layer n xs))
    (with_first (below layer n (last_group (cut layer n xs) ++ (mid ++ first_group (cut layer n ys))))
    (tree layer n ys))
tree-outside layer n xs mid ys h =
    tree-append layer n xs (mid ++ ys)
    ∙ ap (onto (befores (below layer n) (cut layer n xs)))
    (ap (λ (t : List Pair). with_first (below layer n (last_group (cut layer n xs) ++ t))
    (tree layer n (mid ++ ys))) (first-outside layer n mid ys h)
    ∙ rest-outside layer n (below layer n) _ mid ys h)

-- a pair of the layer stands in the node
pub tree-here : (layer : List ℕ → ℕ) (n : ℕ) (xs : List Pair) (e : Pair) (ys : List Pair) → nat_eq (layer e.0) n ≡ true
    → tree layer n (xs ++ e ∷ ys)
    ≡ onto (befores (below layer n) (cut layer n xs))
    (More (below layer n (last_group (cut layer n xs))) e (tree layer n ys))
tree-here layer n xs e ys h =
    tree-append layer n xs (e ∷ ys) ∙ rw (h, append-nil)

pub locate-outside : (layer : List ℕ → ℕ) (n : ℕ) (key : List ℕ) (xs mid ys : List Pair)
    → Each (IsOutside layer n) mid → Each (IsBefore key) xs → Each (IsAfter key) ys
    → locate key (tree layer n (xs ++ (mid ++ ys)))
    ≡ record {
      before = befores (below layer n) (cut layer n xs);
      here = with_first (below layer n (last_group (cut layer n xs) ++ (mid ++ first_group (cut layer n ys))))
          (tree layer n ys);
    }
locate-outside layer n key xs mid ys hm hx hy =
    ap (locate key) (tree-outside layer n xs mid ys hm)
    ∙ locate-onto key _ _
    (befores-in (IsBefore key) (below layer n) (cut layer n xs) (cut-in (IsBefore key) layer n xs hx))
    (stops key _ (below layer n) (cut layer n ys) (cut-in (IsAfter key) layer n ys hy))

pub locate-here : (layer : List ℕ → ℕ) (n : ℕ) (key : List ℕ) (xs : List Pair) (e : Pair) (ys : List Pair)
    → nat_eq (layer e.0) n ≡ true → order e.0 key ≡ Equal → Each (IsBefore key) xs
    → locate key (tree layer n (xs ++ e ∷ ys))
    ≡ record {
      before = befores (below layer n) (cut layer n xs);
      here = More (below layer n (last_group (cut layer n xs))) e (tree layer n ys);
    }
locate-here layer n key xs e ys h q hx =
    ap (locate key) (tree-here layer n xs e ys h)
    ∙ locate-onto key _ _
    (befores-in (IsBefore key) (below layer n) (cut layer n xs) (cut-in (IsBefore key) layer n xs hx))
    (rw q)

pub sub-tree : (layer : List ℕ → ℕ) (n : ℕ) (xs : List Pair) (e : Pair) (ys : List Pair)
    → Sub (tree layer n (xs ++ e ∷ ys)) ≡ below layer (suc n) (xs ++ e ∷ ys)
sub-tree layer n [] e ys = refl
sub-tree layer n (x ∷ xs) e ys = refl
