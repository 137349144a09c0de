-- What lies ahead in a list of pairs that is taken from the front: a node is the part before its first entry, and then
-- entry by entry the part after it.
use Rattle.std.proofs.Common.{◌≡◌, ◌≢◌, ℕ, suc, ◌-◌, ◌<◌, Bool, true, false, cond, nat_lt, nat_eq, List, [], ◌∷◌, ◌++◌, refl, sym, ap, subst, ◌∙◌, arith}
use Rattle.std.specs.List.{AllByRecursion}
use Rattle.std.proofs.lemmas.Bool.{ltb-true, ltb-false, lt-ltb, le-ltb, eqb-false}
use Rattle.std.proofs.lemmas.List.{append-nil}
use Rattle.spec.specs.Tree.{Pair, Node, Last, More, Part, Nothing, Sub, LastGroup, MoreGroups, cut, node_of, below, tree, EachLayer}
use Rattle.spec.proofs.TreeLaws.{IsLower, IsCut-cut, joined-cut, only_cut, below-nothing}

-- whether the first pair is of a layer below n, or of layer n
abbrev pub is_first_below : (List ℕ → ℕ) → ℕ → List Pair → Bool
is_first_below layer n [] = false
is_first_below layer n (e ∷ es) = nat_lt (layer e.0) n

abbrev pub is_first_at : (List ℕ → ℕ) → ℕ → List Pair → Bool
is_first_at layer n [] = false
is_first_at layer n (e ∷ es) = nat_eq (layer e.0) n

-- the pairs before the first of layer n or above
abbrev pub before_layer : (List ℕ → ℕ) → ℕ → List Pair → List Pair
before_layer layer n [] = []
before_layer layer n (e ∷ es) = cond (nat_lt (layer e.0) n) (e ∷ before_layer layer n es) []

-- the pairs from the first of layer n or above on
abbrev pub from_layer : (List ℕ → ℕ) → ℕ → List Pair → List Pair
from_layer layer n [] = []
from_layer layer n (e ∷ es) = cond (nat_lt (layer e.0) n) (from_layer layer n es) (e ∷ es)

-- the node of layer n, and the part below layer n, of the pairs up to the first that is too high for it
abbrev pub node_ahead : (List ℕ → ℕ) → ℕ → List Pair → Node
node_ahead layer n es = tree layer n (before_layer layer (suc n) es)

abbrev pub part_ahead : (List ℕ → ℕ) → ℕ → List Pair → Part
part_ahead layer n es = below layer n (before_layer layer n es)

-- ---- another first part

-- the same node with another first part
abbrev pub with_first : Part → Node → Node
with_first q (Last p) = Last q
with_first q (More p e r) = More q e r

abbrev pub first_part : Node → Part
first_part (Last p) = p
first_part (More p e r) = p

module _ (layer : List ℕ → ℕ) where
  -- one more pair in front, by its test
  abbrev Before : ℕ → Bool → Pair → List Pair → List Pair
  Before n b e es = cond b (e ∷ before_layer layer n es) []

  abbrev From : ℕ → Bool → Pair → List Pair → List Pair
  From n b e es = cond b (from_layer layer n es) (e ∷ es)

  -- ---- taken from the front

  pub before-none : (n : ℕ) (es : List Pair) → is_first_below layer n es ≡ false → before_layer layer n es ≡ []
  before-none n [] h = refl
  before-none n (e ∷ es) h = ap (λ b. Before n b e es) h

  pub from-none : (n : ℕ) (es : List Pair) → is_first_below layer n es ≡ false → from_layer layer n es ≡ es
  from-none n [] h = refl
  from-none n (e ∷ es) h = ap (λ b. From n b e es) h

  first-from_step : (n : ℕ) (e : Pair) (es : List Pair) (b : Bool) → nat_lt (layer e.0) n ≡ b → is_first_below layer n (from_layer layer n es) ≡ false → is_first_below layer n (From n b e es) ≡ false
  first-from_step n e es true h k = k
  first-from_step n e es false h k = h

  pub first-from : (n : ℕ) (es : List Pair) → is_first_below layer n (from_layer layer n es) ≡ false
  first-from n [] = refl
  first-from n (e ∷ es) = first-from_step n e es (nat_lt (layer e.0) n) refl (first-from n es)

  also_below_next : (n : ℕ) (e : Pair) → nat_lt (layer e.0) n ≡ true → nat_lt (layer e.0) (suc n) ≡ true
  also_below_next n e h = let lt = ltb-true (layer e.0) n h in lt-ltb (layer e.0) (suc n) (omega arith)

  before-suc_step : (n : ℕ) (e : Pair) (es : List Pair) (b : Bool) → nat_lt (layer e.0) n ≡ b → before_layer layer (suc n) es ≡ before_layer layer n es ++ before_layer layer (suc n) (from_layer layer n es)
      → before_layer layer (suc n) (e ∷ es) ≡ Before n b e es ++ before_layer layer (suc n) (From n b e es)
  before-suc_step n e es true h i = ap (λ b. Before (suc n) b e es) (also_below_next n e h) ∙ ap (λ (xs : List Pair). e ∷ xs) i
  before-suc_step n e es false h i = refl

  pub before-suc : (n : ℕ) (es : List Pair) → before_layer layer (suc n) es ≡ before_layer layer n es ++ before_layer layer (suc n) (from_layer layer n es)
  before-suc n [] = refl
  before-suc n (e ∷ es) = before-suc_step n e es (nat_lt (layer e.0) n) refl (before-suc n es)

  from-suc_step : (n : ℕ) (e : Pair) (es : List Pair) (b : Bool) → nat_lt (layer e.0) n ≡ b → from_layer layer (suc n) es ≡ from_layer layer (suc n) (from_layer layer n es)
      → from_layer layer (suc n) (e ∷ es) ≡ from_layer layer (suc n) (From n b e es)
  from-suc_step n e es true h i = ap (λ b. From (suc n) b e es) (also_below_next n e h) ∙ i
  from-suc_step n e es false h i = refl

  pub from-suc : (n : ℕ) (es : List Pair) → from_layer layer (suc n) es ≡ from_layer layer (suc n) (from_layer layer n es)
  from-suc n [] = refl
  from-suc n (e ∷ es) = from-suc_step n e es (nat_lt (layer e.0) n) refl (from-suc n es)

  -- all pairs are low enough
  pub before-all : (n : ℕ) (es : List Pair) → AllByRecursion (IsLower layer n) es → before_layer layer n es ≡ es
  before-all n [] h = refl
  before-all n (e ∷ es) h = ap (λ b. Before n b e es) (lt-ltb (layer e.0) n h.0) ∙ ap (λ (xs : List Pair). e ∷ xs) (before-all n es h.1)

  pub not-first : (n : ℕ) (es : List Pair) → is_first_below layer n es ≡ false → is_first_at layer n es ≡ false → is_first_below layer (suc n) es ≡ false
  not-first n [] h k = refl
  not-first n (e ∷ es) h k =
      let le = ltb-false (layer e.0) n h in
      let ne = eqb-false (layer e.0) n k in
      le-ltb (layer e.0) (suc n) (omega arith)

  other_step : (n : ℕ) (e : Pair) (es : List Pair) (b : Bool) → nat_lt (layer e.0) n ≡ b → EachLayer layer (λ l. l ≢ n) (before_layer layer n es) → EachLayer layer (λ l. l ≢ n) (Before n b e es)
  other_step n e es true h k = (let lt = ltb-true (layer e.0) n h in λ same. omega arith, k)
  other_step n e es false h k = tt

  other_before : (n : ℕ) (es : List Pair) → EachLayer layer (λ l. l ≢ n) (before_layer layer n es)
  other_before n [] = tt
  other_before n (e ∷ es) = other_step n e es (nat_lt (layer e.0) n) refl (other_before n es)

  -- ---- the tree of pairs of which the first are of other layers

  tree-last : (n : ℕ) (g : List Pair) → EachLayer layer (λ l. l ≢ n) g → tree layer n g ≡ Last (below layer n g)
  tree-last n g h = ap (node_of (below layer n)) (only_cut layer n g (LastGroup g) (record { whole = refl; groups = h }))

  tree-more : (n : ℕ) (g : List Pair) (e : Pair) (r : List Pair) → EachLayer layer (λ l. l ≢ n) g → layer e.0 ≡ n → tree layer n (g ++ e ∷ r) ≡ More (below layer n g) e (tree layer n r)
  tree-more n g e r h k =
      ap (node_of (below layer n))
      (only_cut layer n (g ++ e ∷ r) (MoreGroups g e (cut layer n r)) (record { whole = ap (λ (xs : List Pair). g ++ e ∷ xs) (joined-cut layer n r); groups = (h, k, (IsCut-cut layer n r).groups) }))

  tree-first_step : (n : ℕ) (g : List Pair) (e : Pair) (es : List Pair) (b : Bool) → nat_lt (layer e.0) (suc n) ≡ b → nat_lt (layer e.0) n ≡ false → EachLayer layer (λ l. l ≢ n) g
      → tree layer n (g ++ Before (suc n) b e es) ≡ with_first (below layer n g) (tree layer n (Before (suc n) b e es))
  tree-first_step n g e es true h k other =
      let same : layer e.0 ≡ n = (let lt = ltb-true (layer e.0) (suc n) h in let le = ltb-false (layer e.0) n k in omega arith) in
      tree-more n g e (before_layer layer (suc n) es) other same
      ∙ ap (with_first (below layer n g)) (sym (tree-more n [] e (before_layer layer (suc n) es) tt same))
  tree-first_step n g e es false h k other = ap (tree layer n) (append-nil g) ∙ tree-last n g other

  tree-first : (n : ℕ) (g es : List Pair) → is_first_below layer n es ≡ false → EachLayer layer (λ l. l ≢ n) g
      → tree layer n (g ++ before_layer layer (suc n) es) ≡ with_first (below layer n g) (node_ahead layer n es)
  tree-first n g [] h other = ap (tree layer n) (append-nil g) ∙ tree-last n g other
  tree-first n g (e ∷ es) h other = tree-first_step n g e es (nat_lt (layer e.0) (suc n)) refl h other

  -- ---- the node ahead, piece by piece

  -- before its first entry
  pub node-first : (n : ℕ) (es : List Pair) → node_ahead layer n es ≡ with_first (part_ahead layer n es) (node_ahead layer n (from_layer layer n es))
  node-first n es = ap (tree layer n) (before-suc n es) ∙ tree-first n (before_layer layer n es) (from_layer layer n es) (first-from n es) (other_before n es)

  -- from an entry on
  pub node-entry : (n : ℕ) (e : Pair) (es : List Pair) → layer e.0 ≡ n → node_ahead layer n (e ∷ es) ≡ More Nothing e (node_ahead layer n es)
  node-entry n e es same =
      ap (λ b. tree layer n (Before (suc n) b e es)) (lt-ltb (layer e.0) (suc n) (omega arith))
      ∙ tree-more n [] e (before_layer layer (suc n) es) tt same
      ∙ ap (λ p. More p e (node_ahead layer n es)) (below-nothing layer n)

  pub from-entry : (n : ℕ) (e : Pair) (es : List Pair) → layer e.0 ≡ n → from_layer layer (suc n) (e ∷ es) ≡ from_layer layer (suc n) es
  from-entry n e es h = ap (λ b. From (suc n) b e es) (lt-ltb (layer e.0) (suc n) (omega arith))

  -- nothing is left
  pub node-end : (n : ℕ) (es : List Pair) → is_first_below layer (suc n) es ≡ false → node_ahead layer n es ≡ Last Nothing
  node-end n es h = ap (tree layer n) (before-none (suc n) es h) ∙ ap Last (below-nothing layer n)

  -- no part before the first entry, where the pairs before it are taken
  first_part-step : (n : ℕ) (e : Pair) (es : List Pair) (b : Bool) → nat_lt (layer e.0) (suc n) ≡ b → nat_lt (layer e.0) n ≡ false → first_part (tree layer n (Before (suc n) b e es)) ≡ Nothing
  first_part-step n e es true h k =
      let same : layer e.0 ≡ n = (let lt = ltb-true (layer e.0) (suc n) h in let le = ltb-false (layer e.0) n k in omega arith) in
      ap first_part (tree-more n [] e (before_layer layer (suc n) es) tt same) ∙ below-nothing layer n
  first_part-step n e es false h k = below-nothing layer n

  pub first_part-ahead : (n : ℕ) (es : List Pair) → is_first_below layer n es ≡ false → first_part (node_ahead layer n es) ≡ Nothing
  first_part-ahead n [] h = below-nothing layer n
  first_part-ahead n (e ∷ es) h = first_part-step n e es (nat_lt (layer e.0) (suc n)) refl h

  -- ---- the part ahead

  pub part-none : (n : ℕ) (es : List Pair) → is_first_below layer n es ≡ false → part_ahead layer n es ≡ Nothing
  part-none n es h = ap (below layer n) (before-none n es h) ∙ below-nothing layer n

  pub part-some_at : (k : ℕ) (es : List Pair) → is_first_below layer (suc k) es ≡ true → part_ahead layer (suc k) es ≡ Sub (node_ahead layer k es)
  part-some_at k [] h = absurd cc
  part-some_at k (e ∷ es) h =
      ap (λ b. below layer (suc k) (Before (suc k) b e es)) h ∙ ap (λ b. Sub (tree layer k (Before (suc k) b e es))) (sym h)

  pub first-suc : (n : ℕ) (es : List Pair) → is_first_below layer n es ≡ true → 0 < n
  first-suc n [] h = absurd cc
  first-suc n (e ∷ es) h = let lt = ltb-true (layer e.0) n h in omega arith

  pub part-is : (n k : ℕ) (es : List Pair) → is_first_below layer n es ≡ true → k ≡ n - 1 → part_ahead layer n es ≡ Sub (node_ahead layer k es)
  part-is n k es h e =
      let some = first-suc n es h in
      let p : suc k ≡ n = omega arith in
      ap (λ i. part_ahead layer i es) (sym p) ∙ part-some_at k es (subst (λ i. is_first_below layer i es ≡ true) (sym p) h)
