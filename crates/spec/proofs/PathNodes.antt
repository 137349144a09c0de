-- The path of a key is made of nodes of the tree, one a layer at most.
use Rattle.std.proofs.Common.{◌≡◌, ℕ, zero, suc, ◌/◌, ◌≤◌, List, [], ◌∷◌, ◌++◌, length, max, arith, inl, inr}
use Rattle.std.specs.Prelude.{Contains}
use Rattle.std.specs.Cmp.Lexicographic.{slice_cmp}
use Rattle.std.specs.Ordering.{nat_cmp}
use Rattle.std.specs.declared.cmp.Ordering.{Ordering}
use Rattle.std.specs.declared.cmp.Ordering.TheVariants.{Less, Equal, Greater}
use Rattle.std.proofs.Math.Nat.{div-zero, div-mul-le_self}
use Rattle.std.proofs.lemmas.Nat.{le-div}
use Rattle.std.proofs.lemmas.List.Elements.{Contains-append_left, Contains-append_right, Contains-append_cases}
use Rattle.spec.specs.Layer.{layer, zero_bits}
use Rattle.spec.specs.Tree.{Pair, Node, Last, More, Part, Nothing, Sub, Groups, LastGroup, MoreGroups, cut, node_of, below, top_layer, top}
use Rattle.spec.specs.NodeFormat.{node_bytes}
use Rattle.spec.specs.Blocks.{blocks_in, blocks_under, no_record, nodes}
use Rattle.spec.specs.Proof.{by_order, path_in, path_under, path}
use Rattle.spec.proofs.LayerLaws.{zero_bits-le}

-- ---- blocks of the tree

cons_cases : (x b : List ℕ) (xs ys : List (List ℕ)) → (Contains xs b → Contains ys b) → Contains (x ∷ xs) b → Contains (x ∷ ys) b
cons_cases x b xs ys h i =
    elim (Contains-append_cases (x ∷ []) xs b i) [
      | inl first ↦ Contains-append_left (x ∷ []) ys b first
      | inr rest ↦ Contains-append_right (x ∷ []) ys b (h rest)
    ]

module _ (digest : List ℕ → List ℕ) (records : List ℕ → List (List ℕ)) (key b : List ℕ) where
  among-case : (before own after down along : List (List ℕ)) (o : Ordering) → (Contains down b → Contains before b) → (Contains along b → Contains after b)
      → Contains (by_order o along [] down) b → Contains (before ++ own ++ after) b
  among-case before own after down along Less h k i = Contains-append_right (before ++ own) after b (k i)
  among-case before own after down along Equal h k i = absurd (omega (arith, i.1))
  among-case before own after down along Greater h k i = Contains-append_left (before ++ own) after b (Contains-append_left before own b (h i))

  mutual
    -- each block of a path is a block of the part, whatever stands for its records
    pub path_in-among : (p : Part) → Contains (path_in digest key p) b → Contains (blocks_in digest records p) b
    path_in-among Nothing i = i
    path_in-among (Sub m) i = cons_cases (node_bytes digest m) b (path_under digest key m) (blocks_under digest records m) (path_under-among m) i

    path_under-among : (m : Node) → Contains (path_under digest key m) b → Contains (blocks_under digest records m) b
    path_under-among (Last p) i = path_in-among p i
    path_under-among (More p e r) i =
        among-case (blocks_in digest records p) (records e.0) (blocks_under digest records r) (path_in digest key p) (path_under digest key r)
        (slice_cmp nat_cmp e.0 key) (path_in-among p) (path_under-among r) i

pub path-among : (digest : List ℕ → List ℕ) (bits : ℕ) (es : List Pair) (key b : List ℕ) → Contains (path digest bits es key) b → Contains (nodes digest bits es) b
path-among digest bits es key b i = path_in-among digest no_record key b (Sub (top (layer digest bits) es)) i

-- ---- how many nodes a path has

abbrev mutual
  -- how many nodes stand one above another, at most
  pub height : Part → ℕ
  height Nothing = 0
  height (Sub m) = suc (height_under m)

  pub height_under : Node → ℕ
  height_under (Last p) = height p
  height_under (More p e r) = max (height p) (height_under r)

length-case : (xs ys : List (List ℕ)) (a b : ℕ) (o : Ordering) → length xs ≤ a → length ys ≤ b → length (by_order o ys [] xs) ≤ max a b
length-case xs ys a b Less h k = omega arith
length-case xs ys a b Equal h k = omega arith
length-case xs ys a b Greater h k = omega arith

mutual
  pub length-path_in : (digest : List ℕ → List ℕ) (key : List ℕ) (p : Part) → length (path_in digest key p) ≤ height p
  length-path_in digest key Nothing = omega arith
  length-path_in digest key (Sub m) = let rest = length-path_under digest key m in omega arith

  pub length-path_under : (digest : List ℕ → List ℕ) (key : List ℕ) (m : Node) → length (path_under digest key m) ≤ height_under m
  length-path_under digest key (Last p) = length-path_in digest key p
  length-path_under digest key (More p e r) =
      length-case (path_in digest key p) (path_under digest key r) (height p) (height_under r) (slice_cmp nat_cmp e.0 key) (length-path_in digest key p) (length-path_under digest key r)

height-groups : (part : List Pair → Part) (n : ℕ) → ((es : List Pair) → height (part es) ≤ n) → (g : Groups) → height_under (node_of part g) ≤ n
height-groups part n h (LastGroup g) = h g
height-groups part n h (MoreGroups g e r) = let first = h g in let rest = height-groups part n h r in omega arith

pub height-below : (layer : List ℕ → ℕ) (n : ℕ) (es : List Pair) → height (below layer n es) ≤ n
height-below layer zero es = omega arith
height-below layer (suc n) [] = omega arith
height-below layer (suc n) (e ∷ es) = let under = height-groups (below layer n) n (height-below layer n) (cut layer n (e ∷ es)) in omega arith

pub height-top : (layer : List ℕ → ℕ) (es : List Pair) → height (Sub (top layer es)) ≤ suc (top_layer layer es)
height-top layer es = let n = top_layer layer es in let under = height-groups (below layer n) n (height-below layer n) (cut layer n es) in omega arith

pub length-path : (digest : List ℕ → List ℕ) (bits : ℕ) (es : List Pair) (key : List ℕ) → length (path digest bits es key) ≤ suc (top_layer (layer digest bits) es)
length-path digest bits es key =
    let whole = Sub (top (layer digest bits) es) in
    let a = length-path_in digest key whole in
    let b = height-top (layer digest bits) es in
    omega arith

-- ---- how many layers a digest of 32 bytes has

div-mono : (m n k : ℕ) → m ≤ n → m / k ≤ n / k
div-mono m n zero h = let a = div-zero m in omega arith
div-mono m n (suc k) h = le-div (m / suc k) n (suc k) (omega arith) (omega (arith, div-mul-le_self m (suc k)))

pub top_layer-le : (digest : List ℕ → List ℕ) (bits : ℕ) → ((bytes : List ℕ) → length (digest bytes) ≡ 32) → (es : List Pair) → top_layer (layer digest bits) es ≤ 256 / bits
top_layer-le digest bits fits [] = omega arith
top_layer-le digest bits fits (e ∷ es) =
    let rest = top_layer-le digest bits fits es in
    let zeros = zero_bits-le (digest e.0) in
    let long = fits e.0 in
    let own : layer digest bits e.0 ≤ 256 / bits = div-mono (zero_bits (digest e.0)) 256 bits (omega arith) in
    omega arith
