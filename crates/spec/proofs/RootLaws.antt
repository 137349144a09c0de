-- Where no two blocks clash, a root names the contents of its tree.
use Rattle.std.proofs.Common.{◌≡◌, ℕ, Bool, true, List, [], ◌∷◌, ◌++◌, length, refl, sym, ap, ◌∙◌, arith}
use Rattle.std.specs.Prelude.{Contains}
use Rattle.std.specs.List.{AllByRecursion, list_all}
use Rattle.std.proofs.lemmas.List.Elements.{Contains-append_left, Contains-append_right}
use Rattle.spec.specs.Layer.{layer}
use Rattle.spec.specs.Tree.{Pair, Node, Last, More, Part, Nothing, Sub, top, pairs_in, EachNode, EachUnder}
use Rattle.spec.specs.NodeFormat.{node_bytes, shape}
use Rattle.spec.specs.Blocks.{blocks_in, blocks_under, nodes, root, no_record, ArePairs, IsClashFree}
use Rattle.spec.proofs.Bools.{both}
use Rattle.spec.proofs.TreeLaws.{pairs-top}
use Rattle.spec.proofs.TreeNodes.{IsLawful, EachNode-top}
use Rattle.spec.proofs.SameTree.{Stands, same-part, free_shapes}

-- ---- what pairs have to be, from tests

pub all_of : {X : Type 0} (test : X → Bool) (xs : List X) → list_all test xs ≡ true → AllByRecursion (λ x. test x ≡ true) xs
all_of test [] h = tt
all_of test (x ∷ xs) h = let p = both (test x) (list_all test xs) h in (p.0, all_of test xs p.1)

-- ---- each node of a tree is among its blocks

pub in_head : (b : List ℕ) (bs : List (List ℕ)) → Contains (b ∷ bs) b
in_head b bs = (0, omega arith, refl)

pub in_tail : (b c : List ℕ) (bs : List (List ℕ)) → Contains bs c → Contains (b ∷ bs) c
in_tail b c bs h = Contains-append_right (b ∷ []) bs c h

module _ (digest : List ℕ → List ℕ) (records : List ℕ → List (List ℕ)) where
  abbrev pub Among : List (List ℕ) → Node → Type 0
  Among bs m = Contains bs (node_bytes digest m)

  mutual
    -- of blocks that have all those of a part
    pub among-part : (bs : List (List ℕ)) (p : Part) → ((b : List ℕ) → Contains (blocks_in digest records p) b → Contains bs b) → EachNode (Among bs) p
    among-part bs Nothing h = tt
    among-part bs (Sub m) h =
        let own = blocks_under digest records m in
        (h _ (in_head (node_bytes digest m) own), among-under bs m (λ b c. h b (in_tail (node_bytes digest m) b own c)))

    pub among-under : (bs : List (List ℕ)) (m : Node) → ((b : List ℕ) → Contains (blocks_under digest records m) b → Contains bs b) → EachUnder (Among bs) m
    among-under bs (Last p) h = among-part bs p h
    among-under bs (More p e r) h =
        let first = blocks_in digest records p in
        let own = records e.0 in
        let rest = blocks_under digest records r in (
          among-part bs p (λ b c. h b (Contains-append_left (first ++ own) rest b (Contains-append_left first own b c))),
          among-under bs r (λ b c. h b (Contains-append_right (first ++ own) rest b c)),
        )

-- ---- two facts of each node

mutual
  pub both-part : (P Q : Node → Type 0) (p : Part) → EachNode P p → EachNode Q p → EachNode (λ m. P m × Q m) p
  both-part P Q Nothing h k = tt
  both-part P Q (Sub m) h k = ((h.0, k.0), both-under P Q m h.1 k.1)

  pub both-under : (P Q : Node → Type 0) (m : Node) → EachUnder P m → EachUnder Q m → EachUnder (λ m. P m × Q m) m
  both-under P Q (Last p) h k = both-part P Q p h k
  both-under P Q (More p e r) h k = (both-part P Q p h.0 k.0, both-under P Q r h.1 k.1)

-- ---- the law

-- each node of the tree of these pairs is of the grammar, and among any blocks that have all its blocks
pub stands-top : (digest : List ℕ → List ℕ) (bits : ℕ) → ((bytes : List ℕ) → length (digest bytes) ≡ 32) → (es : List Pair) → ArePairs es
    → (bs : List (List ℕ)) → ((b : List ℕ) → Contains (nodes digest bits es) b → Contains bs b)
    → EachNode (λ m. Stands (Contains bs) (shape digest m)) (Sub (top (layer digest bits) es))
stands-top digest bits fits es are bs within =
    both-part (Among digest no_record bs) (IsLawful digest) (Sub (top (layer digest bits) es))
    (among-part digest no_record bs (Sub (top (layer digest bits) es)) within)
    (EachNode-top digest (layer digest bits) fits es are)

-- two lists of pairs with one root are one list, where no two of their nodes clash
pub root-names : (digest : List ℕ → List ℕ) (bits : ℕ) → ((bytes : List ℕ) → length (digest bytes) ≡ 32) → (es fs : List Pair) → ArePairs es → ArePairs fs
    → IsClashFree digest (nodes digest bits es ++ nodes digest bits fs) → root digest bits es ≡ root digest bits fs → es ≡ fs
root-names digest bits fits es fs are_es are_fs free same =
    let bs = nodes digest bits es ++ nodes digest bits fs in
    let t = top (layer digest bits) es in
    let u = top (layer digest bits) fs in
    let of_es = stands-top digest bits fits es are_es bs (λ b c. Contains-append_left (nodes digest bits es) (nodes digest bits fs) b c) in
    let of_fs = stands-top digest bits fits fs are_fs bs (λ b c. Contains-append_right (nodes digest bits es) (nodes digest bits fs) b c) in
    let equal : Sub t ≡ Sub u = same-part digest (Stands (Contains bs)) (free_shapes digest (Contains bs) free) (Sub t) (Sub u) of_es of_fs (cc) in
    sym (pairs-top (layer digest bits) es) ∙ ap pairs_in equal ∙ pairs-top (layer digest bits) fs
