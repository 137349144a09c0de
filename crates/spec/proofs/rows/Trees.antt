-- Trees of up to three keys, by their nodes and by the lengths of these.
use Rattle.std.specs.Prelude.{◌≡◌, true, List, [], ◌∷◌, map, length, codes, sum}
use Rattle.std.proofs.Common.{refl}
use Rattle.std.specs.Int.Count.{count_leading_zeros}
use Rattle.spec.specs.Cid.{cid}
use Rattle.spec.specs.Layer.{layer}
use Rattle.spec.specs.Tree.{Pair, Node, Last, More, Nothing, Sub, top}
use Rattle.spec.specs.Blocks.{nodes, is_clash_free}
use Rattle.spec.proofs.rows.Written.{hex, cid_of_byte}
use Rattle.spec.specs.TestDigests.{by_last_digit}

abbrev p0 : Pair
p0 = (codes "a/p0", cid_of_byte 0x11)

abbrev q2 : Pair
q2 = (codes "a/q2", cid_of_byte 0x11)

abbrev r0 : Pair
r0 = (codes "a/r0", cid_of_byte 0x11)

abbrev p3 : Pair
p3 = (codes "a/p3", cid_of_byte 0x11)

abbrev tree_of : List Pair → Node
tree_of es = top (layer by_last_digit 2) es

-- a node of one pair without subtrees
abbrev alone : Pair → Node
alone e = More Nothing e (Last Nothing)

empty_tree : (tree_of [] ≡ Last Nothing) × (nodes by_last_digit 2 [] ≡ hex "a2616580616cf6" ∷ [])
unfolding count_leading_zeros cid
empty_tree = (refl, refl)

-- the top has the key of layer 2; each side goes down over a node without a key in layer 1
tree_of_five_nodes : tree_of (p0 ∷ q2 ∷ r0 ∷ []) ≡ More (Sub (Last (Sub (alone p0)))) q2 (Last (Sub (Last (Sub (alone r0)))))
unfolding count_leading_zeros cid
tree_of_five_nodes = refl

lengths_of_five_nodes : map length (nodes by_last_digit 2 (p0 ∷ q2 ∷ r0 ∷ [])) ≡ 144 ∷ 47 ∷ 64 ∷ 47 ∷ 64 ∷ []
unfolding count_leading_zeros cid
lengths_of_five_nodes = refl

five_nodes_do_not_clash : is_clash_free by_last_digit (nodes by_last_digit 2 (p0 ∷ q2 ∷ r0 ∷ [])) ≡ true
unfolding count_leading_zeros cid
five_nodes_do_not_clash = refl

-- without the key of layer 2 the two others stand in one node
merge_after_a_delete : (tree_of (p0 ∷ r0 ∷ []) ≡ More Nothing p0 (More Nothing r0 (Last Nothing))) × (map length (nodes by_last_digit 2 (p0 ∷ r0 ∷ [])) ≡ 119 ∷ [])
unfolding count_leading_zeros cid
merge_after_a_delete = (refl, refl)

-- a key of layer 3 before one of layer 0: two nodes without a key between them
raised_top : (tree_of (p3 ∷ r0 ∷ []) ≡ More Nothing p3 (Last (Sub (Last (Sub (Last (Sub (alone r0)))))))) × (map length (nodes by_last_digit 2 (p3 ∷ r0 ∷ [])) ≡ 104 ∷ 47 ∷ 47 ∷ 64 ∷ [])
unfolding count_leading_zeros cid
raised_top = (refl, refl)

-- the five nodes' bytes in all, with one, four and eight zero bits a layer
other_bits : map (λ bits. sum (map length (nodes by_last_digit bits (p0 ∷ q2 ∷ r0 ∷ [])))) (1 ∷ 2 ∷ 4 ∷ 8 ∷ []) ≡ 554 ∷ 366 ∷ 272 ∷ 174 ∷ []
unfolding count_leading_zeros cid
other_bits = refl
