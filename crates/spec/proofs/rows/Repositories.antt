-- Records that writes leave, blocks of repositories, and their files.
use Rattle.std.specs.Prelude.{◌≡◌, ℕ, List, [], ◌∷◌, ◌++◌, map, length, codes, Ok, Err, None}
use Rattle.std.proofs.Common.{refl}
use Rattle.std.specs.Int.Count.{count_leading_zeros}
use Rattle.spec.specs.Head.{head_at}
use Rattle.spec.specs.Cid.{cid}
use Rattle.spec.specs.NodeFormat.{entry_at, entries_at, read_node}
use Rattle.spec.specs.Blocks.{firsts, blocks, pairs, repository_root}
use Rattle.spec.specs.Car.{car_of}
use Rattle.spec.specs.Proof.{path, verified, verified_within, BlockMissing, KeyLength}
use Rattle.spec.specs.Writes.{Write, Put, Delete, leaves}
use Rattle.spec.proofs.rows.Written.{hex}
use Rattle.spec.specs.TestDigests.{by_last_digit}

abbrev empty_node : List ℕ
empty_node = hex "a2616580616cf6"

-- ---- blocks

abbrev blocks_after : List Write → List (List ℕ)
blocks_after ws = firsts (cid by_last_digit) (blocks by_last_digit 2 [] (leaves ws))

-- a record with the empty node's bytes, and then its delete: the same block is first a record, and then the one node
node_and_record_in_one_block : (map length (blocks_after (Put (codes "a/b0") empty_node ∷ [])) ≡ 64 ∷ 7 ∷ []) × (blocks_after (Put (codes "a/b0") empty_node ∷ Delete (codes "a/b0") ∷ []) ≡ empty_node ∷ [])
unfolding count_leading_zeros cid
node_and_record_in_one_block = (refl, refl)

one_record_under_two_keys : map length (blocks_after (Put (codes "a/b0") (hex "a0") ∷ Put (codes "a/c0") (hex "a0") ∷ [])) ≡ 119 ∷ 1 ∷ []
unfolding count_leading_zeros cid
one_record_under_two_keys = refl

-- ---- files

-- SHA-256 of the empty node
abbrev sha256 : List ℕ → List ℕ
sha256 bytes = hex "9dfefe61dd76ea3dcae5023880b08379d57adf20482d6fdbe2759289f647677b"

abbrev empty_cid : List ℕ
empty_cid = hex "01711220" ++ sha256 empty_node

-- the header of 58 bytes, and one section of 43
car_of_the_empty_repository : car_of sha256 (repository_root sha256 2 []) (blocks sha256 2 [] [])
    ≡ hex "3aa265726f6f747381d82a582500" ++ empty_cid ++ hex "6776657273696f6e01" ++ hex "2b" ++ empty_cid ++ empty_node
unfolding count_leading_zeros cid
car_of_the_empty_repository = refl

-- three records in a tree of five nodes: a node, what is under its left link, and for each entry its record and its subtree
abbrev three : List Write
three = Put (codes "a/p0") (hex "a1616101") ∷ Put (codes "a/q2") (hex "a1616102") ∷ Put (codes "a/r0") (hex "a1616103") ∷ []

order_of_the_file : map length (blocks_after three) ≡ 144 ∷ 47 ∷ 64 ∷ 4 ∷ 4 ∷ 47 ∷ 64 ∷ 4 ∷ []
unfolding count_leading_zeros cid
order_of_the_file = refl

car_of_the_tree_of_five_nodes : length (car_of by_last_digit (repository_root by_last_digit 2 (leaves three)) (blocks by_last_digit 2 [] (leaves three))) ≡ 734
unfolding count_leading_zeros cid
car_of_the_tree_of_five_nodes = refl

-- ---- proofs

proofs_of_an_empty_tree : (verified sha256 2 empty_cid (empty_node ∷ []) (codes "a/b") ≡ Ok None) × (verified sha256 2 empty_cid [] (codes "a/b") ≡ Err BlockMissing) × (verified sha256 2 empty_cid (empty_node ∷ []) [] ≡ Err KeyLength)
unfolding verified verified_within read_node entries_at entry_at head_at cid
proofs_of_an_empty_tree = (refl, refl, refl)

-- a key with a record, and one in the gap after it
proof_of_a_key : (map length (path by_last_digit 2 (pairs by_last_digit (leaves three)) (codes "a/q2")) ≡ 144 ∷ []) × (map length (path by_last_digit 2 (pairs by_last_digit (leaves three)) (codes "a/q3")) ≡ 144 ∷ 47 ∷ 64 ∷ [])
unfolding count_leading_zeros cid
proof_of_a_key = (refl, refl)
