-- Rows worked by hand, over a digest that gives a key the layer of its last digit: two records, of which one was put, and
-- nodes of no tree.
use Rattle.std.specs.Prelude.{◌≡◌, ℕ, List, [], ◌∷◌, map, codes, Option, Some, None, Ok, Err}
use Rattle.spec.specs.Cid.{cid}
use Rattle.spec.specs.Tree.{Pair}
use Rattle.spec.specs.NodeFormat.{Shape, LastLink, MoreLinks, shape_bytes, shape_cid}
use Rattle.spec.specs.Blocks.{nodes, root}
use Rattle.change_laws.specs.Told.{KeyChange}
use Rattle.change_laws.specs.Given.{NotTree, OtherValue, OtherRoot}
use Rattle.change_laws.specs.Verdict.{change_verdict}

abbrev pub record_cid : (List ℕ → List ℕ) → ℕ → List ℕ
record_cid digest n = cid digest (n ∷ [])

abbrev pub put_b : (List ℕ → List ℕ) → ℕ → KeyChange
put_b digest n = record { key = codes "a/b0"; before = None; after = Some (record_cid digest n) }

-- another value than the key has
abbrev pub put_c : (List ℕ → List ℕ) → KeyChange
put_c digest = record { key = codes "a/c1"; before = None; after = Some (record_cid digest 1) }

abbrev pub old_pairs : (List ℕ → List ℕ) → List Pair
old_pairs digest = (codes "a/c1", record_cid digest 2) ∷ []

abbrev pub new_pairs : (List ℕ → List ℕ) → List Pair
new_pairs digest = (codes "a/b0", record_cid digest 1) ∷ (codes "a/c1", record_cid digest 2) ∷ []

-- a node with one pair between two links
abbrev pub node_with : (List ℕ → List ℕ) → Option (List ℕ) → List ℕ → Option (List ℕ) → Shape
node_with digest left key right = MoreLinks left (key, record_cid digest 3) (LastLink right)

abbrev pub later_node : (List ℕ → List ℕ) → Shape
later_node digest = node_with digest None (codes "a/d0") None

abbrev pub earlier_node : (List ℕ → List ℕ) → Shape
earlier_node digest = node_with digest None (codes "a/b0") None

-- no tree: what stands before a key is later, and what stands behind it is earlier
abbrev pub twisted : (List ℕ → List ℕ) → Shape
twisted digest =
    node_with digest (Some (shape_cid digest (later_node digest))) (codes "a/c1")
    (Some (shape_cid digest (earlier_node digest)))

-- no tree either: nodes without pairs, below which a node stands too deep
abbrev pub hollow : (List ℕ → List ℕ) → Shape
hollow digest = LastLink (Some (shape_cid digest (earlier_node digest)))

abbrev pub over_hollow : (List ℕ → List ℕ) → Shape
over_hollow digest =
    node_with digest (Some (shape_cid digest (hollow digest))) (codes "a/c1") (Some (shape_cid digest (LastLink None)))

-- undone, two subtrees come to one node
abbrev pub put_between : (List ℕ → List ℕ) → KeyChange
put_between digest = record { key = codes "a/c1"; before = None; after = Some (record_cid digest 3) }

-- the put is shown by both nodes; another value of the first or of the second change and another root are told, and that the blocks are of no tree
pub record AreRows (digest : List ℕ → List ℕ) : Type 0 where
  pub shown : change_verdict digest 2 (root digest 2 (old_pairs digest)) (root digest 2 (new_pairs digest))
      (nodes digest 2 (new_pairs digest)) (put_b digest 1 ∷ []) ≡ Ok tt
  pub other_value : change_verdict digest 2 (root digest 2 (old_pairs digest)) (root digest 2 (new_pairs digest))
      (nodes digest 2 (new_pairs digest)) (put_b digest 2 ∷ []) ≡ Err (OtherValue 0)
  pub second_value : change_verdict digest 2 (root digest 2 (old_pairs digest)) (root digest 2 (new_pairs digest))
      (nodes digest 2 (new_pairs digest)) (put_b digest 1 ∷ put_c digest ∷ []) ≡ Err (OtherValue 1)
  pub other_root : change_verdict digest 2 (root digest 2 []) (root digest 2 (new_pairs digest))
      (nodes digest 2 (new_pairs digest)) (put_b digest 1 ∷ []) ≡ Err OtherRoot
  pub out_of_order : change_verdict digest 2 (root digest 2 []) (shape_cid digest (twisted digest))
      (map shape_bytes (twisted digest ∷ later_node digest ∷ earlier_node digest ∷ [])) (put_between digest ∷ [])
      ≡ Err NotTree
  pub more_reads : change_verdict digest 2 (shape_cid digest (earlier_node digest)) (shape_cid digest (over_hollow digest))
      (map shape_bytes (over_hollow digest ∷ hollow digest ∷ LastLink None ∷ earlier_node digest ∷ []))
      (put_between digest ∷ []) ≡ Err NotTree
