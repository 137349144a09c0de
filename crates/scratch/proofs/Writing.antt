-- The node that lies ahead, entry by entry, each with the part after it.
use Rattle.std.proofs.Common.{◌≡◌, ℕ, List, ◌∷◌, ◌++◌, Option, refl, sym, ap, ◌∙◌}
use Rattle.std.proofs.lemmas.List.{append-nil}
use Rattle.spec.specs.Tree.{Pair, Node, Last, More, Part, Nothing}
use Rattle.spec.specs.NodeFormat.{Entry, first_link, entries_of, part_link, shape}
use Rattle.spec.specs.Blocks.{blocks_in, blocks_under, no_record}
use Rattle.spec.proofs.Once.{blocks_under-More}
use Rattle.scratch.proofs.Aheads.{from_layer, node_ahead, part_ahead, with_first, first_part, first-from, node-first, node-entry, first_part-ahead}

-- ---- a node whose first part is another

entries-with_first : (digest : List ℕ → List ℕ) (q : Part) (m : Node) → entries_of (shape digest (with_first q m)) ≡ entries_of (shape digest m)
entries-with_first digest q (Last p) = refl
entries-with_first digest q (More p e r) = refl

link-with_first : (digest : List ℕ → List ℕ) (q : Part) (m : Node) → first_link (shape digest (with_first q m)) ≡ part_link digest q
link-with_first digest q (Last p) = refl
link-with_first digest q (More p e r) = refl

blocks-with_first : (digest : List ℕ → List ℕ) (q : Part) (m : Node) → first_part m ≡ Nothing → blocks_under digest no_record (with_first q m) ≡ blocks_in digest no_record q ++ blocks_under digest no_record m
blocks-with_first digest q (Last p) none =
    sym (append-nil (blocks_in digest no_record q)) ∙ ap (λ (x : Part). blocks_in digest no_record q ++ blocks_in digest no_record x) (sym none)
blocks-with_first digest q (More p e r) none =
    blocks_under-More digest q e r ∙ ap (λ (x : Part). blocks_in digest no_record q ++ blocks_under digest no_record (More x e r)) (sym none)

-- ---- the node ahead

module _ (digest : List ℕ → List ℕ) (layer : List ℕ → ℕ) (n : ℕ) where
  -- what lies ahead is a part, and then the rest of the node
  pub entries-ahead : (es : List Pair) → entries_of (shape digest (node_ahead layer n es)) ≡ entries_of (shape digest (node_ahead layer n (from_layer layer n es)))
  entries-ahead es = ap (λ (m : Node). entries_of (shape digest m)) (node-first layer n es) ∙ entries-with_first digest (part_ahead layer n es) (node_ahead layer n (from_layer layer n es))

  pub link-ahead : (es : List Pair) → first_link (shape digest (node_ahead layer n es)) ≡ part_link digest (part_ahead layer n es)
  link-ahead es = ap (λ (m : Node). first_link (shape digest m)) (node-first layer n es) ∙ link-with_first digest (part_ahead layer n es) (node_ahead layer n (from_layer layer n es))

  pub blocks-ahead : (es : List Pair) → blocks_under digest no_record (node_ahead layer n es) ≡ blocks_in digest no_record (part_ahead layer n es) ++ blocks_under digest no_record (node_ahead layer n (from_layer layer n es))
  blocks-ahead es =
      ap (blocks_under digest no_record) (node-first layer n es)
      ∙ blocks-with_first digest (part_ahead layer n es) (node_ahead layer n (from_layer layer n es)) (first_part-ahead layer n (from_layer layer n es) (first-from layer n es))

  -- an entry, and the part after it
  abbrev pub entry_ahead : Pair → List Pair → Entry
  entry_ahead e es = record { key = e.0; value = e.1; tree = part_link digest (part_ahead layer n es) }

  pub entries-entry : (e : Pair) (es : List Pair) → layer e.0 ≡ n → entries_of (shape digest (node_ahead layer n (e ∷ es))) ≡ entry_ahead e es ∷ entries_of (shape digest (node_ahead layer n (from_layer layer n es)))
  entries-entry e es same =
      ap (λ (m : Node). entries_of (shape digest m)) (node-entry layer n e es same)
      ∙ ap (λ (l : Option (List ℕ)). record { key = e.0; value = e.1; tree = l } ∷ entries_of (shape digest (node_ahead layer n es))) (link-ahead es)
      ∙ ap (λ (xs : List Entry). entry_ahead e es ∷ xs) (entries-ahead es)

  pub blocks-entry : (e : Pair) (es : List Pair) → layer e.0 ≡ n → blocks_under digest no_record (node_ahead layer n (e ∷ es)) ≡ blocks_in digest no_record (part_ahead layer n es) ++ blocks_under digest no_record (node_ahead layer n (from_layer layer n es))
  blocks-entry e es same = ap (blocks_under digest no_record) (node-entry layer n e es same) ∙ blocks-ahead es
