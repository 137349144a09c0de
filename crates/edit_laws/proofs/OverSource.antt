-- A source that has the nodes of a tree shows them.
use Rattle.std.proofs.Common.{◌≡◌, ℕ, List, [], Option, Result, Ok, refl, sym, ap, ◌∙◌, true, ◌∷◌, Err}
use Rattle.std.specs.Prelude.{Contains, option_and_then}
use Rattle.std.specs.declared.option.Option.TheVariants.{Some}
use Rattle.spec.specs.Cid.{IsDigest}
use Rattle.spec.specs.Layer.{layer}
use Rattle.spec.specs.Tree.{Pair, Node, Sub, top}
use Rattle.spec.specs.NodeFormat.{Shape, LastLink, MoreLinks, first_link, entries_of, shape, shape_bytes, read_node, node_spelling, is_node, Entry, NodeFault}
use Rattle.spec.specs.Blocks.{ArePairs, IsClashFree, nodes}
use Rattle.spec.proofs.TreeNodes.{read_node-shape_bytes}
use Rattle.spec.specs.Reading.{IsBytes}
use Rattle.spec.proofs.NodeTakes.{read_node_takes}
use Rattle.spec.proofs.SameTree.{Stands}
use Rattle.spec.proofs.RootLaws.{stands-top}
use Rattle.spec.proofs.VerifyLaws.{each-part_is}
use Rattle.edit_laws.specs.Laws.Lookups.{ShapeReadsBack, OnlyShapesAreRead}
use Rattle.spec.specs.Sources.{HasNodes}
use Rattle.edit_laws.specs.Sources.{shape_from, shape_of_reading, shape_of_bytes, shown_by, Holds}

shape_from-parts : (s : Shape) → shape_from (first_link s) (entries_of s) ≡ s
shape_from-parts (LastLink l) = refl
shape_from-parts (MoreLinks l e r) = ap (MoreLinks l e) (shape_from-parts r)

-- what is of the grammar is read as the shape that was written
pub shape_of_bytes-shape_bytes : ShapeReadsBack
shape_of_bytes-shape_bytes s is = ap shape_of_reading (read_node-shape_bytes s is)
    ∙ ap (λ (t : Shape). Some t) (shape_from-parts s)

first_link-from : (left : Option (List ℕ)) (es : List Entry) → first_link (shape_from left es) ≡ left
first_link-from left [] = refl
first_link-from left (e ∷ es) = refl

entries_of-from : (left : Option (List ℕ)) (es : List Entry) → entries_of (shape_from left es) ≡ es
entries_of-from left [] = refl
entries_of-from left (e ∷ es) =
    ap (λ l. record { key = e.key; value = e.value; tree = l } ∷ entries_of (shape_from e.tree es))
    (first_link-from e.tree es)
    ∙ ap (λ fs. e ∷ fs) (entries_of-from e.tree es)

read-cases : (bytes : List ℕ) (s : Shape) → IsBytes bytes → (r : Result (Option (List ℕ) × List Entry) NodeFault)
    → read_node bytes ≡ r → shape_of_reading r ≡ Some s
    → (bytes ≡ shape_bytes s) × (is_node (first_link s) (entries_of s) ≡ true)
read-cases bytes s fits (Err f) e h = absurd cc
read-cases bytes s fits (Ok r) e h =
    let same : shape_from r.0 r.1 ≡ s = cc in
    let takes = read_node_takes bytes r.0 r.1 fits e in
    let left = sym (first_link-from r.0 r.1) ∙ ap first_link same in
    let entries = sym (entries_of-from r.0 r.1) ∙ ap entries_of same in (
      takes.0 ∙ ap (λ l. node_spelling l r.1) left ∙ ap (node_spelling (first_link s)) entries,
      sym (ap (λ l. is_node l r.1) left ∙ ap (is_node (first_link s)) entries) ∙ takes.1,
    )

pub shape_bytes-shape_of_bytes : OnlyShapesAreRead
shape_bytes-shape_of_bytes bytes s fits h = read-cases bytes s fits (read_node bytes) refl h

-- the source shows each node of the tree
pub holds-top : (digest : List ℕ → List ℕ) (bits : ℕ) → IsDigest digest
    → (gives : List ℕ → Option (List ℕ)) (es : List Pair) → ArePairs es → HasNodes digest bits gives es
    → Holds digest (shown_by gives) (Sub (top (layer digest bits) es))
holds-top digest bits fits gives es are has =
    each-part_is _ _
    (λ (m : Node) (s : Stands (Contains (nodes digest bits es)) (shape digest m)).
    ap (option_and_then shape_of_bytes) (has (shape_bytes (shape digest m)) s.0)
    ∙ shape_of_bytes-shape_bytes (shape digest m) s.1)
    (Sub (top (layer digest bits) es)) (stands-top digest bits fits es are (nodes digest bits es) (λ b h. h))

-- one CID gives one block
pub free-source : (digest : List ℕ → List ℕ) (bits : ℕ) (gives : List ℕ → Option (List ℕ)) (es : List Pair)
    → HasNodes digest bits gives es → IsClashFree digest (nodes digest bits es)
free-source digest bits gives es has a b h k e = some_is a b (sym (has a h) ∙ ap gives e ∙ has b k)
  where
    given : List ℕ → Option (List ℕ)
    given x = Some x

    some_is : (x y : List ℕ) → given x ≡ given y → x ≡ y
    some_is x y q = cc
