-- What is computed from shapes is what the trees have.
use Rattle.std.proofs.Common.{◌≡◌, ℕ, List, refl}
use Rattle.spec.specs.Tree.{Node, Last, More}
use Rattle.edit_laws.specs.TreeEdit.{first, layer_of}
use Rattle.edit_laws.specs.Trace.{last_part}
use Rattle.spec.specs.NodeFormat.{Shape, part_link, shape, first_link}
use Rattle.edit_laws.specs.ShapeEdit.{last_link, layer_of_shape}

module _ (digest : List ℕ → List ℕ) where
  pub link-first : (m : Node) → first_link (shape digest m) ≡ part_link digest (first m)
  link-first (Last p) = refl
  link-first (More p e r) = refl

  pub link-last : (m : Node) → last_link (shape digest m) ≡ part_link digest (last_part m)
  link-last (Last p) = refl
  link-last (More p e r) = link-last r

  abbrev pub two_shapes : Node × Node → Shape × Shape
  two_shapes x = (shape digest x.0, shape digest x.1)

  pub layer-shape : (layer : List ℕ → ℕ) (m : Node) → layer_of_shape layer (shape digest m) ≡ layer_of layer m
  layer-shape layer (Last p) = refl
  layer-shape layer (More p e r) = refl
