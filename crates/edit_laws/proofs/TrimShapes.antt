-- Where the pruning of a top that loses its only key begins, from the shapes of the nodes that meet.
use Rattle.std.proofs.Common.{◌≡◌, ℕ, zero, suc, List, map, refl}
use Rattle.spec.specs.Tree.{Part, Last, More, Nothing, Sub}
use Rattle.spec.specs.NodeFormat.{part_link}
use Rattle.edit_laws.specs.Trace.{merge_pairs, trim_left}
use Rattle.edit_laws.specs.ShapeEdit.{trim_links}
use Rattle.edit_laws.proofs.Within.{IsWithin}
use Rattle.edit_laws.proofs.ShapeBridges as bridge

module _ (digest : List ℕ → List ℕ) where
  pub links-trim : (n : ℕ) (p q : Part) → IsWithin n p → IsWithin n q
      → trim_links (part_link digest p) (part_link digest q) (map (bridge.two_shapes digest) (merge_pairs n p q))
      ≡ part_link digest (trim_left n p q).1
  links-trim zero Nothing Nothing h k = refl
  links-trim zero Nothing (Sub m) h k = absurd k
  links-trim zero (Sub m) q h k = absurd h
  links-trim (suc n) Nothing q h k = refl
  links-trim (suc n) (Sub m) Nothing h k = refl
  links-trim (suc n) (Sub (Last p)) (Sub (Last q)) h k = links-trim n p q h k
  links-trim (suc n) (Sub (Last p)) (Sub (More q e r)) h k = refl
  links-trim (suc n) (Sub (More p e r)) (Sub m) h k = refl
