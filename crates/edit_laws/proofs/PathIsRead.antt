-- The path of a proof is the list of nodes that a get reads.
use Rattle.std.proofs.Common.{◌≡◌, ℕ, zero, suc, List, [], ◌∷◌, map, refl, ap, ◌∙◌}
use Rattle.std.specs.declared.cmp.Ordering.{Ordering}
use Rattle.std.specs.declared.cmp.Ordering.TheVariants.{Less, Equal, Greater}
use Rattle.spec.specs.Layer.{layer}
use Rattle.spec.specs.Tree.{Pair, Node, Part, Last, More, Nothing, Sub, top_layer, top}
use Rattle.spec.specs.NodeFormat.{node_bytes}
use Rattle.spec.specs.Proof.{by_order, path_in, path_under, path}
use Rattle.edit_laws.specs.Order.{order}
use Rattle.edit_laws.specs.TreeEdit.{first, Place, further, locate, layer_of}
use Rattle.edit_laws.specs.Trace.{beside, find_path}
use Rattle.edit_laws.proofs.Orders.{order-is}
use Rattle.edit_laws.proofs.Tops.{layer_of-top}
use Rattle.edit_laws.proofs.Within.{IsWithin, AllWithin, within-tree}

-- the nodes below, but for a key that is here
abbrev read_below : List ℕ → ℕ → Node → List Node
read_below key n h = beside key h (λ p q. []) (find_path n key (first h))

path-further : (digest : List ℕ → List ℕ) (key : List ℕ) (n : ℕ) (o : Ordering) (p : Part) (e : Pair) (r : Node)
    (q : Place) → order e.0 key ≡ o
    → path_in digest key p ≡ map (node_bytes digest) (find_path n key p)
    → path_under digest key r ≡ map (node_bytes digest) (read_below key n q.here)
    → by_order o (path_under digest key r) [] (path_in digest key p)
    ≡ map (node_bytes digest) (read_below key n (further o p e r q).here)
path-further digest key n Less p e r q h a b = b
path-further digest key n Equal p e r q h a b = rw h refl
path-further digest key n Greater p e r q h a b = rw h a

path-under : (digest : List ℕ → List ℕ) (key : List ℕ) (n : ℕ)
    → ((p : Part) → IsWithin n p → path_in digest key p ≡ map (node_bytes digest) (find_path n key p))
    → (m : Node) → AllWithin n m
    → path_under digest key m ≡ map (node_bytes digest) (read_below key n (locate key m).here)
path-under digest key n ih (Last p) w = ih p w
path-under digest key n ih (More p e r) w =
    ap (λ o. by_order o (path_under digest key r) [] (path_in digest key p)) (order-is e.0 key)
    ∙ path-further digest key n (order e.0 key) p e r (locate key r) refl (ih p w.0) (path-under digest key n ih r w.1)

pub path-part : (digest : List ℕ → List ℕ) (key : List ℕ) (n : ℕ) (p : Part) → IsWithin n p
    → path_in digest key p ≡ map (node_bytes digest) (find_path n key p)
path-part digest key zero Nothing w = refl
path-part digest key zero (Sub m) w = absurd w
path-part digest key (suc n) Nothing w = refl
path-part digest key (suc n) (Sub m) w =
    ap (λ bs. node_bytes digest m ∷ bs) (path-under digest key n (λ p. path-part digest key n p) m w)

-- in the tree of some pairs
pub path-top : (digest : List ℕ → List ℕ) (bits : ℕ) (es : List Pair) (key : List ℕ)
    → path digest bits es key
    ≡ map (node_bytes digest)
    (find_path (suc (top_layer (layer digest bits) es)) key (Sub (top (layer digest bits) es)))
path-top digest bits es key =
    let t = top_layer (layer digest bits) es in
    path-part digest key (suc t) (Sub (top (layer digest bits) es)) (within-tree (layer digest bits) t es)

pub path-layer : (digest : List ℕ → List ℕ) (bits : ℕ) (es : List Pair) (key : List ℕ) → let t =
    top (layer digest bits) es in
    path digest bits es key ≡ map (node_bytes digest) (find_path (suc (layer_of (layer digest bits) t)) key (Sub t))
path-layer digest bits es key = rw (layer_of-top (layer digest bits) es) (path-top digest bits es key)
