-- What a delete reads.
use Rattle.std.proofs.Common.{◌≡◌, ℕ, ◌+◌, ◌<◌, true, List, [], ◌∷◌, ◌++◌, length, map, Option, sym, ap, ◌∙◌, subst, arith}
use Rattle.std.specs.declared.option.Option.TheVariants.{Some}
use Rattle.std.specs.Cmp.Lexicographic.{slice_cmp}
use Rattle.std.specs.Ordering.{nat_cmp}
use Rattle.std.specs.FinMap.{is_sorted}
use Rattle.std.proofs.lemmas.List.{length-map, map-append}
use Rattle.spec.specs.Cid.{IsDigest}
use Rattle.spec.specs.Layer.{layer}
use Rattle.spec.specs.Tree.{Pair, Node, Sub, top}
use Rattle.spec.specs.NodeFormat.{Shape, shape}
use Rattle.spec.specs.Blocks.{ArePairs, root, value_of}
use Rattle.edit_laws.specs.TreeEdit.{layer_of}
use Rattle.edit_laws.specs.Trace.{find_path, delete_path_nodes, seam_pairs, delete_left, prune_path, delete_path_read}
use Rattle.edit_laws.specs.PathEdit.{flat, delete_read}
use Rattle.spec.specs.Sources.{HasNodes}
use Rattle.edit_laws.specs.Sources.{shown_by, path_from, seam_from, delete_seam_from, delete_pruned_from}
use Rattle.edit_laws.proofs.Within.{within-top}
use Rattle.edit_laws.proofs.DeleteShapes.{links-same, links-path}
use Rattle.edit_laws.proofs.DeleteSource.{map-flat, seam-row, pruned-top}
use Rattle.edit_laws.proofs.LookupTheorems.{find_path-bound}
use Rattle.edit_laws.proofs.OverSource.{holds-top}
use Rattle.edit_laws.proofs.RecordMaps.{ascending-sorted, find-is}
use Rattle.edit_laws.proofs.SourceLaws.{path-holds}
use Rattle.edit_laws.proofs.PathReads as reads
use Rattle.edit_laws.proofs.ShapeBridges as bridge

-- where the key is in the tree: what is read below the top, and how deep
row-of : (layer : List ℕ → ℕ) (key : List ℕ) (es : List Pair) → is_sorted (slice_cmp nat_cmp) es ≡ true
    → (v : List ℕ) → value_of key es ≡ Some v
    → reads.ReadsBelow layer (key, []) (layer_of layer (top layer es)) (top layer es)
row-of layer key es s v h =
    let a = ascending-sorted es s in reads.row-reads layer key es a v (sym (find-is key es a) ∙ h)

-- where the key is there, its path in the tree is that of a look-up
pub delete-reads_path : (layer : List ℕ → ℕ) (n : ℕ) (key : List ℕ) (es : List Pair)
    → is_sorted (slice_cmp nat_cmp) es ≡ true → layer_of layer (top layer es) < n
    → (v : List ℕ) → value_of key es ≡ Some v
    → top layer es ∷ delete_path_nodes layer (layer_of layer (top layer es)) key (top layer es)
    ≡ find_path n key (Sub (top layer es))
delete-reads_path layer n key es s l v h =
    let r = row-of layer key es s v h in
    ap (λ t. top layer es ∷ t) r.delete ∙ sym (find_path-bound layer n key es l)

-- ---- over a source

read-shapes : (digest : List ℕ → List ℕ) (m : Node) (below : List Node) (seam : List (Node × Node)) (pruned : List Node)
    → map (shape digest) (m ∷ (below ++ (flat seam ++ pruned)))
    ≡ map (shape digest) (m ∷ below) ++ (flat (map (bridge.two_shapes digest) seam) ++ map (shape digest) pruned)
read-shapes digest m below seam pruned =
    ap (λ t. shape digest m ∷ t)
    (map-append (shape digest) below (flat seam ++ pruned)
    ∙ ap (λ t. map (shape digest) below ++ t)
    (map-append (shape digest) (flat seam) pruned
    ∙ ap (λ t. t ++ map (shape digest) pruned) (map-flat (shape digest) seam)))

-- what is read over a source that has the nodes
abbrev DeleteSees : (List ℕ → List ℕ) → ℕ → (List ℕ → Option (List ℕ)) → ℕ → List ℕ → List Pair → Type 0
DeleteSees digest bits gives n key es =
    let lay = layer digest bits in
    let m = top lay es in
    let t = layer_of lay m in
    let path = shape digest m ∷ map (shape digest) (delete_path_nodes lay t key m) in
    (path_from (shown_by gives) n key (Some (root digest bits es)) ≡ path)
    × (delete_seam_from (shown_by gives) n key path ≡ map (bridge.two_shapes digest) (seam_pairs lay t key m))

delete-sees : (digest : List ℕ → List ℕ) (bits : ℕ) → IsDigest digest
    → (gives : List ℕ → Option (List ℕ)) (n : ℕ) (key : List ℕ) (es : List Pair) → ArePairs es
    → HasNodes digest bits gives es
    → layer_of (layer digest bits) (top (layer digest bits) es) < n → (v : List ℕ) → value_of key es ≡ Some v
    → DeleteSees digest bits gives n key es
delete-sees digest bits fits gives n key es are has l v h =
    let lay = layer digest bits in
    let m = top lay es in
    let t = layer_of lay m in
    let w = within-top lay es in
    let shows = shown_by gives in
    let holds = holds-top digest bits fits gives es are has in
    let row = row-of lay key es are.sorted v h in
    let below = delete_path_nodes lay t key m in
    let long = length-map below (shape digest) in
    let deep = row.deep in
    let e : t ≡ length (map (shape digest) below) + lay key = omega arith in
    let links = sym (links-same (lay key) t key (shape digest m) (map (shape digest) below) e)
    ∙ links-path digest lay key t m in (
      path-holds digest shows n key (Sub m) holds
          ∙ ap (map (shape digest)) (sym (delete-reads_path lay n key es are.sorted l v h)),
      ap (λ (x : Option (List ℕ) × Option (List ℕ)). seam_from shows n x.0 x.1) links
          ∙ seam-row digest shows lay key t n m (omega arith) w holds.1,
    )

-- what is read, from the path, the pairs that meet and the chain that is pruned
abbrev IsReadOf : (List ℕ → List ℕ) → ℕ → List ℕ → List Pair → List Shape → List (Shape × Shape) → List Shape → Type 0
IsReadOf digest bits key es path seam pruned =
    delete_read path seam pruned
    ≡ map (shape digest) (delete_path_read (layer digest bits) key (top (layer digest bits) es))

pub delete-read_is : (digest : List ℕ → List ℕ) (bits : ℕ) → IsDigest digest
    → (gives : List ℕ → Option (List ℕ)) (n : ℕ) (key : List ℕ) (es : List Pair) → ArePairs es
    → HasNodes digest bits gives es
    → layer_of (layer digest bits) (top (layer digest bits) es) < n → (v : List ℕ) → value_of key es ≡ Some v
    → let path = path_from (shown_by gives) n key (Some (root digest bits es)) in
    let seam = delete_seam_from (shown_by gives) n key path in
    IsReadOf digest bits key es path seam (delete_pruned_from (shown_by gives) n key path seam)
delete-read_is digest bits fits gives n key es are has l v h =
    let lay = layer digest bits in
    let m = top lay es in
    let t = layer_of lay m in
    let w = within-top lay es in
    let shows = shown_by gives in
    let holds = holds-top digest bits fits gives es are has in
    let below = delete_path_nodes lay t key m in
    let pairs = seam_pairs lay t key m in
    let left = delete_left lay key m in
    let path = shape digest m ∷ map (shape digest) below in
    let sees = delete-sees digest bits fits gives n key es are has l v h in
    let read_path = sees.0 in
    let seam = sees.1 in
    let pruned = ap (delete_pruned_from shows n key path) seam ∙ pruned-top digest shows n lay key m l w holds.1 in
    let read : IsReadOf digest bits key es path (map (bridge.two_shapes digest) pairs)
    (map (shape digest) (prune_path left.0 left.1)) =
    sym (read-shapes digest m below pairs (prune_path left.0 left.1)) in
    let with_pruned = subst (IsReadOf digest bits key es path (map (bridge.two_shapes digest) pairs)) (sym pruned) read in
    let with_seam = subst (λ x. IsReadOf digest bits key es path x
    (delete_pruned_from shows n key path (delete_seam_from shows n key path))) (sym seam) with_pruned in
    subst (λ x. IsReadOf digest bits key es x (delete_seam_from shows n key x)
    (delete_pruned_from shows n key x (delete_seam_from shows n key x))) (sym read_path) with_seam
