-- A delete as the case of one change.
use Rattle.std.proofs.Common.{◌≡◌, ℕ, ◌+◌, ◌*◌, ◌≤◌, List, [], ◌∷◌, ◌++◌, length, map, Option, refl, sym, ap, subst, ◌∙◌, arith, Ok}
use Rattle.std.specs.Prelude.{Contains, IsSome}
use Rattle.std.specs.declared.option.Option.TheVariants.{Some, None}
use Rattle.spec.specs.Cid.{IsDigest}
use Rattle.spec.specs.Layer.{layer}
use Rattle.spec.specs.Tree.{Pair, top}
use Rattle.spec.specs.NodeFormat.{Shape, LastLink, MoreLinks, shape, shape_bytes}
use Rattle.spec.specs.Blocks.{ArePairs, nodes, value_of}
use Rattle.spec.specs.Writes.{without_key}
use Rattle.edit_laws.specs.Laws.Edits.{bytes_of}
use Rattle.edit_laws.specs.PathEdit.{delete_read}
use Rattle.edit_laws.specs.Sources.{shown_by, value_from, path_from, delete_seam_from, delete_pruned_from}
use Rattle.edit_laws.specs.Trace.{delete_path_read}
use Rattle.edit_laws.proofs.DeleteReads.{delete-read_is}
use Rattle.edit_laws.proofs.PairsLeft.{pairs-without}
use Rattle.edit_laws.proofs.LookupTheorems.{top-has_layer, map-two}
use Rattle.edit_laws.proofs.Tops.{layer_of-top}
use Rattle.batch_laws.specs.Batch.{Change, changed}
use Rattle.batch_laws.specs.Links.{Log, Top, batch_from, Step}
use Rattle.batch_laws.specs.Paths.{IsDeleteRead}
use Rattle.batch_laws.specs.Previous.{previous_top}
use Rattle.batch_laws.specs.Written.{OnAnswer}
use Rattle.batch_laws.proofs.DeleteReads.{delete-reads}
use Rattle.batch_laws.proofs.OneByOne.{one-is_write}
use Rattle.lookups.specs.Steps.{layers}
use Rattle.lookups.specs.Trees.{HasTree, top_layer}
use Rattle.edit.specs.declared.outcome.Fault.{Fault}
use Rattle.edit.specs.Batches.{nodes_read, IsAnswer, of_walk}
use Rattle.batch_laws.specs.Counts.{most_from, layers_needed, put_layers}
use Rattle.edit.specs.Deletes.{CanReadDelete, IsDeleteOf, nodes_read as delete_nodes}
use Rattle.edit.specs.Refusals.{IsRefusal}
use Rattle.edit.specs.Singles.{first_value, IsAbsent}
use Rattle.batch_laws.specs.Within.{at_top}
use Rattle.edit.specs.Stops.{IsCause}
use Rattle.edit.specs.Tops.{IsEnded}
use Rattle.edit.proofs.OneChange.{low-key, edit-of_batch}
use Rattle.edit.proofs.OnTree.{answers, read-bytes, met-values, lawful-pairs, walk-refused, walk-few, tree-bytes, tree-reads, tree-few, tree-nodes, batch-edit}
use Rattle.edit.proofs.WholeReads.{whole-path, whole-seam, whole-chain, first-shown}

-- the change
abbrev pub deleting : List ℕ → List Change
deleting key = (key, None) ∷ []

-- ---- over any source

-- the edge has no more layers than a tree may have
pub needed-few : (digest : List ℕ → List ℕ) (bits : ℕ) → IsDigest digest → (key : List ℕ) (o : Option Shape)
    → layers_needed (layer digest bits) (put_layers (layer digest bits) (deleting key)) o ≤ layers bits
needed-few digest bits fits key None = omega arith
needed-few digest bits fits key (Some (LastLink l)) = omega arith
needed-few digest bits fits key (Some (MoreLinks l e r)) = let a = low-key digest bits fits e.0 in omega (arith, a)

module _ (digest : List ℕ → List ℕ) (bits : ℕ) (fits : IsDigest digest) (shows : List ℕ → Option Shape)
    (key root : List ℕ) where
  abbrev answer : Step Top
  answer =
      let lay = layer digest bits in
      let cs = deleting key in
      batch_from digest shows lay (layers_needed lay (put_layers lay cs) (shows root)) cs root

  module _ (x : Top × Log) (is : answer ≡ Ok x) where
    pub all-read : IsDeleteRead shows (layer digest bits) (layers bits) key root x.0 x.1
    all-read =
        subst (λ a. OnAnswer a (IsDeleteRead shows (layer digest bits) (layers bits) key root)) is
        (delete-reads digest shows (layer digest bits) _ key (layers bits) root (low-key digest bits fits)
        (needed-few digest bits fits key (shows root)))

    module _ (had : List (Option (List ℕ)))
        (met : (top : Shape) → shows root ≡ Some top → had ≡ previous_top shows (layer digest bits) (deleting key) top) where
      -- the value that the walk met is that of a look-up
      pub found-value : first_value had ≡ value_from shows (layers bits) key (Some root)
      found-value =
          let f = first-shown shows (layers bits) key root all-read.path in
          ap first_value (met f.0 f.1 ∙ all-read.previous f.0 f.1)

      pub can-read : (v : List ℕ) → first_value had ≡ Some v → CanReadDelete shows (layers bits) key root
      can-read v there = record {
        path = whole-path shows (layers bits) key (Some root) all-read.path;
        there = subst IsSome (sym there ∙ found-value) refl;
        seam = whole-seam shows (layers bits) _ _ all-read.seam;
        chain = whole-chain shows (layers bits) _ all-read.chain;
      }

      pub is-absent : first_value had ≡ None → IsAbsent shows (layers bits) key root
      is-absent none = record {
        path = whole-path shows (layers bits) key (Some root) all-read.path;
        value = sym found-value ∙ none;
      }

-- ---- over a tree

module _ (digest : List ℕ → List ℕ) (bits : ℕ) (fits : IsDigest digest) (gives : List ℕ → Option (List ℕ))
    (root key : List ℕ) (es : List Pair) (has : HasTree digest bits gives root es) where
  abbrev tree_answer : Step Top
  tree_answer = answer digest bits fits (shown_by gives) key root

  leaves : changed (deleting key) es ≡ without_key es key
  leaves = (one-is_write key [] es has.pairs.sorted).1

  module _ (had : List (Option (List ℕ)))
      (met : (m : Shape) → shown_by gives root ≡ Some m
      → had ≡ previous_top (shown_by gives) (layer digest bits) (deleting key) m) where
    -- and that of the pairs
    pub value-met : first_value had ≡ value_of key es
    value-met = ap first_value (met-values digest bits fits gives root (deleting key) es has had (tt, tt) met)

  module _ (v : List ℕ) (there : value_of key es ≡ Some v) where
    abbrev IsReadAt : List ℕ → Type 0
    IsReadAt top_cid = let shows = shown_by gives in
        let path = path_from shows (layers bits) key (Some top_cid) in
        let seam = delete_seam_from shows (layers bits) key path in
        delete_read path seam (delete_pruned_from shows (layers bits) key path seam)
        ≡ map (shape digest) (delete_path_read (layer digest bits) key (top (layer digest bits) es))

    read-is : IsReadAt root
    read-is =
        let t = top-has_layer digest bits fits es in
        subst IsReadAt (sym has.root_is)
        (delete-read_is digest bits fits gives (layers bits) key es has.pairs has.nodes (omega arith) v there)

    delete-nodes : nodes_read digest bits (deleting key) es ≡ delete_nodes digest bits es key
    delete-nodes =
        let r = all-read digest bits fits (shown_by gives) key root _
        (answers digest bits fits gives root (deleting key) es has) in
        sym (read-bytes digest bits fits gives root (deleting key) es has)
        ∙ ap bytes_of (r.read_is ∙ read-is)
        ∙ map-two shape_bytes (shape digest) (delete_path_read (layer digest bits) key (top (layer digest bits) es))

    pub delete-edit : (root' : List ℕ) (add drop : List (List ℕ)) (had : List (Option (List ℕ)))
        (previous : Option (List ℕ)) → IsAnswer digest tree_answer root' add drop
        → ((m : Shape) → shown_by gives root ≡ Some m
        → had ≡ previous_top (shown_by gives) (layer digest bits) (deleting key) m)
        → previous ≡ first_value had → IsDeleteOf digest bits es key root' add drop previous
    delete-edit root' add drop had previous is met first = record {
      there = subst IsSome (sym (first ∙ value-met had met ∙ there)) refl;
      edit = edit-of_batch digest bits key None es (without_key es key) (delete_nodes digest bits es key) root' add drop had
          previous leaves delete-nodes
          (batch-edit digest bits fits gives root (deleting key) es has root' add drop had (tt, tt) is met) first;
    }

    pub delete-counts : (root' : List ℕ) (gone : ℕ) (now : Log) → IsEnded tree_answer root' gone now
        → length now.read ≡ length (delete_nodes digest bits es key)
    delete-counts root' gone now ended =
        tree-reads digest bits fits gives root (deleting key) es has root' gone now ended ∙ ap length delete-nodes

    pub delete-path : (root' : List ℕ) (gone : ℕ) (now : Log) → IsEnded tree_answer root' gone now
        → bytes_of now.read ≡ delete_nodes digest bits es key
    delete-path root' gone now ended =
        tree-bytes digest bits fits gives root (deleting key) es has root' gone now ended ∙ delete-nodes

  -- why there is none
  pub delete-refused : {A : Type 0} (D B P : Type 0) (given : List ℕ → Option A) (fault : Fault)
      → IsCause given (most_from (layer digest bits) (deleting key) (shown_by gives root) + 0) (at_top tree_answer) fault
      → IsRefusal {D = D} {A = B} digest (nodes digest bits es ++ nodes digest bits (without_key es key)) P (of_walk fault)
  delete-refused D B P given fault cause =
      let are : ArePairs (changed (deleting key) es) = subst ArePairs (sym leaves) (pairs-without key es has.pairs) in
      subst (λ ps. IsRefusal {D = D} {A = B} digest (nodes digest bits es ++ nodes digest bits ps) P (of_walk fault)) leaves
      (walk-refused digest bits fits gives root (deleting key) es has D B P given fault
      (lawful-pairs digest bits fits gives root (deleting key) es has are) cause)

  pub stopped-few : (new old : ℕ) → OnAnswer (at_top tree_answer) (λ s later. new + 0 ≤ old + length later.read)
      → new ≤ old + (2 * top_layer digest bits es + 1)
  stopped-few new old h =
      let a = walk-few digest bits fits gives root (deleting key) es has new old h in
      let t = layer_of-top (layer digest bits) es in
      omega (arith, a, t)

  module _ (root' : List ℕ) (gone : ℕ) (now : Log) (ended : IsEnded tree_answer root' gone now) where
    pub ended-few : length now.read ≤ 2 * top_layer digest bits es + 1
    ended-few =
        let a = tree-few digest bits fits gives root (deleting key) es has root' gone now ended in
        let t = layer_of-top (layer digest bits) es in
        omega (arith, a, t)

    pub delete-blocks : (b : List ℕ) → Contains (bytes_of now.made ++ bytes_of now.read) b
        → Contains (nodes digest bits es ++ nodes digest bits (without_key es key)) b
    delete-blocks b c =
        subst (λ ps. Contains (nodes digest bits es ++ nodes digest bits ps) b) leaves
        (tree-nodes digest bits fits gives root (deleting key) es has root' gone now ended b c)
