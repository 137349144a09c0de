-- A put as the case of one change.
use Rattle.std.proofs.Common.{◌≡◌, ℕ, suc, ◌+◌, ◌≤◌, true, List, [], ◌∷◌, ◌++◌, length, Option, refl, sym, ap, subst, ◌∙◌, arith, Ok}
use Rattle.std.specs.Prelude.{Contains}
use Rattle.std.specs.declared.option.Option.TheVariants.{Some}
use Rattle.std.proofs.lemmas.List.{append-nil}
use Rattle.spec.specs.Cid.{IsDigest}
use Rattle.spec.specs.Layer.{layer}
use Rattle.spec.specs.Tree.{Pair}
use Rattle.spec.specs.NodeFormat.{Shape, is_key}
use Rattle.spec.specs.Blocks.{nodes}
use Rattle.spec.specs.Proof.{path}
use Rattle.spec.specs.Writes.{with_key}
use Rattle.edit_laws.specs.Laws.Edits.{bytes_of}
use Rattle.edit_laws.specs.Sources.{shown_by, path_from}
use Rattle.edit_laws.proofs.Tops.{layer_of-top}
use Rattle.batch_laws.specs.Batch.{Change, changed}
use Rattle.batch_laws.specs.Links.{Log, Top, batch_from, Step}
use Rattle.batch_laws.specs.Paths.{IsPathRead}
use Rattle.batch_laws.specs.Previous.{previous_top}
use Rattle.batch_laws.specs.Written.{OnAnswer}
use Rattle.batch_laws.proofs.OneByOne.{one-is_write}
use Rattle.batch_laws.proofs.PutReads.{put-reads_path}
use Rattle.lookups.specs.Steps.{layers, IsWholePath}
use Rattle.lookups.specs.Trees.{HasTree, top_layer}
use Rattle.lookups.proofs.Stepping.{is-lookup}
use Rattle.edit.specs.declared.outcome.Fault.{Fault}
use Rattle.edit.specs.Batches.{nodes_read, IsAnswer, of_walk}
use Rattle.batch_laws.specs.Counts.{most_from, layers_needed, put_layers}
use Rattle.edit.specs.Edits.{IsEditOf}
use Rattle.edit.specs.Refusals.{IsRefusal}
use Rattle.edit.specs.Singles.{first_value}
use Rattle.batch_laws.specs.Within.{at_top}
use Rattle.edit.specs.Stops.{IsCause}
use Rattle.edit.specs.Tops.{IsEnded}
use Rattle.edit.proofs.OneChange.{are-one, low-key, edit-of_batch}
use Rattle.edit.proofs.OnTree.{is-batch, answers, read-bytes, keyed-changes, walk-refused, walk-few, tree-bytes, tree-reads, tree-few, tree-nodes, batch-edit}
use Rattle.edit.proofs.WholeReads.{whole-path}

-- the change
abbrev pub putting : List ℕ → List ℕ → List Change
putting key value = (key, Some value) ∷ []

-- ---- over any source: an answer has read the whole path

pub path-read : (digest : List ℕ → List ℕ) (bits : ℕ) → IsDigest digest → (shows : List ℕ → Option Shape) (n : ℕ)
    (key value root : List ℕ) (x : Top × Log)
    → batch_from digest shows (layer digest bits) n (putting key value) root ≡ Ok x
    → IsPathRead shows (layers bits) key root x.0 x.1
path-read digest bits fits shows n key value root x is =
    subst (λ a. OnAnswer a (IsPathRead shows (layers bits) key root)) is
    (put-reads_path digest shows (layer digest bits) n key value (layers bits) root (low-key digest bits fits))

pub put-whole : (digest : List ℕ → List ℕ) (bits : ℕ) → IsDigest digest → (shows : List ℕ → Option Shape) (n : ℕ)
    (key value root : List ℕ) (x : Top × Log)
    → batch_from digest shows (layer digest bits) n (putting key value) root ≡ Ok x
    → IsWholePath shows (layers bits) key (Some root)
put-whole digest bits fits shows n key value root x is =
    whole-path shows (layers bits) key (Some root) (path-read digest bits fits shows n key value root x is).whole

-- ---- over a tree

module _ (digest : List ℕ → List ℕ) (bits : ℕ) (fits : IsDigest digest) (gives : List ℕ → Option (List ℕ))
    (root key value : List ℕ) (es : List Pair) (has : HasTree digest bits gives root es) where
  abbrev answer : Step Top
  answer =
      let shows = shown_by gives in
      let lay = layer digest bits in
      let cs = putting key value in
      batch_from digest shows lay (layers_needed lay (put_layers lay cs) (shows root)) cs root

  leaves : changed (putting key value) es ≡ with_key es key value
  leaves = (one-is_write key value es has.pairs.sorted).0

  path-bytes : (read : List Shape) → read ≡ path_from (shown_by gives) (layers bits) key (Some root)
      → bytes_of read ≡ path digest bits es key
  path-bytes read is =
      ap bytes_of (is ∙ ap (λ (r : List ℕ). path_from (shown_by gives) (layers bits) key (Some r)) has.root_is)
      ∙ (is-lookup digest bits fits gives root key es has (layers bits) refl).reads

  put-reads : nodes_read digest bits (putting key value) es ≡ path digest bits es key
  put-reads =
      let b = is-batch digest bits fits gives root (putting key value) es has in
      let r = path-read digest bits fits (shown_by gives) _ key value root _
      (answers digest bits fits gives root (putting key value) es has) in
      sym (read-bytes digest bits fits gives root (putting key value) es has)
      ∙ ap bytes_of (ap (λ ss. b.log.read ++ ss) r.none_left ∙ append-nil b.log.read)
      ∙ path-bytes b.log.read r.read_is

  pub put-edit : (root' : List ℕ) (add drop : List (List ℕ)) (had : List (Option (List ℕ))) (previous : Option (List ℕ))
      → IsAnswer digest answer root' add drop
      → ((m : Shape) → shown_by gives root ≡ Some m
      → had ≡ previous_top (shown_by gives) (layer digest bits) (putting key value) m)
      → previous ≡ first_value had
      → IsEditOf digest bits es (with_key es key value) key (path digest bits es key) root' add drop previous
  put-edit root' add drop had previous is met first =
      edit-of_batch digest bits key (Some value) es (with_key es key value) (path digest bits es key) root' add drop had previous
      leaves put-reads
      (batch-edit digest bits fits gives root (putting key value) es has root' add drop had (tt, tt) is met) first

  -- why there is none
  pub put-refused : {A : Type 0} (D B : Type 0) (given : List ℕ → Option A) (fault : Fault) → is_key key ≡ true
      → IsCause given (most_from (layer digest bits) (putting key value) (shown_by gives root) + 0) (at_top answer) fault
      → IsRefusal {D = D} {A = B} digest (nodes digest bits es ++ nodes digest bits (with_key es key value)) ⊥ (of_walk fault)
  put-refused D B given fault is cause =
      subst (λ ps. IsRefusal {D = D} {A = B} digest (nodes digest bits es ++ nodes digest bits ps) ⊥ (of_walk fault)) leaves
      (walk-refused digest bits fits gives root (putting key value) es has D B ⊥ given fault
      (keyed-changes digest bits fits gives root (putting key value) es has (are-one key (Some value) is)) cause)

  pub stopped-few : (new old : ℕ) → OnAnswer (at_top answer) (λ s later. new + 0 ≤ old + length later.read)
      → new ≤ old + suc (top_layer digest bits es)
  stopped-few new old h =
      let a = walk-few digest bits fits gives root (putting key value) es has new old h in
      let t = layer_of-top (layer digest bits) es in
      omega (arith, a, t)

  module _ (root' : List ℕ) (gone : ℕ) (now : Log) (ended : IsEnded answer root' gone now) where
    pub put-counts : length now.read ≡ length (path digest bits es key)
    put-counts =
        tree-reads digest bits fits gives root (putting key value) es has root' gone now ended ∙ ap length put-reads

    pub put-path : bytes_of now.read ≡ path digest bits es key
    put-path = tree-bytes digest bits fits gives root (putting key value) es has root' gone now ended ∙ put-reads

    pub ended-few : length now.read ≤ suc (top_layer digest bits es)
    ended-few =
        let a = tree-few digest bits fits gives root (putting key value) es has root' gone now ended in
        let t = layer_of-top (layer digest bits) es in
        omega (arith, a, t)

    pub put-nodes : (b : List ℕ) → Contains (bytes_of now.made ++ bytes_of now.read) b
        → Contains (nodes digest bits es ++ nodes digest bits (with_key es key value)) b
    put-nodes b c =
        subst (λ ps. Contains (nodes digest bits es ++ nodes digest bits ps) b) leaves
        (tree-nodes digest bits fits gives root (putting key value) es has root' gone now ended b c)
