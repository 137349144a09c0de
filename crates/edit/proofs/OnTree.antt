-- A batch on the tree with a root, from what the walk and the difference of blocks answer.
use Rattle.std.proofs.Common.{◌≡◌, ℕ, suc, max, ◌^◌, ◌+◌, ◌-◌, ◌*◌, ◌/◌, ◌<◌, ◌≤◌, true, List, [], ◌∷◌, ◌++◌, length, map, take, get_or, Option, refl, sym, ap, subst, ◌∙◌, ◌⊎◌, inl, inr, arith, Err, Ok, Result}
use Rattle.std.specs.Prelude.{Contains, IsOk}
use Rattle.std.specs.declared.option.Option.TheVariants.{Some, None}
use Rattle.std.specs.List.{AllByRecursion}
use Rattle.std.proofs.Math.Nat.{div-le_self}
use Rattle.std.proofs.lemmas.List.{length-map, take_more}
use Rattle.std.proofs.lemmas.List.Elements.{Contains-append_left, Contains-append_right, Contains-append_cases}
use Rattle.spec.specs.Cid.{IsDigest}
use Rattle.spec.specs.Layer.{layer}
use Rattle.spec.specs.Tree.{Pair, top, top_layer}
use Rattle.spec.specs.NodeFormat.{Shape, shape, shape_bytes}
use Rattle.spec.specs.Blocks.{ArePairs, IsClashFree, nodes, root as root_of}
use Rattle.spec.proofs.PathNodes.{top_layer-le}
use Rattle.edit_laws.specs.Changes.{AreChanges, add_of, drop_of}
use Rattle.edit_laws.specs.Laws.Edits.{bytes_of}
use Rattle.edit_laws.specs.Sources.{shown_by}
use Rattle.edit_laws.proofs.OverSource.{holds-top, free-source}
use Rattle.edit_laws.proofs.ShapeBridges.{layer-shape}
use Rattle.lookups.specs.Trees.{HasTree}
use Rattle.batch_laws.specs.Batch.{Change, puts, changed, AreAscending}
use Rattle.batch_laws.specs.Links.{LinkTooDeep, Log, Top, batch_from, Step, NotShown, Stop, StopsAt, Stopped}
use Rattle.batch_laws.specs.Previous.{previous_top, values}
use Rattle.batch_laws.specs.Trace.{batch_made, batch_read}
use Rattle.batch_laws.specs.Laws.Sources.{IsBatchFrom}
use Rattle.batch_laws.specs.Written.{OnAnswer}
use Rattle.batch_laws.specs.Within.{IsWithin, at_top}
use Rattle.edit_laws.specs.Lawful.{HasKeys}
use Rattle.batch_laws.proofs.Lawful.{batch-has_keys}
use Rattle.batch_laws.specs.Counts.{most_reads, most_from, layers_for, layers_needed, put_layers}
use Rattle.batch_laws.proofs.ReadsFew.{batch-reads_few}
use Rattle.std.specs.declared.sync.Arc.{Arc}
use Rattle.edit.specs.declared.outcome.Fault.{Fault}
use Rattle.edit.specs.declared.outcome.Fault.TheVariants as walks
use Rattle.edit.specs.declared.outcome.EditFault.{EditFault}
use Rattle.edit.specs.declared.outcome.EditFault.TheVariants.{Missing, BadNode, TooDeep, NotTree, NoSuchKey, Clash, NoMemory}
use Rattle.edit.specs.Stops.{IsCause}
use Rattle.edit_laws.proofs.Tops.{layer_of-top}
use Rattle.batch_laws.proofs.OverSource.{batch-over_source}
use Rattle.batch_laws.proofs.Previous.{previous-is_values}
use Rattle.batch_laws.proofs.MakesFew.{batch-makes_few}
use Rattle.edit.specs.Batches.{layers_of, nodes_read, IsBatchOf, IsAnswer, IsReason, of_walk}
use Rattle.key_changes.specs.Keyed.{are_changes}
use Rattle.edit.specs.Refusals.{IsRefusal}
use Rattle.edit.specs.Tops.{IsEnded}
use Rattle.edit.proofs.Among.{add-few}
use Rattle.edit.proofs.Bounds.{most-shown}
use Rattle.edit.proofs.MadeKeys.{made-has_keys}
use Rattle.key_changes.proofs.Ascending.{are-keyed}

-- ---- enough layers

puts-within : (lay : List ℕ → ℕ) (cs : List Change) (m : ℕ) → 1 ≤ m → put_layers lay cs ≤ m → top_layer lay (puts cs) < m
puts-within lay [] m h k = omega arith
puts-within lay ((key, None) ∷ cs) m h k = puts-within lay cs m h (omega arith)
puts-within lay ((key, Some v) ∷ cs) m h k =
    let i = puts-within lay cs m h (omega arith) in
    omega arith

layers-more : (lay : List ℕ → ℕ) (cs : List Change) (c : Change)
    → put_layers lay (cs ++ c ∷ []) ≡ max (put_layers lay cs) (layers_for lay c.0 c.1)
layers-more lay [] c = omega arith
layers-more lay (d ∷ cs) c = let i = layers-more lay cs c in omega (arith, i)

-- one change more
pub layers-step : (lay : List ℕ → ℕ) (cs : List Change) (i : ℕ) (c : Change) (most own new : ℕ) → i < length cs
    → c ≡ get_or cs i c → most ≡ put_layers lay (take i cs) → own ≡ layers_for lay c.0 c.1 → new ≡ max most own
    → new ≡ put_layers lay (take (i + 1) cs)
layers-step lay cs i c most own new l is was here goes =
    goes ∙ ap (λ m. max m own) was ∙ ap (max (put_layers lay (take i cs))) here
    ∙ sym (layers-more lay (take i cs) c)
    ∙ ap (λ d. put_layers lay (take i cs ++ d ∷ [])) is
    ∙ sym (ap (put_layers lay) (take_more cs i c l))

layer-fits : (digest : List ℕ → List ℕ) (bits : ℕ) → IsDigest digest → (key : List ℕ) (l : ℕ)
    → l ≡ layer digest bits key → l + 1 < 2 ^ 16
layer-fits digest bits fits key l is =
    let a = top_layer-le digest bits fits ((key, []) ∷ []) in
    let b = div-le_self 256 bits in
    omega (arith, a, b, is)

-- so many zero bits, for any number of bits a layer
pub zeros-fit : (digest : List ℕ → List ℕ) (bits : ℕ) → IsDigest digest → (key : List ℕ) (z : ℕ)
    → z ≡ layer digest 1 key → z / bits + 1 < 2 ^ 16
zeros-fit digest bits fits key z is =
    let a = layer-fits digest 1 fits key z is in
    let b = div-le_self z bits in
    omega (arith, a, b)

ok-is : {X : Type 0} (x y : X) → ◌≡◌ {A = Result X Stopped} (Ok x) (Ok y) → x ≡ y
ok-is x y h = cc

map-map : {A B C : Type 0} (f : A → B) (g : B → C) (xs : List A) → map g (map f xs) ≡ map (λ x. g (f x)) xs
map-map f g [] = refl
map-map f g (x ∷ xs) = ap (λ t. g (f x) ∷ t) (map-map f g xs)

module _ (digest : List ℕ → List ℕ) (bits : ℕ) (fits : IsDigest digest) (gives : List ℕ → Option (List ℕ))
    (root : List ℕ) (cs : List Change) (es : List Pair) (has : HasTree digest bits gives root es) where
  shown-top : shown_by gives root ≡ Some (shape digest (top (layer digest bits) es))
  shown-top =
      ap (shown_by gives) has.root_is ∙ (holds-top digest bits fits gives es has.pairs has.nodes).0

  needed : layers_needed (layer digest bits) (put_layers (layer digest bits) cs) (shown_by gives root) ≡ layers_of digest bits cs es
  needed =
      ap (layers_needed (layer digest bits) (put_layers (layer digest bits) cs)) shown-top
      ∙ ap (λ t. max (suc t) (put_layers (layer digest bits) cs))
      (layer-shape digest (layer digest bits) (top (layer digest bits) es) ∙ layer_of-top (layer digest bits) es)

  enough-top : top_layer (layer digest bits) es < layers_of digest bits cs es
  enough-top = omega arith

  enough-puts : top_layer (layer digest bits) (puts cs) < layers_of digest bits cs es
  enough-puts = puts-within (layer digest bits) cs (layers_of digest bits cs es) (omega arith) (omega arith)

  pub is-batch : IsBatchFrom digest bits gives (layers_of digest bits cs es) cs es
  is-batch =
      batch-over_source digest bits fits gives (layers_of digest bits cs es) cs es has.pairs has.nodes enough-top enough-puts

  -- there is an answer, and it is this
  pub answers : batch_from digest (shown_by gives) (layer digest bits)
      (layers_needed (layer digest bits) (put_layers (layer digest bits) cs) (shown_by gives root)) cs root
      ≡ Ok ((root_of digest bits (changed cs es), is-batch.left), is-batch.log)
  answers =
      ap (λ n. batch_from digest (shown_by gives) (layer digest bits) n cs root) needed
      ∙ ap (batch_from digest (shown_by gives) (layer digest bits) (layers_of digest bits cs es) cs) has.root_is
      ∙ is-batch.answer

  pub read-bytes : bytes_of (is-batch.log.read ++ is-batch.left) ≡ nodes_read digest bits cs es
  read-bytes =
      ap bytes_of is-batch.read_is
      ∙ map-map (shape digest) shape_bytes
      (batch_read (layer digest bits) (layers_of digest bits cs es) cs (top (layer digest bits) es))

  free-read : IsClashFree digest (bytes_of (is-batch.log.read ++ is-batch.left))
  free-read a b ca cb e =
      free-source digest bits gives es has.nodes a b (is-batch.edit.read_old a ca) (is-batch.edit.read_old b cb) e

  made-few : length is-batch.log.made ≤ (layers_of digest bits cs es - top_layer (layer digest bits) es)
      + length cs * (layers_of digest bits cs es + top_layer (layer digest bits) es)
  made-few =
      let a = ap length is-batch.made_is in
      let b = length-map (batch_made (layer digest bits) (layers_of digest bits cs es) cs (top (layer digest bits) es))
      (shape digest) in
      let c = batch-makes_few (layer digest bits) (layers_of digest bits cs es) cs es enough-top in
      omega (arith, a, b, c)

  -- what the walk met is what the keys had
  pub met-values : (previous : List (Option (List ℕ))) → AreAscending cs
      → ((m : Shape) → shown_by gives root ≡ Some m
      → previous ≡ previous_top (shown_by gives) (layer digest bits) cs m)
      → previous ≡ values cs es
  met-values previous ascend had =
      had (shape digest (top (layer digest bits) es)) shown-top
      ∙ previous-is_values digest bits fits gives cs es has.pairs has.nodes ascend

  -- an edit that is of the answer is of the tree
  pub batch-edit : (root' : List ℕ) (add drop : List (List ℕ)) (previous : List (Option (List ℕ)))
      → AreAscending cs
      → IsAnswer digest (batch_from digest (shown_by gives) (layer digest bits)
      (layers_needed (layer digest bits) (put_layers (layer digest bits) cs) (shown_by gives root)) cs root) root' add drop
      → ((m : Shape) → shown_by gives root ≡ Some m
      → previous ≡ previous_top (shown_by gives) (layer digest bits) cs m)
      → IsBatchOf digest bits cs es root' add drop previous
  batch-edit root' add drop previous ascend a had =
      let same = ok-is ((root', a.left), a.log) ((root_of digest bits (changed cs es), is-batch.left), is-batch.log)
      (sym a.is ∙ answers) in
      let read : bytes_of (a.log.read ++ a.left) ≡ bytes_of (is-batch.log.read ++ is-batch.left) =
      ap (λ (x : Top × Log). bytes_of (x.1.read ++ x.0.1)) same in
      let made : bytes_of a.log.made ≡ bytes_of is-batch.log.made = ap (λ (x : Top × Log). bytes_of x.1.made) same in
      let gone : bytes_of a.log.read ≡ bytes_of is-batch.log.read = ap (λ (x : Top × Log). bytes_of x.1.read) same in
      let added : add_of digest (bytes_of (is-batch.log.read ++ is-batch.left)) (bytes_of is-batch.log.made) ≡ add =
      sym (a.added ∙ ap (λ bs. add_of digest bs (bytes_of a.log.made)) read
      ∙ ap (add_of digest (bytes_of (is-batch.log.read ++ is-batch.left))) made) in
      let dropped : drop_of digest (bytes_of is-batch.log.made) (bytes_of is-batch.log.read) ≡ drop =
      sym (a.dropped ∙ ap (λ bs. drop_of digest bs (bytes_of a.log.read)) made
      ∙ ap (drop_of digest (bytes_of is-batch.log.made)) gone) in
      let free : IsClashFree digest (bytes_of (a.log.read ++ a.left)) = subst (IsClashFree digest) (sym read) free-read in
      let all_free = subst (λ bs. IsClashFree digest (bs ++ bytes_of (is-batch.log.read ++ is-batch.left))) made
      (subst (λ bs. IsClashFree digest (bytes_of a.log.made ++ bs)) read (a.all_free free)) in
      let changes = is-batch.edit.changes all_free in
      record {
        root_is = ap (λ (x : Top × Log). x.0.0) same;
        previous_is = met-values previous ascend had;
        changes = subst (λ bs. AreChanges digest (nodes digest bits es) (nodes digest bits (changed cs es)) bs add drop)
            read-bytes
            (subst (λ bs. AreChanges digest (nodes digest bits es) (nodes digest bits (changed cs es))
            (bytes_of (is-batch.log.read ++ is-batch.left)) bs drop) added
            (subst (λ bs. AreChanges digest (nodes digest bits es) (nodes digest bits (changed cs es))
            (bytes_of (is-batch.log.read ++ is-batch.left))
            (add_of digest (bytes_of (is-batch.log.read ++ is-batch.left)) (bytes_of is-batch.log.made)) bs) dropped changes));
        clash_free = subst (λ bs. IsClashFree digest (add ++ bs)) (read ∙ read-bytes) (a.free free);
        count =
            let f = add-few digest (bytes_of (is-batch.log.read ++ is-batch.left)) (bytes_of is-batch.log.made) in
            let g = ap length added in
            let h = length-map is-batch.log.made shape_bytes in
            let i = made-few in
            omega (arith, f, g, h, i);
      }

  -- keys ascend in each node that is made
  abbrev MadeHaveKeys : Type 0
  MadeHaveKeys = AllByRecursion HasKeys (map (shape digest)
      (batch_made (layer digest bits) (layers_of digest bits cs es) cs (top (layer digest bits) es)))

  pub keyed-changes : are_changes cs ≡ true → MadeHaveKeys
  keyed-changes are =
      batch-has_keys digest (layer digest bits) (layers_of digest bits cs es) cs es has.pairs (are-keyed cs are) enough-top
      enough-puts

  pub lawful-pairs : ArePairs (changed cs es) → MadeHaveKeys
  lawful-pairs leaves =
      made-has_keys digest fits (layer digest bits) (layers_of digest bits cs es) cs es has.pairs leaves enough-top enough-puts

  reads-few : length (is-batch.log.read ++ is-batch.left) ≤ suc (most_reads (top_layer (layer digest bits) es) cs)
  reads-few =
      let a = ap length is-batch.read_is in
      let b = length-map (batch_read (layer digest bits) (layers_of digest bits cs es) cs (top (layer digest bits) es))
      (shape digest) in
      let c = batch-reads_few (layer digest bits) (layers_of digest bits cs es) cs es enough-top in
      omega (arith, a, b, c)

  -- so many may be read
  enough-reads : most_from (layer digest bits) cs (shown_by gives root) ≡ suc (most_reads (top_layer (layer digest bits) es) cs)
  enough-reads =
      most-shown (layer digest bits) cs (shown_by gives root) (shape digest (top (layer digest bits) es))
      (top_layer (layer digest bits) es) shown-top
      (sym (layer-shape digest (layer digest bits) (top (layer digest bits) es) ∙ layer_of-top (layer digest bits) es))

  -- why there is none, seen from the tree: nothing is missing, and each node is written
  pub walk-refused : {A : Type 0} (D B P : Type 0) (given : List ℕ → Option A) (fault : Fault) → MadeHaveKeys
      → IsCause given (most_from (layer digest bits) cs (shown_by gives root) + 0)
      (at_top (batch_from digest (shown_by gives) (layer digest bits)
      (layers_needed (layer digest bits) (put_layers (layer digest bits) cs) (shown_by gives root)) cs root)) fault
      → IsRefusal {D = D} {A = B} digest (nodes digest bits es ++ nodes digest bits (changed cs es)) P (of_walk fault)
  walk-refused D B P given (walks.Missing c) keys cause =
      absurd (subst (λ a. StopsAt (NotShown c) (at_top a)) answers cause.1)
  walk-refused D B P given (walks.BadNode c) keys cause =
      absurd (subst (λ a. StopsAt (NotShown c) (at_top a)) answers cause.1)
  walk-refused D B P given walks.TooDeep keys cause = absurd (subst (λ a. StopsAt LinkTooDeep (at_top a)) answers cause)
  walk-refused D B P given walks.NotTree keys beyond =
      let few = reads-few in
      let most = enough-reads in
      absurd (subst (λ a. ¬ IsWithin (most_from (layer digest bits) cs (shown_by gives root) + 0) (at_top a)) answers beyond (
        omega (arith, few, most),
        record { made = subst (AllByRecursion HasKeys) (sym is-batch.made_is) keys; begun = tt },
      ))
  walk-refused D B P given walks.NoMemory keys cause = tt

  -- where the walk stopped, no more was read than the batch reads
  pub walk-few : (new old : ℕ) → OnAnswer (at_top (batch_from digest (shown_by gives) (layer digest bits)
      (layers_needed (layer digest bits) (put_layers (layer digest bits) cs) (shown_by gives root)) cs root))
      (λ s later. new + 0 ≤ old + length later.read)
      → new ≤ old + suc (most_reads (top_layer (layer digest bits) es) cs)
  walk-few new old h =
      let r : new + 0 ≤ old + length (is-batch.log.read ++ is-batch.left) =
      subst (λ a. OnAnswer (at_top a) (λ s later. new + 0 ≤ old + length later.read)) answers h in
      let f = reads-few in
      omega (arith, r, f)

  module _ (root' : List ℕ) (gone : ℕ) (now : Log)
      (ended : IsEnded (batch_from digest (shown_by gives) (layer digest bits)
      (layers_needed (layer digest bits) (put_layers (layer digest bits) cs) (shown_by gives root)) cs root) root' gone now) where
    same : ◌≡◌ {A = Top × Log} ((root', ended.left), ended.next)
        ((root_of digest bits (changed cs es), is-batch.left), is-batch.log)
    same = ok-is _ _ (sym ended.is ∙ answers)

    all-read : now.read ≡ is-batch.log.read ++ is-batch.left
    all-read = ended.read ∙ ap (λ (x : Top × Log). x.1.read ++ x.0.1) same

    pub tree-bytes : bytes_of now.read ≡ nodes_read digest bits cs es
    tree-bytes = ap bytes_of all-read ∙ read-bytes

    pub tree-reads : length now.read ≡ length (nodes_read digest bits cs es)
    tree-reads =
        ap length all-read
        ∙ sym (length-map (is-batch.log.read ++ is-batch.left) shape_bytes)
        ∙ ap length read-bytes

    pub tree-few : length now.read ≤ suc (most_reads (top_layer (layer digest bits) es) cs)
    tree-few = let a = ap length all-read in let b = reads-few in omega (arith, a, b)

    -- what was made or read are old and new nodes
    pub tree-nodes : (b : List ℕ) → Contains (bytes_of now.made ++ bytes_of now.read) b
        → Contains (nodes digest bits es ++ nodes digest bits (changed cs es)) b
    tree-nodes b c = by (Contains-append_cases (bytes_of now.made) (bytes_of now.read) b c)
      where
        by : Contains (bytes_of now.made) b ⊎ Contains (bytes_of now.read) b
            → Contains (nodes digest bits es ++ nodes digest bits (changed cs es)) b
        by (inl k) =
            Contains-append_right (nodes digest bits es) (nodes digest bits (changed cs es)) b
            (is-batch.edit.made_new b (subst (λ bs. Contains bs b)
            (ap bytes_of (ended.made ∙ ap (λ (x : Top × Log). x.1.made) same)) k))
        by (inr k) =
            Contains-append_left (nodes digest bits es) (nodes digest bits (changed cs es)) b
            (is-batch.edit.read_old b (subst (λ bs. Contains bs b) (ap bytes_of all-read) k))

-- why there is none, over any source
pub top-stops : (answer : Step Top) (why : Stop) → StopsAt why (at_top answer) → StopsAt why answer
top-stops (Err e) why h = h
top-stops (Ok x) why h = absurd h

pub walk-reason : {A : Type 0} (D P : Type 0) (given : List ℕ → Option (Arc (List ℕ) A)) (most : ℕ)
    (answer : Step Top) (fault : Fault) → IsCause given (most + 0) (at_top answer) fault
    → IsReason {D = D} given most answer P (of_walk fault)
walk-reason D P given most answer (walks.Missing c) cause = (cause.0, top-stops answer (NotShown c) cause.1)
walk-reason D P given most answer (walks.BadNode c) cause = (cause.0, top-stops answer (NotShown c) cause.1)
walk-reason D P given most answer walks.TooDeep cause = top-stops answer LinkTooDeep cause
walk-reason D P given most answer walks.NotTree cause =
    let all : most + 0 ≡ most = omega arith in subst (λ m. ¬ IsWithin m (at_top answer)) all cause
walk-reason D P given most answer walks.NoMemory cause = tt

-- there is an answer, and what it has clashes
pub answer-reason : {D A : Type 0} (digest : List ℕ → List ℕ) (blocks : List (List ℕ)) (P : Type 0)
    (given : List ℕ → Option (Arc (List ℕ) A)) (most : ℕ) (answer : Step Top) (x : Top × Log)
    (fault : EditFault D A) → answer ≡ Ok x → IsRefusal digest blocks ⊥ fault → IsReason given most answer P fault
answer-reason digest blocks P given most answer x (Missing c) is r = absurd r
answer-reason digest blocks P given most answer x (BadNode c) is r = absurd r
answer-reason digest blocks P given most answer x TooDeep is r = absurd r
answer-reason digest blocks P given most answer x NotTree is r = absurd r
answer-reason digest blocks P given most answer x NoSuchKey is r = absurd r
answer-reason digest blocks P given most answer x (Clash pair) is r = subst (λ (o : Step Top). IsOk o) (sym is) refl
answer-reason digest blocks P given most answer x NoMemory is r = tt
