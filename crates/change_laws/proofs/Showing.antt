-- What a verdict says, and when it says so.
use Rattle.std.proofs.Common.{◌≡◌, ℕ, zero, suc, ◌<◌, ◌≤◌, max, Bool, true, false, cond, List, [], ◌∷◌, ◌++◌, length, map, refl, sym, ap, subst, ◌∙◌, arith, Option, Result, Ok, Err}
use Rattle.std.specs.Prelude.{Contains, option_and_then}
use Rattle.std.specs.List.{AllByRecursion}
use Rattle.std.specs.Str.{bytes_eq}
use Rattle.std.proofs.lemmas.Slice.Eq.{bytes_eq-Decides}
use Rattle.std.proofs.lemmas.List.{length-map, map-append}
use Rattle.std.specs.declared.option.Option.TheVariants.{Some, None}
use Rattle.spec.specs.Cid.{IsDigest}
use Rattle.spec.specs.Reading.{ensure}
use Rattle.spec.specs.Layer.{layer}
use Rattle.spec.specs.Tree.{Pair, Node, Part, Last, More, Nothing, Sub, EachNode, EachUnder, top, top_layer}
use Rattle.spec.specs.NodeFormat.{Shape, shape, shape_cid, node_bytes, first_link, entries_of, is_node}
use Rattle.spec.specs.Blocks.{ArePairs, ClashesWithNone, nodes, no_record, root, value_of}
use Rattle.spec.specs.Proof.{or_missing}
use Rattle.spec.proofs.Taking.{bind_ok, ensure_ok}
use Rattle.spec.proofs.TreeNodes.{IsLawful, EachNode-top}
use Rattle.spec.proofs.RootLaws.{Among, among-part, both-part, in_head, in_tail}
use Rattle.spec.proofs.VerifyLaws.{IsOnly, block_of-only, block_of-given, each-part_is}
use Rattle.edit_laws.specs.Changes.{marked}
use Rattle.edit_laws.specs.Lawful.{HasKeys}
use Rattle.edit_laws.specs.Sources.{shape_of_bytes, shown_by}
use Rattle.edit_laws.specs.Trace.{weight, weight_under, total}
use Rattle.edit_laws.proofs.BlockChanges.{read-stands}
use Rattle.edit_laws.proofs.OverSource.{shape_of_bytes-shape_bytes}
use Rattle.edit_laws.proofs.RecordMaps.{ascending-sorted}
use Rattle.edit_laws.proofs.Tops.{layer_of-top}
use Rattle.edit_laws.proofs.Within.{IsWithin, within-top, within-up, within-below}
use Rattle.batch_laws.specs.Batch.{Change, puts, changed, AreAscending, AreKeyed}
use Rattle.batch_laws.specs.Edge.{Edge, Clear, Waiting, Opened}
use Rattle.batch_laws.specs.Walking.{walk_top}
use Rattle.batch_laws.specs.Counts.{most_reads, most_from, layers_needed, put_layers}
use Rattle.batch_laws.specs.Trace.{batch_gone, batch_read, top_left}
use Rattle.batch_laws.specs.Links.{LinkClear, Log, Step, Top, ask, batch_from}
use Rattle.batch_laws.specs.Previous.{values}
use Rattle.batch_laws.proofs.Edges.{IsEdge}
use Rattle.batch_laws.proofs.Walks.{walk-top, batch-is_top}
use Rattle.batch_laws.proofs.Bridges.{layer-same}
use Rattle.batch_laws.proofs.Lawful.{batch-has_keys}
use Rattle.batch_laws.proofs.Old.{read-old}
use Rattle.batch_laws.proofs.ReadsFew.{batch-reads_few}
use Rattle.change_laws.specs.Told.{KeyChange, undone}
use Rattle.change_laws.specs.Within.{is_within}
use Rattle.change_laws.specs.Given.{ChangeFault, NotTree, OtherValue, OtherRoot, given_at, or_stop, or_fault, batch_given}
use Rattle.change_laws.specs.Verdict.{previous_of, values_given, is_same, are_told, change_verdict}
use Rattle.change_laws.specs.Laws.{VerdictIsSound, VerdictIsComplete}
use Rattle.change_laws.proofs.Within.{within-is, within-is_stop}
use Rattle.change_laws.proofs.Lacking.{Known, Shown, AllShown, IsAnswered, NeedsBatch, WithinEdge, all-front, first-answered, logged-shown, batch-needs}
use Rattle.change_laws.proofs.Values.{previous-met}
use Rattle.change_laws.proofs.Undone.{undone-differ, differ-undone}

-- ---- the given blocks as a source

pub some-is : {A : Type 0} (x y : A) → ◌≡◌ {A = Option A} (Some x) (Some y) → x ≡ y
some-is x y q = cc

pub found-is : (o : Option (List ℕ)) (b : List ℕ) → or_missing o ≡ Ok b → o ≡ Some b
found-is None b e = absurd cc
found-is (Some x) b e = cc

module _ (digest : List ℕ → List ℕ) (given : List (List ℕ)) where
  abbrev gives : List ℕ → Option (List ℕ)
  gives = given_at digest given

  abbrev shows : List ℕ → Option Shape
  shows = shown_by gives

  -- a node of the grammar in whose place no other given block can be taken
  abbrev IsOwn : Node → Type 0
  IsOwn m = IsLawful digest m × IsOnly digest given (node_bytes digest m)

  known-case : (m : Node) → IsOwn m → (o : Option (List ℕ)) → gives (shape_cid digest (shape digest m)) ≡ o → (s : Shape)
      → option_and_then shape_of_bytes o ≡ Some s → s ≡ shape digest m
  known-case m own None q s e = absurd cc
  known-case m own (Some y) q s e =
      let same : y ≡ node_bytes digest m = block_of-only digest given (node_bytes digest m) y own.1 (ap or_missing q) in
      some-is s (shape digest m)
      (sym e ∙ ap shape_of_bytes same ∙ shape_of_bytes-shape_bytes (shape digest m) own.0)

  own-known : (m : Node) → IsOwn m → Known digest shows m
  own-known m own s e = known-case m own (gives (shape_cid digest (shape digest m))) refl s e

  own-shown : (m : Node) → IsOwn m → Contains given (node_bytes digest m) → Shown digest shows m
  own-shown m own has =
      ap (option_and_then shape_of_bytes)
      (found-is (gives (shape_cid digest (shape digest m))) (node_bytes digest m)
      (block_of-given digest given (node_bytes digest m) own.1 has))
      ∙ shape_of_bytes-shape_bytes (shape digest m) own.0

  own-top : (bits : ℕ) → IsDigest digest → (es : List Pair) → ArePairs es
      → ClashesWithNone digest (nodes digest bits es) given → EachNode IsOwn (Sub (top (layer digest bits) es))
  own-top bits fits es are free =
      let own = nodes digest bits es in
      let p = Sub (top (layer digest bits) es) in
      let among : EachNode (Among digest no_record own) p = among-part digest no_record own p (λ b c. c) in
      let only : (m : Node) → Among digest no_record own m → IsOnly digest given (node_bytes digest m) =
      λ m c y d e. sym (free (node_bytes digest m) y c d (sym e)) in
      both-part (IsLawful digest) (λ m. IsOnly digest given (node_bytes digest m)) p
      (EachNode-top digest (layer digest bits) fits es are)
      (each-part_is (Among digest no_record own) (λ m. IsOnly digest given (node_bytes digest m)) only p among)

-- ---- nodes that are read are of the grammar

abbrev fails : Bool → ℕ
fails true = 0
fails false = 1

passes : (b : Bool) → fails b ≡ 0 → b ≡ true
passes true h = refl
passes false h = absurd (omega arith)

fails-not : (b : Bool) → b ≡ true → fails b ≡ 0
fails-not true h = refl
fails-not false h = absurd cc

module _ (test : Node → Bool) where
  abbrev Passes : Node → Type 0
  Passes m = test m ≡ true

  abbrev failing : Node → ℕ
  failing m = fails (test m)

  mutual
    none-fails : (p : Part) → EachNode Passes p → weight failing p ≡ 0
    none-fails Nothing h = refl
    none-fails (Sub m) h = let a = fails-not (test m) h.0 in let b = none-under m h.1 in omega arith

    none-under : (m : Node) → EachUnder Passes m → weight_under failing m ≡ 0
    none-under (Last p) h = none-fails p h
    none-under (More p e r) h = let a = none-fails p h.0 in let b = none-under r h.1 in omega arith

  all-pass : (ms : List Node) → total failing ms ≡ 0 → AllByRecursion Passes ms
  all-pass [] h = tt
  all-pass (m ∷ ms) h = (passes (test m) (omega arith), all-pass ms (omega arith))

-- ---- enough layers

puts-within : (lay : List ℕ → ℕ) (cs : List Change) (n : ℕ) → 1 ≤ n → put_layers lay cs ≤ n → top_layer lay (puts cs) < n
puts-within lay [] n h k = omega arith
puts-within lay ((key, None) ∷ cs) n h k = puts-within lay cs n h (omega arith)
puts-within lay ((key, Some v) ∷ cs) n h k =
    let i = puts-within lay cs n h (omega arith) in
    omega arith

within-edge : (digest : List ℕ → List ℕ) (shows : List ℕ → Option Shape) (lay : List ℕ → ℕ) (n k : ℕ) (s : Edge)
    (es : List Pair) → k ≤ n → IsEdge lay k s es → WithinEdge digest shows n s
within-edge digest shows lay n zero s es l h = subst (λ t. WithinEdge digest shows n t) (sym h.0) tt
within-edge digest shows lay n (suc k) Clear es l h = tt
within-edge digest shows lay n (suc k) (Waiting m) es l h =
    within-up (suc k) n (Sub m) l (subst (λ p. IsWithin (suc k) p) h (within-below lay (suc k) es))
within-edge digest shows lay n (suc k) (Opened rows s) es l h =
    within-edge digest shows lay n k s _ (omega arith) h.1

-- ---- answers of steps

pub ok-is : {A E : Type 0} (x y : A) → ◌≡◌ {A = Result A E} (Ok x) (Ok y) → x ≡ y
ok-is x y q = cc

answer-is : (gives : List ℕ → Option (List ℕ)) (most : ℕ) (step : Step Top) (x : Top × Log)
    → length (x.1.read ++ x.0.1) ≤ most → AllByRecursion HasKeys x.1.made → step ≡ Ok x → or_fault gives most step ≡ Ok x
answer-is gives most step x few made e =
    ap (or_fault gives most) e ∙ within-is_stop gives most (Ok x) (within-is most (Ok x) (few, record { made = made; begun = tt }))

-- the fault of a step is no answer
stop-was : (gives : List ℕ → Option (List ℕ)) (step : Step Top) (x : Top × Log) → or_stop gives step ≡ Ok x → step ≡ Ok x
stop-was gives (Ok y) x e = ap (λ z. Ok z) (ok-is y x e)
stop-was gives (Err stop) x e = absurd cc

answer-was : (gives : List ℕ → Option (List ℕ)) (most : ℕ) (step : Step Top) (x : Top × Log)
    → or_fault gives most step ≡ Ok x → step ≡ Ok x
answer-was gives most step x = by (is_within most step)
  where
    by : (b : Bool) → cond b (or_stop gives step) (Err NotTree) ≡ Ok x → step ≡ Ok x
    by true e = stop-was gives step x e
    by false e = absurd cc

is-answered : {A : Type 0} (o : Step A) (x : A × Log) → o ≡ Ok x → IsAnswered o
is-answered o x e = subst (λ t. IsAnswered t) (sym e) tt

-- ---- the batch over the given blocks

module _ (digest : List ℕ → List ℕ) (bits : ℕ) (fits : IsDigest digest) (given : List (List ℕ)) (es : List Pair)
    (are : ArePairs es) (free : ClashesWithNone digest (nodes digest bits es) given) (cs : List Change) where
  abbrev lay : List ℕ → ℕ
  lay = layer digest bits

  abbrev own_top : Node
  own_top = top lay es

  abbrev most : ℕ
  most = max (suc (top_layer lay es)) (put_layers lay cs)

  abbrev AllRead : Type 0
  AllRead = AllShown digest (shows digest given) (batch_read lay most cs own_top)

  abbrev batch : ℕ → Step Top
  batch n = batch_from digest (shows digest given) lay n cs (root digest bits es)

  abbrev step : Result (Top × Log) ChangeFault
  step = batch_given digest bits given cs (root digest bits es)

  abbrev layers : ℕ
  layers = layers_needed lay (put_layers lay cs) (shows digest given (root digest bits es))

  -- how many nodes are read at most
  abbrev limit : ℕ
  limit = most_from lay cs (shows digest given (root digest bits es))

  pub tree-within : top_layer lay es < most
  tree-within = omega arith

  pub puts-are-within : top_layer lay (puts cs) < most
  puts-are-within = puts-within lay cs most (omega arith) (omega arith)

  each-own : EachNode (IsOwn digest given) (Sub own_top)
  each-own = own-top digest given bits fits es are free

  needs : NeedsBatch digest (shows digest given) lay most cs own_top
  needs =
      let asc = ascending-sorted es are.sorted in
      let stands = walk-top lay most cs es asc tree-within puts-are-within in
      batch-needs digest (shows digest given) lay most cs own_top (within-top lay es)
      (each-part_is (IsOwn digest given) (Known digest (shows digest given)) (own-known digest given) (Sub own_top)
      each-own)
      (within-edge digest (shows digest given) lay most most (walk_top lay most cs own_top) (changed cs es) (omega arith)
      stands.edge)

  pub layers-are : Shown digest (shows digest given) own_top → layers ≡ most
  layers-are h = ap (layers_needed lay (put_layers lay cs)) h
      ∙ ap (λ k. max (suc k) (put_layers lay cs)) (layer-same digest (shows digest given) lay own_top ∙ layer_of-top lay es)

  root-shown : IsAnswered (batch layers) → Shown digest (shows digest given) own_top
  root-shown answered =
      logged-shown digest (shows digest given) own_top LinkClear (record { read = []; made = [] })
      (own-known digest given own_top each-own.0) (shows digest given (root digest bits es)) refl
      (first-answered (ask (shows digest given) (root digest bits es) LinkClear (record { read = []; made = [] })) _ answered)

  root-is : (x : Top × Log) → batch most ≡ Ok x → AllRead → x.0.0 ≡ root digest bits (changed cs es)
  root-is x q all =
      ap (λ (y : Top × Log). y.0.0) (ok-is x _ (sym q ∙ needs.0 all))
      ∙ ap (λ k. shape_cid digest (shape digest k))
      (batch-is_top lay most cs es (ascending-sorted es are.sorted) tree-within puts-are-within)

  -- an answer has read all that the batch reads
  pub whole : (x : Top × Log) → step ≡ Ok x → AllRead × (x.0.0 ≡ root digest bits (changed cs es))
  whole x e =
      let q : batch layers ≡ Ok x = answer-was (gives digest given) limit (batch layers) x e in
      let h = root-shown (is-answered (batch layers) x q) in
      let r : batch most ≡ Ok x = subst (λ k. batch k ≡ Ok x) (layers-are h) q in
      let all = needs.1 (is-answered (batch most) x r) in
      (all, root-is x r all)

  pub met : AreAscending cs → AllRead → values_given digest bits given cs (root digest bits es) ≡ values cs es
  met a all =
      ap (previous_of (shows digest given) lay cs) all.0
      ∙ previous-met digest (shows digest given) lay most cs es (ascending-sorted es are.sorted) a
      (all-front (Shown digest (shows digest given)) (batch_gone lay most cs own_top)
      (top_left (walk_top lay most cs own_top)) all)

  -- ---- where what is read is given

  abbrev test : Node → Bool
  test k = is_node (first_link (shape digest k)) (entries_of (shape digest k))

  shown-each : (ms : List Node) → AllByRecursion (λ k. test k ≡ true) ms
      → ((b : List ℕ) → Contains (map (node_bytes digest) ms) b → Contains (nodes digest bits es) b)
      → ((b : List ℕ) → Contains (map (node_bytes digest) ms) b → Contains given b)
      → AllShown digest (shows digest given) ms
  shown-each [] h old has = tt
  shown-each (k ∷ ms) h old has =
      let b = node_bytes digest k in
      let bs = map (node_bytes digest) ms in (
        own-shown digest given k (h.0, λ y d e. sym (free b y (old b (in_head b bs)) d (sym e))) (has b (in_head b bs)),
        shown-each ms h.1 (λ c i. old c (in_tail b c bs i)) (λ c i. has c (in_tail b c bs i)),
      )

  lawful-read : AllByRecursion (λ k. test k ≡ true) (batch_read lay most cs own_top)
  lawful-read =
      let laws : EachNode (λ k. test k ≡ true) (Sub own_top) = EachNode-top digest lay fits es are in
      let none = none-fails test (Sub own_top) laws in
      let few = read-old (failing test) lay most cs own_top in
      all-pass test (batch_read lay most cs own_top) (omega arith)

  read-shown : ((b : List ℕ) → Contains (map (node_bytes digest) (batch_read lay most cs own_top)) b → Contains given b)
      → AllRead
  read-shown has =
      shown-each (batch_read lay most cs own_top) lawful-read
      (read-stands digest bits es (batch_read lay most cs own_top)
      (λ b h. (let a = read-old (marked (node_bytes digest) b) lay most cs own_top in omega arith)))
      has

  -- ---- where all that is read is there

  -- there is an answer, for which few nodes are read, and keys ascend in each node that is made
  pub record Reached : Type 0 where
    pub x : Top × Log
    pub is : batch layers ≡ Ok x
    pub made : AllByRecursion HasKeys x.1.made
    pub few : length (x.1.read ++ x.0.1) ≤ suc (most_reads (top_layer lay es) cs)
    pub top_is : shows digest given (root digest bits es) ≡ Some (shape digest own_top)

  reached-of : AreKeyed cs → AllRead → (q : batch layers ≡ batch most) → Reached
  reached-of keyed all q =
      let gone = batch_gone lay most cs own_top in
      let left = top_left (walk_top lay most cs own_top) in
      record {
        x = _;
        is = q ∙ needs.0 all;
        made = batch-has_keys digest lay most cs es are keyed tree-within puts-are-within;
        few =
            let a = ap length (sym (map-append (shape digest) gone left)) in
            let b = length-map (gone ++ left) (shape digest) in
            let c = batch-reads_few lay most cs es tree-within in
            omega (arith, a, b, c);
        top_is = all.0;
      }

  reached-all : AreKeyed cs → AllRead → Reached
  reached-all keyed all = reached-of keyed all (ap batch (layers-are all.0))

  pub reached : AreKeyed cs
      → ((b : List ℕ) → Contains (map (node_bytes digest) (batch_read lay most cs own_top)) b → Contains given b)
      → Reached
  reached keyed has = reached-all keyed (read-shown has)

  -- so the answer is within what the tree has
  record Answer : Type 0 where
    x : Top × Log
    is : step ≡ Ok x
    root_is : x.0.0 ≡ root digest bits (changed cs es)

  limit-is : Shown digest (shows digest given) own_top → limit ≡ suc (most_reads (top_layer lay es) cs)
  limit-is h = ap (most_from lay cs) h
      ∙ ap (λ k. suc (most_reads k cs)) (layer-same digest (shows digest given) lay own_top ∙ layer_of-top lay es)

  answer-of : AllRead → Reached → Answer
  answer-of all r =
      let few = r.few in
      let n = limit-is r.top_is in
      record {
        x = r.x;
        is = answer-is (gives digest given) limit (batch layers) r.x (omega (arith, few, n)) r.made r.is;
        root_is = root-is r.x (subst (λ k. batch k ≡ Ok r.x) (layers-are all.0) r.is) all;
      }

  answered : AreKeyed cs → AllRead → Answer
  answered keyed all = answer-of all (reached-all keyed all)

-- ---- the values that are told

same-is : (x y : Option (List ℕ)) → is_same x y ≡ true → x ≡ y
same-is None None h = refl
same-is None (Some y) h = absurd cc
same-is (Some x) None h = absurd cc
same-is (Some x) (Some y) h = ap (λ t. Some t) ((bytes_eq-Decides x y).0 h)

same-self : (x : Option (List ℕ)) → is_same x x ≡ true
same-self None = refl
same-self (Some x) = (bytes_eq-Decides x x).1 refl

told-sound : (place : ℕ) (cs : List KeyChange) (es : List Pair) → are_told place (values (undone cs) es) cs ≡ Ok tt
    → AllByRecursion (λ c. value_of c.key es ≡ c.after) cs
told-sound place [] es e = tt
told-sound place (c ∷ cs) es e =
    let b = ensure_ok (is_same (value_of c.key es) c.after) (OtherValue place)
    (λ same. are_told (suc place) (values (undone cs) es) cs) tt e in
    (same-is (value_of c.key es) c.after b.0, told-sound (suc place) cs es b.1)

told-complete : (place : ℕ) (cs : List KeyChange) (es : List Pair)
    → AllByRecursion (λ c. value_of c.key es ≡ c.after) cs → are_told place (values (undone cs) es) cs ≡ Ok tt
told-complete place [] es h = refl
told-complete place (c ∷ cs) es h =
    let same : is_same (value_of c.key es) c.after ≡ true =
    subst (λ v. is_same (value_of c.key es) v ≡ true) h.0 (same-self (value_of c.key es)) in
    rw same (told-complete (suc place) cs es h.1)

ensure-is : {E : Type 0} (t : Bool) (fault : E) → ensure t fault ≡ Ok tt → t ≡ true
ensure-is true fault e = refl
ensure-is false fault e = absurd cc

-- ---- the laws

pub verdict-sound : VerdictIsSound
unfolding change_verdict
verdict-sound digest bits fits before new are given free cs keyed e =
    let us = undone cs in
    let a = bind_ok (batch_given digest bits given us (root digest bits new)) _ tt e in
    let b = bind_ok (are_told 0 (values_given digest bits given us (root digest bits new)) cs) _ tt a.2 in
    let w = whole digest bits fits given new are free us a.0 a.1 in
    let told : are_told 0 (values us new) cs ≡ Ok tt =
    ap (λ vs. are_told 0 vs cs) (sym (met digest bits fits given new are free us keyed.ascending w.0)) ∙ b.1 in
    let is = (bytes_eq-Decides a.0.0.0 before).0 (ensure-is (bytes_eq a.0.0.0 before) OtherRoot b.2) in
    record {
      root_is = sym is ∙ w.1;
      differ = undone-differ cs new keyed.ascending are (told-sound 0 cs new told);
    }

pub verdict-complete : VerdictIsComplete
unfolding change_verdict
verdict-complete digest bits fits old new are_old are_new given free cs keyed differ has =
    let us = undone cs in
    let all = read-shown digest bits fits given new are_new free us has in
    let answer = answered digest bits fits given new are_new free us keyed all in
    let back = differ-undone cs old new keyed.ascending are_old are_new differ in
    let is : bytes_eq answer.x.0.0 (root digest bits old) ≡ true =
    (bytes_eq-Decides answer.x.0.0 (root digest bits old)).1 (answer.root_is ∙ ap (root digest bits) (sym back)) in
    let told : are_told 0 (values_given digest bits given us (root digest bits new)) cs ≡ Ok tt =
    ap (λ vs. are_told 0 vs cs) (met digest bits fits given new are_new free us keyed.ascending all)
    ∙ told-complete 0 cs new differ.after in
    rw (answer.is, told, is) refl
