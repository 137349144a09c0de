-- Where some blocks of a tree are given, a batch stops only as one isn't.
use Rattle.std.proofs.Common.{◌≡◌, ℕ, suc, ◌<◌, ◌≤◌, max, Bool, true, false, cond, List, [], ◌∷◌, ◌++◌, length, length-append, map, refl, sym, ap, subst, ◌∙◌, arith, Option, Ok, Err}
use Rattle.std.specs.Prelude.{Contains, option_and_then}
use Rattle.std.specs.List.{AllByRecursion}
use Rattle.std.specs.Str.{bytes_eq}
use Rattle.std.proofs.lemmas.Slice.Eq.{bytes_eq-Decides}
use Rattle.std.proofs.lemmas.List.{length-map}
use Rattle.std.specs.declared.option.Option.TheVariants.{Some, None}
use Rattle.spec.specs.Cid.{cid, IsDigest}
use Rattle.spec.specs.Layer.{layer}
use Rattle.spec.specs.Tree.{Pair, top, top_layer}
use Rattle.spec.specs.NodeFormat.{Shape, shape}
use Rattle.spec.specs.Blocks.{ArePairs, ClashesWithNone, IsClashFree, nodes, root}
use Rattle.spec.proofs.RootLaws.{in_head, in_tail}
use Rattle.spec.proofs.VerifyLaws.{block_of-given}
use Rattle.edit_laws.specs.Lawful.{HasKeys}
use Rattle.spec.specs.Sources.{HasNodes}
use Rattle.edit_laws.specs.Sources.{shape_of_bytes, shown_by}
use Rattle.edit_laws.proofs.OverSource.{holds-top}
use Rattle.edit_laws.proofs.Tops.{layer_of-top}
use Rattle.batch_laws.specs.Batch.{Change, AreKeyed}
use Rattle.batch_laws.specs.Counts.{most_reads, most_from, layers_needed, put_layers}
use Rattle.batch_laws.specs.Trace.{batch_read}
use Rattle.batch_laws.specs.Links.{Log, LinkClear, LinkEdge, NotShown, LinkTooDeep, Step, Stop, Top, and_then, log_shown, walking_top, topping, batch_from}
use Rattle.batch_laws.specs.Written.{IsEarlier, OnEnd, AreWritten}
use Rattle.batch_laws.specs.Within.{IsWithin, at_top}
use Rattle.batch_laws.proofs.Bridges.{layer-same}
use Rattle.batch_laws.proofs.Lawful.{batch-has_keys}
use Rattle.batch_laws.proofs.OverSource.{batch-over_source}
use Rattle.batch_laws.proofs.ReadsFew.{batch-reads_few}
use Rattle.change_laws.specs.Given.{given_at}
use Rattle.change_laws.specs.Laws.{node_cids, OnlyLacks, TreeOnlyLacks}
use Rattle.change_laws.proofs.Following.{Follows, IsThere, IsFewer, follows-batch}
use Rattle.change_laws.proofs.Missing.{Stops, stops-batch}
use Rattle.change_laws.proofs.Showing.{found-is, some-is, ok-is, layers-are, tree-within, puts-are-within}

-- ---- one of some blocks

pub record IsFound (digest : List ℕ → List ℕ) (bs : List (List ℕ)) (c b : List ℕ) : Type 0 where
  pub in_bs : Contains bs b
  pub cid_is : cid digest b ≡ c

found : (digest : List ℕ → List ℕ) (bs : List (List ℕ)) (c b : List ℕ) → given_at digest bs c ≡ Some b
    → IsFound digest bs c b
found digest [] c b h = absurd cc
found digest (x ∷ xs) c b h = by (bytes_eq (cid digest x) c) refl (found digest xs c b) h
  where
    by : (t : Bool) → bytes_eq (cid digest x) c ≡ t → (given_at digest xs c ≡ Some b → IsFound digest xs c b)
        → cond t (Some x) (given_at digest xs c) ≡ Some b → IsFound digest (x ∷ xs) c b
    by true q f e =
        let same = some-is x b e in
        subst (λ y. IsFound digest (x ∷ xs) c y) same
        (record { in_bs = in_head x xs; cid_is = (bytes_eq-Decides (cid digest x) c).0 q })
    by false q f e =
        let i = f e in record { in_bs = in_tail x b xs i.in_bs; cid_is = i.cid_is }

-- its CID is one of theirs
found-cid : (digest : List ℕ → List ℕ) (bs : List (List ℕ)) (c b : List ℕ) → given_at digest bs c ≡ Some b
    → Contains (map (cid digest) bs) c
found-cid digest [] c b h = absurd cc
found-cid digest (x ∷ xs) c b h = by (bytes_eq (cid digest x) c) refl (found-cid digest xs c b) h
  where
    cids : List (List ℕ)
    cids = map (cid digest) xs

    by : (t : Bool) → bytes_eq (cid digest x) c ≡ t → (given_at digest xs c ≡ Some b → Contains cids c)
        → cond t (Some x) (given_at digest xs c) ≡ Some b → Contains (cid digest x ∷ cids) c
    by true q f e =
        subst (Contains (cid digest x ∷ cids)) ((bytes_eq-Decides (cid digest x) c).0 q) (in_head (cid digest x) cids)
    by false q f e = in_tail (cid digest x) c cids (f e)

-- ---- the same, and then others

abbrev or_else : Option (List ℕ) → Option (List ℕ) → Option (List ℕ)
or_else None o = o
or_else (Some b) o = Some b

given-append : (digest : List ℕ → List ℕ) (xs ys : List (List ℕ)) (c : List ℕ)
    → given_at digest (xs ++ ys) c ≡ or_else (given_at digest xs c) (given_at digest ys c)
given-append digest [] ys c = refl
given-append digest (x ∷ xs) ys c = by (bytes_eq (cid digest x) c) (given-append digest xs ys c)
  where
    by : (t : Bool) → given_at digest (xs ++ ys) c ≡ or_else (given_at digest xs c) (given_at digest ys c)
        → cond t (Some x) (given_at digest (xs ++ ys) c) ≡ or_else (cond t (Some x) (given_at digest xs c)) (given_at digest ys c)
    by true e = refl
    by false e = e

most-one : (lay : List ℕ → ℕ) (cs : List Change) (o : Option Shape) → 1 ≤ most_from lay cs o
most-one lay cs None = omega arith
most-one lay cs (Some s) = omega arith

module _ (digest : List ℕ → List ℕ) (bits : ℕ) (fits : IsDigest digest) (es : List Pair) (are : ArePairs es)
    (own_free : IsClashFree digest (nodes digest bits es)) (given : List (List ℕ))
    (free : ClashesWithNone digest (nodes digest bits es) given) (cs : List Change) (keyed : AreKeyed cs) where
  abbrev own : List (List ℕ)
  own = nodes digest bits es

  abbrev gives : List ℕ → Option (List ℕ)
  gives = given_at digest given

  -- all nodes of the tree, and else what is given
  abbrev all : List ℕ → Option (List ℕ)
  all = given_at digest (own ++ given)

  abbrev shows : List ℕ → Option Shape
  shows = shown_by gives

  abbrev full : List ℕ → Option Shape
  full = shown_by all

  -- what both have is the same
  same-block : (c b y : List ℕ) → given_at digest own c ≡ Some b → gives c ≡ Some y → y ≡ b
  same-block c b y h k =
      let p = found digest own c b h in
      let q = found digest given c y k in
      sym (free b y p.in_bs q.in_bs (p.cid_is ∙ sym q.cid_is))

  all-is : (c : List ℕ) (o : Option (List ℕ)) → given_at digest own c ≡ o → all c ≡ or_else o (gives c)
  all-is c o h = given-append digest own given c ∙ ap (λ x. or_else x (gives c)) h

  more-case : (c : List ℕ) (m : Shape) (o p : Option (List ℕ)) → given_at digest own c ≡ o → gives c ≡ p
      → option_and_then shape_of_bytes p ≡ Some m → option_and_then shape_of_bytes (or_else o p) ≡ Some m
  more-case c m None p h k e = e
  more-case c m (Some b) None h k e = absurd cc
  more-case c m (Some b) (Some y) h k e = ap shape_of_bytes (sym (same-block c b y h k)) ∙ e

  more : (c : List ℕ) (m : Shape) → shows c ≡ Some m → full c ≡ Some m
  more c m e =
      ap (option_and_then shape_of_bytes) (all-is c (given_at digest own c) refl)
      ∙ more-case c m (given_at digest own c) (gives c) refl refl e

  -- what is there and not shown isn't given
  lacks-case : (c : List ℕ) (m : Shape) (o p : Option (List ℕ)) → given_at digest own c ≡ o → gives c ≡ p
      → option_and_then shape_of_bytes (or_else o p) ≡ Some m → option_and_then shape_of_bytes p ≡ None → p ≡ None
  lacks-case c m o None h k e z = refl
  lacks-case c m None (Some y) h k e z = absurd cc
  lacks-case c m (Some b) (Some y) h k e z =
      let same = same-block c b y h k in
      let shown : shape_of_bytes y ≡ Some m = ap shape_of_bytes same ∙ e in absurd cc

  lacks : (c : List ℕ) → IsThere HasKeys refl shows full more (NotShown c) → shows c ≡ None → gives c ≡ None
  lacks c there z =
      lacks-case c there.0 (given_at digest own c) (gives c) refl refl
      (sym (ap (option_and_then shape_of_bytes) (all-is c (given_at digest own c) refl)) ∙ there.1) z

  -- and is a node of the tree
  abbrev cids : List (List ℕ)
  cids = node_cids digest bits es

  own-case : (c : List ℕ) (m : Shape) (o : Option (List ℕ)) → given_at digest own c ≡ o
      → option_and_then shape_of_bytes (or_else o None) ≡ Some m → Contains cids c
  own-case c m None h e = absurd cc
  own-case c m (Some b) h e = found-cid digest own c b h

  is-lack : (c : List ℕ) → IsThere HasKeys refl shows full more (NotShown c) → shows c ≡ None
      → (gives c ≡ None) × Contains cids c
  is-lack c there z =
      let none = lacks c there z in (
        none,
        own-case c there.0 (given_at digest own c) refl
            (sym (ap (option_and_then shape_of_bytes)
            (all-is c (given_at digest own c) refl ∙ ap (or_else (given_at digest own c)) none)) ∙ there.1),
      )

  has-own : (b : List ℕ) → Contains own b → given_at digest own (cid digest b) ≡ Some b
  has-own b h =
      found-is (given_at digest own (cid digest b)) b
      (block_of-given digest own b (λ y k e. own_free y b k h e) h)

  has-all : HasNodes digest bits all es
  has-all b h = all-is (cid digest b) (Some b) (has-own b h)

  abbrev lay : List ℕ → ℕ
  lay = layer digest bits

  abbrev wanted : ℕ
  wanted = max (suc (top_layer lay es)) (put_layers lay cs)

  abbrev reads : ℕ
  reads = most_reads (top_layer lay es) cs

  -- the whole tree has an answer
  record IsWhole (whole : Step Top) : Type 0 where
    x : Top × Log
    is : whole ≡ Ok x
    made : AllByRecursion HasKeys x.1.made
    few : length (x.1.read ++ x.0.1) ≤ suc reads

  whole : IsWhole (batch_from digest full lay wanted cs (root digest bits es))
  whole =
      let a = tree-within digest bits fits given es are free cs in
      let p = puts-are-within digest bits fits given es are free cs in
      let w = batch-over_source digest bits fits all wanted cs es are has-all a p in
      let read = batch_read lay wanted cs (top lay es) in
      record {
        x = _;
        is = w.answer;
        made = subst (AllByRecursion HasKeys) (sym w.made_is) (batch-has_keys digest lay wanted cs es are keyed a p);
        few =
            let n = ap length w.read_is in
            let m = length-map read (shape digest) in
            let f = batch-reads_few lay wanted cs es a in
            omega (arith, n, m, f);
      }

  -- where it stops
  abbrev most : ℕ
  most = most_from lay cs (shows (root digest bits es))

  stopped-at : (why : Stop) (s : LinkEdge) (log : Log) → IsThere HasKeys refl shows full more why
      → Stops shows {A = Top} (Err (record { why = why; edge = s; log = log })) → length log.read < most
      → AreWritten HasKeys s log → OnlyLacks cids gives most (Err (record { why = why; edge = s; log = log }))
  stopped-at (NotShown c) s log there told n w = ((n, w), is-lack c there told)
  stopped-at LinkTooDeep s log there told n w = absurd there

  follows : (step other : Step Top) → Follows HasKeys refl shows full more (λ t. LinkClear) (λ t. length t.1) step other
      → Stops shows step → IsWhole other → most ≡ suc reads → OnlyLacks cids gives most step
  follows (Ok x) other h told w z =
      let f = w.few in
      let same = ok-is x w.x (sym h ∙ w.is) in (
        subst (λ (y : Top × Log). IsWithin most (at_top (Ok y))) (sym same)
            (omega (arith, f, z), record { made = w.made; begun = tt }),
        tt,
      )
  follows (Err e) other h told w z =
      let f = w.few in
      let i = subst (λ o. OnEnd (λ t. LinkClear) o (IsEarlier HasKeys e.edge e.log)) w.is h.0 in
      let j = subst (λ (o : Step Top). IsFewer HasKeys refl shows full more (λ t. length t.1) e o) w.is h.1 in
      let n = length-append w.x.1.read w.x.0.1 in
      stopped-at e.why e.edge e.log j.1 told (omega (arith, f, j.0, n, z))
      (i.written (record { made = w.made; begun = tt }))

  -- ---- from the root

  abbrev start : Log
  start = record { read = []; made = [] }

  abbrev goal : ℕ → Type 0
  goal n = OnlyLacks cids gives most (batch_from digest shows lay n cs (root digest bits es))

  top-shown : full (root digest bits es) ≡ Some (shape digest (top lay es))
  top-shown = (holds-top digest bits fits all es are has-all).0

  top-there : IsThere HasKeys refl shows full more (NotShown (root digest bits es))
  top-there = (shape digest (top lay es), top-shown)

  rootless : (n : ℕ) (o : Option Shape) → shows (root digest bits es) ≡ o → o ≡ None
      → OnlyLacks cids gives most (and_then (log_shown (root digest bits es) LinkClear o start)
      (λ s log. and_then (walking_top digest shows lay n cs s log) (topping digest shows n)))
  rootless n None q z = (
    (most-one lay cs (shows (root digest bits es)), record { made = tt; begun = tt }),
    is-lack (root digest bits es) top-there q,
  )
  rootless n (Some s) q z = absurd cc

  with-root : (s : Shape) → shows (root digest bits es) ≡ Some s
      → goal (layers_needed lay (put_layers lay cs) (shows (root digest bits es)))
  with-root s q =
      let same : shows (root digest bits es) ≡ Some (shape digest (top lay es)) =
      q ∙ sym (more (root digest bits es) s q) ∙ top-shown in
      let n = layers-are digest bits fits given es are free cs same in
      subst goal (sym n)
      (follows (batch_from digest shows lay wanted cs (root digest bits es))
      (batch_from digest full lay wanted cs (root digest bits es))
      (follows-batch HasKeys refl shows full more digest lay wanted cs (root digest bits es))
      (stops-batch shows digest lay wanted cs (root digest bits es)) whole
      (ap (most_from lay cs) same
      ∙ ap (λ k. suc (most_reads k cs)) (layer-same digest shows lay (top lay es) ∙ layer_of-top lay es)))

  either : (o : Option Shape) → shows (root digest bits es) ≡ o
      → goal (layers_needed lay (put_layers lay cs) (shows (root digest bits es)))
  either None q =
      rootless (layers_needed lay (put_layers lay cs) (shows (root digest bits es))) (shows (root digest bits es)) refl q
  either (Some s) q = with-root s q

  pub only-lacks : goal (layers_needed lay (put_layers lay cs) (shows (root digest bits es)))
  only-lacks = either (shows (root digest bits es)) refl

pub tree-only_lacks : TreeOnlyLacks
tree-only_lacks digest bits fits es are own_free given free cs keyed =
    only-lacks digest bits fits es are own_free given free cs keyed
