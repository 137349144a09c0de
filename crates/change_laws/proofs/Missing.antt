-- What is not shown isn't shown, and what is called missing isn't given.
use Rattle.std.proofs.Common.{◌≡◌, ℕ, zero, suc, ◌-◌, Bool, true, false, cond, List, [], ◌∷◌, refl, subst, Option, Result, Ok, Err}
use Rattle.std.specs.declared.option.Option.TheVariants.{Some, None}
use Rattle.spec.specs.Reading.{◌>>=◌, ensure}
use Rattle.spec.specs.Layer.{layer}
use Rattle.spec.specs.Tree.{Pair}
use Rattle.spec.specs.NodeFormat.{Shape, LastLink, MoreLinks}
use Rattle.std.specs.Str.{bytes_eq}
use Rattle.edit_laws.specs.ShapeEdit.{last_link, layer_of_shape}
use Rattle.edit_laws.specs.Sources.{shown_by}
use Rattle.batch_laws.specs.Batch.{Change, before, at_key, after, puts, entry}
use Rattle.batch_laws.specs.Counts.{most_from, layers_needed, put_layers}
use Rattle.batch_laws.specs.Walking.{depth_of}
use Rattle.batch_laws.specs.Links.{Rows, LinkEdge, LinkClear, LinkWaiting, LinkOpened, Log, Stop, NotShown, LinkTooDeep, Step, Top, and_then, ask, log_shown, with_read, link_edge, rows_in_shape, opened_rows, under_rows, joined_row, opening, pairing, noding, parting, subtreeing, pairs_in_turn, walking_node, walking, pruning_at, pruning, topping, walking_top, batch_from, StopsAt}
use Rattle.change_laws.specs.Told.{KeyChange, undone}
use Rattle.batch_laws.specs.Within.{IsWithin, at_top}
use Rattle.change_laws.specs.Within.{is_within}
use Rattle.change_laws.specs.Given.{ChangeFault, BlockMissing, BadNode, TooDeep, NotTree, OtherValue, OtherRoot, given_at, unshown, stop_fault_of, or_stop, or_fault, batch_over, batch_given}
use Rattle.change_laws.specs.Verdict.{are_told, values_given, is_same, change_verdict}
use Rattle.change_laws.specs.Laws.{NothingGiven, NotShownIsTrue, MissingIsMissing, NotTreeIsBeyond}
use Rattle.change_laws.proofs.Within.{not-within, beyond-is, beyond-is_verdict}

module _ (shows : List ℕ → Option Shape) where
  abbrev pub IsTold : Stop → Type 0
  IsTold (NotShown c) = shows c ≡ None
  IsTold LinkTooDeep = Unit {0}

  -- a step that stops tells the truth
  abbrev pub Stops : {A : Type 0} → Step A → Type 0
  Stops (Ok x) = Unit {0}
  Stops (Err e) = IsTold e.why

  stops-then : {A B : Type 0} (step : Step A) (f : A → Log → Step B) → Stops step
      → ((a : A) (log : Log) → Stops (f a log)) → Stops (and_then step f)
  stops-then (Ok x) f h k = k x.0 x.1
  stops-then (Err e) f h k = h

  stops-under : (rows : Rows) (step : Step LinkEdge) → Stops step → Stops (under_rows rows step)
  stops-under rows (Ok x) h = tt
  stops-under rows (Err e) h = h

  stops-logged : (c : List ℕ) (s : LinkEdge) (o : Option Shape) (log : Log) → shows c ≡ o → Stops (log_shown c s o log)
  stops-logged c s None log q = q
  stops-logged c s (Some m) log q = tt

  stops-read : (c : List ℕ) (s : LinkEdge) (log : Log) → Stops (ask shows c s log)
  stops-read c s log = stops-logged c s (shows c) log refl

  stops-open : (s : LinkEdge) (log : Log) → Stops (opening shows s log)
  stops-open LinkClear log = tt
  stops-open (LinkWaiting c) log =
      stops-then (ask shows c (LinkWaiting c) log) opened_rows (stops-read c (LinkWaiting c) log) (λ s log1. tt)
  stops-open (LinkOpened rows s) log = tt

  module _ (digest : List ℕ → List ℕ) where
    stops-pair : (d : ℕ) (e : Pair) (s : LinkEdge) (log : Log) → Stops (pairing digest shows d e s log)
    stops-pair zero e s log = stops-then (opening shows s log) _ (stops-open s log) (λ o log1. tt)
    stops-pair (suc d) e s log =
        stops-then (opening shows s log) _ (stops-open s log)
        (λ o log1. stops-under o.0 (pairing digest shows d e o.1 log1) (stops-pair d e o.1 log1))

    stops-noding : (further : Option (List ℕ) → LinkEdge → Log → Step LinkEdge)
        → ((l : Option (List ℕ)) (s : LinkEdge) (log : Log) → Stops (further l s log))
        → (rows : Rows) (s : LinkEdge) (m : Shape) (log : Log) → Stops (noding digest further rows s m log)
    stops-noding further h rows s (LastLink l) log = stops-under rows (further l s log) (h l s log)
    stops-noding further h rows s (MoreLinks l e r) log = joins (further l s log) (h l s log)
      where
        joins : (step : Step LinkEdge) → Stops step → Stops (joined_row digest e rows r step)
        joins (Ok x) k = tt
        joins (Err f) k = k

    stops-part : (k : ℕ) (l : Option (List ℕ)) (s : LinkEdge) (log : Log) → Stops (parting digest shows k l s log)
    stops-part zero None s log = tt
    stops-part zero (Some c) s log = tt
    stops-part (suc k) None s log = tt
    stops-part (suc k) (Some c) LinkClear log = tt
    stops-part (suc k) (Some c) (LinkWaiting b) log =
        stops-then (ask shows b (LinkWaiting b) log) _ (stops-read b (LinkWaiting b) log)
        (λ t log1. stops-then (ask shows c (LinkOpened (rows_in_shape t) (link_edge (last_link t))) log1)
        (noding digest (parting digest shows k) (rows_in_shape t) (link_edge (last_link t)))
        (stops-read c (LinkOpened (rows_in_shape t) (link_edge (last_link t))) log1)
        (λ m log2. stops-noding (parting digest shows k) (stops-part k) (rows_in_shape t) (link_edge (last_link t)) m
        log2))
    stops-part (suc k) (Some c) (LinkOpened rows s) log =
        stops-then (ask shows c (LinkOpened rows s) log) (noding digest (parting digest shows k) rows s)
        (stops-read c (LinkOpened rows s) log)
        (λ m log1. stops-noding (parting digest shows k) (stops-part k) rows s m log1)

    stops-subtree : (k d : ℕ) (c : List ℕ) (s : LinkEdge) (log : Log) → Stops (subtreeing digest shows k d c s log)
    stops-subtree k zero c s log = stops-part k (Some c) s log
    stops-subtree k (suc d) c s log =
        stops-then (opening shows s log) _ (stops-open s log)
        (λ o log1. stops-under o.0 (subtreeing digest shows k d c o.1 log1) (stops-subtree k d c o.1 log1))

    stops-pairs : (depth : List ℕ → ℕ) (es : List Pair) (s : LinkEdge) (log : Log)
        → Stops (pairs_in_turn digest shows depth es s log)
    stops-pairs depth [] s log = tt
    stops-pairs depth (e ∷ es) s log =
        stops-then (pairing digest shows (depth e.0) e s log) (pairs_in_turn digest shows depth es)
        (stops-pair (depth e.0) e s log) (λ t log1. stops-pairs depth es t log1)

    abbrev GapStops : (Option (List ℕ) → List Change → LinkEdge → Log → Step LinkEdge) → Type 0
    GapStops gap = (l : Option (List ℕ)) (cs : List Change) (s : LinkEdge) (log : Log) → Stops (gap l cs s log)

    stops-node : (d : ℕ) (gap : Option (List ℕ) → List Change → LinkEdge → Log → Step LinkEdge) → GapStops gap
        → (cs : List Change) (s : LinkEdge) (m : Shape) (log : Log) → Stops (walking_node digest shows d gap cs s m log)
    stops-node d gap h cs s (LastLink l) log = h l cs s log
    stops-node d gap h cs s (MoreLinks l e r) log =
        let ps = entry (at_key e.0 cs) e in
        stops-then (gap l (before e.0 cs) s log) _ (h l (before e.0 cs) s log)
        (λ t log1. stops-then (pairs_in_turn digest shows (λ key. d) ps t log1) _ (stops-pairs (λ key. d) ps t log1)
        (λ u log2. stops-node d gap h (after e.0 cs) u r log2))

    stops-walk : (lay : List ℕ → ℕ) (n k d : ℕ) → GapStops (walking digest shows lay n k d)
    stops-walk lay n zero d None cs s log = stops-pairs (depth_of lay n) (puts cs) s log
    stops-walk lay n zero d (Some c) cs s log = tt
    stops-walk lay n (suc k) d None cs s log = stops-pairs (depth_of lay n) (puts cs) s log
    stops-walk lay n (suc k) d (Some c) [] s log = stops-subtree (suc k) d c s log
    stops-walk lay n (suc k) d (Some c) (x ∷ cs) s log =
        stops-then (ask shows c s log) _ (stops-read c s log)
        (λ m log1. stops-node d (walking digest shows lay n k (suc d)) (stops-walk lay n k (suc d)) (x ∷ cs) s m log1)

    stops-look : (k : ℕ) → ((c : List ℕ) (log : Log) → Stops (pruning shows k c log)) → (c : List ℕ) (o : Option Shape)
        (log : Log) → shows c ≡ o → Stops (pruning_at (pruning shows k) c log o)
    stops-look k h c None log q = q
    stops-look k h c (Some (LastLink None)) log q = tt
    stops-look k h c (Some (LastLink (Some b))) log q = h b (with_read (LastLink (Some b)) log)
    stops-look k h c (Some (MoreLinks l e r)) log q = tt

    stops-prune : (k : ℕ) (c : List ℕ) (log : Log) → Stops (pruning shows k c log)
    stops-prune zero c log = tt
    stops-prune (suc k) c log = stops-look k (stops-prune k) c (shows c) log refl

    stops-top : (k : ℕ) (s : LinkEdge) (log : Log) → Stops (topping digest shows k s log)
    stops-top k LinkClear log = tt
    stops-top k (LinkWaiting c) log = stops-prune k c log
    stops-top k (LinkOpened [] s) log = stops-top k s log
    stops-top k (LinkOpened (x ∷ rows) s) log = tt

    pub stops-batch : (lay : List ℕ → ℕ) (n : ℕ) (cs : List Change) (root : List ℕ)
        → Stops (batch_from digest shows lay n cs root)
    stops-batch lay n cs root =
        stops-then (ask shows root LinkClear (record { read = []; made = [] })) _
        (stops-read root LinkClear (record { read = []; made = [] }))
        (λ s log. stops-then (walking_top digest shows lay n cs s log) (topping digest shows n)
        (let t = layer_of_shape lay s in
        let d = n - suc t in
        stops-node d (walking digest shows lay n t (suc d)) (stops-walk lay n t (suc d)) cs LinkClear s log)
        (λ u log1. stops-top n u log1))

pub not_shown-is_true : NotShownIsTrue
not_shown-is_true digest bits gives cs root c e =
    let shows = shown_by gives in
    let lay = layer digest bits in
    let n = layers_needed lay (put_layers lay cs) (shows root) in
    told (batch_over digest bits gives cs root) (stops-batch shows digest lay n cs root) e
  where
    told : (o : Step Top) → Stops (shown_by gives) o → StopsAt (NotShown c) o → shown_by gives c ≡ None
    told (Ok x) h k = absurd k
    told (Err f) h k = subst (λ w. IsTold (shown_by gives) w) k h

-- ---- what a verdict says

module _ (P : ChangeFault → Type 0) (of_value : (place : ℕ) → P (OtherValue place)) (of_root : P OtherRoot) where
  -- what fails says what P holds of
  abbrev pub Tells : {A : Type 0} → Result A ChangeFault → Type 0
  Tells (Ok x) = Unit {0}
  Tells (Err fault) = P fault

  tells-bind : {A B : Type 0} (r : Result A ChangeFault) (f : A → Result B ChangeFault) → Tells r
      → ((a : A) → Tells (f a)) → Tells (r >>= f)
  tells-bind (Ok x) f h k = k x
  tells-bind (Err fault) f h k = h

  tells-value : (b : Bool) (place : ℕ) → Tells (ensure b (OtherValue place))
  tells-value true place = tt
  tells-value false place = of_value place

  tells-root : (b : Bool) → Tells (ensure b OtherRoot)
  tells-root true = tt
  tells-root false = of_root

  tells-told : (place : ℕ) (vs : List (Option (List ℕ))) (cs : List KeyChange) → Tells (are_told place vs cs)
  tells-told place [] [] = tt
  tells-told place [] (c ∷ cs) = of_value place
  tells-told place (v ∷ vs) [] = tt
  tells-told place (v ∷ vs) (c ∷ cs) =
      tells-bind (ensure (is_same v c.after) (OtherValue place)) (λ same. are_told (suc place) vs cs)
      (tells-value (is_same v c.after) place) (λ same. tells-told (suc place) vs cs)

  tells-fault : {A : Type 0} (r : Result A ChangeFault) (fault : ChangeFault) → r ≡ Err fault → Tells r → P fault
  tells-fault r fault q h = subst (λ t. Tells t) q h

  -- where the faults of reading say so, all do
  pub says : (digest : List ℕ → List ℕ) (bits : ℕ) (before after : List ℕ) (given : List (List ℕ)) (cs : List KeyChange)
      → Tells (batch_given digest bits given (undone cs) after) → (fault : ChangeFault)
      → change_verdict digest bits before after given cs ≡ Err fault → P fault
  unfolding change_verdict
  says digest bits before after given cs h fault e =
      let us = undone cs in
      let vs = values_given digest bits given us after in
      tells-fault _ fault e
      (tells-bind (batch_given digest bits given us after) _ h
      (λ old. tells-bind (are_told 0 vs cs) _ (tells-told 0 vs cs) (λ told. tells-root (bytes_eq old.0.0 before))))

-- ---- what is called missing

module _ (gives : List ℕ → Option (List ℕ)) where
  abbrev IsTrue : ChangeFault → Type 0
  IsTrue (BlockMissing c) = gives c ≡ None
  IsTrue (BadNode c) = Unit {0}
  IsTrue TooDeep = Unit {0}
  IsTrue NotTree = Unit {0}
  IsTrue (OtherValue place) = Unit {0}
  IsTrue OtherRoot = Unit {0}

  tells-unshown : (c : List ℕ) (o : Option (List ℕ)) → gives c ≡ o → IsTrue (unshown c o)
  tells-unshown c None q = q
  tells-unshown c (Some b) q = tt

  tells-why : (why : Stop) → IsTrue (stop_fault_of gives why)
  tells-why (NotShown c) = tells-unshown c (gives c) refl
  tells-why LinkTooDeep = tt

  tells-stop : (step : Step Top) → Tells IsTrue (λ place. tt) tt (or_stop gives step)
  tells-stop (Ok x) = tt
  tells-stop (Err e) = tells-why e.why

  tells-step : (most : ℕ) (step : Step Top) → Tells IsTrue (λ place. tt) tt (or_fault gives most step)
  tells-step most step = by (is_within most step)
    where
      by : (b : Bool) → Tells IsTrue (λ place. tt) tt (cond b (or_stop gives step) (Err NotTree))
      by true = tells-stop step
      by false = tt

pub missing-is_missing : MissingIsMissing
missing-is_missing digest bits before after given cs c e =
    let gives = given_at digest given in
    says (IsTrue gives) (λ place. tt) tt digest bits before after given cs
    (tells-step gives (most_from (layer digest bits) (undone cs) (shown_by gives after))
    (batch_over digest bits gives (undone cs) after)) (BlockMissing c) e

pub nothing-given : NothingGiven
unfolding change_verdict
nothing-given digest bits before after cs = refl

-- ---- what is called no tree

module _ (beyond : Type 0) where
  abbrev SaysBeyond : ChangeFault → Type 0
  SaysBeyond (BlockMissing c) = Unit {0}
  SaysBeyond (BadNode c) = Unit {0}
  SaysBeyond TooDeep = Unit {0}
  SaysBeyond NotTree = beyond
  SaysBeyond (OtherValue place) = Unit {0}
  SaysBeyond OtherRoot = Unit {0}

  module _ (gives : List ℕ → Option (List ℕ)) where
    beyond-unshown : (c : List ℕ) (o : Option (List ℕ)) → SaysBeyond (unshown c o)
    beyond-unshown c None = tt
    beyond-unshown c (Some b) = tt

    beyond-why : (why : Stop) → SaysBeyond (stop_fault_of gives why)
    beyond-why (NotShown c) = beyond-unshown c (gives c)
    beyond-why LinkTooDeep = tt

    beyond-stop : (step : Step Top) → Tells SaysBeyond (λ place. tt) tt (or_stop gives step)
    beyond-stop (Ok x) = tt
    beyond-stop (Err e) = beyond-why e.why

    beyond-case : (step : Step Top) (b : Bool) → (b ≡ false → beyond)
        → Tells SaysBeyond (λ place. tt) tt (cond b (or_stop gives step) (Err NotTree))
    beyond-case step true h = beyond-stop step
    beyond-case step false h = h refl

pub not_tree-is_beyond : NotTreeIsBeyond
not_tree-is_beyond digest bits before after given cs =
    let gives = given_at digest given in
    let most = most_from (layer digest bits) (undone cs) (shown_by gives after) in
    let step = batch_over digest bits gives (undone cs) after in
    let beyond = ¬ IsWithin most (at_top step) in (
      λ e. says (SaysBeyond beyond) (λ place. tt) tt digest bits before after given cs
          (beyond-case beyond gives step (is_within most step) (beyond-is most step)) NotTree e,
      λ h. beyond-is_verdict digest bits before after given cs (not-within most step h),
    )
