-- One put reads the path of its key, whatever the source shows.
use Rattle.std.proofs.Common.{◌≡◌, ℕ, zero, suc, ◌-◌, ◌<◌, ◌≤◌, List, [], ◌∷◌, ◌++◌, refl, sym, ap, subst, ◌∙◌, arith, append_assoc, Option, Ok, Err}
use Rattle.std.proofs.lemmas.List.{append-nil}
use Rattle.std.specs.declared.option.Option.TheVariants.{Some, None}
use Rattle.std.specs.declared.cmp.Ordering.{Ordering}
use Rattle.std.specs.declared.cmp.Ordering.TheVariants.{Less, Equal, Greater}
use Rattle.spec.specs.Tree.{Pair}
use Rattle.spec.specs.NodeFormat.{Shape, LastLink, MoreLinks}
use Rattle.edit_laws.specs.Order.{order}
use Rattle.edit_laws.specs.ShapeEdit.{layer_of_shape}
use Rattle.edit_laws.specs.Sources.{gap, path_from, path_at}
use Rattle.edit_laws.proofs.Orders.{order-equal, order-same, turned, turned_back}
use Rattle.batch_laws.specs.Batch.{Change, puts}
use Rattle.batch_laws.specs.Walking.{depth_of}
use Rattle.batch_laws.specs.Links.{LinkEdge, LinkClear, LinkWaiting, LinkOpened, Log, with_read, and_then, log_shown, pairs_in_turn, walking_node, walking, Top, topping, walking_top, Step}
use Rattle.batch_laws.specs.Written.{OnAnswer}
use Rattle.batch_laws.specs.Paths.{IsWhole, IsWholeAt, IsPathRead}
use Rattle.batch_laws.specs.Laws.Reads.{OnePutReadsPath}
use Rattle.batch_laws.proofs.LinkQuiet.{Calm, Quiet, HasPair, calm-quiet, calm-less, quiet-more, closing-reads, Unread, IsPairAt, one-calm, IsStill, still-part, still-node, unread-then}

-- a step that reads just this
abbrev pub Reads : Step LinkEdge → Log → List Shape → (LinkEdge → Type 0) → Type 0
Reads step log xs P = OnAnswer step (λ t later. (later.read ≡ log.read ++ xs) × P t)

-- with a step before it, or after it, that reads nothing
pub after-unread : (step : Step LinkEdge) (f : LinkEdge → Log → Step LinkEdge) (log : Log)
    (xs : List Shape) (P Q : LinkEdge → Type 0) → Unread step log P
    → ((t : LinkEdge) (later : Log) → P t → Reads (f t later) later xs Q) → Reads (and_then step f) log xs Q
after-unread (Err stop) f log xs P Q h k = tt
after-unread (Ok x) f log xs P Q h k = same (f x.0 x.1) (k x.0 x.1 h.1)
  where
    same : (o : Step LinkEdge) → Reads o x.1 xs Q → Reads o log xs Q
    same (Err stop) j = tt
    same (Ok y) j = (j.0 ∙ ap (λ t. t ++ xs) h.0, j.1)

pub before-unread : (step : Step LinkEdge) (f : LinkEdge → Log → Step LinkEdge) (log : Log)
    (xs : List Shape) (P Q : LinkEdge → Type 0) → Reads step log xs P
    → ((t : LinkEdge) (later : Log) → P t → Unread (f t later) later Q) → Reads (and_then step f) log xs Q
before-unread (Err stop) f log xs P Q h k = tt
before-unread (Ok x) f log xs P Q h k = same (f x.0 x.1) (k x.0 x.1 h.1)
  where
    same : (o : Step LinkEdge) → Unread o x.1 Q → Reads o log xs Q
    same (Err stop) j = tt
    same (Ok y) j = (j.0 ∙ h.0, j.1)

pub reads-nothing : (step : Step LinkEdge) (log : Log) (P Q : LinkEdge → Type 0)
    → ((t : LinkEdge) → P t → Q t) → Unread step log P → Reads step log [] Q
reads-nothing (Err stop) log P Q f h = tt
reads-nothing (Ok x) log P Q f h = (h.0 ∙ sym (append-nil log.read), f x.0 h.1)

pub path-none : (shows : List ℕ → Option Shape) (k : ℕ) (key : List ℕ) → path_from shows k key None ≡ []
path-none shows zero key = refl
path-none shows (suc k) key = refl

pub whole-none : (shows : List ℕ → Option Shape) (k : ℕ) (key : List ℕ) → IsWhole shows k key None
whole-none shows zero key = tt
whole-none shows (suc k) key = tt

-- more nodes than the path has
abbrev IsEnough : (List ℕ → Option Shape) → ℕ → ℕ → List ℕ → Option (List ℕ) → Type 0
IsEnough shows k m key l = (path_from shows k key l ≡ path_from shows m key l) × IsWhole shows m key l

enough-at : (shows : List ℕ → Option Shape) (k m : ℕ) (key : List ℕ) (o : Option Shape)
    → ((l : Option (List ℕ)) → IsWhole shows k key l → IsEnough shows k m key l)
    → IsWholeAt (IsWhole shows k key) key o
    → (path_at (path_from shows k key) key o ≡ path_at (path_from shows m key) key o)
    × IsWholeAt (IsWhole shows m key) key o
enough-at shows k m key None ih h = absurd h
enough-at shows k m key (Some s) ih h = let i = ih (gap key s) h in (ap (λ t. s ∷ t) i.0, i.1)

pub enough : (shows : List ℕ → Option Shape) (k m : ℕ) (key : List ℕ) (l : Option (List ℕ)) → k ≤ m
    → IsWhole shows k key l → IsEnough shows k m key l
enough shows zero m key None q h = (sym (path-none shows m key), whole-none shows m key)
enough shows zero m key (Some c) q h = absurd h
enough shows (suc k) m key None q h = (sym (path-none shows m key), whole-none shows m key)
enough shows (suc k) zero key (Some c) q h = absurd (omega arith)
enough shows (suc k) (suc m) key (Some c) q h =
    enough-at shows k m key (shows c) (λ l. enough shows k m key l (omega arith)) h

module _ (digest : List ℕ → List ℕ) (shows : List ℕ → Option Shape) (layer : List ℕ → ℕ) (n : ℕ) (key value : List ℕ) where
  abbrev one : List Change
  one = (key, Some value) ∷ []

  abbrev walked : ℕ → ℕ → Option (List ℕ) → List Change → LinkEdge → Log → Step LinkEdge
  walked k d = walking digest shows layer n k d

  -- the path is whole, nothing waits, and there is a pair
  abbrev IsPut : ℕ → ℕ → Option (List ℕ) → LinkEdge → Type 0
  IsPut k d l t = IsWhole shows k key l × Calm d t × HasPair t

  abbrev PutsPart : ℕ → Type 0
  PutsPart k = (d : ℕ) (l : Option (List ℕ)) (s : LinkEdge) (log : Log) → Quiet d s
      → Reads (walked k d l one s log) log (path_from shows k key l) (IsPut k d l)

  put-nothing : (k d : ℕ) (s : LinkEdge) (log : Log) → Quiet d s
      → Reads (pairs_in_turn digest shows (depth_of layer n) (puts one) s log) log (path_from shows k key None)
      (IsPut k d None)
  put-nothing k d s log h =
      let j = depth_of layer n key in
      rw (path-none shows k key)
      (reads-nothing (pairs_in_turn digest shows (depth_of layer n) (puts one) s log) log (IsPairAt digest shows j)
      (IsPut k d None) (λ t p. (whole-none shows k key, calm-quiet (suc j) d t p.0, p.1))
      (one-calm digest shows (depth_of layer n) (key, value) s log (calm-quiet d (suc j) s h)))

  -- pairs that stay, after the one that was put
  rest-still : (k d : ℕ) (l : Option (List ℕ)) (e : Pair) (r : Shape) (t : LinkEdge) (log : Log) → IsWhole shows k key l
      → Calm (suc d) t
      → Unread (and_then (pairs_in_turn digest shows (λ key. d) (e ∷ []) t log) (λ u log2.
      walking_node digest shows d (walked k (suc d)) [] u r log2)) log (IsPut k (suc d) l)
  rest-still k d l e r t log w c =
      unread-then digest shows layer n (pairs_in_turn digest shows (λ key. d) (e ∷ []) t log)
      (λ u log2. walking_node digest shows d (walked k (suc d)) [] u r log2) log (IsPairAt digest shows d)
      (IsPut k (suc d) l) (one-calm digest shows (λ key. d) e t log c)
      (λ u log2 p. with_pair u log2 p.1 (walking_node digest shows d (walked k (suc d)) [] u r log2)
      (still-node digest shows layer n k d r u log2 p.0))
    where
      with_pair : (u : LinkEdge) (log2 : Log) → HasPair u → (o : Step LinkEdge)
          → Unread o log2 (IsStill digest shows layer n (suc d) u) → Unread o log2 (IsPut k (suc d) l)
      with_pair u log2 p (Err stop) j = tt
      with_pair u log2 p (Ok y) j = (j.0, (w, j.1.0, j.1.1 p))

  abbrev PutsNode : ℕ → ℕ → Shape → LinkEdge → Log → Type 0
  PutsNode k d m s log = Reads (walking_node digest shows d (walked k (suc d)) one s m log) log
      (path_from shows k key (gap key m)) (IsPut k (suc d) (gap key m))

  put-more : (k d : ℕ) (l : Option (List ℕ)) (e : Pair) (r : Shape) (s : LinkEdge) (log : Log) (o : Ordering)
      → order key e.0 ≡ o → PutsPart k
      → ((t : LinkEdge) (later : Log) → Quiet (suc d) t → PutsNode k d r t later) → Quiet (suc d) s
      → PutsNode k d (MoreLinks l e r) s log
  put-more k d l e r s log Less q ih rest h =
      let step = walked k (suc d) in
      rw (q, turned_back key e.0 q)
      (before-unread (step l one s log) (λ t log1. and_then (pairs_in_turn digest shows (λ key. d) (e ∷ []) t log1)
      (λ u log2. walking_node digest shows d step [] u r log2)) log (path_from shows k key l) (IsPut k (suc d) l)
      (IsPut k (suc d) l) (ih (suc d) l s log h)
      (λ t log1 p. rest-still k d l e r t log1 p.0 p.1))
  put-more k d l e r s log Equal q ih rest h =
      let step = walked k (suc d) in
      let same : order e.0 key ≡ Equal = subst (λ x. order e.0 x ≡ Equal) (sym (order-equal key e.0 q)) (order-same e.0) in
      rw (q, same, path-none shows k key)
      (after-unread (step l [] s log) (λ t log1. and_then (pairs_in_turn digest shows (λ key. d) ((e.0, value) ∷ []) t log1)
      (λ u log2. walking_node digest shows d step [] u r log2)) log [] (IsStill digest shows layer n (suc d) s)
      (IsPut k (suc d) None) (still-part digest shows layer n k (suc d) l s log h)
      (λ t log1 p. reads-nothing (and_then (pairs_in_turn digest shows (λ key. d) ((e.0, value) ∷ []) t log1)
      (λ u log2. walking_node digest shows d step [] u r log2)) log1 (IsPut k (suc d) None) (IsPut k (suc d) None)
      (λ t p. p) (rest-still k d None (e.0, value) r t log1 (whole-none shows k key) p.0)))
  put-more k d l e r s log Greater q ih rest h =
      let step = walked k (suc d) in
      let xs = path_from shows k key (gap key r) in
      rw (q, turned key e.0 q)
      (after-unread (step l [] s log) (λ t log1. and_then (pairs_in_turn digest shows (λ key. d) (e ∷ []) t log1)
      (λ u log2. walking_node digest shows d step one u r log2)) log xs (IsStill digest shows layer n (suc d) s)
      (IsPut k (suc d) (gap key r)) (still-part digest shows layer n k (suc d) l s log h)
      (λ t log1 p. after-unread (pairs_in_turn digest shows (λ key. d) (e ∷ []) t log1)
      (λ u log2. walking_node digest shows d step one u r log2) log1 xs (IsPairAt digest shows d)
      (IsPut k (suc d) (gap key r)) (one-calm digest shows (λ key. d) e t log1 p.0)
      (λ u log2 w. rest u log2 w.0)))

  put-node : (k d : ℕ) (m : Shape) (s : LinkEdge) (log : Log) → PutsPart k → Quiet (suc d) s → PutsNode k d m s log
  put-node k d (LastLink l) s log ih h = ih (suc d) l s log h
  put-node k d (MoreLinks l e r) s log ih h =
      put-more k d l e r s log (order key e.0) refl ih (λ t later. put-node k d r t later ih) h

  -- a node that is read, of the path
  put-shown : (k d : ℕ) (c : List ℕ) (o : Option Shape) (s : LinkEdge) (log : Log) → PutsPart k → Quiet d s
      → Reads (and_then (log_shown c s o log) (walking_node digest shows d (walked k (suc d)) one s)) log
      (path_at (path_from shows k key) key o)
      (λ t. IsWholeAt (IsWhole shows k key) key o × Calm d t × HasPair t)
  put-shown k d c None s log ih h = tt
  put-shown k d c (Some m) s log ih h =
      after (walking_node digest shows d (walked k (suc d)) one s m (with_read m log))
      (put-node k d m s (with_read m log) ih (quiet-more d s h))
    where
      after : (o : Step LinkEdge)
          → Reads o (with_read m log) (path_from shows k key (gap key m)) (IsPut k (suc d) (gap key m))
          → Reads o log (m ∷ path_from shows k key (gap key m))
          (λ t. IsWhole shows k key (gap key m) × Calm d t × HasPair t)
      after (Err stop) j = tt
      after (Ok y) j = (
        j.0 ∙ append_assoc log.read (m ∷ []) (path_from shows k key (gap key m)),
        (j.1.0, calm-less d y.0 j.1.1, j.1.2),
      )

  put-part : (k : ℕ) → PutsPart k
  put-part zero d None s log h = put-nothing zero d s log h
  put-part zero d (Some c) s log h = tt
  put-part (suc k) d None s log h = put-nothing (suc k) d s log h
  put-part (suc k) d (Some c) s log h = put-shown k d c (shows c) s log (put-part k) h

  -- ---- the whole tree

  top-unread : (k : ℕ) (s : LinkEdge) (log : Log) → HasPair s
      → OnAnswer (topping digest shows k s log) (λ top later. (later.read ≡ log.read) × (top.1 ≡ []))
  top-unread k LinkClear log h = absurd h
  top-unread k (LinkWaiting c) log h = absurd h
  top-unread k (LinkOpened [] s) log h = top-unread k s log h
  top-unread k (LinkOpened (x ∷ rows) s) log h = (closing-reads digest s log, refl)

  put-top : (m : ℕ) (root : List ℕ) → ((k : List ℕ) → layer k < m) → (o : Option Shape) → shows root ≡ o
      → let log : Log = record { read = []; made = [] } in
      OnAnswer (and_then (log_shown root LinkClear o log) (λ s log1. and_then (walking_top digest shows layer n one s log1)
      (topping digest shows n))) (IsPathRead shows m key root)
  put-top m root f None q = tt
  put-top m root f (Some s) q =
      let t = layer_of_shape layer s in
      let d = n - suc t in
      let log = with_read s (record { read = []; made = [] }) in
      after (walking_top digest shows layer n one s log) (put-node t d s LinkClear log (put-part t) tt)
    where
      low : (s : Shape) → layer_of_shape layer s < m
      low (LastLink l) = let i = f [] in omega arith
      low (MoreLinks l e r) = f e.0

      log1 : Log
      log1 = with_read s (record { read = []; made = [] })

      path : IsWhole shows (layer_of_shape layer s) key (gap key s)
          → (s ∷ path_from shows (layer_of_shape layer s) key (gap key s) ≡ path_from shows m key (Some root))
          × IsWhole shows m key (Some root)
      path w =
          let t = layer_of_shape layer s in
          let l = low s in
          let whole : IsWhole shows (suc t) key (Some root) =
          subst (λ o. IsWholeAt (IsWhole shows t key) key o) (sym q) w in
          let i = enough shows (suc t) m key (Some root) (omega arith) whole in
          (ap (path_at (path_from shows t key) key) (sym q) ∙ i.0, i.1)

      ends : (u : LinkEdge) (later : Log) → later.read ≡ s ∷ path_from shows (layer_of_shape layer s) key (gap key s)
          → IsWhole shows (layer_of_shape layer s) key (gap key s) → (x : Step Top)
          → OnAnswer x (λ top last. (last.read ≡ later.read) × (top.1 ≡ [])) → OnAnswer x (IsPathRead shows m key root)
      ends u later r w (Err stop) j = tt
      ends u later r w (Ok x) j =
          let i = path w in record { whole = i.1; read_is = j.0 ∙ r ∙ i.0; none_left = j.1 }

      after : (x : Step LinkEdge)
          → Reads x log1 (path_from shows (layer_of_shape layer s) key (gap key s))
          (IsPut (layer_of_shape layer s) (suc (n - suc (layer_of_shape layer s))) (gap key s))
          → OnAnswer (and_then x (topping digest shows n)) (IsPathRead shows m key root)
      after (Err stop) j = tt
      after (Ok x) j = ends x.0 x.1 j.0 j.1.0 (topping digest shows n x.0 x.1) (top-unread n x.0 x.1 j.1.2)

pub put-reads_path : OnePutReadsPath
put-reads_path digest shows layer n key value m root f =
    put-top digest shows layer n key value m root f (shows root) refl
