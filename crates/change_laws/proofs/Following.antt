-- Over a source that shows fewer nodes a batch answers the same, or stops earlier.
use Rattle.std.proofs.Common.{◌≡◌, ℕ, zero, suc, ◌+◌, ◌-◌, ◌≤◌, List, [], ◌∷◌, length, refl, sym, ap, subst, arith, length-append, Option, Ok, Err}
use Rattle.std.specs.declared.option.Option.TheVariants.{Some, None}
use Rattle.spec.specs.Tree.{Pair}
use Rattle.spec.specs.NodeFormat.{Shape, LastLink, MoreLinks}
use Rattle.edit_laws.specs.ShapeEdit.{last_link, layer_of_shape}
use Rattle.batch_laws.specs.Batch.{Change, before, at_key, after, puts, entry}
use Rattle.batch_laws.specs.Walking.{depth_of}
use Rattle.batch_laws.specs.Links.{Rows, LinkEdge, LinkClear, LinkWaiting, LinkOpened, Log, LinkTooDeep, NotShown, Step, Stop, Stopped, Top, and_then, ask, log_shown, with_read, link_edge, rows_in_shape, closing, opened_rows, add_row, under_rows, joined_row, opening, pairing, noding, parting, subtreeing, pairs_in_turn, walking_node, walking, pruning_at, pruning, topping, walking_top, batch_from}
use Rattle.batch_laws.specs.Written.{IsEarlier, OnAnswer, OnEnd, GoesFrom}
use Rattle.batch_laws.proofs.Earlier.{same-earlier, steps-earlier, under-earlier, joined-earlier, row-earlier, noding-earlier, parting-earlier, pairing-earlier, subtreeing-earlier, pairs-earlier, walking_node-earlier, walking-earlier, pruning-earlier, topping-earlier}

module _ (P : Shape → Type 0) (empty : P (LastLink None)) (shows full : List ℕ → Option Shape)
    (more : (c : List ℕ) (m : Shape) → shows c ≡ Some m → full c ≡ Some m) where
  -- where one stops and the other doesn't, the other shows the node
  abbrev pub IsThere : Stop → Type 0
  IsThere (NotShown c) = (m : Shape) × (full c ≡ Some m)
  IsThere LinkTooDeep = ⊥

  -- an answer has more reads than there were where the other one stopped
  abbrev pub IsFewer : {A : Type 0} → (A → ℕ) → Stopped → Step A → Type 0
  IsFewer size e step =
      OnAnswer step (λ a later. (suc (length e.log.read) ≤ size a + length later.read) × IsThere e.why)

  -- the same answer, or it stopped at an earlier edge
  abbrev pub Follows : {A : Type 0} → (A → LinkEdge) → (A → ℕ) → Step A → Step A → Type 0
  Follows edge size (Ok x) whole = whole ≡ Ok x
  Follows edge size (Err e) whole = OnEnd edge whole (IsEarlier P e.edge e.log) × IsFewer size e whole

  abbrev none : {A : Type 0} → A → ℕ
  none a = 0

  abbrev rows_edge : Rows × LinkEdge → LinkEdge
  rows_edge o = LinkOpened o.0 o.1

  abbrev itself : LinkEdge → LinkEdge
  itself s = s

  fewer-then : {A B : Type 0} (edge : A → LinkEdge) (last : B → LinkEdge) (size : B → ℕ) (e : Stopped) (whole : Step A)
      (g : A → Log → Step B) → IsFewer none e whole
      → ((a : A) (l : Log) → OnEnd last (g a l) (IsEarlier P (edge a) l)) → IsFewer size e (and_then whole g)
  fewer-then edge last size e (Err f) g h k = tt
  fewer-then {B = B} edge last size e (Ok x) g h k = past (g x.0 x.1) (k x.0 x.1)
    where
      past : (o : Step B) → OnEnd last o (IsEarlier P (edge x.0) x.1) → IsFewer size e o
      past (Err f) i = tt
      past (Ok y) i = let r = i.reads in (omega (arith, h.0), h.1)

  follows-then : {A B : Type 0} (edge : A → LinkEdge) (last : B → LinkEdge) (size : B → ℕ) (step whole : Step A)
      (f g : A → Log → Step B) → Follows edge none step whole → ((a : A) (l : Log) → Follows last size (f a l) (g a l))
      → ((a : A) (l : Log) → OnEnd last (g a l) (IsEarlier P (edge a) l))
      → Follows last size (and_then step f) (and_then whole g)
  follows-then edge last size (Ok x) whole f g h i k =
      subst (λ o. Follows last size (f x.0 x.1) (and_then o g)) (sym h) (i x.0 x.1)
  follows-then edge last size (Err e) whole f g h i k = (
    steps-earlier P empty whole g e.edge e.log edge last h.0 k,
    fewer-then edge last size e whole g h.1 k,
  )

  follows-under : (rows : Rows) (step whole : Step LinkEdge) → Follows itself none step whole
      → Follows itself none (under_rows rows step) (under_rows rows whole)
  follows-under rows (Ok x) whole h = ap (under_rows rows) h
  follows-under rows (Err e) whole h =
      (under-earlier P empty rows e.edge e.log whole h.0, same whole h.1)
    where
      same : (o : Step LinkEdge) → IsFewer none e o → IsFewer none e (under_rows rows o)
      same (Ok x) i = i
      same (Err f) i = tt

  -- a node is read
  follows-shown : (c : List ℕ) (s : LinkEdge) (o p : Option Shape) (log : Log) → full c ≡ p
      → ((m : Shape) → o ≡ Some m → p ≡ Some m) → Follows (λ m. s) none (log_shown c s o log) (log_shown c s p log)
  follows-shown c s None None log q h = (same-earlier P empty s log, tt)
  follows-shown c s None (Some m) log q h =
      let a = length-append log.read (m ∷ []) in (
        record { written = λ w. record { made = w.made; begun = w.begun }; reads = omega arith },
        (omega arith, (m, q)),
      )
  follows-shown c s (Some m) p log q h = rw (h m refl) refl

  follows-read : (c : List ℕ) (s : LinkEdge) (log : Log) → Follows (λ m. s) none (ask shows c s log) (ask full c s log)
  follows-read c s log = follows-shown c s (shows c) (full c) log refl (more c)

  -- where the node that is read takes the place of the link that waited
  read-goes : (c : List ℕ) (m : Shape) (t : LinkEdge) (log : Log) → IsEarlier P (LinkWaiting c) log t (with_read m log)
  read-goes c m t log =
      let a = length-append log.read (m ∷ []) in
      record { written = λ w. record { made = w.made; begun = tt }; reads = omega arith }

  follows-taken : (c : List ℕ) (edge : Shape → LinkEdge) (o p : Option Shape) (log : Log) → full c ≡ p
      → ((m : Shape) → o ≡ Some m → p ≡ Some m)
      → Follows edge none (log_shown c (LinkWaiting c) o log) (log_shown c (LinkWaiting c) p log)
  follows-taken c edge None None log q h = (same-earlier P empty (LinkWaiting c) log, tt)
  follows-taken c edge None (Some m) log q h =
      let a = length-append log.read (m ∷ []) in (read-goes c m (edge m) log, (omega arith, (m, q)))
  follows-taken c edge (Some m) p log q h = rw (h m refl) refl

  follows-open : (s : LinkEdge) (log : Log) → Follows rows_edge none (opening shows s log) (opening full s log)
  follows-open LinkClear log = refl
  follows-open (LinkWaiting c) log =
      follows-then (λ m. LinkOpened (rows_in_shape m) (link_edge (last_link m))) rows_edge none
      (ask shows c (LinkWaiting c) log) (ask full c (LinkWaiting c) log) opened_rows opened_rows
      (follows-taken c (λ m. LinkOpened (rows_in_shape m) (link_edge (last_link m))) (shows c) (full c) log refl
      (more c)) (λ m l. refl) (λ m l. same-earlier P empty (LinkOpened (rows_in_shape m) (link_edge (last_link m))) l)
  follows-open (LinkOpened rows s) log = refl

  module _ (digest : List ℕ → List ℕ) where
    follows-pair : (d : ℕ) (e : Pair) (s : LinkEdge) (log : Log)
        → Follows itself none (pairing digest shows d e s log) (pairing digest full d e s log)
    follows-pair zero e s log =
        follows-then rows_edge itself none (opening shows s log) (opening full s log)
        (λ o log1. add_row e o.0 (closing digest o.1 log1)) (λ o log1. add_row e o.0 (closing digest o.1 log1))
        (follows-open s log) (λ o l. refl) (λ o l. row-earlier P empty digest o.0 _ o.1 LinkClear l)
    follows-pair (suc d) e s log =
        follows-then rows_edge itself none (opening shows s log) (opening full s log)
        (λ o log1. under_rows o.0 (pairing digest shows d e o.1 log1))
        (λ o log1. under_rows o.0 (pairing digest full d e o.1 log1)) (follows-open s log)
        (λ o l. follows-under o.0 (pairing digest shows d e o.1 l) (pairing digest full d e o.1 l) (follows-pair d e o.1 l))
        (λ o l. under-earlier P empty o.0 o.1 l (pairing digest full d e o.1 l)
        (pairing-earlier P empty digest full d e o.1 l))

    abbrev PartsFollow : (Option (List ℕ) → LinkEdge → Log → Step LinkEdge)
        → (Option (List ℕ) → LinkEdge → Log → Step LinkEdge) → Type 0
    PartsFollow f g = (l : Option (List ℕ)) (s : LinkEdge) (log : Log) → Follows itself none (f l s log) (g l s log)

    follows-joined : (e : Pair) (rows : Rows) (r : Shape) (s : LinkEdge) (log : Log) (step whole : Step LinkEdge)
        → Follows itself none step whole
        → Follows itself none (joined_row digest e rows r step) (joined_row digest e rows r whole)
    follows-joined e rows r s log (Ok x) whole h = ap (joined_row digest e rows r) h
    follows-joined e rows r s log (Err f) whole h = (
      joined-earlier P empty digest full e rows r f.edge f.log whole h.0,
      same whole h.1,
    )
      where
        closed-reads : (t : LinkEdge) (l : Log) → length l.read ≤ length (closing digest t l).1.read
        closed-reads t l = let i = row-earlier P empty digest [] [] t LinkClear l in i.reads

        same : (o : Step LinkEdge) → IsFewer none f o → IsFewer none f (joined_row digest e rows r o)
        same (Ok x) i = let c = closed-reads x.0 x.1 in (omega (arith, i.0), i.1)
        same (Err g) i = tt

    follows-node : (f g : Option (List ℕ) → LinkEdge → Log → Step LinkEdge) → PartsFollow f g
        → (rows : Rows) (s : LinkEdge) (m : Shape) (log : Log)
        → Follows itself none (noding digest f rows s m log) (noding digest g rows s m log)
    follows-node f g h rows s (LastLink l) log = follows-under rows (f l s log) (g l s log) (h l s log)
    follows-node f g h rows s (MoreLinks l e r) log =
        follows-joined e rows r s log (f l s log) (g l s log) (h l s log)

    -- a subtree's node comes where a node is open
    comes-earlier : (k : ℕ) (c : List ℕ) (rows : Rows) (s : LinkEdge) (log : Log)
        → GoesFrom P (LinkOpened rows s) log (and_then (ask full c (LinkOpened rows s) log)
        (noding digest (parting digest full k) rows s))
    comes-earlier k c rows s log = parting-earlier P empty digest full (suc k) (Some c) (LinkOpened rows s) log

    follows-comes : (k : ℕ) (c : List ℕ) (rows : Rows) (s : LinkEdge) (log : Log)
        → PartsFollow (parting digest shows k) (parting digest full k)
        → Follows itself none
        (and_then (ask shows c (LinkOpened rows s) log) (noding digest (parting digest shows k) rows s))
        (and_then (ask full c (LinkOpened rows s) log) (noding digest (parting digest full k) rows s))
    follows-comes k c rows s log h =
        follows-then (λ m. LinkOpened rows s) itself none (ask shows c (LinkOpened rows s) log)
        (ask full c (LinkOpened rows s) log) (noding digest (parting digest shows k) rows s)
        (noding digest (parting digest full k) rows s) (follows-read c (LinkOpened rows s) log)
        (λ m l. follows-node (parting digest shows k) (parting digest full k) h rows s m l)
        (λ m l. noding-earlier P empty digest full (parting digest full k) (parting-earlier P empty digest full k) rows s m l)

    follows-part : (k : ℕ) → PartsFollow (parting digest shows k) (parting digest full k)
    follows-part zero None s log = refl
    follows-part zero (Some c) s log = (same-earlier P empty s log, tt)
    follows-part (suc k) None s log = refl
    follows-part (suc k) (Some c) LinkClear log = refl
    follows-part (suc k) (Some c) (LinkWaiting b) log =
        follows-then (λ t. LinkOpened (rows_in_shape t) (link_edge (last_link t))) itself none
        (ask shows b (LinkWaiting b) log) (ask full b (LinkWaiting b) log)
        (λ t log1. and_then (ask shows c (LinkOpened (rows_in_shape t) (link_edge (last_link t))) log1)
        (noding digest (parting digest shows k) (rows_in_shape t) (link_edge (last_link t))))
        (λ t log1. and_then (ask full c (LinkOpened (rows_in_shape t) (link_edge (last_link t))) log1)
        (noding digest (parting digest full k) (rows_in_shape t) (link_edge (last_link t))))
        (follows-taken b (λ t. LinkOpened (rows_in_shape t) (link_edge (last_link t))) (shows b) (full b) log refl
        (more b))
        (λ t l. follows-comes k c (rows_in_shape t) (link_edge (last_link t)) l (follows-part k))
        (λ t l. comes-earlier k c (rows_in_shape t) (link_edge (last_link t)) l)
    follows-part (suc k) (Some c) (LinkOpened rows s) log = follows-comes k c rows s log (follows-part k)

    follows-subtree : (k d : ℕ) (c : List ℕ) (s : LinkEdge) (log : Log)
        → Follows itself none (subtreeing digest shows k d c s log) (subtreeing digest full k d c s log)
    follows-subtree k zero c s log = follows-part k (Some c) s log
    follows-subtree k (suc d) c s log =
        follows-then rows_edge itself none (opening shows s log) (opening full s log)
        (λ o log1. under_rows o.0 (subtreeing digest shows k d c o.1 log1))
        (λ o log1. under_rows o.0 (subtreeing digest full k d c o.1 log1)) (follows-open s log)
        (λ o l. follows-under o.0 (subtreeing digest shows k d c o.1 l) (subtreeing digest full k d c o.1 l)
        (follows-subtree k d c o.1 l))
        (λ o l. under-earlier P empty o.0 o.1 l (subtreeing digest full k d c o.1 l)
        (subtreeing-earlier P empty digest full k d c o.1 l))

    -- ---- the walk

    follows-pairs : (depth : List ℕ → ℕ) (es : List Pair) (s : LinkEdge) (log : Log)
        → Follows itself none (pairs_in_turn digest shows depth es s log) (pairs_in_turn digest full depth es s log)
    follows-pairs depth [] s log = refl
    follows-pairs depth (e ∷ es) s log =
        follows-then itself itself none (pairing digest shows (depth e.0) e s log) (pairing digest full (depth e.0) e s log)
        (pairs_in_turn digest shows depth es) (pairs_in_turn digest full depth es) (follows-pair (depth e.0) e s log)
        (λ t l. follows-pairs depth es t l) (λ t l. pairs-earlier P empty digest full depth es t l)

    abbrev GapsFollow : (Option (List ℕ) → List Change → LinkEdge → Log → Step LinkEdge)
        → (Option (List ℕ) → List Change → LinkEdge → Log → Step LinkEdge) → Type 0
    GapsFollow f g = (l : Option (List ℕ)) (cs : List Change) (s : LinkEdge) (log : Log)
        → Follows itself none (f l cs s log) (g l cs s log)

    abbrev GapsGo : (Option (List ℕ) → List Change → LinkEdge → Log → Step LinkEdge) → Type 0
    GapsGo g = (l : Option (List ℕ)) (cs : List Change) (s : LinkEdge) (log : Log) → GoesFrom P s log (g l cs s log)

    follows-walked : (d : ℕ) (f g : Option (List ℕ) → List Change → LinkEdge → Log → Step LinkEdge) → GapsFollow f g
        → GapsGo g → (cs : List Change) (s : LinkEdge) (m : Shape) (log : Log)
        → Follows itself none (walking_node digest shows d f cs s m log) (walking_node digest full d g cs s m log)
    follows-walked d f g h k cs s (LastLink l) log = h l cs s log
    follows-walked d f g h k cs s (MoreLinks l e r) log =
        let ps = entry (at_key e.0 cs) e in
        follows-then itself itself none (f l (before e.0 cs) s log) (g l (before e.0 cs) s log)
        (λ t log1. and_then (pairs_in_turn digest shows (λ key. d) ps t log1) (λ u log2.
        walking_node digest shows d f (after e.0 cs) u r log2))
        (λ t log1. and_then (pairs_in_turn digest full (λ key. d) ps t log1) (λ u log2.
        walking_node digest full d g (after e.0 cs) u r log2))
        (h l (before e.0 cs) s log)
        (λ t l1. follows-then itself itself none (pairs_in_turn digest shows (λ key. d) ps t l1)
        (pairs_in_turn digest full (λ key. d) ps t l1)
        (λ u log2. walking_node digest shows d f (after e.0 cs) u r log2)
        (λ u log2. walking_node digest full d g (after e.0 cs) u r log2)
        (follows-pairs (λ key. d) ps t l1)
        (λ u l2. follows-walked d f g h k (after e.0 cs) u r l2)
        (λ u l2. walking_node-earlier P empty digest full d g k (after e.0 cs) u r l2))
        (λ t l1. steps-earlier P empty (pairs_in_turn digest full (λ key. d) ps t l1)
        (λ u log2. walking_node digest full d g (after e.0 cs) u r log2) t l1 itself itself
        (pairs-earlier P empty digest full (λ key. d) ps t l1)
        (λ u l2. walking_node-earlier P empty digest full d g k (after e.0 cs) u r l2))

    follows-walk : (lay : List ℕ → ℕ) (n k d : ℕ)
        → GapsFollow (walking digest shows lay n k d) (walking digest full lay n k d)
    follows-walk lay n zero d None cs s log = follows-pairs (depth_of lay n) (puts cs) s log
    follows-walk lay n zero d (Some c) cs s log = (same-earlier P empty s log, tt)
    follows-walk lay n (suc k) d None cs s log = follows-pairs (depth_of lay n) (puts cs) s log
    follows-walk lay n (suc k) d (Some c) [] s log = follows-subtree (suc k) d c s log
    follows-walk lay n (suc k) d (Some c) (x ∷ cs) s log =
        follows-then (λ m. s) itself none (ask shows c s log) (ask full c s log)
        (walking_node digest shows d (walking digest shows lay n k (suc d)) (x ∷ cs) s)
        (walking_node digest full d (walking digest full lay n k (suc d)) (x ∷ cs) s) (follows-read c s log)
        (λ m l. follows-walked d (walking digest shows lay n k (suc d)) (walking digest full lay n k (suc d))
        (follows-walk lay n k (suc d)) (walking-earlier P empty digest full lay n k (suc d)) (x ∷ cs) s m l)
        (λ m l. walking_node-earlier P empty digest full d (walking digest full lay n k (suc d))
        (walking-earlier P empty digest full lay n k (suc d)) (x ∷ cs) s m l)

    -- ---- the top

    abbrev clear : Top → LinkEdge
    clear top = LinkClear

    -- the node that stays is read, too
    abbrev stays : Top → ℕ
    stays top = length top.1

    abbrev TopFollows : Step Top → Step Top → Type 0
    TopFollows step whole = Follows clear stays step whole

    follows-look : (k : ℕ) → ((c : List ℕ) (log : Log) → TopFollows (pruning shows k c log) (pruning full k c log))
        → (c : List ℕ) (o p : Option Shape) (log : Log) → full c ≡ p → ((m : Shape) → o ≡ Some m → p ≡ Some m)
        → TopFollows (pruning_at (pruning shows k) c log o) (pruning_at (pruning full k) c log p)
    follows-look k ih c None p log q h = (of_look p, fewer p q)
      where
        of_look : (p : Option Shape) → OnEnd clear (pruning_at (pruning full k) c log p) (IsEarlier P (LinkWaiting c) log)
        of_look None = same-earlier P empty (LinkWaiting c) log
        of_look (Some (LastLink None)) =
            record { written = λ w. record { made = w.made; begun = tt }; reads = omega arith }
        of_look (Some (LastLink (Some b))) =
            steps-earlier P empty (Ok (LastLink (Some b), with_read (LastLink (Some b)) log)) (λ m l. pruning full k b l)
            (LinkWaiting c) log (λ m. LinkWaiting b) clear (read-goes c (LastLink (Some b)) (LinkWaiting b) log)
            (λ m l. pruning-earlier P empty digest full k b l)
        of_look (Some (MoreLinks l e r)) =
            record { written = λ w. record { made = w.made; begun = tt }; reads = omega arith }

        past : (b : List ℕ) → IsThere (NotShown c) → (o : Step Top)
            → OnEnd clear o (IsEarlier P (LinkWaiting b) (with_read (LastLink (Some b)) log))
            → IsFewer stays (record { why = NotShown c; edge = LinkWaiting c; log = log }) o
        past b there (Err f) i = tt
        past b there (Ok y) i =
            let r = i.reads in let a = length-append log.read (LastLink (Some b) ∷ []) in (omega arith, there)

        fewer : (p : Option Shape) → full c ≡ p → IsFewer stays (record { why = NotShown c; edge = LinkWaiting c; log = log })
            (pruning_at (pruning full k) c log p)
        fewer None q = tt
        fewer (Some (LastLink None)) q = (omega arith, (LastLink None, q))
        fewer (Some (LastLink (Some b))) q =
            past b (LastLink (Some b), q) (pruning full k b (with_read (LastLink (Some b)) log))
            (pruning-earlier P empty digest full k b (with_read (LastLink (Some b)) log))
        fewer (Some (MoreLinks l e r)) q = (omega arith, (MoreLinks l e r, q))
    follows-look k ih c (Some m) p log q h = rw (h m refl) (follows-seen m)
      where
        follows-seen : (m : Shape)
            → TopFollows (pruning_at (pruning shows k) c log (Some m)) (pruning_at (pruning full k) c log (Some m))
        follows-seen (LastLink None) = refl
        follows-seen (LastLink (Some b)) = ih b (with_read (LastLink (Some b)) log)
        follows-seen (MoreLinks l e r) = refl

    follows-prune : (k : ℕ) (c : List ℕ) (log : Log) → TopFollows (pruning shows k c log) (pruning full k c log)
    follows-prune zero c log = (same-earlier P empty (LinkWaiting c) log, tt)
    follows-prune (suc k) c log = follows-look k (follows-prune k) c (shows c) (full c) log refl (more c)

    follows-top : (k : ℕ) (s : LinkEdge) (log : Log) → TopFollows (topping digest shows k s log) (topping digest full k s log)
    follows-top k LinkClear log = refl
    follows-top k (LinkWaiting c) log = follows-prune k c log
    follows-top k (LinkOpened [] s) log = follows-top k s log
    follows-top k (LinkOpened (x ∷ rows) s) log = refl

    -- ---- the whole tree

    pub follows-batch : (lay : List ℕ → ℕ) (n : ℕ) (cs : List Change) (root : List ℕ)
        → TopFollows (batch_from digest shows lay n cs root) (batch_from digest full lay n cs root)
    follows-batch lay n cs root =
        let start : Log = record { read = []; made = [] } in
        follows-then (λ m. LinkClear) clear stays (ask shows root LinkClear start) (ask full root LinkClear start)
        (λ s log. and_then (walking_top digest shows lay n cs s log) (topping digest shows n))
        (λ s log. and_then (walking_top digest full lay n cs s log) (topping digest full n))
        (follows-read root LinkClear start)
        (λ s l. follows-then itself clear stays (walking_top digest shows lay n cs s l) (walking_top digest full lay n cs s l)
        (topping digest shows n) (topping digest full n) (follows-first lay n cs s l)
        (λ u l1. follows-top n u l1) (λ u l1. topping-earlier P empty digest full n u l1))
        (λ s l. steps-earlier P empty (walking_top digest full lay n cs s l) (topping digest full n) LinkClear l itself clear
        (first-goes lay n cs s l) (λ u l1. topping-earlier P empty digest full n u l1))
      where
        follows-first : (lay : List ℕ → ℕ) (n : ℕ) (cs : List Change) (s : Shape) (l : Log)
            → Follows itself none (walking_top digest shows lay n cs s l) (walking_top digest full lay n cs s l)
        follows-first lay n cs s l =
            let t = layer_of_shape lay s in
            let d = n - suc t in
            follows-walked d (walking digest shows lay n t (suc d)) (walking digest full lay n t (suc d))
            (follows-walk lay n t (suc d)) (walking-earlier P empty digest full lay n t (suc d)) cs LinkClear s l

        first-goes : (lay : List ℕ → ℕ) (n : ℕ) (cs : List Change) (s : Shape) (l : Log)
            → GoesFrom P LinkClear l (walking_top digest full lay n cs s l)
        first-goes lay n cs s l =
            let t = layer_of_shape lay s in
            let d = n - suc t in
            walking_node-earlier P empty digest full d (walking digest full lay n t (suc d))
            (walking-earlier P empty digest full lay n t (suc d)) cs LinkClear s l
