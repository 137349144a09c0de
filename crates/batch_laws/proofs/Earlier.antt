-- What is written in the end was written rightly on the way.
use Rattle.std.proofs.Common.{◌≡◌, ℕ, zero, suc, List, [], ◌∷◌, ◌++◌, refl, ap, subst, arith, length-append, Option, Ok, Err}
use Rattle.std.specs.List.{AllByRecursion}
use Rattle.std.specs.declared.option.Option.TheVariants.{Some, None}
use Rattle.spec.specs.Tree.{Pair}
use Rattle.spec.specs.NodeFormat.{Shape, LastLink, MoreLinks}
use Rattle.edit_laws.specs.ShapeEdit.{close_shapes, last_link}
use Rattle.batch_laws.specs.Batch.{Change, before, at_key, after, puts, entry}
use Rattle.batch_laws.specs.Walking.{depth_of}
use Rattle.batch_laws.specs.Links.{Rows, LinkEdge, LinkClear, LinkWaiting, LinkOpened, Log, with_read, and_then, ask, log_shown, link_edge, rows_in_shape, onto_links, complete, closing, opened_rows, opening, add_row, under_rows, pairing, joined_row, noding, parting, subtreeing, pairs_in_turn, walking_node, walking, Top, pruning_at, pruning, new_top, topping, Step}
use Rattle.batch_laws.specs.Written.{GoesOn, IsEarlier, OnEnd, GoesFrom}

all-front : (P : Shape → Type 0) (xs ys : List Shape) → AllByRecursion P (xs ++ ys) → AllByRecursion P xs
all-front P [] ys h = tt
all-front P (x ∷ xs) ys h = (h.0, all-front P xs ys h.1)

all-back : (P : Shape → Type 0) (xs ys : List Shape) → AllByRecursion P (xs ++ ys) → AllByRecursion P ys
all-back P [] ys h = h
all-back P (x ∷ xs) ys h = all-back P xs ys h.1

onto-append : (xs ys : Rows) (s : Shape) → onto_links (xs ++ ys) s ≡ onto_links xs (onto_links ys s)
onto-append [] ys s = refl
onto-append (x ∷ xs) ys s = ap (MoreLinks x.0 x.1) (onto-append xs ys s)

pub goes-front : (P : Shape → Type 0) (xs ys : Rows) → GoesOn P (xs ++ ys) → GoesOn P xs
goes-front P xs ys h = (onto_links ys h.0, subst P (onto-append xs ys h.0) h.1)

module _ (P : Shape → Type 0) (empty : P (LastLink None)) where
  -- ---- one after the other

  pub same-earlier : (s : LinkEdge) (log : Log) → IsEarlier P s log s log
  same-earlier s log = record { written = λ w. w; reads = omega arith }

  pub then-earlier : (s : LinkEdge) (log : Log) (t : LinkEdge) (mid : Log) (u : LinkEdge) (later : Log)
      → IsEarlier P s log t mid → IsEarlier P t mid u later → IsEarlier P s log u later
  then-earlier s log t mid u later h k =
      let a = h.reads in
      let b = k.reads in
      record { written = λ w. h.written (k.written w); reads = omega arith }

  -- a step, and then another with its answer, which stands for an edge
  onward-earlier : {B : Type 0} (s : LinkEdge) (log : Log) (t : LinkEdge) (mid : Log) (last : B → LinkEdge)
      (o : Step B) → IsEarlier P s log t mid → OnEnd last o (IsEarlier P t mid) → OnEnd last o (IsEarlier P s log)
  onward-earlier s log t mid last (Err e) h k = then-earlier s log t mid e.edge e.log h k
  onward-earlier s log t mid last (Ok y) h k = then-earlier s log t mid (last y.0) y.1 h k

  pub steps-earlier : {A B : Type 0} (step : Step A) (f : A → Log → Step B) (s : LinkEdge) (log : Log)
      (edge : A → LinkEdge) (last : B → LinkEdge) → OnEnd edge step (IsEarlier P s log)
      → ((a : A) (l : Log) → OnEnd last (f a l) (IsEarlier P (edge a) l))
      → OnEnd last (and_then step f) (IsEarlier P s log)
  steps-earlier (Err e) f s log edge last h k = h
  steps-earlier (Ok x) f s log edge last h k =
      onward-earlier s log (edge x.0) x.1 last (f x.0 x.1) h (k x.0 x.1)

  -- the same below some rows
  rows-earlier : (rows : Rows) (s : LinkEdge) (log : Log) (t : LinkEdge) (later : Log) → IsEarlier P s log t later
      → IsEarlier P (LinkOpened rows s) log (LinkOpened rows t) later
  rows-earlier rows s log t later h = record {
    written = λ w. (let i = h.written (record { made = w.made; begun = w.begun.1 }) in
        record { made = i.made; begun = (w.begun.0, i.begun) });
    reads = h.reads;
  }

  pub under-earlier : (rows : Rows) (s : LinkEdge) (log : Log) (step : Step LinkEdge) → GoesFrom P s log step
      → GoesFrom P (LinkOpened rows s) log (under_rows rows step)
  under-earlier rows s log (Err e) h = rows-earlier rows s log e.edge e.log h
  under-earlier rows s log (Ok x) h = rows-earlier rows s log x.0 x.1 h

  -- ---- what is complete

  complete-written : (digest : List ℕ → List ℕ) (rows : Rows) (below : Option (List ℕ) × Log)
      → AllByRecursion P (complete digest rows below).1.made → AllByRecursion P below.1.made × GoesOn P rows
  complete-written digest [] below h =
      (all-front P below.1.made (close_shapes (LastLink below.0)) h, (LastLink None, empty))
  complete-written digest (x ∷ rows) below h =
      let s = onto_links (x ∷ rows) (LastLink below.0) in
      (all-front P below.1.made (s ∷ []) h, (LastLink below.0, (all-back P below.1.made (s ∷ []) h).0))

  pub closing-earlier : (digest : List ℕ → List ℕ) (s : LinkEdge) (log : Log)
      → IsEarlier P s log LinkClear (closing digest s log).1
  closing-earlier digest LinkClear log = same-earlier LinkClear log
  closing-earlier digest (LinkWaiting c) log =
      record { written = λ w. record { made = w.made; begun = tt }; reads = omega arith }
  closing-earlier digest (LinkOpened rows s) log =
      let i = closing-earlier digest s log in
      record {
        written = λ w. (let c = complete-written digest rows (closing digest s log) w.made in
            let j = i.written (record { made = c.0; begun = tt }) in
            record { made = j.made; begun = (c.1, j.begun) });
        reads = i.reads;
      }

  -- a row after some rows, where what stands below them is closed
  pub row-earlier : (digest : List ℕ → List ℕ) (rows more : Rows) (s t : LinkEdge) (log : Log)
      → IsEarlier P (LinkOpened rows s) log (LinkOpened (rows ++ more) t) (closing digest s log).1
  row-earlier digest rows more s t log =
      let i = closing-earlier digest s log in
      record {
        written = λ w. (let j = i.written (record { made = w.made; begun = tt }) in
            record { made = j.made; begun = (goes-front P rows more w.begun.0, j.begun) });
        reads = i.reads;
      }

  -- ---- what is read

  read-earlier : (c : List ℕ) (m : Shape) (log : Log) (t : LinkEdge) → IsEarlier P (LinkWaiting c) log t (with_read m log)
  read-earlier c m log t =
      let a = length-append log.read (m ∷ []) in
      record { written = λ w. record { made = w.made; begun = tt }; reads = omega arith }

  opened-earlier : (c : List ℕ) (shown : Option Shape) (log : Log)
      → OnEnd (λ o. LinkOpened o.0 o.1) (and_then (log_shown c (LinkWaiting c) shown log) opened_rows)
      (IsEarlier P (LinkWaiting c) log)
  opened-earlier c None log = same-earlier (LinkWaiting c) log
  opened-earlier c (Some m) log = read-earlier c m log (LinkOpened (rows_in_shape m) (link_edge (last_link m)))

  pub opening-earlier : (shows : List ℕ → Option Shape) (s : LinkEdge) (log : Log)
      → OnEnd (λ o. LinkOpened o.0 o.1) (opening shows s log) (IsEarlier P s log)
  opening-earlier shows LinkClear log =
      record { written = λ w. record { made = w.made; begun = tt }; reads = omega arith }
  opening-earlier shows (LinkWaiting c) log = opened-earlier c (shows c) log
  opening-earlier shows (LinkOpened rows s) log = same-earlier (LinkOpened rows s) log

  -- a node that is read at this place
  asked-earlier : {B : Type 0} (c : List ℕ) (shown : Option Shape) (s : LinkEdge) (log : Log) (f : Shape → Log → Step B)
      (last : B → LinkEdge) → ((m : Shape) (l : Log) → OnEnd last (f m l) (IsEarlier P s l))
      → OnEnd last (and_then (log_shown c s shown log) f) (IsEarlier P s log)
  asked-earlier c shown s log f last k = steps-earlier (log_shown c s shown log) f s log (λ m. s) last (asked shown) k
    where
      asked : (o : Option Shape) → OnEnd (λ m. s) (log_shown c s o log) (IsEarlier P s log)
      asked None = same-earlier s log
      asked (Some m) =
          let a = length-append log.read (m ∷ []) in
          record { written = λ w. record { made = w.made; begun = w.begun }; reads = omega arith }

  module _ (digest : List ℕ → List ℕ) (shows : List ℕ → Option Shape) where
    -- ---- a pair, a part, a subtree

    pub pairing-earlier : (d : ℕ) (e : Pair) (s : LinkEdge) (log : Log)
        → GoesFrom P s log (pairing digest shows d e s log)
    pairing-earlier zero e s log =
        steps-earlier (opening shows s log) (λ o log1. add_row e o.0 (closing digest o.1 log1)) s log
        (λ o. LinkOpened o.0 o.1) (λ t. t) (opening-earlier shows s log)
        (λ o l. row-earlier digest o.0 _ o.1 LinkClear l)
    pairing-earlier (suc d) e s log =
        steps-earlier (opening shows s log) (λ o log1. under_rows o.0 (pairing digest shows d e o.1 log1)) s log
        (λ o. LinkOpened o.0 o.1) (λ t. t) (opening-earlier shows s log)
        (λ o l. under-earlier o.0 o.1 l (pairing digest shows d e o.1 l) (pairing-earlier d e o.1 l))

    abbrev pub Parts : (Option (List ℕ) → LinkEdge → Log → Step LinkEdge) → Type 0
    Parts further = (l : Option (List ℕ)) (s : LinkEdge) (log : Log) → GoesFrom P s log (further l s log)

    -- a node comes after what comes below the rows before it
    pub joined-earlier : (e : Pair) (rows : Rows) (r : Shape) (s : LinkEdge) (log : Log) (step : Step LinkEdge)
        → GoesFrom P s log step → GoesFrom P (LinkOpened rows s) log (joined_row digest e rows r step)
    joined-earlier e rows r s log (Err f) h = rows-earlier rows s log f.edge f.log h
    joined-earlier e rows r s log (Ok x) h =
        then-earlier (LinkOpened rows s) log (LinkOpened rows x.0) x.1 _ _ (rows-earlier rows s log x.0 x.1 h)
        (row-earlier digest rows _ x.0 (link_edge (last_link r)) x.1)

    pub noding-earlier : (further : Option (List ℕ) → LinkEdge → Log → Step LinkEdge) → Parts further
        → (rows : Rows) (s : LinkEdge) (m : Shape) (log : Log)
        → GoesFrom P (LinkOpened rows s) log (noding digest further rows s m log)
    noding-earlier further h rows s (LastLink l) log = under-earlier rows s log (further l s log) (h l s log)
    noding-earlier further h rows s (MoreLinks l e r) log =
        joined-earlier e rows r s log (further l s log) (h l s log)

    pub parting-earlier : (k : ℕ) → Parts (parting digest shows k)
    parting-earlier zero None s log = same-earlier s log
    parting-earlier zero (Some c) s log = same-earlier s log
    parting-earlier (suc k) None s log = same-earlier s log
    parting-earlier (suc k) (Some c) LinkClear log =
        record { written = λ w. record { made = w.made; begun = tt }; reads = omega arith }
    parting-earlier (suc k) (Some c) (LinkWaiting b) log =
        steps-earlier (ask shows b (LinkWaiting b) log) (λ t log1.
        and_then (ask shows c (LinkOpened (rows_in_shape t) (link_edge (last_link t))) log1)
        (noding digest (parting digest shows k) (rows_in_shape t) (link_edge (last_link t)))) (LinkWaiting b) log
        (λ t. LinkOpened (rows_in_shape t) (link_edge (last_link t))) (λ t. t) (shown (shows b))
        (λ t l. asked-earlier c (shows c) (LinkOpened (rows_in_shape t) (link_edge (last_link t))) l
        (noding digest (parting digest shows k) (rows_in_shape t) (link_edge (last_link t))) (λ u. u)
        (λ m l1. noding-earlier (parting digest shows k) (parting-earlier k) (rows_in_shape t)
        (link_edge (last_link t)) m l1))
      where
        shown : (o : Option Shape) → OnEnd (λ t. LinkOpened (rows_in_shape t) (link_edge (last_link t)))
            (log_shown b (LinkWaiting b) o log) (IsEarlier P (LinkWaiting b) log)
        shown None = same-earlier (LinkWaiting b) log
        shown (Some t) = read-earlier b t log (LinkOpened (rows_in_shape t) (link_edge (last_link t)))
    parting-earlier (suc k) (Some c) (LinkOpened rows s) log =
        asked-earlier c (shows c) (LinkOpened rows s) log (noding digest (parting digest shows k) rows s) (λ t. t)
        (λ m l. noding-earlier (parting digest shows k) (parting-earlier k) rows s m l)

    pub subtreeing-earlier : (k d : ℕ) (c : List ℕ) (s : LinkEdge) (log : Log)
        → GoesFrom P s log (subtreeing digest shows k d c s log)
    subtreeing-earlier k zero c s log = parting-earlier k (Some c) s log
    subtreeing-earlier k (suc d) c s log =
        steps-earlier (opening shows s log)
        (λ o log1. under_rows o.0 (subtreeing digest shows k d c o.1 log1)) s log
        (λ o. LinkOpened o.0 o.1) (λ t. t) (opening-earlier shows s log)
        (λ o l. under-earlier o.0 o.1 l (subtreeing digest shows k d c o.1 l) (subtreeing-earlier k d c o.1 l))

    -- ---- the walk

    pub pairs-earlier : (depth : List ℕ → ℕ) (ps : List Pair) (s : LinkEdge) (log : Log)
        → GoesFrom P s log (pairs_in_turn digest shows depth ps s log)
    pairs-earlier depth [] s log = same-earlier s log
    pairs-earlier depth (p ∷ ps) s log =
        steps-earlier (pairing digest shows (depth p.0) p s log) (pairs_in_turn digest shows depth ps) s log (λ t. t)
        (λ t. t) (pairing-earlier (depth p.0) p s log) (λ t l. pairs-earlier depth ps t l)

    abbrev pub Gaps : (Option (List ℕ) → List Change → LinkEdge → Log → Step LinkEdge) → Type 0
    Gaps gap = (l : Option (List ℕ)) (cs : List Change) (s : LinkEdge) (log : Log) → GoesFrom P s log (gap l cs s log)

    pub walking_node-earlier : (d : ℕ) (gap : Option (List ℕ) → List Change → LinkEdge → Log → Step LinkEdge)
        → Gaps gap → (cs : List Change) (s : LinkEdge) (m : Shape) (log : Log)
        → GoesFrom P s log (walking_node digest shows d gap cs s m log)
    walking_node-earlier d gap h cs s (LastLink l) log = h l cs s log
    walking_node-earlier d gap h cs s (MoreLinks l e r) log =
        let ps = entry (at_key e.0 cs) e in
        let rest = λ (u : LinkEdge) (log2 : Log). walking_node digest shows d gap (after e.0 cs) u r log2 in
        steps-earlier (gap l (before e.0 cs) s log)
        (λ t log1. and_then (pairs_in_turn digest shows (λ key. d) ps t log1) rest) s log (λ t. t) (λ t. t)
        (h l (before e.0 cs) s log)
        (λ t l1. steps-earlier (pairs_in_turn digest shows (λ key. d) ps t l1) rest t l1 (λ u. u) (λ u. u)
        (pairs-earlier (λ key. d) ps t l1)
        (λ u l2. walking_node-earlier d gap h (after e.0 cs) u r l2))

    pub walking-earlier : (layer : List ℕ → ℕ) (n k d : ℕ) → Gaps (walking digest shows layer n k d)
    walking-earlier layer n zero d None cs s log = pairs-earlier (depth_of layer n) (puts cs) s log
    walking-earlier layer n zero d (Some c) cs s log = same-earlier s log
    walking-earlier layer n (suc k) d None cs s log = pairs-earlier (depth_of layer n) (puts cs) s log
    walking-earlier layer n (suc k) d (Some c) [] s log = subtreeing-earlier (suc k) d c s log
    walking-earlier layer n (suc k) d (Some c) (x ∷ cs) s log =
        asked-earlier c (shows c) s log
        (walking_node digest shows d (walking digest shows layer n k (suc d)) (x ∷ cs) s) (λ t. t)
        (λ m l. walking_node-earlier d (walking digest shows layer n k (suc d)) (walking-earlier layer n k (suc d))
        (x ∷ cs) s m l)

    -- ---- the top

    abbrev Tops : LinkEdge → Log → Step Top → Type 0
    Tops s log step = OnEnd (λ top. LinkClear) step (IsEarlier P s log)

    looks-earlier : (c : List ℕ) (log : Log) (further : List ℕ → Log → Step Top)
        → ((b : List ℕ) (l : Log) → Tops (LinkWaiting b) l (further b l)) → (o : Option Shape)
        → Tops (LinkWaiting c) log (pruning_at further c log o)
    looks-earlier c log further h None = same-earlier (LinkWaiting c) log
    looks-earlier c log further h (Some (LastLink None)) =
        record { written = λ w. record { made = w.made; begun = tt }; reads = omega arith }
    looks-earlier c log further h (Some (LastLink (Some b))) =
        let m = LastLink (Some b) in
        onward-earlier (LinkWaiting c) log (LinkWaiting b) (with_read m log) (λ top. LinkClear)
        (further b (with_read m log)) (read-earlier c m log (LinkWaiting b)) (h b (with_read m log))
    looks-earlier c log further h (Some (MoreLinks l e r)) =
        record { written = λ w. record { made = w.made; begun = tt }; reads = omega arith }

    pub pruning-earlier : (k : ℕ) (c : List ℕ) (log : Log) → Tops (LinkWaiting c) log (pruning shows k c log)
    pruning-earlier zero c log = same-earlier (LinkWaiting c) log
    pruning-earlier (suc k) c log = looks-earlier c log (pruning shows k) (pruning-earlier k) (shows c)

    new_top-earlier : (rows : Rows) (s : LinkEdge) (log : Log)
        → Tops (LinkOpened rows s) log (new_top digest rows (closing digest s log))
    new_top-earlier rows s log =
        let i = closing-earlier digest s log in
        let below = closing digest s log in
        let m = onto_links rows (LastLink below.0) in
        record {
          written = λ w. (let made = all-front P below.1.made (m ∷ []) w.made in
              let j = i.written (record { made = made; begun = tt }) in
              record { made = j.made; begun = ((LastLink below.0, (all-back P below.1.made (m ∷ []) w.made).0), j.begun) });
          reads = i.reads;
        }

    pub topping-earlier : (k : ℕ) (s : LinkEdge) (log : Log)
        → OnEnd (λ top. LinkClear) (topping digest shows k s log) (IsEarlier P s log)
    topping-earlier k LinkClear log =
        record { written = λ w. record { made = all-front P log.made _ w.made; begun = tt }; reads = omega arith }
    topping-earlier k (LinkWaiting c) log = pruning-earlier k c log
    topping-earlier k (LinkOpened [] s) log =
        bare (topping digest shows k s log) (topping-earlier k s log)
      where
        under-empty : (t : LinkEdge) (later : Log) → IsEarlier P s log t later → IsEarlier P (LinkOpened [] s) log t later
        under-empty t later h = record {
          written = λ w. (let i = h.written w in record { made = i.made; begun = ((LastLink None, empty), i.begun) });
          reads = h.reads;
        }

        bare : (o : Step Top) → Tops s log o → Tops (LinkOpened [] s) log o
        bare (Err e) h = under-empty e.edge e.log h
        bare (Ok x) h = under-empty LinkClear x.1 h
    topping-earlier k (LinkOpened (x ∷ rows) s) log = new_top-earlier (x ∷ rows) s log
