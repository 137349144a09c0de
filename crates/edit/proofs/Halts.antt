-- Where a step stops for its source, the whole that goes on from it stops at the same place.
use Rattle.std.proofs.Common.{◌≡◌, ℕ, zero, suc, ◌+◌, ◌<◌, ◌≤◌, false, List, [], ◌∷◌, ◌++◌, length, take, drop, refl, sym, ap, subst, ◌∙◌, arith, Option, Ok, Err}
use Rattle.std.specs.declared.option.Option.TheVariants.{Some, None}
use Rattle.spec.specs.Tree.{Pair}
use Rattle.spec.specs.NodeFormat.{Shape, LastLink, MoreLinks}
use Rattle.edit_laws.specs.Lawful.{HasKeys}
use Rattle.batch_laws.specs.Links.{Rows, LinkEdge, LinkOpened, LinkTooDeep, Log, NotShown, Step, Stop, Stopped, add_row, and_then, ask, closing, log_shown, opening, Top, link_edge, noding, pairing, pairs_in_turn, parting, pruning, pruning_at, subtreeing, topping, under_rows, walking, walking_node}
use Rattle.batch_laws.specs.Written.{AllGoOn, AreWritten}
use Rattle.std.specs.List.{AllByRecursion}
use Rattle.edit.specs.declared.outcome.Fault.{Fault}
use Rattle.edit.specs.declared.outcome.Fault.TheVariants as faults
use Rattle.edit.specs.Edges.{edge_of, within, under, joined, around, is_clear, highest_of}
use Rattle.batch_laws.specs.Within.{IsWithin, asked, at_top}
use Rattle.edit.specs.Stops.{open_edge, IsUnshown}
use Rattle.edit.specs.Budgets.{Budget}
use Rattle.edit.specs.States.{edge_in, log_in, IsCounted, IsOpenAt, IsOnTheWay}
use Rattle.edit.specs.Halts.{IsAt, Halts, IsHalted, IsHaltedFrom, IsReachedFor, most_in, Stays, IsStill}
use Rattle.edit.specs.declared.edge.Edge.{Edge}
use Rattle.batch_laws.specs.Batch.{Change, entry, if_put, puts}
use Rattle.batch_laws.specs.Walking.{depth_of}
use Rattle.edit.specs.Agenda.{Gap, Later, Task, ToGap, ToPair, agenda_does, node_does, task_does}
use Rattle.edit.proofs.Around.{part-through}
use Rattle.edit.proofs.Putting.{alone}
use Rattle.edit.proofs.Topping.{none-top}
use Rattle.edit.proofs.Walking.{does-more, does-none}
use Rattle.edit.proofs.Refusing.{pair-under}

-- ---- what goes on from a step stops with it

-- from each place of the one follows the place of the other
abbrev Follows : LinkEdge → Step LinkEdge → LinkEdge → Step LinkEdge → Type 0
Follows s x t y = (most : ℕ) (why : Stop) (now : Log) → Halts most why s now x → Halts most why t now y

pub halted-by : (s t : LinkEdge) (x y : Step LinkEdge) (most : ℕ) (now : Log) (f : Fault) → Follows s x t y
    → IsHalted most s now x f → IsHalted most t now y f
halted-by s t x y most now (faults.Missing c) h k = h most (NotShown c) now k
halted-by s t x y most now (faults.BadNode c) h k = h most (NotShown c) now k
halted-by s t x y most now faults.TooDeep h k = h most LinkTooDeep now k
halted-by s t x y most now faults.NotTree h k = tt
halted-by s t x y most now faults.NoMemory h k = tt

pub then-follows : (s : LinkEdge) (x : Step LinkEdge) (f : LinkEdge → Log → Step LinkEdge) → Follows s x s (and_then x f)
then-follows s (Err e) f most why now h = h
then-follows s (Ok x) f most why now h = absurd h

pub opened-follows : (s : LinkEdge) (x : Step (Rows × LinkEdge)) (f : Rows × LinkEdge → Log → Step LinkEdge)
    → Follows s (open_edge x) s (and_then x f)
opened-follows s (Err e) f most why now h = h
opened-follows s (Ok x) f most why now h = absurd h

pub row-follows : (r : Rows) (s : LinkEdge) (x : Step LinkEdge) → Follows s x (LinkOpened r s) (under_rows r x)
row-follows r s (Ok x) most why now h = absurd h
row-follows r s (Err e) most why now h = record {
  why_is = h.why_is;
  log_is = h.log_is;
  begun = λ g. (g.0, h.begun g.1);
  few = h.few;
}

-- an edge below some rows
abbrev pub over : List Rows → LinkEdge → LinkEdge
over [] s = s
over (r ∷ rs) s = LinkOpened r (over rs s)

pub over-edge : (ls : List Rows) (rest : Option (List ℕ)) → over ls (link_edge rest) ≡ edge_of ls rest
over-edge [] rest = refl
over-edge (r ∷ rs) rest = ap (LinkOpened r) (over-edge rs rest)

pub over-cut : (d : ℕ) (ls : List Rows) (rest : Option (List ℕ)) → over (take d ls) (edge_of (drop d ls) rest) ≡ edge_of ls rest
over-cut zero ls rest = refl
over-cut (suc d) [] rest = refl
over-cut (suc d) (r ∷ rs) rest = ap (LinkOpened r) (over-cut d rs rest)

pub under-follows : (ls : List Rows) (s : LinkEdge) (x : Step LinkEdge) → Follows s x (over ls s) (under ls x)
under-follows [] s x most why now h = h
under-follows (r ∷ rs) s x most why now h =
    row-follows r (over rs s) (under rs x) most why now (under-follows rs s x most why now h)

joined-follows : (digest : List ℕ → List ℕ) (r : Rows) (node : Shape) (s : LinkEdge) (x : Step LinkEdge)
    → Follows s x (LinkOpened r s) (joined digest r node x)
joined-follows digest r (LastLink l) s x most why now h = row-follows r s x most why now h
joined-follows digest r (MoreLinks l e n) s (Ok x) most why now h = absurd h
joined-follows digest r (MoreLinks l e n) s (Err f) most why now h = row-follows r s (Err f) most why now h

pub around-follows : (digest : List ℕ → List ℕ) (b : ℕ) (ls : List Rows) (fs : List Shape) (s : LinkEdge) (x : Step LinkEdge)
    → Follows s x (over ls s) (around digest b ls fs x)
around-follows digest zero [] fs s x most why now h = h
around-follows digest (suc b) [] fs s x most why now h = h
around-follows digest zero (r ∷ ls) [] s x most why now h =
    row-follows r (over ls s) (around digest zero ls [] x) most why now (around-follows digest zero ls [] s x most why now h)
around-follows digest zero (r ∷ ls) (f ∷ fs) s x most why now h =
    joined-follows digest r f (over ls s) (around digest zero ls fs x) most why now
    (around-follows digest zero ls fs s x most why now h)
around-follows digest (suc b) (r ∷ ls) fs s x most why now h =
    row-follows r (over ls s) (around digest b ls fs x) most why now (around-follows digest b ls fs s x most why now h)

-- the layer that is to be opened next
pub within-follows : (shows : List ℕ → Option Shape) (d : ℕ) (f : LinkEdge → Log → Step LinkEdge) (ls : List Rows)
    (rest : Option (List ℕ)) (log : Log) → length ls < d
    → Follows (link_edge rest) (open_edge (opening shows (link_edge rest) log)) (edge_of ls rest)
    (within shows d f (edge_of ls rest) log)
within-follows shows zero f ls rest log n most why now h = absurd (omega arith)
within-follows shows (suc d) f [] rest log n most why now h =
    opened-follows (link_edge rest) (opening shows (link_edge rest) log)
    (λ o log1. under_rows o.0 (within shows d f o.1 log1)) most why now h
within-follows shows (suc d) f (r ∷ ls) rest log n most why now h =
    row-follows r (edge_of ls rest) (within shows d f (edge_of ls rest) log) most why now
    (within-follows shows d f ls rest log (omega arith) most why now h)

-- ---- a node that is asked for

asked-none : (most : ℕ) (c : List ℕ) (o : Option Shape) (s : LinkEdge) (log : Log) (f : Shape → Log → Step LinkEdge)
    → o ≡ None → length log.read < most → Halts most (NotShown c) s log (and_then (log_shown c s o log) f)
asked-none most c None s log f e n = record { why_is = refl; log_is = refl; begun = λ g. g; few = n }
asked-none most c (Some m) s log f e n = absurd cc

-- so it is where the source is at fault for it
pub asked-halted : {X : Type 0} (gives : List ℕ → Option X) (shows : List ℕ → Option Shape) (left : ℕ) (c : List ℕ)
    (s : LinkEdge) (log : Log) (g : Shape → Log → Step LinkEdge) (f : Fault) → 0 < left → IsUnshown gives left c (shows c) f
    → IsHalted (left + length log.read) s log (and_then (ask shows c s log) g) f
asked-halted gives shows left c s log g (faults.Missing b) n k =
    subst (λ x. Halts (left + length log.read) (NotShown x) s log (and_then (ask shows c s log) g)) (sym k.0)
    (asked-none (left + length log.read) c (shows c) s log g k.2 (omega arith))
asked-halted gives shows left c s log g (faults.BadNode b) n k =
    subst (λ x. Halts (left + length log.read) (NotShown x) s log (and_then (ask shows c s log) g)) (sym k.0)
    (asked-none (left + length log.read) c (shows c) s log g k.2 (omega arith))
asked-halted gives shows left c s log g faults.TooDeep n k = absurd k
asked-halted gives shows left c s log g faults.NotTree n k = tt
asked-halted gives shows left c s log g faults.NoMemory n k = tt

-- ---- where the edge is as before

module _ {D A : Type 0} (old new : Edge D A) where
  -- nothing is to be shown of other faults
  still-then : (P : Fault → Type 0) (f : Fault) → IsStill old new f → P faults.NotTree → P faults.NoMemory
      → (Stays old new → P f) → P f
  still-then P (faults.Missing c) s n m h = h s
  still-then P (faults.BadNode c) s n m h = h s
  still-then P faults.TooDeep s n m h = h s
  still-then P faults.NotTree s n m h = n
  still-then P faults.NoMemory s n m h = m

  still-halted : (most : ℕ) (step : Step LinkEdge) (f : Fault) → IsStill old new f
      → IsHalted most (edge_in old) (log_in old) step f → IsHalted most (edge_in new) (log_in new) step f
  still-halted most step f s h =
      still-then (λ g. IsHalted most (edge_in old) (log_in old) step g → IsHalted most (edge_in new) (log_in new) step g) f s
      (λ k. tt) (λ k. tt)
      (λ t k. (let edge : edge_in new ≡ edge_in old = ap (λ ls. edge_of ls new.rest) t.levels
      ∙ ap (edge_of old.levels.items) t.rest in
      subst (λ l. IsHalted most (edge_in new) l step f) (sym t.log)
      (subst (λ s. IsHalted most s (log_in old) step f) (sym edge) k))) h

  -- a node was to be read here
  pub unread-halted : {X : Type 0} (gives : List ℕ → Option X) (shows : List ℕ → Option Shape) (c : List ℕ) (s : LinkEdge)
      (g : Shape → Log → Step LinkEdge) (f : Fault) → IsStill old new f → IsUnshown gives old.left c (shows c) f
      → IsHalted (most_in old) s (log_in old) (and_then (ask shows c s (log_in old)) g) f
  unread-halted gives shows c s g f t k =
      still-then (λ h. IsUnshown gives old.left c (shows c) h
      → IsHalted (most_in old) s (log_in old) (and_then (ask shows c s (log_in old)) g) h) f t
      (λ k. tt) (λ k. tt) (λ u k. asked-halted gives shows old.left c s (log_in old) g f u.some k) k

-- ---- after some reads

pub more-halted : (b m : Budget) (log now : Log) (s : LinkEdge) (later : Log) (step : Step LinkEdge) (f : Fault)
    → IsCounted b m log now → IsHalted (m.1 + length now.read) s later step f
    → IsHalted (b.1 + length log.read) s later step f
more-halted b m log now s later step f n h = subst (λ most. IsHalted most s later step f) n.left h

-- ---- layers and a pair

-- the layer that is to be opened next
pub level-halted : {D A : Type 0} (at new : Edge D A) (shows : List ℕ → Option Shape) (d : ℕ)
    (g : LinkEdge → Log → Step LinkEdge) (f : Fault) → length at.levels.items < d → IsStill at new f
    → IsHalted (most_in at) (link_edge at.rest) (log_in at) (open_edge (opening shows (link_edge at.rest) (log_in at))) f
    → IsHalted (most_in at) (edge_in new) (log_in new) (within shows d g (edge_in at) (log_in at)) f
level-halted at new shows d g f n s h =
    still-halted at new (most_in at) (within shows d g (edge_in at) (log_in at)) f s
    (halted-by (link_edge at.rest) (edge_in at) (open_edge (opening shows (link_edge at.rest) (log_in at)))
    (within shows d g (edge_in at) (log_in at)) (most_in at) (log_in at) f
    (within-follows shows d g at.levels.items at.rest (log_in at) n) h)

-- the layer of a pair
pub pair-halted : {D A : Type 0} (at new : Edge D A) (digest : List ℕ → List ℕ) (shows : List ℕ → Option Shape) (d : ℕ)
    (e : Pair) (all : LinkEdge) (start : Log) (f : Fault)
    → ((g : LinkEdge → Log → Step LinkEdge) → within shows d g all start ≡ within shows d g (edge_in at) (log_in at))
    → d ≤ length at.levels.items → IsStill at new f
    → IsHalted (most_in at) (edge_of (drop d at.levels.items) at.rest) (log_in at)
    (open_edge (opening shows (edge_of (drop d at.levels.items) at.rest) (log_in at))) f
    → IsHalted (most_in at) (edge_in new) (log_in new) (pairing digest shows d e all start) f
pair-halted at new digest shows d e all start f same n s h =
    let ls = at.levels.items in
    let below = edge_of (drop d ls) at.rest in
    let one = pairing digest shows zero e below (log_in at) in
    let step = λ (o : Rows × LinkEdge) (l : Log). add_row e o.0 (closing digest o.1 l) in
    subst (λ o. IsHalted (most_in at) (edge_in new) (log_in new) o f)
    (sym (pair-under digest shows d e all start ls at.rest (log_in at) same n))
    (still-halted at new (most_in at) (under (take d ls) one) f s
    (subst (λ t. IsHalted (most_in at) t (log_in at) (under (take d ls) one) f) (over-cut d ls at.rest)
    (halted-by below (over (take d ls) below) (open_edge (opening shows below (log_in at))) (under (take d ls) one)
    (most_in at) (log_in at) f
    (λ most why now k. under-follows (take d ls) below one most why now
    (opened-follows below (opening shows below (log_in at)) step most why now k)) h)))

-- ---- a subtree

over-more : (xs : List Rows) (r : Rows) (s : LinkEdge) → over (xs ++ (r ∷ [])) s ≡ over xs (LinkOpened r s)
over-more [] r s = refl
over-more (x ∷ xs) r s = ap (LinkOpened x) (over-more xs r s)

-- a layer that is open, and the edge after it
opened-edge : (shows : List ℕ → Option Shape) (d : ℕ) (ls : List Rows) (rest : Option (List ℕ)) (log : Log) (mid : List Rows)
    (link : Option (List ℕ)) (inner : Log) (o : IsOpenAt shows d ls rest log mid link inner)
    → over (take d ls) (LinkOpened o.rows (edge_of (drop (d + 1) mid) link)) ≡ edge_of mid link
opened-edge shows d ls rest log mid link inner o =
    sym (over-more (take d ls) o.rows (edge_of (drop (d + 1) mid) link))
    ∙ ap (λ xs. over xs (edge_of (drop (d + 1) mid) link)) (sym o.levels) ∙ over-cut (d + 1) mid link

-- its layer isn't opened
pub place-unopened : {D A : Type 0} (old new : Edge D A) (digest : List ℕ → List ℕ) (shows : List ℕ → Option Shape)
    (b k d : ℕ) (fs : List Shape) (c : List ℕ) (f : Fault) → is_clear (edge_of (drop d old.levels.items) old.rest) ≡ false
    → IsStill old new f
    → IsHalted (most_in old) (edge_of (drop d old.levels.items) old.rest) (log_in old)
    (open_edge (opening shows (edge_of (drop d old.levels.items) old.rest) (log_in old))) f
    → IsHaltedFrom old new (around digest b (take d old.levels.items) fs
    (parting digest shows (suc k) (Some c) (edge_of (drop d old.levels.items) old.rest) (log_in old))) f
place-unopened old new digest shows b k d fs c f h s t =
    let ls = old.levels.items in
    let below = edge_of (drop d ls) old.rest in
    let step = λ (o : Rows × LinkEdge) (l : Log). and_then (ask shows c (LinkOpened o.0 o.1) l)
    (noding digest (parting digest shows k) o.0 o.1) in
    let part = and_then (opening shows below (log_in old)) step in
    let all = around digest b (take d ls) fs part in
    subst (λ o. IsHaltedFrom old new (around digest b (take d ls) fs o) f) (sym (part-through digest shows k c below (log_in old) h))
    (still-halted old new (most_in old) all f s
    (subst (λ e. IsHalted (most_in old) e (log_in old) all f) (over-cut d ls old.rest)
    (halted-by below (over (take d ls) below) (open_edge (opening shows below (log_in old))) all (most_in old) (log_in old) f
    (λ most why now u. around-follows digest b (take d ls) fs below part most why now
    (opened-follows below (opening shows below (log_in old)) step most why now u)) t)))

-- its node isn't read
pub place-unread : {X D A : Type 0} (gives : List ℕ → Option X) (old mid new : Edge D A) (digest : List ℕ → List ℕ)
    (shows : List ℕ → Option Shape) (b k d : ℕ) (fs : List Shape) (c : List ℕ) (f : Fault)
    → is_clear (edge_of (drop d old.levels.items) old.rest) ≡ false
    → IsOpenAt shows d old.levels.items old.rest (log_in old) mid.levels.items mid.rest (log_in mid)
    → most_in mid ≡ most_in old → IsStill mid new f → IsUnshown gives mid.left c (shows c) f
    → IsHaltedFrom old new (around digest b (take d old.levels.items) fs
    (parting digest shows (suc k) (Some c) (edge_of (drop d old.levels.items) old.rest) (log_in old))) f
place-unread gives old mid new digest shows b k d fs c f h o n s t =
    let ls = old.levels.items in
    let after = edge_of (drop (d + 1) mid.levels.items) mid.rest in
    let step = noding digest (parting digest shows k) o.rows after in
    let part = and_then (ask shows c (LinkOpened o.rows after) (log_in mid)) step in
    let all = around digest b (take d ls) fs part in
    let is = part-through digest shows k c (edge_of (drop d ls) old.rest) (log_in old) h
    ∙ ap (λ x. and_then x (λ p l. and_then (ask shows c (LinkOpened p.0 p.1) l) (noding digest (parting digest shows k) p.0 p.1)))
    o.is in
    subst (λ p. IsHaltedFrom old new (around digest b (take d ls) fs p) f) (sym is)
    (subst (λ most. IsHalted most (edge_in new) (log_in new) all f) n
    (still-halted mid new (most_in mid) all f s
    (subst (λ e. IsHalted (most_in mid) e (log_in mid) all f)
    (opened-edge shows d ls old.rest (log_in old) mid.levels.items mid.rest (log_in mid) o)
    (halted-by (LinkOpened o.rows after) (over (take d ls) (LinkOpened o.rows after)) part all (most_in mid) (log_in mid) f
    (around-follows digest b (take d ls) fs (LinkOpened o.rows after) part)
    (unread-halted mid new gives shows c (LinkOpened o.rows after) step f s t)))))

-- on the way down
pub way-halted : {D A : Type 0} (start at new : Edge D A) (digest : List ℕ → List ℕ) (shows : List ℕ → Option Shape)
    (all : Step LinkEdge) (b k m d : ℕ) (c : List ℕ) (fs : List Shape) (f : Fault) → k ≡ suc m → d ≡ b + length fs
    → IsOnTheWay digest shows all b k (Some c) fs at.levels.items at.rest (log_in at)
    → most_in at ≡ most_in start
    → IsHaltedFrom at new (around digest b (take d at.levels.items) fs
    (parting digest shows (suc m) (Some c) (edge_of (drop d at.levels.items) at.rest) (log_in at))) f
    → IsHaltedFrom start new all f
way-halted start at new digest shows all b k m d c fs f e n w z h =
    let ls = at.levels.items in
    let is = w.is
    ∙ ap (λ j. around digest b (take j ls) fs (parting digest shows k (Some c) (edge_of (drop j ls) at.rest) (log_in at))) (sym n)
    ∙ ap (λ j. around digest b (take d ls) fs (parting digest shows j (Some c) (edge_of (drop d ls) at.rest) (log_in at))) e in
    subst (λ o. IsHaltedFrom start new o f) (sym is)
    (subst (λ most. IsHalted most (edge_in new) (log_in new) (around digest b (take d ls) fs
    (parting digest shows (suc m) (Some c) (edge_of (drop d ls) at.rest) (log_in at))) f) z h)

-- below layer 0
pub way-deep : {D A : Type 0} (start at : Edge D A) (digest : List ℕ → List ℕ) (shows : List ℕ → Option Shape)
    (all : Step LinkEdge) (b k : ℕ) (c : List ℕ) (fs : List Shape) → k ≡ 0
    → IsOnTheWay digest shows all b k (Some c) fs at.levels.items at.rest (log_in at) → most_in at ≡ most_in start
    → IsHaltedFrom start at all faults.TooDeep
way-deep start at digest shows all b k c fs e w z =
    let ls = at.levels.items in
    let d = b + length fs in
    let below = edge_of (drop d ls) at.rest in
    let is = w.is ∙ ap (λ j. around digest b (take d ls) fs (parting digest shows j (Some c) below (log_in at))) e in
    let few : length (log_in at).read ≤ most_in at = omega arith in
    subst (λ o. IsHaltedFrom start at o faults.TooDeep) (sym is)
    (subst (λ most. IsHalted most (edge_in at) (log_in at)
    (around digest b (take d ls) fs (parting digest shows zero (Some c) below (log_in at))) faults.TooDeep) z
    (subst (λ s. Halts (most_in at) LinkTooDeep s (log_in at)
    (around digest b (take d ls) fs (parting digest shows zero (Some c) below (log_in at)))) (over-cut d ls at.rest)
    (around-follows digest b (take d ls) fs below (parting digest shows zero (Some c) below (log_in at)) (most_in at) LinkTooDeep
    (log_in at) (record { why_is = refl; log_is = refl; begun = λ g. g; few = few }))))

-- ---- pairs

module _ (digest : List ℕ → List ℕ) (shows : List ℕ → Option Shape) where
  first-follows : (depth : List ℕ → ℕ) (key : List ℕ) (v : Option (List ℕ)) (rest : List Pair) (s : LinkEdge) (log : Log)
      (t : LinkEdge) → Follows t (pairs_in_turn digest shows depth (if_put key v []) s log)
      t (pairs_in_turn digest shows depth (if_put key v rest) s log)
  first-follows depth key None rest s log t most why now h = absurd h
  first-follows depth key (Some w) rest s log t most why now h =
      let x = pairing digest shows (depth key) (key, w) s log in
      then-follows t x (pairs_in_turn digest shows depth rest) most why now
      (subst (λ o. Halts most why t now o) (alone digest shows depth x) h)

  -- one of the changes, where those before it are done
  pub puts-halted : {D A : Type 0} (start at new : Edge D A) (depth : List ℕ → ℕ) (all : Step LinkEdge) (cs : List Change)
      (i : ℕ) (c : Change) (f : Fault) → drop i cs ≡ c ∷ drop (suc i) cs
      → all ≡ pairs_in_turn digest shows depth (puts (drop i cs)) (edge_in at) (log_in at) → most_in at ≡ most_in start
      → IsHaltedFrom at new (pairs_in_turn digest shows depth (if_put c.0 c.1 []) (edge_in at) (log_in at)) f
      → IsHaltedFrom start new all f
  puts-halted start at new depth all cs i c f d e n t =
      let rest = puts (drop (suc i) cs) in
      let one = pairs_in_turn digest shows depth (if_put c.0 c.1 []) (edge_in at) (log_in at) in
      let more = pairs_in_turn digest shows depth (if_put c.0 c.1 rest) (edge_in at) (log_in at) in
      subst (λ o. IsHaltedFrom start new o f)
      (sym (e ∙ ap (λ ds. pairs_in_turn digest shows depth (puts ds) (edge_in at) (log_in at)) d))
      (subst (λ most. IsHalted most (edge_in new) (log_in new) more f) n
      (halted-by (edge_in new) (edge_in new) one more (most_in at) (log_in new) f
      (first-follows depth c.0 c.1 rest (edge_in at) (log_in at) (edge_in new)) t))

  -- ---- tasks

  module _ {D A : Type 0} (old new : Edge D A) (layer : List ℕ → ℕ) (n : ℕ) where
    pub gap-none-halted : (g : Gap) (f : Fault) → g.link ≡ None
        → IsHaltedFrom old new (pairs_in_turn digest shows (depth_of layer n) (puts g.changes) (edge_in old) (log_in old)) f
        → IsHaltedFrom old new (task_does digest shows layer n (ToGap g) (edge_in old) (log_in old)) f
    gap-none-halted g f e t =
        subst (λ o. IsHaltedFrom old new o f)
        (sym (ap (λ l. walking digest shows layer n g.layer g.depth l g.changes (edge_in old) (log_in old)) e
        ∙ does-none digest shows layer n g.layer g.depth g.changes (edge_in old) (log_in old))) t

    pub gap-subtree-halted : (k : ℕ) (g : Gap) (c : List ℕ) (f : Fault) → g.link ≡ Some c → g.layer ≡ suc k → g.changes ≡ []
        → IsHaltedFrom old new (subtreeing digest shows g.layer g.depth c (edge_in old) (log_in old)) f
        → IsHaltedFrom old new (task_does digest shows layer n (ToGap g) (edge_in old) (log_in old)) f
    gap-subtree-halted k g c f e m q t =
        let s = edge_in old in
        let log = log_in old in
        subst (λ o. IsHaltedFrom old new o f)
        (sym (ap (λ l. walking digest shows layer n g.layer g.depth l g.changes s log) e
        ∙ ap (λ cs. walking digest shows layer n g.layer g.depth (Some c) cs s log) q
        ∙ ap (λ j. walking digest shows layer n j g.depth (Some c) [] s log) m
        ∙ ap (λ j. subtreeing digest shows j g.depth c s log) (sym m))) t

    gap-reads : {X : Type 0} (gives : List ℕ → Option X) (k d : ℕ) (c : List ℕ) (cs : List Change) (f : Fault) → 0 < length cs
        → IsStill old new f → IsUnshown gives old.left c (shows c) f
        → IsHalted (most_in old) (edge_in old) (log_in old)
        (walking digest shows layer n (suc k) d (Some c) cs (edge_in old) (log_in old)) f
    gap-reads gives k d c [] f z s t = absurd (omega arith)
    gap-reads gives k d c (x ∷ cs) f z s t =
        unread-halted old new gives shows c (edge_in old)
        (walking_node digest shows d (walking digest shows layer n k (suc d)) (x ∷ cs) (edge_in old)) f s t

    pub gap-unread-halted : {X : Type 0} (gives : List ℕ → Option X) (k : ℕ) (g : Gap) (c : List ℕ) (f : Fault) → g.link ≡ Some c
        → g.layer ≡ suc k → 0 < length g.changes → IsStill old new f → IsUnshown gives old.left c (shows c) f
        → IsHaltedFrom old new (task_does digest shows layer n (ToGap g) (edge_in old) (log_in old)) f
    gap-unread-halted gives k g c f e m z s t =
        let all = walking digest shows layer n (suc k) g.depth (Some c) g.changes (edge_in old) (log_in old) in
        subst (λ o. IsHaltedFrom old new o f)
        (sym (ap (λ l. walking digest shows layer n g.layer g.depth l g.changes (edge_in old) (log_in old)) e
        ∙ ap (λ j. walking digest shows layer n j g.depth (Some c) g.changes (edge_in old) (log_in old)) m))
        (still-halted old new (most_in old) all f s (gap-reads gives k g.depth c g.changes f z s t))

    pub entry-halted : (p : Later) (f : Fault)
        → IsHaltedFrom old new (pairs_in_turn digest shows (λ key. p.depth) (entry p.at p.pair) (edge_in old) (log_in old)) f
        → IsHaltedFrom old new (task_does digest shows layer n (ToPair p) (edge_in old) (log_in old)) f
    entry-halted p f t =
        let x = pairs_in_turn digest shows (λ key. p.depth) (entry p.at p.pair) (edge_in old) (log_in old) in
        let g = node_does digest shows layer n p.layer p.depth p.changes p.rest in
        halted-by (edge_in new) (edge_in new) x (and_then x g) (most_in old) (log_in new) f (then-follows (edge_in new) x g) t

  -- ---- the whole walk

  agenda-follows : (layer : List ℕ → ℕ) (n : ℕ) (fs : List Task) (s : LinkEdge) (x : Step LinkEdge)
      → Follows s x s (agenda_does digest shows layer n fs x)
  agenda-follows layer n [] s x most why now h = h
  agenda-follows layer n (f ∷ fs) s x most why now h =
      let y = agenda_does digest shows layer n fs x in
      then-follows s y (task_does digest shows layer n f) most why now (agenda-follows layer n fs s x most why now h)

  pub task-halted : {D A : Type 0} (start at new : Edge D A) (layer : List ℕ → ℕ) (n : ℕ) (whole all : Step LinkEdge)
      (fs gs : List Task) (t : Task) (f : Fault) → whole ≡ all
      → all ≡ agenda_does digest shows layer n fs (Ok (edge_in at, log_in at)) → fs ≡ gs ++ (t ∷ [])
      → most_in at ≡ most_in start
      → IsHaltedFrom at new (task_does digest shows layer n t (edge_in at) (log_in at)) f → IsHaltedFrom start new whole f
  task-halted start at new layer n whole all fs gs t f w e q z h =
      let x = task_does digest shows layer n t (edge_in at) (log_in at) in
      let y = agenda_does digest shows layer n gs x in
      subst (λ o. IsHaltedFrom start new o f)
      (sym (w ∙ e ∙ ap (λ ys. agenda_does digest shows layer n ys (Ok (edge_in at, log_in at))) q
      ∙ does-more digest shows layer n gs t (Ok (edge_in at, log_in at))))
      (subst (λ most. IsHalted most (edge_in new) (log_in new) y f) z
      (halted-by (edge_in new) (edge_in new) x y (most_in at) (log_in new) f (agenda-follows layer n gs (edge_in new) x) h))

  -- ---- the top

  top-none : (most k : ℕ) (c : List ℕ) (s : LinkEdge) (log : Log) (o : Option Shape) → o ≡ None → length log.read < most
      → Halts most (NotShown c) s log (at_top (pruning_at (pruning shows k) c log o))
  top-none most k c s log None e n = record { why_is = refl; log_is = refl; begun = λ g. tt; few = n }
  top-none most k c s log (Some m) e n = absurd cc

  unseen-halted : {X : Type 0} (gives : List ℕ → Option X) (left k : ℕ) (c : List ℕ) (s : LinkEdge) (log : Log) (f : Fault)
      → 0 < left → IsUnshown gives left c (shows c) f
      → IsHalted (left + length log.read) s log (at_top (pruning shows (suc k) c log)) f
  unseen-halted gives left k c s log (faults.Missing b) n t =
      subst (λ x. Halts (left + length log.read) (NotShown x) s log (at_top (pruning shows (suc k) c log))) (sym t.0)
      (top-none (left + length log.read) k c s log (shows c) t.2 (omega arith))
  unseen-halted gives left k c s log (faults.BadNode b) n t =
      subst (λ x. Halts (left + length log.read) (NotShown x) s log (at_top (pruning shows (suc k) c log))) (sym t.0)
      (top-none (left + length log.read) k c s log (shows c) t.2 (omega arith))
  unseen-halted gives left k c s log faults.TooDeep n t = absurd t
  unseen-halted gives left k c s log faults.NotTree n t = tt
  unseen-halted gives left k c s log faults.NoMemory n t = tt

  pub look-halted : {X D A : Type 0} (gives : List ℕ → Option X) (start at new : Edge D A) (k m : ℕ) (c : List ℕ)
      (all : Step Top) (f : Fault) → k ≡ suc m → all ≡ pruning shows k c (log_in at) → most_in at ≡ most_in start
      → IsStill at new f → IsUnshown gives at.left c (shows c) f → IsHaltedFrom start new (at_top all) f
  look-halted gives start at new k m c all f e is z s t =
      let step = at_top (pruning shows (suc m) c (log_in at)) in
      subst (λ o. IsHaltedFrom start new (at_top o) f) (sym (is ∙ ap (λ j. pruning shows j c (log_in at)) e))
      (subst (λ most. IsHalted most (edge_in new) (log_in new) step f) z
      (still-halted at new (most_in at) step f s
      (still-then at new (λ h. IsUnshown gives at.left c (shows c) h → IsHalted (most_in at) (edge_in at) (log_in at) step h) f s
      (λ k. tt) (λ k. tt) (λ u k. unseen-halted gives at.left m c (edge_in at) (log_in at) f u.some k) t)))

  pub top-halted : {D A : Type 0} (old new : Edge D A) (k d : ℕ) (c : List ℕ) (f : Fault) → d ≡ highest_of old.levels.items
      → length old.levels.items ≤ d → old.rest ≡ Some c
      → IsHaltedFrom old new (at_top (pruning shows k c (log_in old))) f
      → IsHaltedFrom old new (at_top (topping digest shows k (edge_in old) (log_in old))) f
  top-halted old new k d c f e h n s =
      subst (λ o. IsHaltedFrom old new (at_top o) f)
      (sym (none-top digest shows k d old.levels.items old.rest (log_in old) e h
      ∙ ap (λ l. topping digest shows k (link_edge l) (log_in old)) n)) s

-- ---- what a batch reaches

pub none-goes_on : (ls : List Rows) → length ls < 1 → (rest : Option (List ℕ)) → AllGoOn HasKeys (edge_of ls rest)
none-goes_on [] n None = tt
none-goes_on [] n (Some c) = tt
none-goes_on (x ∷ ls) n rest = absurd (omega arith)

at-reached : (most : ℕ) (why : Stop) (s : LinkEdge) (now : Log) (e : Stopped) → IsAt most why s now e
    → AreWritten HasKeys s now → IsWithin most (Err e)
at-reached most why s now e h w = (
  subst (λ x. asked x e.log ≤ most) (sym h.why_is) (subst (λ l. asked why l ≤ most) (sym h.log_is) h.few),
  record { made = subst (λ (l : Log). AllByRecursion HasKeys l.made) (sym h.log_is) w.made; begun = h.begun w.begun },
)

halts-reached : (most : ℕ) (why : Stop) (s : LinkEdge) (now : Log) (x : Step Top) → Halts most why s now (at_top x)
    → AreWritten HasKeys s now → IsWithin most (at_top x)
halts-reached most why s now (Ok x) h w = absurd h
halts-reached most why s now (Err e) h w = at-reached most why s now e h w

-- where it stops for its source
pub halted-reached : (most : ℕ) (s : LinkEdge) (now : Log) (x : Step Top) (f : Fault) → IsHalted most s now (at_top x) f
    → AreWritten HasKeys s now → IsReachedFor most x f
halted-reached most s now x (faults.Missing c) h w = halts-reached most (NotShown c) s now x h w
halted-reached most s now x (faults.BadNode c) h w = halts-reached most (NotShown c) s now x h w
halted-reached most s now x faults.TooDeep h w = halts-reached most LinkTooDeep s now x h w
halted-reached most s now x faults.NotTree h w = tt
halted-reached most s now x faults.NoMemory h w = tt
