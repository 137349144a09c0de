-- Nodes that are refused on the way.
use Rattle.std.proofs.Common.{◌≡◌, ℕ, zero, ◌+◌, ◌<◌, ◌≤◌, List, [], ◌∷◌, ◌++◌, length, take, drop, refl, sym, ap, subst, ◌∙◌, Option, Ok}
use Rattle.std.specs.declared.option.Option.TheVariants.{Some}
use Rattle.std.specs.List.{AllByRecursion}
use Rattle.spec.specs.Tree.{Pair}
use Rattle.spec.specs.NodeFormat.{Shape, LastLink, MoreLinks}
use Rattle.edit_laws.specs.Lawful.{HasKeys}
use Rattle.edit_laws.specs.ShapeEdit.{close_shapes, last_link}
use Rattle.rows.specs.declared.draft.DraftFault.{DraftFault}
use Rattle.rows.specs.declared.draft.DraftFault.TheVariants.{NotNode, NoMemory}
use Rattle.rows.specs.Drafts.{IsFaultOf, IsFaultOfAll}
use Rattle.batch_laws.specs.Links.{Rows, LinkEdge, LinkClear, LinkWaiting, LinkOpened, Log, and_then, ask, onto_links, rows_in_shape, complete, closing, opening, opened_rows, link_edge, add_row, pairing, Step}
use Rattle.batch_laws.proofs.Earlier.{closing-earlier, pairing-earlier, row-earlier}
use Rattle.edit.specs.Budgets.{Budget}
use Rattle.edit.specs.declared.outcome.Fault.{Fault}
use Rattle.edit.specs.Edges.{edge_of, within, under}
use Rattle.edit.specs.States.{IsOpenAt, IsCounted}
use Rattle.edit.specs.Stops.{IsUnwritten, IsRefused, draft_fault_of, IsStopped, IsOnward, all_closed, open_edge}
use Rattle.edit.proofs.Closing.{closing-from}
use Rattle.edit.proofs.Cuts.{snoc-same}
use Rattle.edit.proofs.Making.{onto-same}
use Rattle.edit.proofs.Pairing.{counted-then}
use Rattle.edit.proofs.Topping.{read-at}
use Rattle.edit.proofs.Within.{pair-within, within-under}
use Rattle.edit.proofs.Stopping.{empty-keys, Goes, leads-stopped, leads-same, leads-then, opened-leads, under-leads, from-stopped, refused-stopped, within-leads}

-- ---- what is complete

last-keys : (xs : List Shape) (s : Shape) → AllByRecursion HasKeys (xs ++ (s ∷ [])) → HasKeys s
last-keys [] s h = h.0
last-keys (x ∷ xs) s h = last-keys xs s h.1

closed-keys : (xs : List Shape) (s : Shape) → AllByRecursion HasKeys (xs ++ close_shapes s) → HasKeys s
closed-keys xs (LastLink l) h = refl
closed-keys xs (MoreLinks l e r) h = last-keys xs (MoreLinks l e r) h

closed-same : (digest : List ℕ → List ℕ) (s t : LinkEdge) (log next : Log) → closing digest s log ≡ closing digest t next
    → all_closed digest s log ≡ all_closed digest t next
closed-same digest s t log next e = ap (λ p. Ok (LinkClear, p.1)) e

pub close-refused : (digest : List ℕ → List ℕ) (d : ℕ) (old xs : List Rows) (rows : Rows) (rest : Option (List ℕ)) (log : Log)
    (f : DraftFault) → old ≡ xs ++ (rows ∷ []) → d < length old → IsFaultOf (onto_links rows (LastLink rest)) f
    → IsRefused (all_closed digest (edge_of (drop d old) rest) log) f
close-refused digest d old xs rows rest log NoMemory e h r = tt
close-refused digest d old xs rows rest log NotNode e h r =
    let s = onto_links rows (LastLink rest) in
    let p = complete digest rows (rest, log) in
    let same = closing-from digest d old xs rows rest p.0 log p.1 e h refl in
    subst IsUnwritten (sym (closed-same digest (edge_of (drop d old) rest) (edge_of (drop d xs) p.0) log p.1 same))
    (λ w. r (closed-keys log.made s ((closing-earlier HasKeys empty-keys digest (edge_of (drop d xs) p.0) p.1).written w).made))

pub close-further : (digest : List ℕ → List ℕ) (d : ℕ) (old xs : List Rows) (rows : Rows) (rest link : Option (List ℕ))
    (log next : Log) (f : DraftFault) → old ≡ xs ++ (rows ∷ []) → d < length old
    → complete digest rows (rest, log) ≡ (link, next)
    → IsRefused (all_closed digest (edge_of (drop d xs) link) next) f
    → IsRefused (all_closed digest (edge_of (drop d old) rest) log) f
close-further digest d old xs rows rest link log next f e h c r =
    subst (λ o. IsRefused o f) (sym (closed-same digest (edge_of (drop d old) rest) (edge_of (drop d xs) link) log next
    (closing-from digest d old xs rows rest link log next e h c))) r

-- ---- a pair

-- below are the rows so far and the pair, which none goes on from
pub row-refused : (digest : List ℕ → List ℕ) (d : ℕ) (e : Pair) (ls mid above xs : List Rows) (rows ys : Rows)
    (rest link : Option (List ℕ)) (log next : Log) (f : DraftFault) → mid ≡ take (d + 1) ls → mid ≡ xs ++ (ys ∷ [])
    → closing digest (edge_of (drop (d + 1) ls) rest) log ≡ (link, next) → IsFaultOfAll (ys ++ ((link, e) ∷ [])) f
    → take (d + 1) ls ≡ above ++ (rows ∷ [])
    → IsRefused (add_row e rows (closing digest (edge_of (drop (d + 1) ls) rest) log)) f
row-refused digest d e ls mid above xs rows ys rest link log next NoMemory m p c r t = tt
row-refused digest d e ls mid above xs rows ys rest link log next NotNode m p c r t =
    let s = snoc-same xs above ys rows (sym p ∙ m ∙ t) in
    subst (λ b. IsUnwritten (add_row e rows b)) (sym c)
    (subst (λ zs. IsUnwritten (add_row e zs (link, next))) s.1
    (λ w. (let g = w.begun.0 in
    r g.0 (subst HasKeys (sym (onto-same (ys ++ ((link, e) ∷ [])) g.0)) g.1))))

-- ---- one layer more

waiting-rows : (digest : List ℕ → List ℕ) (shows : List ℕ → Option Shape) (c : List ℕ) (log now : Log) (node : Shape)
    (f : DraftFault) → ask shows c LinkClear log ≡ Ok (node, now) → IsFaultOfAll ([] ++ rows_in_shape node) f
    → IsRefused (open_edge (opening shows (LinkWaiting c) log)) f
waiting-rows digest shows c log now node NoMemory a r = tt
waiting-rows digest shows c log now node NotNode a r =
    subst (λ o. IsUnwritten (open_edge (and_then o opened_rows)))
    (sym (read-at shows c (LinkWaiting c) log (node, now) a))
    (λ w. (let g = w.begun.0 in r g.0 (subst HasKeys (sym (onto-same (rows_in_shape node) g.0)) g.1)))

-- its node is read, and memory is wanted or its rows are refused
pub open-refused : {A : Type 0} (gives : List ℕ → Option A) (digest : List ℕ → List ℕ) (shows : List ℕ → Option Shape)
    (b a : Budget) (c : List ℕ) (rest : Option (List ℕ)) (log now : Log) (node : Shape) (f : DraftFault) → rest ≡ Some c
    → ask shows c LinkClear log ≡ Ok (node, now) → IsCounted b a log now → IsFaultOfAll ([] ++ rows_in_shape node) f
    → IsStopped gives b a.0 log (open_edge (opening shows (link_edge rest) log)) (draft_fault_of f)
open-refused gives digest shows b a c rest log now node f e q n r =
    subst (λ l. IsStopped gives b a.0 log (open_edge (opening shows (link_edge l) log)) (draft_fault_of f)) (sym e)
    (from-stopped gives b a a.0 log now (open_edge (opening shows (LinkWaiting c) log)) (draft_fault_of f) n
    (refused-stopped gives a (LinkOpened (rows_in_shape node) (link_edge (last_link node))) now
    (open_edge (opening shows (LinkWaiting c) log)) f (waiting-rows digest shows c log now node f q r)
    (subst (λ o. Goes (LinkOpened (rows_in_shape node) (link_edge (last_link node))) now (open_edge (and_then o opened_rows)))
    (sym (read-at shows c (LinkWaiting c) log (node, now) q)) (leads-same
    (Ok (LinkOpened (rows_in_shape node) (link_edge (last_link node)), now))))))

-- ---- a pair, so many layers below

pub pair-under : (digest : List ℕ → List ℕ) (shows : List ℕ → Option Shape) (d : ℕ) (e : Pair) (all : LinkEdge) (start : Log)
    (ls : List Rows) (rest : Option (List ℕ)) (log : Log)
    → ((f : LinkEdge → Log → Step LinkEdge)
    → within shows d f all start ≡ within shows d f (edge_of ls rest) log)
    → d ≤ length ls
    → pairing digest shows d e all start ≡ under (take d ls) (pairing digest shows zero e (edge_of (drop d ls) rest) log)
pair-under digest shows d e all start ls rest log same h =
    pair-within digest shows d e all start ∙ same (pairing digest shows zero e)
    ∙ within-under shows d (pairing digest shows zero e) ls rest log h

pub pair-closed : {A : Type 0} (gives : List ℕ → Option A) (digest : List ℕ → List ℕ) (shows : List ℕ → Option Shape)
    (b : Budget) (a d : ℕ) (e : Pair) (all : LinkEdge) (start : Log) (f : Fault)
    → ((g : LinkEdge → Log → Step LinkEdge) → IsOnward g → IsStopped gives b a start (within shows d g all start) f)
    → IsStopped gives b a start (pairing digest shows d e all start) f
pair-closed gives digest shows b a d e all start f h =
    subst (λ o. IsStopped gives b a start o f) (sym (pair-within digest shows d e all start))
    (h (pairing digest shows zero e) (λ s log. pairing-earlier HasKeys empty-keys digest shows zero e s log))

pub pair-unopened : {A : Type 0} (gives : List ℕ → Option A) (digest : List ℕ → List ℕ) (shows : List ℕ → Option Shape)
    (b m : Budget) (a d : ℕ) (e : Pair) (all : LinkEdge) (start : Log) (ls : List Rows) (rest : Option (List ℕ)) (log : Log)
    (f : Fault)
    → ((g : LinkEdge → Log → Step LinkEdge)
    → within shows d g all start ≡ within shows d g (edge_of ls rest) log)
    → d ≤ length ls → IsCounted b m start log
    → IsStopped gives m a log (open_edge (opening shows (edge_of (drop d ls) rest) log)) f
    → IsStopped gives b a start (pairing digest shows d e all start) f
pair-unopened gives digest shows b m a d e all start ls rest log f same h n s =
    let s0 = edge_of (drop d ls) rest in
    let one = pairing digest shows zero e s0 log in
    subst (λ o. IsStopped gives b a start o f) (sym (pair-under digest shows d e all start ls rest log same h))
    (from-stopped gives b m a start log (under (take d ls) one) f n
    (leads-stopped gives m a log (open_edge (opening shows s0 log)) (under (take d ls) one) f
    (leads-then (open_edge (opening shows s0 log)) one (under (take d ls) one)
    (opened-leads (opening shows s0 log) (λ o log1. add_row e o.0 (closing digest o.1 log1))
    (λ o l. row-earlier HasKeys empty-keys digest o.0 _ o.1 LinkClear l))
    (under-leads (take d ls) one)) s))

pub pair-refused : {A : Type 0} (gives : List ℕ → Option A) (digest : List ℕ → List ℕ) (shows : List ℕ → Option Shape)
    (b m a : Budget) (d : ℕ) (e : Pair) (all : LinkEdge) (start : Log) (ls mid : List Rows) (rest link : Option (List ℕ))
    (log inner : Log) (f : DraftFault)
    → ((g : LinkEdge → Log → Step LinkEdge)
    → within shows d g all start ≡ within shows d g (edge_of ls rest) log)
    → d ≤ length ls → IsCounted b m start log → IsCounted m a log inner → IsOpenAt shows d ls rest log mid link inner
    → ((above : List Rows) (rows : Rows) → take (d + 1) mid ≡ above ++ (rows ∷ [])
    → IsRefused (add_row e rows (closing digest (edge_of (drop (d + 1) mid) link) inner)) f)
    → IsStopped gives b a.0 start (pairing digest shows d e all start) (draft_fault_of f)
pair-refused gives digest shows b m a d e all start ls mid rest link log inner f same h n k o r =
    let s0 = edge_of (drop (d + 1) mid) link in
    let row = add_row e o.rows (closing digest s0 inner) in
    let met : pairing digest shows zero e (edge_of (drop d ls) rest) log ≡ row =
    ap (λ x. and_then x (λ p log1. add_row e p.0 (closing digest p.1 log1))) o.is in
    subst (λ w. IsStopped gives b a.0 start w (draft_fault_of f))
    (sym (pair-under digest shows d e all start ls rest log same h ∙ ap (under (take d ls)) met))
    (from-stopped gives b a a.0 start inner (under (take d ls) row) (draft_fault_of f) (counted-then b m a start log inner n k)
    (leads-stopped gives a a.0 inner row (under (take d ls) row) (draft_fault_of f) (under-leads (take d ls) row)
    (refused-stopped gives a (LinkOpened o.rows s0) inner row f (r (take d ls) o.rows o.levels)
    (row-earlier HasKeys empty-keys digest o.rows _ s0 LinkClear inner))))

-- ---- so many layers are to be open

pub within-stopped : {A : Type 0} (gives : List ℕ → Option A) (shows : List ℕ → Option Shape) (b m : Budget) (a d : ℕ)
    (g : LinkEdge → Log → Step LinkEdge) → IsOnward g → (all : LinkEdge) (start : Log) (ls : List Rows)
    (rest : Option (List ℕ)) (log : Log) (f : Fault) → length ls < d
    → within shows d g all start ≡ within shows d g (edge_of ls rest) log → IsCounted b m start log
    → IsStopped gives m a log (open_edge (opening shows (link_edge rest) log)) f
    → IsStopped gives b a start (within shows d g all start) f
within-stopped gives shows b m a d g h all start ls rest log f l e n s =
    let x = within shows d g (edge_of ls rest) log in
    subst (λ o. IsStopped gives b a start o f) (sym e)
    (from-stopped gives b m a start log x f n
    (leads-stopped gives m a log (open_edge (opening shows (link_edge rest) log)) x f
    (within-leads shows d g h ls rest log l) s))
