-- A top that isn't reached.
use Rattle.std.proofs.Common.{◌≡◌, ℕ, suc, ◌+◌, ◌<◌, ◌≤◌, List, [], ◌∷◌, ◌++◌, length, take, drop, length-append, refl, sym, ap, subst, ◌∙◌, arith, Option, Ok, Err}
use Rattle.std.specs.declared.option.Option.TheVariants.{Some, None}
use Rattle.std.specs.List.{AllByRecursion}
use Rattle.spec.specs.NodeFormat.{Shape, LastLink, MoreLinks}
use Rattle.edit_laws.specs.Lawful.{HasKeys}
use Rattle.rows.specs.declared.draft.DraftFault.{DraftFault}
use Rattle.rows.specs.declared.draft.DraftFault.TheVariants.{NotNode, NoMemory}
use Rattle.rows.specs.Drafts.{IsFaultOf}
use Rattle.batch_laws.specs.Links.{Rows, LinkEdge, LinkClear, LinkWaiting, Log, Top, with_read, onto_links, closing, link_edge, new_top, topping, pruning, pruning_at, Step, NotShown, StopsAt}
use Rattle.batch_laws.specs.Written.{IsEarlier, OnEnd}
use Rattle.batch_laws.proofs.Earlier.{topping-earlier}
use Rattle.edit.specs.Budgets.{Budget}
use Rattle.edit.specs.declared.outcome.Fault.{Fault}
use Rattle.edit.specs.declared.outcome.Fault.TheVariants as faults
use Rattle.edit.specs.Edges.{edge_of, highest_of}
use Rattle.batch_laws.specs.Within.{at_top}
use Rattle.edit.specs.Stops.{IsUnwritten, IsRefused, draft_fault_of, IsStopped, IsUnread}
use Rattle.edit.proofs.Cuts.{snoc-same, cut-at}
use Rattle.edit.proofs.Topping.{top-down, none-top, has-top}
use Rattle.edit.proofs.Stopping.{empty-keys, Goes, refused-stopped, memory-stopped, ReadsMore, asks-more, unread-stopped}

last-keys : (xs : List Shape) (s : Shape) → AllByRecursion HasKeys (xs ++ (s ∷ [])) → HasKeys s
last-keys [] s h = h.0
last-keys (x ∷ xs) s h = last-keys xs s h.1

-- ---- the node at some depth is the top

pub top-refused : (digest : List ℕ → List ℕ) (d : ℕ) (ls mid above xs : List Rows) (rows ys : Rows)
    (rest link : Option (List ℕ)) (log next : Log) (f : DraftFault) → mid ≡ take (d + 1) ls → mid ≡ xs ++ (ys ∷ [])
    → closing digest (edge_of (drop (d + 1) ls) rest) log ≡ (link, next) → IsFaultOf (onto_links ys (LastLink link)) f
    → take (d + 1) ls ≡ above ++ (rows ∷ [])
    → IsRefused (at_top (new_top digest rows (closing digest (edge_of (drop (d + 1) ls) rest) log))) f
top-refused digest d ls mid above xs rows ys rest link log next NoMemory m p c h t = tt
top-refused digest d ls mid above xs rows ys rest link log next NotNode m p c h t =
    let s = snoc-same xs above ys rows (sym p ∙ m ∙ t) in
    subst (λ b. IsUnwritten (at_top (new_top digest rows b))) (sym c)
    (subst (λ zs. IsUnwritten (at_top (new_top digest zs (link, next)))) s.1
    (λ w. h (last-keys next.made (onto_links ys (LastLink link)) w.made)))

top-goes-at : (s : LinkEdge) (log : Log) (o : Step Top)
    → OnEnd (λ top. LinkClear) o (IsEarlier HasKeys s log) → Goes s log (at_top o)
top-goes-at s log (Err e) h = h
top-goes-at s log (Ok x) h =
    let r = h.reads in
    let n = length-append x.1.read x.0.1 in
    record { written = λ w. h.written (record { made = w.made; begun = tt }); reads = omega arith }

pub top-goes : (digest : List ℕ → List ℕ) (shows : List ℕ → Option Shape) (k : ℕ) (s : LinkEdge) (log : Log)
    → Goes s log (at_top (topping digest shows k s log))
top-goes digest shows k s log =
    top-goes-at s log (topping digest shows k s log) (topping-earlier HasKeys empty-keys digest shows k s log)

heads : (x y : Rows) (zs : List Rows) → x ∷ zs ≡ y ∷ zs → x ≡ y
heads x y zs h = cc

pub top-stopped : {A : Type 0} (gives : List ℕ → Option A) (digest : List ℕ → List ℕ) (shows : List ℕ → Option Shape)
    (a : Budget) (k d : ℕ) (ls : List Rows) (rest : Option (List ℕ)) (log : Log) (f : DraftFault) → d ≡ highest_of ls
    → d < length ls
    → ((above : List Rows) (rows : Rows) → take (d + 1) ls ≡ above ++ (rows ∷ [])
    → IsRefused (at_top (new_top digest rows (closing digest (edge_of (drop (d + 1) ls) rest) log))) f)
    → IsStopped gives a a.0 log (at_top (topping digest shows k (edge_of ls rest) log)) (draft_fault_of f)
top-stopped gives digest shows a k d ls rest log f e h r =
    let g : highest_of ls < length ls = omega arith in
    let p = has-top ls g in
    let c = cut-at (highest_of ls) ls g in
    let one : d + 1 ≡ suc (highest_of ls) = omega arith in
    let q : c.rows ∷ drop (suc (highest_of ls)) ls ≡ (p.first ∷ p.more) ∷ drop (suc (highest_of ls)) ls = sym c.back ∙ p.is in
    let top = p.first ∷ p.more in
    let cut : take (d + 1) ls ≡ take (highest_of ls) ls ++ (top ∷ []) = ap (λ m. take m ls) one ∙ c.front
    ∙ ap (λ x. take (highest_of ls) ls ++ (x ∷ [])) (heads c.rows top (drop (suc (highest_of ls)) ls) q) in
    let is : topping digest shows k (edge_of ls rest) log
    ≡ new_top digest top (closing digest (edge_of (drop (d + 1) ls) rest) log) =
    top-down digest shows k ls rest log ∙ ap (λ ys. topping digest shows k (edge_of ys rest) log) p.is
    ∙ ap (λ m. new_top digest top (closing digest (edge_of (drop m ls) rest) log)) (sym one) in
    refused-stopped gives a (edge_of ls rest) log (at_top (topping digest shows k (edge_of ls rest) log)) f
    (subst (λ o. IsRefused (at_top o) f) (sym is) (r (take (highest_of ls) ls) top cut))
    (top-goes digest shows k (edge_of ls rest) log)

pub top-memory : {A : Type 0} (gives : List ℕ → Option A) (digest : List ℕ → List ℕ) (shows : List ℕ → Option Shape)
    (a : Budget) (k : ℕ) (s : LinkEdge) (log : Log)
    → IsStopped gives a a.0 log (at_top (topping digest shows k s log)) faults.NoMemory
top-memory gives digest shows a k s log =
    memory-stopped gives a s log (at_top (topping digest shows k s log)) (top-goes digest shows k s log)

-- a node without pairs and links is never refused
pub empty-stopped : {A : Type 0} (gives : List ℕ → Option A) (digest : List ℕ → List ℕ) (shows : List ℕ → Option Shape)
    (a : Budget) (k : ℕ) (s : LinkEdge) (log : Log) (rows : Rows) (f : DraftFault) → rows ≡ []
    → IsFaultOf (onto_links rows (LastLink None)) f
    → IsStopped gives a a.0 log (at_top (topping digest shows k s log)) (draft_fault_of f)
empty-stopped gives digest shows a k s log rows NoMemory e h = top-memory gives digest shows a k s log
empty-stopped gives digest shows a k s log rows NotNode e h =
    absurd (h (subst (λ ys. HasKeys (onto_links ys (LastLink None))) (sym e) empty-keys))

-- ---- pruning

pub pruned-stopped : {A : Type 0} (gives : List ℕ → Option A) (digest : List ℕ → List ℕ) (shows : List ℕ → Option Shape)
    (b : Budget) (a k d : ℕ) (ls : List Rows) (rest : Option (List ℕ)) (c : List ℕ) (log : Log) (f : Fault) → d ≡ highest_of ls
    → length ls ≤ d → rest ≡ Some c → IsStopped gives b a log (at_top (pruning shows k c log)) f
    → IsStopped gives b a log (at_top (topping digest shows k (edge_of ls rest) log)) f
pruned-stopped gives digest shows b a k d ls rest c log f e h n s =
    subst (λ o. IsStopped gives b a log (at_top o) f)
    (sym (none-top digest shows k d ls rest log e h ∙ ap (λ l. topping digest shows k (link_edge l) log) n)) s

pruning-none : (further : List ℕ → Log → Step Top) (c : List ℕ) (log : Log) (o : Option Shape) → o ≡ None
    → StopsAt (NotShown c) (at_top (pruning_at further c log o))
pruning-none further c log None e = refl
pruning-none further c log (Some s) e = absurd cc

pruning-reads : (shows : List ℕ → Option Shape) (k : ℕ) (c : List ℕ) (log : Log) (o : Option Shape)
    → ReadsMore log (at_top (pruning_at (pruning shows k) c log o))
pruning-reads shows k c log None = omega arith
pruning-reads shows k c log (Some (LastLink None)) =
    let n = length-append log.read (LastLink None ∷ []) in omega arith
pruning-reads shows k c log (Some (LastLink (Some b))) =
    further (at_top (pruning shows k b next)) (top-goes (λ x. x) shows k (LinkWaiting b) next)
  where
    next : Log
    next = with_read (LastLink (Some b)) log

    further : (o : Step LinkEdge) → Goes (LinkWaiting b) next o → ReadsMore log o
    further (Err e) h =
        let r = h.reads in
        let n = length-append log.read (LastLink (Some b) ∷ []) in asks-more log e.why e.log (omega arith)
    further (Ok x) h =
        let r = h.reads in let n = length-append log.read (LastLink (Some b) ∷ []) in omega arith
pruning-reads shows k c log (Some (MoreLinks l e r)) =
    let n = length-append log.read (MoreLinks l e r ∷ []) in omega arith

pub look-stopped : {A : Type 0} (gives : List ℕ → Option A) (shows : List ℕ → Option Shape) (b : Budget) (a k m : ℕ)
    (c : List ℕ) (log : Log) (f : Fault) → k ≡ suc m → IsUnread gives b a c (shows c) f
    → IsStopped gives b a log (at_top (pruning shows k c log)) f
look-stopped gives shows b a k m c log f e u =
    subst (λ j. IsStopped gives b a log (at_top (pruning shows j c log)) f) (sym e)
    (unread-stopped gives b a c (shows c) log (at_top (pruning shows (suc m) c log)) f
    (pruning-none (pruning shows m) c log (shows c)) (pruning-reads shows m c log (shows c)) u)

-- what is pruned later is pruned from here
pub prune-stopped : {A : Type 0} (gives : List ℕ → Option A) (b : Budget) (a : ℕ) (log : Log)
    (all now : Step Top) (f : Fault) → all ≡ now → IsStopped gives b a log (at_top now) f
    → IsStopped gives b a log (at_top all) f
prune-stopped gives b a log all now f e s = subst (λ o. IsStopped gives b a log (at_top o) f) (sym e) s
