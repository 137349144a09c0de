-- A subtree that stops on its way to the edge.
use Rattle.std.proofs.Common.{◌≡◌, ℕ, suc, ◌+◌, false, List, [], ◌∷◌, ◌++◌, length, take, drop, length-append, refl, sym, ap, subst, ◌∙◌, arith, Option, Ok}
use Rattle.std.specs.declared.option.Option.TheVariants.{Some}
use Rattle.spec.specs.Tree.{Pair}
use Rattle.spec.specs.NodeFormat.{Shape, MoreLinks}
use Rattle.edit_laws.specs.Lawful.{HasKeys}
use Rattle.rows.specs.declared.draft.DraftFault.{DraftFault}
use Rattle.rows.specs.declared.draft.DraftFault.TheVariants.{NotNode, NoMemory}
use Rattle.rows.specs.Drafts.{IsFaultOfAll}
use Rattle.rows.proofs.Drafting.{fault-on}
use Rattle.edit_laws.specs.ShapeEdit.{last_link}
use Rattle.batch_laws.specs.Links.{Rows, LinkEdge, LinkOpened, Log, and_then, ask, opening, closing, noding, parting, subtreeing, rows_in_shape, Step, link_edge}
use Rattle.batch_laws.proofs.Earlier.{parting-earlier, noding-earlier}
use Rattle.edit.specs.Budgets.{Budget}
use Rattle.edit.specs.declared.outcome.Fault.{Fault}
use Rattle.edit.specs.declared.outcome.Fault.TheVariants as faults
use Rattle.edit.specs.Edges.{edge_of, within, joined, around, is_clear}
use Rattle.edit.specs.States.{IsOpenAt, IsOnTheWay, IsArrived, IsCounted}
use Rattle.edit.specs.Stops.{IsUnwritten, IsRefused, draft_fault_of, IsStopped, IsUnread, IsOnward, open_edge}
use Rattle.edit.proofs.Within.{subtree-within}
use Rattle.edit.proofs.Around.{around-more, part-through}
use Rattle.edit.proofs.Cuts.{snoc-same, cut-at, take-length}
use Rattle.edit.proofs.Making.{onto-same}
use Rattle.edit.proofs.Stopping.{empty-keys, Goes, leads-refused, leads-stopped, opened-leads, around-leads, from-stopped, refused-stopped, memory-stopped, none-stopped, asked-goes, asked-unread}

-- ---- a node comes to some rows

abbrev join_row : Pair → Rows → Shape → Option (List ℕ) × Log → Step LinkEdge
join_row e rows r below =
    Ok (LinkOpened (rows ++ ((below.0, e) ∷ rows_in_shape r)) (link_edge (last_link r)), below.1)

pub joined-refused : (digest : List ℕ → List ℕ) (d : ℕ) (node r : Shape) (l : Option (List ℕ)) (e : Pair)
    (ls mid above xs : List Rows) (rows ys : Rows) (rest link : Option (List ℕ)) (log next : Log) (f : DraftFault)
    → node ≡ MoreLinks l e r → mid ≡ take (d + 1) ls → mid ≡ xs ++ (ys ∷ [])
    → closing digest (edge_of (drop (d + 1) ls) rest) log ≡ (link, next)
    → IsFaultOfAll (ys ++ ((link, e) ∷ rows_in_shape r)) f → take (d + 1) ls ≡ above ++ (rows ∷ [])
    → IsRefused (joined digest rows node (Ok (edge_of (drop (d + 1) ls) rest, log))) f
joined-refused digest d node r l e ls mid above xs rows ys rest link log next NoMemory n m p c h t = tt
joined-refused digest d node r l e ls mid above xs rows ys rest link log next NotNode n m p c h t =
    let s = snoc-same xs above ys rows (sym p ∙ m ∙ t) in
    subst (λ x. IsUnwritten (joined digest rows x (Ok (edge_of (drop (d + 1) ls) rest, log)))) (sym n)
    (subst (λ b. IsUnwritten (join_row e rows r b)) (sym c)
    (subst (λ zs. IsUnwritten (join_row e zs r (link, next))) s.1
    (λ w. (let g = w.begun.0 in
    h g.0 (subst HasKeys (sym (onto-same (ys ++ ((link, e) ∷ rows_in_shape r)) g.0)) g.1)))))

-- what begins with rows that are refused
pub begins-refused : (f : DraftFault) (xs more all : Rows) → xs ++ more ≡ all → IsFaultOfAll xs f → IsFaultOfAll all f
begins-refused f xs more all e h = fault-on f xs more all e h

-- ---- nodes that come one below the other, the lowest first

arrived-below : (digest : List ℕ → List ℕ) (all : Step LinkEdge) (b d : ℕ) (fs gs : List Shape) (node : Shape)
    (ls : List Rows) (rows : Rows) (rest : Option (List ℕ)) (log : Log) → fs ≡ gs ++ (node ∷ []) → d ≡ b + length gs
    → take (d + 1) ls ≡ take d ls ++ (rows ∷ []) → IsArrived digest all b fs ls rest log
    → all ≡ around digest b (take d ls) gs (joined digest rows node (Ok (edge_of (drop (d + 1) ls) rest, log)))
arrived-below digest all b d fs gs node ls rows rest log e f cut w =
    let l = w.long in
    let a = length-append gs (node ∷ []) in
    let n : length fs ≡ length (gs ++ (node ∷ [])) = ap length e in
    let one : b + length fs ≡ d + 1 = omega arith in
    let x : Step LinkEdge = Ok (edge_of (drop (d + 1) ls) rest, log) in
    w.is
    ∙ ap (λ m. around digest b (take m ls) fs (Ok (edge_of (drop m ls) rest, log))) one
    ∙ ap (λ hs. around digest b (take (d + 1) ls) hs x) e
    ∙ ap (λ ys. around digest b ys (gs ++ (node ∷ [])) x) cut
    ∙ around-more digest b (take d ls) rows gs node x (take-length d ls (omega arith) ∙ f)

pub arrived-refused : (digest : List ℕ → List ℕ) (all : Step LinkEdge) (b d : ℕ) (fs gs : List Shape) (node : Shape)
    (ls : List Rows) (rest : Option (List ℕ)) (log : Log) (f : DraftFault) → fs ≡ gs ++ (node ∷ []) → d ≡ b + length gs
    → IsArrived digest all b fs ls rest log
    → ((above : List Rows) (rows : Rows) → take (d + 1) ls ≡ above ++ (rows ∷ [])
    → IsRefused (joined digest rows node (Ok (edge_of (drop (d + 1) ls) rest, log))) f)
    → IsRefused all f
arrived-refused digest all b d fs gs node ls rest log f e i w r =
    let l = w.long in
    let a = length-append gs (node ∷ []) in
    let n : length fs ≡ length (gs ++ (node ∷ [])) = ap length e in
    let c = cut-at d ls (omega arith) in
    let one : d + 1 ≡ suc d = omega arith in
    let cut : take (d + 1) ls ≡ take d ls ++ (c.rows ∷ []) = ap (λ m. take m ls) one ∙ c.front in
    let x = joined digest c.rows node (Ok (edge_of (drop (d + 1) ls) rest, log)) in
    subst (λ o. IsRefused o f) (sym (arrived-below digest all b d fs gs node ls c.rows rest log e i cut w))
    (leads-refused x (around digest b (take d ls) gs x) f (around-leads digest b (take d ls) gs x)
    (r (take d ls) c.rows cut))

arrived-goes : (digest : List ℕ → List ℕ) (all : Step LinkEdge) (b : ℕ) (fs : List Shape) (ls : List Rows)
    (rest : Option (List ℕ)) (log : Log) → IsArrived digest all b fs ls rest log
    → Goes (edge_of (drop (b + length fs) ls) rest) log all
arrived-goes digest all b fs ls rest log w =
    let n = b + length fs in
    let s = edge_of (drop n ls) rest in
    subst (Goes s log) (sym w.is) (around-leads digest b (take n ls) fs (Ok (s, log)))

pub arrived-stopped : {A : Type 0} (gives : List ℕ → Option A) (digest : List ℕ → List ℕ) (all : Step LinkEdge)
    (a : Budget) (b : ℕ) (fs : List Shape) (ls : List Rows) (rest : Option (List ℕ)) (log : Log) (f : DraftFault)
    → IsArrived digest all b fs ls rest log → IsRefused all f → IsStopped gives a a.0 log all (draft_fault_of f)
arrived-stopped gives digest all a b fs ls rest log f w r =
    refused-stopped gives a (edge_of (drop (b + length fs) ls) rest) log all f r
    (arrived-goes digest all b fs ls rest log w)

-- ---- a subtree's node

part-goes : (digest : List ℕ → List ℕ) (shows : List ℕ → Option Shape) (k : ℕ) (c : List ℕ) (rows : Rows) (s : LinkEdge)
    (log : Log) → Goes (LinkOpened rows s) log
    (and_then (ask shows c (LinkOpened rows s) log) (noding digest (parting digest shows k) rows s))
part-goes digest shows k c rows s log =
    asked-goes shows c (LinkOpened rows s) log (noding digest (parting digest shows k) rows s)
    (λ m l. noding-earlier HasKeys empty-keys digest shows (parting digest shows k)
    (parting-earlier HasKeys empty-keys digest shows k) rows s m l)

pub part-unopened : {A : Type 0} (gives : List ℕ → Option A) (digest : List ℕ → List ℕ) (shows : List ℕ → Option Shape)
    (b : Budget) (a k : ℕ) (c : List ℕ) (s : LinkEdge) (log : Log) (f : Fault) → is_clear s ≡ false
    → IsStopped gives b a log (open_edge (opening shows s log)) f
    → IsStopped gives b a log (parting digest shows (suc k) (Some c) s log) f
part-unopened gives digest shows b a k c s log f h t =
    subst (λ o. IsStopped gives b a log o f) (sym (part-through digest shows k c s log h))
    (leads-stopped gives b a log (open_edge (opening shows s log)) _ f
    (opened-leads (opening shows s log) (λ o l. and_then (ask shows c (LinkOpened o.0 o.1) l)
    (noding digest (parting digest shows k) o.0 o.1))
    (λ o l. part-goes digest shows k c o.0 o.1 l)) t)

pub part-unread : {A : Type 0} (gives : List ℕ → Option A) (digest : List ℕ → List ℕ) (shows : List ℕ → Option Shape)
    (b m : Budget) (a k d : ℕ) (c : List ℕ) (ls mid : List Rows) (rest link : Option (List ℕ)) (log inner : Log) (f : Fault)
    → is_clear (edge_of (drop d ls) rest) ≡ false → IsOpenAt shows d ls rest log mid link inner → IsCounted b m log inner
    → IsUnread gives m a c (shows c) f
    → IsStopped gives b a log (parting digest shows (suc k) (Some c) (edge_of (drop d ls) rest) log) f
part-unread gives digest shows b m a k d c ls mid rest link log inner f h o n u =
    let t = edge_of (drop (d + 1) mid) link in
    let step = noding digest (parting digest shows k) o.rows t in
    subst (λ w. IsStopped gives b a log w f)
    (sym (part-through digest shows k c (edge_of (drop d ls) rest) log h
    ∙ ap (λ x. and_then x (λ p l. and_then (ask shows c (LinkOpened p.0 p.1) l)
    (noding digest (parting digest shows k) p.0 p.1))) o.is))
    (from-stopped gives b m a log inner (and_then (ask shows c (LinkOpened o.rows t) inner) step) f n
    (asked-unread gives shows m a c (LinkOpened o.rows t) inner step f
    (λ x l. noding-earlier HasKeys empty-keys digest shows (parting digest shows k)
    (parting-earlier HasKeys empty-keys digest shows k) o.rows t x l) u))

-- ---- the way down

pub way-stopped : {A : Type 0} (gives : List ℕ → Option A) (digest : List ℕ → List ℕ) (shows : List ℕ → Option Shape)
    (all : Step LinkEdge) (m : Budget) (a b k at : ℕ) (l : Option (List ℕ)) (fs : List Shape) (ls : List Rows)
    (rest : Option (List ℕ)) (log : Log) (f : Fault) → at ≡ b + length fs
    → IsOnTheWay digest shows all b k l fs ls rest log
    → IsStopped gives m a log (parting digest shows k l (edge_of (drop at ls) rest) log) f → IsStopped gives m a log all f
way-stopped gives digest shows all m a b k at l fs ls rest log f e w s =
    let n = b + length fs in
    let x = parting digest shows k l (edge_of (drop n ls) rest) log in
    subst (λ o. IsStopped gives m a log o f) (sym w.is)
    (leads-stopped gives m a log x (around digest b (take n ls) fs x) f (around-leads digest b (take n ls) fs x)
    (subst (λ j. IsStopped gives m a log (parting digest shows k l (edge_of (drop j ls) rest) log) f) e s))

pub way-memory : {A : Type 0} (gives : List ℕ → Option A) (digest : List ℕ → List ℕ) (shows : List ℕ → Option Shape)
    (all : Step LinkEdge) (a : Budget) (b k : ℕ) (l : Option (List ℕ)) (fs : List Shape) (ls : List Rows)
    (rest : Option (List ℕ)) (log : Log) → IsOnTheWay digest shows all b k l fs ls rest log
    → IsStopped gives a a.0 log all faults.NoMemory
way-memory gives digest shows all a b k l fs ls rest log w =
    let s = edge_of (drop (b + length fs) ls) rest in
    way-stopped gives digest shows all a a.0 b k (b + length fs) l fs ls rest log faults.NoMemory refl w
    (memory-stopped gives a s log (parting digest shows k l s log)
    (parting-earlier HasKeys empty-keys digest shows k l s log))

-- below layer 0
pub way-ended : {A : Type 0} (gives : List ℕ → Option A) (digest : List ℕ → List ℕ) (shows : List ℕ → Option Shape)
    (all : Step LinkEdge) (a : Budget) (b k : ℕ) (c : List ℕ) (fs : List Shape) (ls : List Rows)
    (rest : Option (List ℕ)) (log : Log) → k ≡ 0 → IsOnTheWay digest shows all b k (Some c) fs ls rest log
    → IsStopped gives a a.0 log all faults.TooDeep
way-ended gives digest shows all a b k c fs ls rest log e w =
    way-stopped gives digest shows all a a.0 b k (b + length fs) (Some c) fs ls rest log faults.TooDeep refl w
    (subst (λ j. IsStopped gives a a.0 log (parting digest shows j (Some c) (edge_of (drop (b + length fs) ls) rest) log)
    faults.TooDeep) (sym e) (none-stopped gives a (edge_of (drop (b + length fs) ls) rest) log))

-- ---- the whole subtree

pub subtree-unopened : {A : Type 0} (gives : List ℕ → Option A) (digest : List ℕ → List ℕ) (shows : List ℕ → Option Shape)
    (b : Budget) (a k d : ℕ) (c : List ℕ) (s : LinkEdge) (log : Log) (f : Fault)
    → ((g : LinkEdge → Log → Step LinkEdge) → IsOnward g → IsStopped gives b a log (within shows d g s log) f)
    → IsStopped gives b a log (subtreeing digest shows k d c s log) f
subtree-unopened gives digest shows b a k d c s log f h =
    subst (λ o. IsStopped gives b a log o f) (sym (subtree-within digest shows k d c s log))
    (h (parting digest shows k (Some c)) (λ t l. parting-earlier HasKeys empty-keys digest shows k (Some c) t l))
