-- Where a step stops, the whole that goes on from it stops too.
use Rattle.std.proofs.Common.{◌≡◌, ℕ, zero, suc, ◌+◌, ◌<◌, ◌≤◌, List, [], ◌∷◌, length, length-append, refl, sym, subst, ◌∙◌, arith, Option, Ok, Err}
use Rattle.std.specs.declared.option.Option.TheVariants.{Some, None}
use Rattle.spec.specs.NodeFormat.{Shape, LastLink, MoreLinks}
use Rattle.edit_laws.specs.Lawful.{HasKeys}
use Rattle.edit_laws.specs.ShapeEdit.{last_link}
use Rattle.batch_laws.specs.Links.{Rows, LinkEdge, LinkOpened, Log, and_then, ask, log_shown, with_read, opening, under_rows, link_edge, Step, Stop, Stopped, StopsAt, stopped, NotShown, LinkTooDeep}
use Rattle.batch_laws.specs.Written.{IsEarlier, OnAnswer, OnEnd, GoesFrom}
use Rattle.batch_laws.specs.Within.{IsWithin, asked}
use Rattle.batch_laws.proofs.Earlier.{same-earlier, then-earlier, steps-earlier, under-earlier, row-earlier, opening-earlier}
use Rattle.rows.specs.declared.draft.DraftFault.{DraftFault}
use Rattle.rows.specs.declared.draft.DraftFault.TheVariants as drafts
use Rattle.edit.specs.Budgets.{Budget}
use Rattle.edit.specs.declared.outcome.Fault.{Fault}
use Rattle.edit.specs.declared.outcome.Fault.TheVariants.{Missing, BadNode, TooDeep, NotTree, NoMemory}
use Rattle.edit.specs.Edges.{edge_of, within, under, joined, around}
use Rattle.edit.specs.States.{IsCounted}
use Rattle.edit.specs.Stops.{IsUnwritten, IsRefused, draft_fault_of, IsCause, IsStopped, IsUnshown, IsUnread, IsOnward, open_edge}

pub empty-keys : HasKeys (LastLink None)
empty-keys = refl

abbrev pub Goes : LinkEdge → Log → Step LinkEdge → Type 0
Goes s log step = GoesFrom HasKeys s log step

-- ---- the whole goes on from a step

-- it stops for the same
abbrev pub StopsAs : Stopped → Step LinkEdge → Type 0
StopsAs e (Ok x) = ⊥
StopsAs e (Err f) = (f.why ≡ e.why) × IsEarlier HasKeys e.edge e.log f.edge f.log

-- it stops where the step does, and else goes on from the step's
abbrev pub Leads : Step LinkEdge → Step LinkEdge → Type 0
Leads (Err e) whole = StopsAs e whole
Leads (Ok x) whole = Goes x.0 x.1 whole

leads-stop : (why : Stop) (step whole : Step LinkEdge) → Leads step whole → StopsAt why step → StopsAt why whole
leads-stop why (Ok x) whole h q = absurd q
leads-stop why (Err e) (Ok y) h q = absurd h
leads-stop why (Err e) (Err f) h q = h.0 ∙ q

leads-unwritten : (step whole : Step LinkEdge) → Leads step whole → IsUnwritten step → IsUnwritten whole
leads-unwritten (Err e) (Ok y) h u = absurd h
leads-unwritten (Err e) (Err f) h u = λ w. u (h.1.written w)
leads-unwritten (Ok x) (Err f) h u = λ w. u (h.written w)
leads-unwritten (Ok x) (Ok y) h u = λ w. u (h.written w)

-- what is read is asked for
asks-read : (why : Stop) (log : Log) → length log.read ≤ asked why log
asks-read (NotShown c) log = omega arith
asks-read LinkTooDeep log = omega arith

asks-later : (why : Stop) (log later : Log) → length log.read ≤ length later.read → asked why log ≤ asked why later
asks-later (NotShown c) log later n = omega arith
asks-later LinkTooDeep log later n = n

-- a whole that keeps within what there is for it does so up to there
leads-within : (most : ℕ) (step whole : Step LinkEdge) → Leads step whole → IsWithin most whole → IsWithin most step
leads-within most (Err e) (Ok y) h w = absurd h
leads-within most (Err e) (Err f) h w =
    let n = subst (λ why. asked why f.log ≤ most) h.0 w.0 in
    let i = asks-later e.why e.log f.log h.1.reads in
    (omega arith, h.1.written w.1)
leads-within most (Ok x) (Err f) h w =
    let n = w.0 in let i = h.reads in let r = asks-read f.why f.log in (omega arith, h.written w.1)
leads-within most (Ok x) (Ok y) h w = let n = w.0 in let i = h.reads in (omega arith, h.written w.1)

pub leads-refused : (step whole : Step LinkEdge) (f : DraftFault) → Leads step whole → IsRefused step f
    → IsRefused whole f
leads-refused step whole drafts.NotNode h r = leads-unwritten step whole h r
leads-refused step whole drafts.NoMemory h r = tt

leads-cause : {A : Type 0} (gives : List ℕ → Option A) (most : ℕ) (step whole : Step LinkEdge) (f : Fault)
    → Leads step whole → IsCause gives most step f → IsCause gives most whole f
leads-cause gives most step whole (Missing c) h k = (k.0, leads-stop (NotShown c) step whole h k.1)
leads-cause gives most step whole (BadNode c) h k = (k.0, leads-stop (NotShown c) step whole h k.1)
leads-cause gives most step whole TooDeep h k = leads-stop LinkTooDeep step whole h k
leads-cause gives most step whole NotTree h k = λ w. k (leads-within most step whole h w)
leads-cause gives most step whole NoMemory h k = tt

abbrev AreReads : ℕ → ℕ → Log → Step LinkEdge → Type 0
AreReads before after log step = OnAnswer step (λ s later. after + length log.read ≤ before + length later.read)

leads-reads : (b a : ℕ) (log : Log) (step whole : Step LinkEdge) → Leads step whole → AreReads b a log step
    → AreReads b a log whole
leads-reads b a log (Err e) (Ok y) h r = absurd h
leads-reads b a log (Err e) (Err f) h r = tt
leads-reads b a log (Ok x) (Err f) h r = tt
leads-reads b a log (Ok x) (Ok y) h r = let i = h.reads in omega arith

pub leads-stopped : {A : Type 0} (gives : List ℕ → Option A) (b : Budget) (a : ℕ) (log : Log)
    (step whole : Step LinkEdge) (f : Fault) → Leads step whole → IsStopped gives b a log step f
    → IsStopped gives b a log whole f
leads-stopped gives b a log step whole f h s = record {
  cause = leads-cause gives (b.1 + length log.read) step whole f h s.cause;
  reads = leads-reads b.0 a log step whole h s.reads;
  few = s.few;
}

-- ---- where it stops

-- after some reads
pub from-stopped : {A : Type 0} (gives : List ℕ → Option A) (b m : Budget) (a : ℕ) (log now : Log)
    (step : Step LinkEdge) (f : Fault) → IsCounted b m log now → IsStopped gives m a now step f
    → IsStopped gives b a log step f
from-stopped gives b m a log now step f c s = record {
  cause = subst (λ most. IsCause gives most step f) c.left s.cause;
  reads = more step s.reads;
  few = within s.few;
}
  where
    more : (o : Step LinkEdge) → AreReads m.0 a now o → AreReads b.0 a log o
    more (Err stop) r = tt
    more (Ok x) r = omega arith

    within : a ≤ m.0 + m.1 → a ≤ b.0 + b.1
    within n = omega arith

goes-reads : (a : ℕ) (s : LinkEdge) (now : Log) (step : Step LinkEdge) → Goes s now step → AreReads a a now step
goes-reads a s now (Err stop) h = tt
goes-reads a s now (Ok x) h = let i = h.reads in omega arith

-- what is not written is not within it
unwritten-beyond : (most : ℕ) (step : Step LinkEdge) → IsUnwritten step → ¬ IsWithin most step
unwritten-beyond most (Err e) u = λ w. u w.1
unwritten-beyond most (Ok x) u = λ w. u w.1

pub refused-stopped : {A : Type 0} (gives : List ℕ → Option A) (a : Budget) (s : LinkEdge) (now : Log)
    (step : Step LinkEdge) (f : DraftFault) → IsRefused step f → Goes s now step
    → IsStopped gives a a.0 now step (draft_fault_of f)
refused-stopped gives a s now step drafts.NotNode r h = record {
  cause = unwritten-beyond (a.1 + length now.read) step r;
  reads = goes-reads a.0 s now step h;
  few = omega arith;
}
refused-stopped gives a s now step drafts.NoMemory r h =
    record { cause = tt; reads = goes-reads a.0 s now step h; few = omega arith }

pub memory-stopped : {A : Type 0} (gives : List ℕ → Option A) (a : Budget) (s : LinkEdge) (now : Log)
    (step : Step LinkEdge) → Goes s now step → IsStopped gives a a.0 now step NoMemory
memory-stopped gives a s now step h = record { cause = tt; reads = goes-reads a.0 s now step h; few = omega arith }

-- a link below layer 0
pub none-stopped : {A : Type 0} (gives : List ℕ → Option A) (a : Budget) (s : LinkEdge) (now : Log)
    → IsStopped gives a a.0 now (stopped LinkTooDeep s now) TooDeep
none-stopped gives a s now = record { cause = refl; reads = tt; few = omega arith }

-- it reads more than a log has, or asks for more
abbrev pub ReadsMore : Log → Step LinkEdge → Type 0
ReadsMore log (Ok x) = length log.read < length x.1.read
ReadsMore log (Err e) = length log.read < asked e.why e.log

pub asks-more : (log : Log) (why : Stop) (later : Log) → length log.read < length later.read
    → length log.read < asked why later
asks-more log (NotShown c) later n = omega arith
asks-more log LinkTooDeep later n = n

-- where a node was to be read, without which there is no answer
pub unread-stopped : {A : Type 0} (gives : List ℕ → Option A) (b : Budget) (a : ℕ) (asked : List ℕ) (shown : Option Shape)
    (log : Log) (whole : Step LinkEdge) (f : Fault) → (shown ≡ None → StopsAt (NotShown asked) whole)
    → ReadsMore log whole → IsUnread gives b a asked shown f → IsStopped gives b a log whole f
unread-stopped gives b a asked shown log whole f n m u =
    record { cause = why b.1 f u.cause; reads = counted whole m; few = u.few }
  where
    past : (o : Step LinkEdge) (most : ℕ) → most ≡ length log.read → ReadsMore log o → ¬ IsWithin most o
    past (Err e) most z r = λ w. (let n = w.0 in absurd (omega arith))
    past (Ok x) most z r = λ w. (let n = w.0 in absurd (omega arith))

    why : (left : ℕ) (g : Fault) → IsUnshown gives left asked shown g → IsCause gives (left + length log.read) whole g
    why left (Missing c) k = (k.1, subst (λ x. StopsAt (NotShown x) whole) (sym k.0) (n k.2))
    why left (BadNode c) k = (k.1, subst (λ x. StopsAt (NotShown x) whole) (sym k.0) (n k.2))
    why left TooDeep k = absurd k
    why left NotTree k = past whole (left + length log.read) (omega arith) m
    why left NoMemory k = tt

    counted : (o : Step LinkEdge) → ReadsMore log o → AreReads b.0 a log o
    counted (Err stop) r = tt
    counted (Ok x) r = let i = u.reads in omega arith

-- ---- what goes on from what

pub leads-same : (x : Step LinkEdge) → Leads x x
leads-same (Err e) = (refl, same-earlier HasKeys empty-keys e.edge e.log)
leads-same (Ok x) = same-earlier HasKeys empty-keys x.0 x.1

pub leads-then : (x y z : Step LinkEdge) → Leads x y → Leads y z → Leads x z
leads-then (Err e) (Ok y) z h k = absurd h
leads-then (Err e) (Err f) (Ok z) h k = absurd k
leads-then (Err e) (Err f) (Err g) h k =
    (k.0 ∙ h.0, then-earlier HasKeys empty-keys e.edge e.log f.edge f.log g.edge g.log h.1 k.1)
leads-then (Ok x) (Err f) (Ok z) h k = absurd k
leads-then (Ok x) (Err f) (Err g) h k =
    then-earlier HasKeys empty-keys x.0 x.1 f.edge f.log g.edge g.log h k.1
leads-then (Ok x) (Ok y) (Err g) h k = then-earlier HasKeys empty-keys x.0 x.1 y.0 y.1 g.edge g.log h k
leads-then (Ok x) (Ok y) (Ok z) h k = then-earlier HasKeys empty-keys x.0 x.1 y.0 y.1 z.0 z.1 h k

pub onward-leads : (x : Step LinkEdge) (f : LinkEdge → Log → Step LinkEdge) → IsOnward f
    → Leads x (and_then x f)
onward-leads (Err e) f h = (refl, same-earlier HasKeys empty-keys e.edge e.log)
onward-leads (Ok x) f h = h x.0 x.1

pub opened-leads : (step : Step (Rows × LinkEdge)) (f : Rows × LinkEdge → Log → Step LinkEdge)
    → ((o : Rows × LinkEdge) (log : Log) → Goes (LinkOpened o.0 o.1) log (f o log))
    → Leads (open_edge step) (and_then step f)
opened-leads (Err e) f h = (refl, same-earlier HasKeys empty-keys e.edge e.log)
opened-leads (Ok x) f h = h x.0 x.1

-- below some rows
under-goes : (rows : Rows) (s : LinkEdge) (log : Log) → IsEarlier HasKeys s log (LinkOpened rows s) log
under-goes rows s log =
    record { written = λ w. record { made = w.made; begun = w.begun.1 }; reads = omega arith }

pub row-leads : (rows : Rows) (x : Step LinkEdge) → Leads x (under_rows rows x)
row-leads rows (Ok x) = under-goes rows x.0 x.1
row-leads rows (Err e) = (refl, under-goes rows e.edge e.log)

pub under-leads : (ls : List Rows) (x : Step LinkEdge) → Leads x (under ls x)
under-leads [] x = leads-same x
under-leads (r ∷ ls) x = leads-then x (under ls x) (under (r ∷ ls) x) (under-leads ls x) (row-leads r (under ls x))

pub joined-leads : (digest : List ℕ → List ℕ) (rows : Rows) (node : Shape) (x : Step LinkEdge)
    → Leads x (joined digest rows node x)
joined-leads digest rows (LastLink l) x = row-leads rows x
joined-leads digest rows (MoreLinks l e r) (Ok x) =
    then-earlier HasKeys empty-keys x.0 x.1 (LinkOpened rows x.0) x.1 _ _ (under-goes rows x.0 x.1)
    (row-earlier HasKeys empty-keys digest rows _ x.0 (link_edge (last_link r)) x.1)
joined-leads digest rows (MoreLinks l e r) (Err f) = (refl, under-goes rows f.edge f.log)

pub around-leads : (digest : List ℕ → List ℕ) (b : ℕ) (ls : List Rows) (fs : List Shape) (x : Step LinkEdge)
    → Leads x (around digest b ls fs x)
around-leads digest zero [] fs x = leads-same x
around-leads digest (suc b) [] fs x = leads-same x
around-leads digest zero (r ∷ ls) [] x =
    let y = around digest zero ls [] x in
    leads-then x y (under_rows r y) (around-leads digest zero ls [] x) (row-leads r y)
around-leads digest zero (r ∷ ls) (f ∷ fs) x =
    let y = around digest zero ls fs x in
    leads-then x y (joined digest r f y) (around-leads digest zero ls fs x) (joined-leads digest r f y)
around-leads digest (suc b) (r ∷ ls) fs x =
    let y = around digest b ls fs x in
    leads-then x y (under_rows r y) (around-leads digest b ls fs x) (row-leads r y)

-- ---- so many layers below

pub within-onward : (shows : List ℕ → Option Shape) (d : ℕ) (f : LinkEdge → Log → Step LinkEdge) → IsOnward f
    → IsOnward (within shows d f)
within-onward shows zero f h s log = h s log
within-onward shows (suc d) f h s log =
    steps-earlier HasKeys empty-keys (opening shows s log)
    (λ o log1. under_rows o.0 (within shows d f o.1 log1)) s log (λ o. LinkOpened o.0 o.1) (λ t. t)
    (opening-earlier HasKeys empty-keys shows s log)
    (λ o l. under-earlier HasKeys empty-keys o.0 o.1 l (within shows d f o.1 l) (within-onward shows d f h o.1 l))

-- the layer that is to be opened next
pub within-leads : (shows : List ℕ → Option Shape) (d : ℕ) (f : LinkEdge → Log → Step LinkEdge) → IsOnward f
    → (ls : List Rows) (rest : Option (List ℕ)) (log : Log) → length ls < d
    → Leads (open_edge (opening shows (link_edge rest) log)) (within shows d f (edge_of ls rest) log)
within-leads shows zero f h ls rest log n = absurd (omega arith)
within-leads shows (suc d) f h [] rest log n =
    opened-leads (opening shows (link_edge rest) log)
    (λ o log1. under_rows o.0 (within shows d f o.1 log1))
    (λ o l. under-earlier HasKeys empty-keys o.0 o.1 l (within shows d f o.1 l) (within-onward shows d f h o.1 l))
within-leads shows (suc d) f h (x ∷ ls) rest log n =
    let y = within shows d f (edge_of ls rest) log in
    leads-then (open_edge (opening shows (link_edge rest) log)) y (under_rows x y)
    (within-leads shows d f h ls rest log (omega arith)) (row-leads x y)

-- ---- a node that is read at this place

asked-earlier : (c : List ℕ) (o : Option Shape) (s : LinkEdge) (log : Log)
    → OnEnd (λ m. s) (log_shown c s o log) (IsEarlier HasKeys s log)
asked-earlier c None s log = same-earlier HasKeys empty-keys s log
asked-earlier c (Some m) s log =
    let a = length-append log.read (m ∷ []) in
    record { written = λ w. record { made = w.made; begun = w.begun }; reads = omega arith }

pub asked-goes : (shows : List ℕ → Option Shape) (c : List ℕ) (s : LinkEdge) (log : Log)
    (f : Shape → Log → Step LinkEdge) → ((m : Shape) (l : Log) → Goes s l (f m l))
    → Goes s log (and_then (ask shows c s log) f)
asked-goes shows c s log f h =
    steps-earlier HasKeys empty-keys (ask shows c s log) f s log (λ m. s) (λ t. t) (asked-earlier c (shows c) s log) h

asked-reads : (c : List ℕ) (o : Option Shape) (s : LinkEdge) (log : Log) (f : Shape → Log → Step LinkEdge)
    → ((m : Shape) (l : Log) → Goes s l (f m l))
    → ReadsMore log (and_then (log_shown c s o log) f)
asked-reads c None s log f h = omega arith
asked-reads c (Some m) s log f h = found (f m (with_read m log)) (h m (with_read m log))
  where
    found : (x : Step LinkEdge) → Goes s (with_read m log) x → ReadsMore log x
    found (Err e) g = let i = g.reads in let a = length-append log.read (m ∷ []) in asks-more log e.why e.log (omega arith)
    found (Ok y) g = let i = g.reads in let a = length-append log.read (m ∷ []) in omega arith

asked-none : (c : List ℕ) (o : Option Shape) (s : LinkEdge) (log : Log) (f : Shape → Log → Step LinkEdge) → o ≡ None
    → StopsAt (NotShown c) (and_then (log_shown c s o log) f)
asked-none c None s log f e = refl
asked-none c (Some m) s log f e = absurd cc

-- it isn't read
pub asked-unread : {A : Type 0} (gives : List ℕ → Option A) (shows : List ℕ → Option Shape) (b : Budget) (a : ℕ)
    (c : List ℕ) (s : LinkEdge) (log : Log) (g : Shape → Log → Step LinkEdge) (f : Fault)
    → ((m : Shape) (l : Log) → Goes s l (g m l)) → IsUnread gives b a c (shows c) f
    → IsStopped gives b a log (and_then (ask shows c s log) g) f
asked-unread gives shows b a c s log g f h u =
    unread-stopped gives b a c (shows c) log (and_then (ask shows c s log) g) f (asked-none c (shows c) s log g)
    (asked-reads c (shows c) s log g h) u
