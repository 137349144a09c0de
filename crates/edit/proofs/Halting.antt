-- A walk that stops.
use Rattle.std.proofs.Common.{◌≡◌, ℕ, suc, ◌<◌, List, [], ◌∷◌, ◌++◌, length, drop, sym, ap, subst, ◌∙◌, arith, Option, Ok, Result}
use Rattle.std.specs.Prelude.{IfErr}
use Rattle.std.specs.declared.option.Option.TheVariants.{Some, None}
use Rattle.spec.specs.Tree.{Pair}
use Rattle.spec.specs.NodeFormat.{Shape}
use Rattle.edit_laws.specs.Lawful.{HasKeys}
use Rattle.batch_laws.specs.Batch.{Change, puts, if_put, entry}
use Rattle.batch_laws.specs.Walking.{depth_of}
use Rattle.batch_laws.specs.Links.{LinkEdge, Log, and_then, ask, pairing, pairs_in_turn, subtreeing, walking_node, walking, Step, LinkClear}
use Rattle.batch_laws.proofs.Earlier.{steps-earlier, pairs-earlier, walking_node-earlier, walking-earlier}
use Rattle.rows.specs.declared.draft.DraftFault.{DraftFault}
use Rattle.edit.specs.Budgets.{Budget}
use Rattle.edit.specs.declared.outcome.Fault.{Fault}
use Rattle.edit.specs.declared.outcome.Fault.TheVariants as faults
use Rattle.edit.specs.Agenda.{Later, Gap, Task, ToPair, ToGap, node_does, task_does, agenda_does, IsGoneOn}
use Rattle.edit.specs.States.{IsCounted}
use Rattle.edit.specs.Stops.{IsStopped, IsUnread, IsRefused, draft_fault_of}
use Rattle.edit.proofs.Stopping.{empty-keys, Goes, Leads, leads-stopped, leads-same, leads-then, onward-leads, from-stopped, refused-stopped, memory-stopped, asked-unread}
use Rattle.edit.proofs.Putting.{alone}
use Rattle.edit.proofs.Walking.{does-more, does-none, walks-down}

module _ {A : Type 0} (gives : List ℕ → Option A) (digest : List ℕ → List ℕ) (shows : List ℕ → Option Shape) where
  -- ---- pairs

  pub pairs-memory : (a : Budget) (depth : List ℕ → ℕ) (ps : List Pair) (s : LinkEdge) (log : Log)
      → IsStopped gives a a.0 log (pairs_in_turn digest shows depth ps s log) faults.NoMemory
  pairs-memory a depth ps s log =
      memory-stopped gives a s log (pairs_in_turn digest shows depth ps s log)
      (pairs-earlier HasKeys empty-keys digest shows depth ps s log)

  first-leads : (depth : List ℕ → ℕ) (key : List ℕ) (v : Option (List ℕ)) (rest : List Pair) (s : LinkEdge) (log : Log)
      → Leads (pairs_in_turn digest shows depth (if_put key v []) s log)
      (pairs_in_turn digest shows depth (if_put key v rest) s log)
  first-leads depth key None rest s log = pairs-earlier HasKeys empty-keys digest shows depth rest s log
  first-leads depth key (Some w) rest s log =
      let x = pairing digest shows (depth key) (key, w) s log in
      subst (λ o. Leads o (and_then x (pairs_in_turn digest shows depth rest))) (sym (alone digest shows depth x))
      (onward-leads x (pairs_in_turn digest shows depth rest)
      (λ t l. pairs-earlier HasKeys empty-keys digest shows depth rest t l))

  -- the pair of one change
  pub one-stopped : {X : Type 0} (depth : List ℕ → ℕ) (b : Budget) (a d : ℕ) (e : Pair) (key : List ℕ)
      (o : Option (List ℕ)) (s : LinkEdge) (log : Log) (r : Result X Fault) → e.0 ≡ key → o ≡ Some e.1 → d ≡ depth key
      → IfErr r (IsStopped gives b a log (pairing digest shows d e s log))
      → IfErr r (IsStopped gives b a log (pairs_in_turn digest shows depth (if_put key o []) s log))
  one-stopped depth b a d e key o s log r k v h t =
      subst (λ (x : Step LinkEdge). IfErr r (IsStopped gives b a log x))
      (ap (λ m. pairing digest shows m e s log) h
      ∙ ap (λ x. pairing digest shows (depth key) (x, e.1) s log) k
      ∙ sym (alone digest shows depth (pairing digest shows (depth key) (key, e.1) s log))
      ∙ ap (λ x. pairs_in_turn digest shows depth (if_put key x []) s log) (sym v)) t

  -- one of the changes, where those before it are done
  pub puts-stopped : (b m : Budget) (a : ℕ) (depth : List ℕ → ℕ) (all : Step LinkEdge) (cs : List Change) (i : ℕ)
      (c : Change) (s : LinkEdge) (start log : Log) (f : Fault) → drop i cs ≡ c ∷ drop (suc i) cs
      → all ≡ pairs_in_turn digest shows depth (puts (drop i cs)) s log → IsCounted b m start log
      → IsStopped gives m a log (pairs_in_turn digest shows depth (if_put c.0 c.1 []) s log) f
      → IsStopped gives b a start all f
  puts-stopped b m a depth all cs i c s start log f d e n t =
      let rest = puts (drop (suc i) cs) in
      subst (λ o. IsStopped gives b a start o f)
      (sym (e ∙ ap (λ ds. pairs_in_turn digest shows depth (puts ds) s log) d))
      (from-stopped gives b m a start log (pairs_in_turn digest shows depth (if_put c.0 c.1 rest) s log) f n
      (leads-stopped gives m a log (pairs_in_turn digest shows depth (if_put c.0 c.1 []) s log)
      (pairs_in_turn digest shows depth (if_put c.0 c.1 rest) s log) f (first-leads depth c.0 c.1 rest s log) t))

  pub puts-memory : (b a : Budget) (depth : List ℕ → ℕ) (all : Step LinkEdge) (ps : List Pair) (s : LinkEdge)
      (start log : Log) → all ≡ pairs_in_turn digest shows depth ps s log → IsCounted b a start log
      → IsStopped gives b a.0 start all faults.NoMemory
  puts-memory b a depth all ps s start log e n =
      subst (λ o. IsStopped gives b a.0 start o faults.NoMemory) (sym e)
      (from-stopped gives b a a.0 start log (pairs_in_turn digest shows depth ps s log) faults.NoMemory n
      (pairs-memory a depth ps s log))

  module _ (layer : List ℕ → ℕ) (n : ℕ) where
    -- ---- what goes on

    pub node-goes : (k d : ℕ) (cs : List Change) (r : Shape) (s : LinkEdge) (log : Log)
        → Goes s log (node_does digest shows layer n k d cs r s log)
    node-goes k d cs r s log =
        walking_node-earlier HasKeys empty-keys digest shows d (walking digest shows layer n k (suc d))
        (walking-earlier HasKeys empty-keys digest shows layer n k (suc d)) cs s r log

    pub node-memory : (a : Budget) (k d : ℕ) (cs : List Change) (r : Shape) (s : LinkEdge) (log : Log)
        → IsStopped gives a a.0 log (node_does digest shows layer n k d cs r s log) faults.NoMemory
    node-memory a k d cs r s log =
        memory-stopped gives a s log (node_does digest shows layer n k d cs r s log) (node-goes k d cs r s log)

    pub node-refused : (a : Budget) (k d : ℕ) (cs : List Change) (r : Shape) (s : LinkEdge) (log : Log) (f : DraftFault)
        → IsRefused (node_does digest shows layer n k d cs r s log) f
        → IsStopped gives a a.0 log (node_does digest shows layer n k d cs r s log) (draft_fault_of f)
    node-refused a k d cs r s log f h =
        refused-stopped gives a s log (node_does digest shows layer n k d cs r s log) f h (node-goes k d cs r s log)

    task-goes : (f : Task) (s : LinkEdge) (log : Log) → Goes s log (task_does digest shows layer n f s log)
    task-goes (ToPair f) s log =
        let depth = λ (key : List ℕ). f.depth in
        steps-earlier HasKeys empty-keys (pairs_in_turn digest shows depth (entry f.at f.pair) s log)
        (node_does digest shows layer n f.layer f.depth f.changes f.rest) s log (λ t. t) (λ t. t)
        (pairs-earlier HasKeys empty-keys digest shows depth (entry f.at f.pair) s log)
        (λ t l. node-goes f.layer f.depth f.changes f.rest t l)
    task-goes (ToGap g) s log =
        walking-earlier HasKeys empty-keys digest shows layer n g.layer g.depth g.link g.changes s log

    agenda-leads : (fs : List Task) (x : Step LinkEdge) → Leads x (agenda_does digest shows layer n fs x)
    agenda-leads [] x = leads-same x
    agenda-leads (f ∷ fs) x =
        let y = agenda_does digest shows layer n fs x in
        leads-then x y (and_then y (task_does digest shows layer n f)) (agenda-leads fs x)
        (onward-leads y (task_does digest shows layer n f) (task-goes f))

    -- ---- a task

    pub gap-none : (b : Budget) (a : ℕ) (g : Gap) (s : LinkEdge) (log : Log) (f : Fault) → g.link ≡ None
        → IsStopped gives b a log (pairs_in_turn digest shows (depth_of layer n) (puts g.changes) s log) f
        → IsStopped gives b a log (task_does digest shows layer n (ToGap g) s log) f
    gap-none b a g s log f e t =
        subst (λ o. IsStopped gives b a log o f)
        (sym (ap (λ l. walking digest shows layer n g.layer g.depth l g.changes s log) e
        ∙ does-none digest shows layer n g.layer g.depth g.changes s log)) t

    pub gap-subtree : (b : Budget) (a k : ℕ) (g : Gap) (c : List ℕ) (s : LinkEdge) (log : Log) (f : Fault) → g.link ≡ Some c
        → g.layer ≡ suc k → g.changes ≡ [] → IsStopped gives b a log (subtreeing digest shows g.layer g.depth c s log) f
        → IsStopped gives b a log (task_does digest shows layer n (ToGap g) s log) f
    gap-subtree b a k g c s log f e m q t =
        subst (λ o. IsStopped gives b a log o f)
        (sym (ap (λ l. walking digest shows layer n g.layer g.depth l g.changes s log) e
        ∙ ap (λ cs. walking digest shows layer n g.layer g.depth (Some c) cs s log) q
        ∙ ap (λ j. walking digest shows layer n j g.depth (Some c) [] s log) m
        ∙ ap (λ j. subtreeing digest shows j g.depth c s log) (sym m))) t

    gap-reads : (b : Budget) (a k d : ℕ) (c : List ℕ) (cs : List Change) (s : LinkEdge) (log : Log) (f : Fault) → 0 < length cs
        → IsUnread gives b a c (shows c) f
        → IsStopped gives b a log (walking digest shows layer n (suc k) d (Some c) cs s log) f
    gap-reads b a k d c [] s log f z u = absurd (omega arith)
    gap-reads b a k d c (x ∷ cs) s log f z u =
        asked-unread gives shows b a c s log
        (walking_node digest shows d (walking digest shows layer n k (suc d)) (x ∷ cs) s) f
        (λ m l. node-goes k d (x ∷ cs) m s l) u

    pub gap-unread : (b : Budget) (a k : ℕ) (g : Gap) (c : List ℕ) (s : LinkEdge) (log : Log) (f : Fault) → g.link ≡ Some c
        → g.layer ≡ suc k → 0 < length g.changes → IsUnread gives b a c (shows c) f
        → IsStopped gives b a log (task_does digest shows layer n (ToGap g) s log) f
    gap-unread b a k g c s log f e m z u =
        subst (λ o. IsStopped gives b a log o f)
        (sym (ap (λ l. walking digest shows layer n g.layer g.depth l g.changes s log) e
        ∙ ap (λ j. walking digest shows layer n j g.depth (Some c) g.changes s log) m))
        (gap-reads b a k g.depth c g.changes s log f z u)

    pub gap-refused : (b a : Budget) (k : ℕ) (g : Gap) (c : List ℕ) (node : Shape) (s : LinkEdge) (log now : Log)
        (f : DraftFault) → g.link ≡ Some c
        → g.layer ≡ suc k → 0 < length g.changes → ask shows c LinkClear log ≡ Ok (node, now) → IsCounted b a log now
        → IsRefused (node_does digest shows layer n k g.depth g.changes node s now) f
        → IsStopped gives b a.0 log (task_does digest shows layer n (ToGap g) s log) (draft_fault_of f)
    gap-refused b a k g c node s log now f e m z q i r =
        subst (λ o. IsStopped gives b a.0 log o (draft_fault_of f))
        (sym (ap (λ l. walking digest shows layer n g.layer g.depth l g.changes s log) e
        ∙ ap (λ j. walking digest shows layer n j g.depth (Some c) g.changes s log) m
        ∙ walks-down digest shows layer n k g.depth c g.changes node s log now z q))
        (from-stopped gives b a a.0 log now (node_does digest shows layer n k g.depth g.changes node s now) (draft_fault_of f) i
        (node-refused a k g.depth g.changes node s now f r))

    pub entry-stopped : (b : Budget) (a : ℕ) (p : Later) (s : LinkEdge) (log : Log) (f : Fault)
        → IsStopped gives b a log (pairs_in_turn digest shows (λ key. p.depth) (entry p.at p.pair) s log) f
        → IsStopped gives b a log (task_does digest shows layer n (ToPair p) s log) f
    entry-stopped b a p s log f t =
        let x = pairs_in_turn digest shows (λ key. p.depth) (entry p.at p.pair) s log in
        let g = node_does digest shows layer n p.layer p.depth p.changes p.rest in
        leads-stopped gives b a log x (and_then x g) f
        (onward-leads x g (λ u l. node-goes p.layer p.depth p.changes p.rest u l)) t

    pub entry-refused : (b a : Budget) (p : Later) (s t : LinkEdge) (log later : Log) (f : DraftFault)
        → pairs_in_turn digest shows (λ key. p.depth) (entry p.at p.pair) s log ≡ Ok (t, later) → IsCounted b a log later
        → IsRefused (node_does digest shows layer n p.layer p.depth p.changes p.rest t later) f
        → IsStopped gives b a.0 log (task_does digest shows layer n (ToPair p) s log) (draft_fault_of f)
    entry-refused b a p s t log later f e i r =
        let g = node_does digest shows layer n p.layer p.depth p.changes p.rest in
        subst (λ o. IsStopped gives b a.0 log o (draft_fault_of f)) (sym (ap (λ x. and_then x g) e))
        (from-stopped gives b a a.0 log later (g t later) (draft_fault_of f) i
        (node-refused a p.layer p.depth p.changes p.rest t later f r))

    -- ---- the whole walk

    pub walk-begun : (k d : ℕ) (cs : List Change) (r : Shape) (first start : List Task) (s t : LinkEdge) (log : Log)
        → IsGoneOn k d cs r first start s t → first ≡ []
        → node_does digest shows layer n k d cs r s log ≡ agenda_does digest shows layer n start (Ok (t, log))
    walk-begun k d cs r first start s t log w e =
        sym (ap (λ ys. agenda_does digest shows layer n ys (node_does digest shows layer n k d cs r s log)) e)
        ∙ w.does digest shows layer n log

    pub task-stopped : (b m : Budget) (a : ℕ) (whole all : Step LinkEdge) (fs gs : List Task) (t : Task)
        (s : LinkEdge) (start log : Log) (f : Fault) → whole ≡ all → all ≡ agenda_does digest shows layer n fs (Ok (s, log))
        → fs ≡ gs ++ (t ∷ []) → IsCounted b m start log
        → IsStopped gives m a log (task_does digest shows layer n t s log) f → IsStopped gives b a start whole f
    task-stopped b m a whole all fs gs t s start log f w e q i h =
        let x = task_does digest shows layer n t s log in
        subst (λ o. IsStopped gives b a start o f)
        (sym (w ∙ e ∙ ap (λ ys. agenda_does digest shows layer n ys (Ok (s, log))) q
        ∙ does-more digest shows layer n gs t (Ok (s, log))))
        (from-stopped gives b m a start log (agenda_does digest shows layer n gs x) f i
        (leads-stopped gives m a log x (agenda_does digest shows layer n gs x) f (agenda-leads gs x) h))
