-- A whole tree.
use Rattle.std.proofs.Common.{◌≡◌, ℕ, suc, ◌+◌, ◌-◌, ◌≤◌, ◌<◌, max, List, [], ◌∷◌, length, length-append, refl, sym, ap, subst, ◌∙◌, arith, Option, Err, Ok}
use Rattle.std.specs.declared.option.Option.TheVariants.{Some}
use Rattle.std.proofs.Math.Nat.{div-le_self}
use Rattle.spec.specs.Layer.{zero_bits, layer as layer_of}
use Rattle.spec.specs.NodeFormat.{Shape, LastLink, MoreLinks}
use Rattle.spec.proofs.LayerLaws.{zero_bits-le}
use Rattle.edit_laws.specs.Lawful.{HasKeys}
use Rattle.edit_laws.specs.ShapeEdit.{layer_of_shape}
use Rattle.batch_laws.specs.Batch.{Change}
use Rattle.batch_laws.specs.Counts.{most_reads, most_from, layers_needed}
use Rattle.batch_laws.specs.Links.{LinkEdge, LinkClear, Log, Top, and_then, ask, walking, walking_top, topping, batch_from, Step}
use Rattle.batch_laws.proofs.Earlier.{steps-earlier, walking_node-earlier, walking-earlier}
use Rattle.batch_laws.specs.Previous.{previous_node, previous_gap, previous_top}
use Rattle.edit.specs.Agenda.{node_does}
use Rattle.edit.specs.Budgets.{Budget}
use Rattle.edit.specs.States.{IsCounted}
use Rattle.edit.proofs.Bounds.{most-one, most-shown}
use Rattle.edit.proofs.Topping.{was-shown}
use Rattle.edit.specs.Tops.{IsEnded}
use Rattle.batch_laws.specs.Within.{IsWithin, at_top}
use Rattle.edit.specs.Stops.{IsStopped, IsUnshown, IsUnread}
use Rattle.edit.specs.declared.outcome.Fault.{Fault}
use Rattle.edit.specs.declared.outcome.Fault.TheVariants as faults
use Rattle.edit.proofs.Stopping.{empty-keys, Goes, leads-stopped, onward-leads, from-stopped, memory-stopped, asked-unread}
use Rattle.edit.proofs.Ending.{top-goes}
use Rattle.std.specs.List.{AllByRecursion}
use Rattle.batch_laws.specs.Written.{AreWritten}
use Rattle.edit.specs.Halts.{IsHalted, IsReachedFor}
use Rattle.edit.proofs.Halts.{halted-by, halted-reached, then-follows}

pub whole : (digest : List ℕ → List ℕ) (shows : List ℕ → Option Shape) (layer : List ℕ → ℕ) (n t d : ℕ) (cs : List Change)
    (root : List ℕ) (node : Shape) (start first : Log) (begun s : LinkEdge) (later : Log) (top : List ℕ) (gone : ℕ) (now : Log)
    → start ≡ record { read = []; made = [] } → ask shows root LinkClear start ≡ Ok (node, first)
    → t ≡ layer_of_shape layer node → d ≡ n - suc t → begun ≡ LinkClear
    → node_does digest shows layer n t d cs node begun first ≡ Ok (s, later)
    → IsEnded (topping digest shows n s later) top gone now
    → IsEnded (batch_from digest shows layer n cs root) top gone now
whole digest shows layer n t d cs root node start first begun s later top gone now e a t_is d_is b w i = record {
  left = i.left;
  next = i.next;
  is = ap (λ x. and_then (ask shows root LinkClear x) (λ m log. and_then (walking_top digest shows layer n cs m log) (topping digest shows n))) (sym e)
      ∙ ap (λ x. and_then x (λ m log. and_then (walking_top digest shows layer n cs m log) (topping digest shows n))) a
      ∙ ap (λ m. and_then (node_does digest shows layer n m (n - suc m) cs node LinkClear first) (topping digest shows n)) (sym t_is)
      ∙ ap (λ m. and_then (node_does digest shows layer n t m cs node LinkClear first) (topping digest shows n)) (sym d_is)
      ∙ ap (λ m. and_then (node_does digest shows layer n t d cs node m first) (topping digest shows n)) (sym b)
      ∙ ap (λ x. and_then x (topping digest shows n)) w ∙ i.is;
  read = i.read;
  made = i.made;
  gone_is = i.gone_is;
}

pub met : (shows : List ℕ → Option Shape) (layer : List ℕ → ℕ) (t : ℕ) (cs : List Change) (root : List ℕ) (node top : Shape)
    (start first : Log) (values : List (Option (List ℕ))) → ask shows root LinkClear start ≡ Ok (node, first)
    → t ≡ layer_of_shape layer node → values ≡ previous_node (previous_gap shows t) cs node → shows root ≡ Some top
    → values ≡ previous_top shows layer cs top
met shows layer t cs root node top start first values a t_is v h =
    let s = was-shown root (shows root) node start first a in
    let e : Some node ≡ Some top = sym s.is ∙ h in
    let same : node ≡ top = cc in
    v ∙ ap (λ m. previous_node (previous_gap shows m) cs node) t_is ∙ ap (previous_top shows layer cs) same

pub counted-all : (b m k a : Budget) (n : ℕ) (start first mid last : Log) → start ≡ record { read = []; made = [] }
    → IsCounted b m start first → IsCounted m k first mid → IsCounted k a mid last → length last.read ≡ n → a.0 ≡ b.0 + n
counted-all b m k a n start first mid last e f g h l =
    let none = ap (λ (x : Log). length x.read) e in
    omega arith

-- no more was read than was left
pub counted-within : (b m k a : Budget) (most : ℕ) (start first mid last : Log) → IsCounted b m start first
    → IsCounted m k first mid → IsCounted k a mid last → b.1 ≤ most → a.0 ≤ b.0 + most
counted-within b m k a most start first mid last f g h l = omega arith

-- nor where it stopped later
pub stopped-within : (b m : Budget) (a most : ℕ) (start first : Log) → IsCounted b m start first → a ≤ m.0 + m.1
    → b.1 ≤ most → a ≤ b.0 + most
stopped-within b m a most start first f h l = omega arith

-- the root is read, and then as many are left as a batch reads below it
pub first-counted : (shows : List ℕ → Option Shape) (layer : List ℕ → ℕ) (t : ℕ) (cs : List Change) (root : List ℕ)
    (node : Shape) (start first : Log) (b m : Budget) (more : ℕ) → ask shows root LinkClear start ≡ Ok (node, first)
    → t ≡ layer_of_shape layer node → b.1 ≡ 1 → more ≡ most_reads t cs → IsCounted b m start first
    → IsCounted (b.0, most_from layer cs (shows root)) (m.0, more) start first
first-counted shows layer t cs root node start first b m more a t_is one h i =
    let seen = was-shown root (shows root) node start first a in
    let most = most-shown layer cs (shows root) node t seen.is t_is in
    let now = ap (λ (x : Log). length x.read) seen.log_is in
    let longer = length-append start.read (node ∷ []) in
    record { reads = i.reads; left = omega arith }

-- ---- how many layers it has

pub needed : (layer : List ℕ → ℕ) (wanted t n : ℕ) (o : Option Shape) (node : Shape) → o ≡ Some node
    → t ≡ layer_of_shape layer node → n ≡ max (suc t) wanted → n ≡ layers_needed layer wanted o
needed layer wanted t n o node s e h =
    h ∙ ap (λ x. max (suc x) wanted) e ∙ sym (ap (layers_needed layer wanted) s)

-- a digest of 32 bytes has no more than 256 zero bits
pub low-layer : (digest : List ℕ → List ℕ) (bits : ℕ) → ((bytes : List ℕ) → length (digest bytes) ≡ 32) → (s : Shape) (t : ℕ)
    → t ≡ layer_of_shape (layer_of digest bits) s → t < 65535
low-layer digest bits fits (LastLink l) t e = omega arith
low-layer digest bits fits (MoreLinks l p r) t e =
    let zeros = zero_bits-le (digest p.0) in
    let long = fits p.0 in
    let part = div-le_self (zero_bits (digest p.0)) bits in
    omega arith

-- ---- where it stops

at-top-then : {B : Type 0} (x : Step B) (f : B → Log → Step Top)
    → at_top (and_then x f) ≡ and_then x (λ b l. at_top (f b l))
at-top-then (Err stop) f = refl
at-top-then (Ok x) f = refl

module _ {A : Type 0} (gives : List ℕ → Option A) (digest : List ℕ → List ℕ) (shows : List ℕ → Option Shape)
    (layer : List ℕ → ℕ) (n : ℕ) (cs : List Change) (root : List ℕ) where
  abbrev batch : Step LinkEdge
  batch = at_top (batch_from digest shows layer n cs root)

  abbrev none : Log
  none = record { read = []; made = [] }

  then-top-goes : (k d : ℕ) (node : Shape) (s : LinkEdge) (log : Log)
      → Goes s log (at_top (and_then (node_does digest shows layer n k d cs node s log) (topping digest shows n)))
  then-top-goes k d node s log =
      let x = node_does digest shows layer n k d cs node s log in
      subst (Goes s log) (sym (at-top-then x (topping digest shows n)))
      (steps-earlier HasKeys empty-keys x (λ t l. at_top (topping digest shows n t l)) s log (λ t. t) (λ t. t)
      (walking_node-earlier HasKeys empty-keys digest shows d (walking digest shows layer n k (suc d))
      (walking-earlier HasKeys empty-keys digest shows layer n k (suc d)) cs s node log)
      (λ t l. top-goes digest shows n t l))

  -- where one node might be read, more may be
  unread-more : (b a left most : ℕ) (c : List ℕ) (o : Option Shape) (f : Fault) → left ≡ 1 → 1 ≤ most
      → IsUnread gives (b, left) a c o f → IsUnread gives (b, most) a c o f
  unread-more b a left most c o f e h u = record { cause = why f u.cause; reads = u.reads; few = within u.few }
    where
      why : (g : Fault) → IsUnshown gives left c o g → IsUnshown gives most c o g
      why (faults.Missing b) k = k
      why (faults.BadNode b) k = k
      why faults.TooDeep k = absurd k
      why faults.NotTree k = absurd (omega arith)
      why faults.NoMemory k = tt

      within : a ≤ b + left → a ≤ b + most
      within n = omega arith

  pub root-unread : (b a left : ℕ) (f : Fault) → left ≡ 1 → IsUnread gives (b, left) a root (shows root) f
      → IsStopped gives (b, most_from layer cs (shows root)) a none batch f
  root-unread b a left f e u =
      let all : Budget = (b, most_from layer cs (shows root)) in
      let step = λ (m : Shape) (l : Log). at_top (and_then (walking_top digest shows layer n cs m l) (topping digest shows n)) in
      subst (λ o. IsStopped gives all a none o f)
      (sym (at-top-then (ask shows root LinkClear none)
      (λ m l. and_then (walking_top digest shows layer n cs m l) (topping digest shows n))))
      (asked-unread gives shows all a root LinkClear none step f
      (λ m l. then-top-goes (layer_of_shape layer m) (n - suc (layer_of_shape layer m)) m LinkClear l)
      (unread-more b a left all.1 root (shows root) f e (most-one layer cs (shows root)) u))

  from-is : (t d : ℕ) (node : Shape) (start first : Log) (begun : LinkEdge) → start ≡ none
      → ask shows root LinkClear start ≡ Ok (node, first) → t ≡ layer_of_shape layer node → d ≡ n - suc t → begun ≡ LinkClear
      → batch_from digest shows layer n cs root
      ≡ and_then (node_does digest shows layer n t d cs node begun first) (topping digest shows n)
  from-is t d node start first begun e a t_is d_is b =
      ap (λ x. and_then (ask shows root LinkClear x) (λ m log. and_then (walking_top digest shows layer n cs m log) (topping digest shows n))) (sym e)
      ∙ ap (λ x. and_then x (λ m log. and_then (walking_top digest shows layer n cs m log) (topping digest shows n))) a
      ∙ ap (λ m. and_then (node_does digest shows layer n m (n - suc m) cs node LinkClear first) (topping digest shows n)) (sym t_is)
      ∙ ap (λ m. and_then (node_does digest shows layer n t m cs node LinkClear first) (topping digest shows n)) (sym d_is)
      ∙ ap (λ m. and_then (node_does digest shows layer n t d cs node m first) (topping digest shows n)) (sym b)

  batch-is : (t d : ℕ) (node : Shape) (start first : Log) (begun : LinkEdge) → start ≡ none
      → ask shows root LinkClear start ≡ Ok (node, first) → t ≡ layer_of_shape layer node → d ≡ n - suc t → begun ≡ LinkClear
      → batch ≡ at_top (and_then (node_does digest shows layer n t d cs node begun first) (topping digest shows n))
  batch-is t d node start first begun e a t_is d_is b = ap at_top (from-is t d node start first begun e a t_is d_is b)

  -- the old top is read, and what comes after that stops
  module _ (t d : ℕ) (node : Shape) (start first : Log) (begun : LinkEdge) (e : start ≡ none)
      (shown : ask shows root LinkClear start ≡ Ok (node, first)) (t_is : t ≡ layer_of_shape layer node) (d_is : d ≡ n - suc t)
      (clear : begun ≡ LinkClear) where
    abbrev rest : Step LinkEdge
    rest = at_top (and_then (node_does digest shows layer n t d cs node begun first) (topping digest shows n))

    from-first : (b m : Budget) (a : ℕ) (f : Fault) → IsCounted b m start first → IsStopped gives m a first rest f
        → IsStopped gives b a none batch f
    from-first b m a f i s =
        subst (λ o. IsStopped gives b a none o f) (sym (batch-is t d node start first begun e shown t_is d_is clear))
        (subst (λ l. IsStopped gives b a l rest f) e (from-stopped gives b m a start first rest f i s))

    pub rows-memory : (b a : Budget) → IsCounted b a start first → IsStopped gives b a.0 none batch faults.NoMemory
    rows-memory b a i =
        from-first b a a.0 faults.NoMemory i
        (memory-stopped gives a begun first rest (then-top-goes t d node begun first))

    pub walk-stopped : (b m : Budget) (a : ℕ) (f : Fault) → IsCounted b m start first
        → IsStopped gives m a first (node_does digest shows layer n t d cs node begun first) f
        → IsStopped gives b a none batch f
    walk-stopped b m a f i s =
        let x = node_does digest shows layer n t d cs node begun first in
        from-first b m a f i
        (subst (λ o. IsStopped gives m a first o f) (sym (at-top-then x (topping digest shows n)))
        (leads-stopped gives m a first x (and_then x (λ u l. at_top (topping digest shows n u l))) f
        (onward-leads x (λ u l. at_top (topping digest shows n u l)) (λ u l. top-goes digest shows n u l)) s))

    pub finish-stopped : (b m k : Budget) (a : ℕ) (f : Fault) (u : LinkEdge) (later : Log) → IsCounted b m start first
        → IsCounted m k first later
        → node_does digest shows layer n t d cs node begun first ≡ Ok (u, later)
        → IsStopped gives k a later (at_top (topping digest shows n u later)) f → IsStopped gives b a none batch f
    finish-stopped b m k a f u later i j w s =
        from-first b m a f i
        (subst (λ o. IsStopped gives m a first (at_top (and_then o (topping digest shows n))) f) (sym w)
        (from-stopped gives m k a first later (at_top (topping digest shows n u later)) f j s))

    -- and what it reaches

    abbrev result : Step Top
    result = batch_from digest shows layer n cs root

    pub walk-reached : (most : ℕ) (s : LinkEdge) (now : Log) (f : Fault)
        → IsHalted most s now (node_does digest shows layer n t d cs node begun first) f → AreWritten HasKeys s now
        → IsReachedFor most result f
    walk-reached most s now f h w =
        let x = node_does digest shows layer n t d cs node begun first in
        let y = and_then x (topping digest shows n) in
        subst (λ o. IsReachedFor most o f) (sym (from-is t d node start first begun e shown t_is d_is clear))
        (halted-reached most s now y f
        (subst (λ o. IsHalted most s now o f) (sym (at-top-then x (topping digest shows n)))
        (halted-by s s x (and_then x (λ u l. at_top (topping digest shows n u l))) most now f
        (then-follows s x (λ u l. at_top (topping digest shows n u l))) h)) w)

    pub finish-reached : (most : ℕ) (s : LinkEdge) (now : Log) (f : Fault) (u : LinkEdge) (later : Log)
        → node_does digest shows layer n t d cs node begun first ≡ Ok (u, later)
        → IsHalted most s now (at_top (topping digest shows n u later)) f → AreWritten HasKeys s now → IsReachedFor most result f
    finish-reached most s now f u later k h w =
        subst (λ o. IsReachedFor most o f)
        (sym (from-is t d node start first begun e shown t_is d_is clear ∙ ap (λ o. and_then o (topping digest shows n)) k))
        (halted-reached most s now (topping digest shows n u later) f h w)

-- where there is an answer
pub ended-reached : (most : ℕ) (answer : Step Top) (root : List ℕ) (gone : ℕ) (now : Log) → IsEnded answer root gone now
    → length now.read ≤ most → AllByRecursion HasKeys now.made → IsWithin most (at_top answer)
ended-reached most answer root gone now w n h =
    subst (λ o. IsWithin most (at_top o)) (sym w.is) (
      subst (λ (xs : List Shape). length xs ≤ most) w.read n,
      record { made = subst (λ (xs : List Shape). AllByRecursion HasKeys xs) w.made h; begun = tt },
    )
