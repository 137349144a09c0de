-- The agenda of the walk.
use Rattle.std.proofs.Common.{◌≡◌, ℕ, zero, suc, ◌+◌, ◌<◌, List, [], ◌∷◌, ◌++◌, refl, sym, ap, ◌∙◌, arith, Option, ◌-◌, length, Ok}
use Rattle.std.proofs.lemmas.List.{append_assoc, append-nil}
use Rattle.std.specs.declared.option.Option.TheVariants.{Some, None}
use Rattle.spec.specs.Tree.{Pair}
use Rattle.spec.specs.NodeFormat.{Shape, LastLink, MoreLinks}
use Rattle.batch_laws.specs.Batch.{Change, before, at_key, after, entry, puts}
use Rattle.batch_laws.specs.Walking.{depth_of}
use Rattle.batch_laws.specs.Previous.{value_met, previous_node, previous_gap, previous_shown, no_values}
use Rattle.batch_laws.specs.Links.{LinkEdge, Log, and_then, ask, log_shown, with_read, pairs_in_turn, walking_node, walking, subtreeing, Step, LinkClear}
use Rattle.edit.proofs.Topping.{ok-same, read-at}
use Rattle.edit.specs.Agenda.{Later, Gap, Task, ToPair, ToGap, node_does, task_does, agenda_does, task_meets, agenda_meets, size_of_node, size_of_gap, size_shown, task_size, agenda_size, IsPutOff, IsGoneOn, IsDone}

-- ---- one more on the agenda

pub does-more : (digest : List ℕ → List ℕ) (shows : List ℕ → Option Shape) (layer : List ℕ → ℕ) (n : ℕ)
    (fs : List Task) (f : Task) (x : Step LinkEdge)
    → agenda_does digest shows layer n (fs ++ (f ∷ [])) x
    ≡ agenda_does digest shows layer n fs (and_then x (task_does digest shows layer n f))
does-more digest shows layer n [] f x = refl
does-more digest shows layer n (g ∷ fs) f x =
    ap (λ y. and_then y (task_does digest shows layer n g)) (does-more digest shows layer n fs f x)

pub meets-more : (shows : List ℕ → Option Shape) (fs : List Task) (f : Task)
    → agenda_meets shows (fs ++ (f ∷ [])) ≡ task_meets shows f ++ agenda_meets shows fs
meets-more shows [] f = sym (append-nil (task_meets shows f))
meets-more shows (g ∷ fs) f =
    ap (λ ys. ys ++ task_meets shows g) (meets-more shows fs f)
    ∙ append_assoc (task_meets shows f) (agenda_meets shows fs) (task_meets shows g)

pub size-more : (shows : List ℕ → Option Shape) (fs : List Task) (f : Task)
    → agenda_size shows (fs ++ (f ∷ [])) ≡ agenda_size shows fs + task_size shows f
size-more shows [] f = refl
size-more shows (g ∷ fs) f =
    let i = size-more shows fs f in
    omega arith

-- ---- what is left of a node

pub put-off-last : (k d : ℕ) (cs : List Change) (r : Shape) (l : Option (List ℕ)) (fs new : List Task)
    → r ≡ LastLink l → new ≡ fs ++ (ToGap (record { layer = k; depth = d + 1; link = l; changes = cs }) ∷ [])
    → IsPutOff k d cs r fs new
put-off-last k d cs r l fs new e w =
    let one : d + 1 ≡ suc d = omega arith in
    let g : Task = ToGap (record { layer = k; depth = d + 1; link = l; changes = cs }) in
    record {
      does = λ digest shows layer n s log.
          ap (λ x. agenda_does digest shows layer n fs (node_does digest shows layer n k d cs x s log)) e
          ∙ ap (λ m. agenda_does digest shows layer n fs (walking digest shows layer n k m l cs s log)) (sym one)
          ∙ sym (does-more digest shows layer n fs g (Ok (s, log)))
          ∙ ap (λ ys. agenda_does digest shows layer n ys (Ok (s, log))) (sym w);
      meets = λ shows. ap (agenda_meets shows) w ∙ meets-more shows fs g
          ∙ ap (λ x. previous_node (previous_gap shows k) cs x ++ agenda_meets shows fs) (sym e);
      smaller = λ shows. (let a = ap (agenda_size shows) w in
          let i = size-more shows fs g in
          let b = ap (size_of_node (size_of_gap shows k)) e in omega arith);
    }

pub put-off-more : (k d : ℕ) (cs : List Change) (r rest : Shape) (l : Option (List ℕ)) (e : Pair)
    (front back : List Change) (at : Option (Option (List ℕ))) (fs mid new : List Task) → r ≡ MoreLinks l e rest
    → front ≡ before e.0 cs → at ≡ at_key e.0 cs → back ≡ after e.0 cs
    → mid ≡ fs ++ (ToPair (record { layer = k; depth = d; pair = e; at = at; rest = rest; changes = back }) ∷ [])
    → new ≡ mid ++ (ToGap (record { layer = k; depth = d + 1; link = l; changes = front }) ∷ [])
    → IsPutOff k d cs r fs new
put-off-more k d cs r rest l e front back at fs mid new q x y z v w =
    let one : d + 1 ≡ suc d = omega arith in
    let f : Task = ToPair (record { layer = k; depth = d; pair = e; at = at; rest = rest; changes = back }) in
    let g : Task = ToGap (record { layer = k; depth = d + 1; link = l; changes = front }) in
    record {
      does = λ digest shows layer n s log.
          ap (λ u. agenda_does digest shows layer n fs (node_does digest shows layer n k d cs u s log)) q
          ∙ ap (λ u. agenda_does digest shows layer n fs (and_then (walking digest shows layer n k (suc d) l u s log)
          (λ t log1. and_then (pairs_in_turn digest shows (λ key. d) (entry (at_key e.0 cs) e) t log1)
          (node_does digest shows layer n k d (after e.0 cs) rest)))) (sym x)
          ∙ ap (λ u. agenda_does digest shows layer n fs (and_then (walking digest shows layer n k (suc d) l front s log)
          (λ t log1. and_then (pairs_in_turn digest shows (λ key. d) (entry u e) t log1)
          (node_does digest shows layer n k d (after e.0 cs) rest)))) (sym y)
          ∙ ap (λ u. agenda_does digest shows layer n fs (and_then (walking digest shows layer n k (suc d) l front s log)
          (λ t log1. and_then (pairs_in_turn digest shows (λ key. d) (entry at e) t log1)
          (node_does digest shows layer n k d u rest)))) (sym z)
          ∙ sym (does-more digest shows layer n fs f (walking digest shows layer n k (suc d) l front s log))
          ∙ ap (λ ys. agenda_does digest shows layer n ys (walking digest shows layer n k (suc d) l front s log)) (sym v)
          ∙ ap (λ m. agenda_does digest shows layer n mid (walking digest shows layer n k m l front s log)) (sym one)
          ∙ sym (does-more digest shows layer n mid g (Ok (s, log)))
          ∙ ap (λ ys. agenda_does digest shows layer n ys (Ok (s, log))) (sym w);
      meets = λ shows.
          ap (agenda_meets shows) w ∙ meets-more shows mid g
          ∙ ap (λ ys. previous_gap shows k l front ++ agenda_meets shows ys) v
          ∙ ap (λ ys. previous_gap shows k l front ++ ys) (meets-more shows fs f)
          ∙ sym (append_assoc (previous_gap shows k l front) (task_meets shows f) (agenda_meets shows fs))
          ∙ ap (λ u. (previous_gap shows k l u ++ task_meets shows f) ++ agenda_meets shows fs) x
          ∙ ap (λ u. (previous_gap shows k l (before e.0 cs)
          ++ (value_met u e ++ previous_node (previous_gap shows k) back rest)) ++ agenda_meets shows fs) y
          ∙ ap (λ u. (previous_gap shows k l (before e.0 cs)
          ++ (value_met (at_key e.0 cs) e ++ previous_node (previous_gap shows k) u rest)) ++ agenda_meets shows fs) z
          ∙ ap (λ u. previous_node (previous_gap shows k) cs u ++ agenda_meets shows fs) (sym q);
      smaller = λ shows. (let a = ap (agenda_size shows) w in
          let b = ap (size_of_node (size_of_gap shows k)) q in
          let c = ap (agenda_size shows) v in
          let i = size-more shows fs f in
          let j = size-more shows mid g in omega arith);
    }

-- ---- what is in a gap

size-none : (shows : List ℕ → Option Shape) (k : ℕ) → size_of_gap shows k None ≡ 1
size-none shows zero = refl
size-none shows (suc k) = refl

pub does-none : (digest : List ℕ → List ℕ) (shows : List ℕ → Option Shape) (layer : List ℕ → ℕ) (n k d : ℕ)
    (cs : List Change) (s : LinkEdge) (log : Log) → walking digest shows layer n k d None cs s log
    ≡ pairs_in_turn digest shows (depth_of layer n) (puts cs) s log
does-none digest shows layer n zero d cs s log = refl
does-none digest shows layer n (suc k) d cs s log = refl

meets-none : (shows : List ℕ → Option Shape) (k : ℕ) (cs : List Change) → previous_gap shows k None cs ≡ no_values cs
meets-none shows zero cs = refl
meets-none shows (suc k) cs = refl

pub done-none : (digest : List ℕ → List ℕ) (shows : List ℕ → Option Shape) (layer : List ℕ → ℕ) (n : ℕ)
    (fs : List Task) (gap : Gap) (s t : LinkEdge) (log later : Log) (old new : List (Option (List ℕ))) → gap.link ≡ None
    → pairs_in_turn digest shows (depth_of layer n) (puts gap.changes) s log ≡ Ok (t, later)
    → new ≡ old ++ no_values gap.changes
    → IsDone digest shows layer n (ToGap gap) fs s log old fs t later new
done-none digest shows layer n fs gap s t log later old new e p v = record {
  does = ap (λ l. agenda_does digest shows layer n fs (walking digest shows layer n gap.layer gap.depth l gap.changes s log)) e
      ∙ ap (agenda_does digest shows layer n fs) (does-none digest shows layer n gap.layer gap.depth gap.changes s log ∙ p);
  meets = ap (λ ys. ys ++ agenda_meets shows fs) v
      ∙ append_assoc old (no_values gap.changes) (agenda_meets shows fs)
      ∙ ap (λ ys. old ++ (ys ++ agenda_meets shows fs)) (sym (ap (λ l. previous_gap shows gap.layer l gap.changes) e ∙ meets-none shows gap.layer gap.changes));
  smaller = (let a = ap (size_of_gap shows gap.layer) e ∙ size-none shows gap.layer in omega arith);
}

pub done-subtree : (digest : List ℕ → List ℕ) (shows : List ℕ → Option Shape) (layer : List ℕ → ℕ) (n : ℕ)
    (fs : List Task) (gap : Gap) (c : List ℕ) (s t : LinkEdge) (log later : Log) (old new : List (Option (List ℕ)))
    → gap.link ≡ Some c → gap.changes ≡ [] → 0 < gap.layer
    → subtreeing digest shows gap.layer gap.depth c s log ≡ Ok (t, later) → new ≡ old
    → IsDone digest shows layer n (ToGap gap) fs s log old fs t later new
done-subtree digest shows layer n fs gap c s t log later old new e q z p v =
    let k = gap.layer - 1 in
    let m : gap.layer ≡ suc k = omega arith in
    record {
      does = ap (λ l. agenda_does digest shows layer n fs (walking digest shows layer n gap.layer gap.depth l gap.changes s log)) e
          ∙ ap (λ cs. agenda_does digest shows layer n fs (walking digest shows layer n gap.layer gap.depth (Some c) cs s log)) q
          ∙ ap (λ j. agenda_does digest shows layer n fs (walking digest shows layer n j gap.depth (Some c) [] s log)) m
          ∙ ap (λ j. agenda_does digest shows layer n fs (subtreeing digest shows j gap.depth c s log)) (sym m)
          ∙ ap (agenda_does digest shows layer n fs) p;
      meets = ap (λ ys. ys ++ agenda_meets shows fs) v
          ∙ ap (λ ys. old ++ (ys ++ agenda_meets shows fs)) (sym (ap (λ l. previous_gap shows gap.layer l gap.changes) e
          ∙ ap (previous_gap shows gap.layer (Some c)) q ∙ ap (λ j. previous_gap shows j (Some c) []) m));
      smaller = (let a = ap (size_of_gap shows gap.layer) e ∙ ap (λ j. size_of_gap shows j (Some c)) m in omega arith);
    }

shown-is : (c : List ℕ) (o : Option Shape) (node : Shape) (log later : Log) → log_shown c LinkClear o log ≡ Ok (node, later)
    → o ≡ Some node
shown-is c None node log later h = absurd cc
shown-is c (Some m) node log later h =
    ap (λ x. Some x.0) (ok-same (m, with_read m log) (node, later) h)

pub walks-down : (digest : List ℕ → List ℕ) (shows : List ℕ → Option Shape) (layer : List ℕ → ℕ) (n k d : ℕ) (c : List ℕ)
    (cs : List Change) (node : Shape) (s : LinkEdge) (log later : Log) → 0 < length cs
    → ask shows c LinkClear log ≡ Ok (node, later)
    → walking digest shows layer n (suc k) d (Some c) cs s log ≡ node_does digest shows layer n k d cs node s later
walks-down digest shows layer n k d c [] node s log later z a = absurd (omega arith)
walks-down digest shows layer n k d c (x ∷ cs) node s log later z a =
    ap (λ o. and_then o (walking_node digest shows d (walking digest shows layer n k (suc d)) (x ∷ cs) s))
    (read-at shows c s log (node, later) a)

meets-down : (shows : List ℕ → Option Shape) (k : ℕ) (c : List ℕ) (cs : List Change) (node : Shape) → 0 < length cs
    → shows c ≡ Some node → previous_gap shows (suc k) (Some c) cs ≡ previous_node (previous_gap shows k) cs node
meets-down shows k c [] node z a = absurd (omega arith)
meets-down shows k c (x ∷ cs) node z a = ap (previous_shown (previous_gap shows k) (x ∷ cs)) a

pub done-node : (digest : List ℕ → List ℕ) (shows : List ℕ → Option Shape) (layer : List ℕ → ℕ) (n : ℕ)
    (fs new : List Task) (gap : Gap) (c : List ℕ) (k : ℕ) (node : Shape) (s t : LinkEdge) (log later : Log)
    (old values : List (Option (List ℕ))) → gap.link ≡ Some c → 0 < length gap.changes → gap.layer ≡ suc k
    → ask shows c LinkClear log ≡ Ok (node, later) → IsGoneOn k gap.depth gap.changes node fs new s t → values ≡ old
    → IsDone digest shows layer n (ToGap gap) fs s log old new t later values
done-node digest shows layer n fs new gap c k node s t log later old values e z m a w v =
    let shown = shown-is c (shows c) node log later a in
    let down = walks-down digest shows layer n k gap.depth c gap.changes node s log later z a in
    let meet = meets-down shows k c gap.changes node z shown in
    let p = w.smaller shows in
    let q = ap (size_of_gap shows gap.layer) e ∙ ap (λ j. size_of_gap shows j (Some c)) m
    ∙ ap (λ o. suc (size_shown (size_of_gap shows k) o)) shown in
    record {
      does = ap (λ l. agenda_does digest shows layer n fs (walking digest shows layer n gap.layer gap.depth l gap.changes s log)) e
          ∙ ap (λ j. agenda_does digest shows layer n fs (walking digest shows layer n j gap.depth (Some c) gap.changes s log)) m
          ∙ ap (agenda_does digest shows layer n fs) down ∙ w.does digest shows layer n later;
      meets = ap (λ ys. ys ++ agenda_meets shows new) v ∙ ap (λ ys. old ++ ys) (w.meets shows
          ∙ ap (λ ys. ys ++ agenda_meets shows fs) (sym (ap (λ l. previous_gap shows gap.layer l gap.changes) e
          ∙ ap (λ j. previous_gap shows j (Some c) gap.changes) m ∙ meet)));
      smaller = omega arith;
    }

-- a pair that was still to come
pub done-pair : (digest : List ℕ → List ℕ) (shows : List ℕ → Option Shape) (layer : List ℕ → ℕ) (n : ℕ)
    (fs new : List Task) (f : Later) (s t u : LinkEdge) (log later : Log) (old values : List (Option (List ℕ)))
    → pairs_in_turn digest shows (λ key. f.depth) (entry f.at f.pair) s log ≡ Ok (t, later)
    → values ≡ old ++ value_met f.at f.pair → IsGoneOn f.layer f.depth f.changes f.rest fs new t u
    → IsDone digest shows layer n (ToPair f) fs s log old new u later values
done-pair digest shows layer n fs new f s t u log later old values p v w =
    let q = w.smaller shows in
    let met = value_met f.at f.pair in
    let further = previous_node (previous_gap shows f.layer) f.changes f.rest in
    record {
      does = ap (λ x. agenda_does digest shows layer n fs (and_then x (node_does digest shows layer n f.layer f.depth f.changes f.rest))) p
          ∙ w.does digest shows layer n later;
      meets = ap (λ ys. ys ++ agenda_meets shows new) v ∙ ap (λ ys. (old ++ met) ++ ys) (w.meets shows)
          ∙ append_assoc old met (further ++ agenda_meets shows fs)
          ∙ ap (λ ys. old ++ ys) (sym (append_assoc met further (agenda_meets shows fs)));
      smaller = omega arith;
    }

-- ---- the whole walk

-- all that was to come from the start is what is still on the agenda
pub walk-more : (digest : List ℕ → List ℕ) (shows : List ℕ → Option Shape) (layer : List ℕ → ℕ) (n : ℕ)
    (all : Step LinkEdge) (fs gs new : List Task) (f : Task) (s t : LinkEdge) (log later : Log)
    (old values : List (Option (List ℕ))) → all ≡ agenda_does digest shows layer n fs (Ok (s, log)) → fs ≡ gs ++ (f ∷ [])
    → IsDone digest shows layer n f gs s log old new t later values
    → all ≡ agenda_does digest shows layer n new (Ok (t, later))
walk-more digest shows layer n all fs gs new f s t log later old values a e w =
    a ∙ ap (λ ys. agenda_does digest shows layer n ys (Ok (s, log))) e
    ∙ does-more digest shows layer n gs f (Ok (s, log)) ∙ w.does

pub walk-meets : (digest : List ℕ → List ℕ) (shows : List ℕ → Option Shape) (layer : List ℕ → ℕ) (n : ℕ)
    (all : List (Option (List ℕ))) (fs gs new : List Task) (f : Task) (s t : LinkEdge) (log later : Log)
    (old values : List (Option (List ℕ))) → all ≡ old ++ agenda_meets shows fs → fs ≡ gs ++ (f ∷ [])
    → IsDone digest shows layer n f gs s log old new t later values
    → all ≡ values ++ agenda_meets shows new
walk-meets digest shows layer n all fs gs new f s t log later old values a e w =
    a ∙ ap (λ ys. old ++ agenda_meets shows ys) e ∙ ap (λ ys. old ++ ys) (meets-more shows gs f) ∙ sym w.meets

pub walk-smaller : (digest : List ℕ → List ℕ) (shows : List ℕ → Option Shape) (layer : List ℕ → ℕ) (n : ℕ)
    (fs gs new : List Task) (f : Task) (s t : LinkEdge) (log later : Log) (old values : List (Option (List ℕ)))
    → fs ≡ gs ++ (f ∷ []) → IsDone digest shows layer n f gs s log old new t later values
    → agenda_size shows new < agenda_size shows fs
walk-smaller digest shows layer n fs gs new f s t log later old values e w =
    let a = ap (agenda_size shows) e in
    let i = size-more shows gs f in
    let q = w.smaller in
    omega arith

pub walked-all : (digest : List ℕ → List ℕ) (shows : List ℕ → Option Shape) (layer : List ℕ → ℕ) (n k d : ℕ)
    (cs : List Change) (r : Shape) (first start last : List Task) (s mid t : LinkEdge) (log later : Log)
    → IsGoneOn k d cs r first start s mid → first ≡ []
    → agenda_does digest shows layer n start (Ok (mid, log)) ≡ agenda_does digest shows layer n last (Ok (t, later))
    → last ≡ [] → node_does digest shows layer n k d cs r s log ≡ Ok (t, later)
walked-all digest shows layer n k d cs r first start last s mid t log later w f e l =
    sym (ap (λ ys. agenda_does digest shows layer n ys (node_does digest shows layer n k d cs r s log)) f)
    ∙ w.does digest shows layer n log ∙ e ∙ ap (λ ys. agenda_does digest shows layer n ys (Ok (t, later))) l

pub met-all : (shows : List ℕ → Option Shape) (k d : ℕ) (cs : List Change) (r : Shape) (first start last : List Task)
    (s t : LinkEdge) (old values : List (Option (List ℕ))) → IsGoneOn k d cs r first start s t → first ≡ [] → old ≡ []
    → old ++ agenda_meets shows start ≡ values ++ agenda_meets shows last → last ≡ []
    → values ≡ previous_node (previous_gap shows k) cs r
met-all shows k d cs r first start last s t old values w f o e l =
    let further = previous_node (previous_gap shows k) cs r in
    sym (append-nil values) ∙ sym (ap (λ ys. values ++ agenda_meets shows ys) l) ∙ sym e
    ∙ ap (λ ys. ys ++ agenda_meets shows start) o ∙ w.meets shows
    ∙ ap (λ ys. further ++ agenda_meets shows ys) f ∙ append-nil further
