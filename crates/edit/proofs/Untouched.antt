-- Pairs of a node that no change touches.
use Rattle.std.proofs.Common.{◌≡◌, ℕ, zero, suc, ◌+◌, ◌<◌, ◌≤◌, true, false, List, [], ◌∷◌, ◌++◌, length, length-append, refl, sym, ap, subst, ◌∙◌, arith, Option, option_map, Ok}
use Rattle.std.proofs.lemmas.List.{append_assoc, append-nil}
use Rattle.std.specs.List.{AllByRecursion}
use Rattle.std.specs.declared.option.Option.TheVariants.{Some, None}
use Rattle.std.specs.Prelude.{is_some}
use Rattle.std.specs.Ordering.{is_gt}
use Rattle.std.specs.declared.cmp.Ordering.{Ordering}
use Rattle.std.specs.declared.cmp.Ordering.TheVariants.{Less, Equal, Greater}
use Rattle.spec.specs.Tree.{Pair}
use Rattle.spec.specs.NodeFormat.{Shape, LastLink, MoreLinks}
use Rattle.edit_laws.specs.Lawful.{HasKeys}
use Rattle.edit_laws.specs.Order.{order}
use Rattle.rows.specs.declared.draft.DraftFault.{DraftFault}
use Rattle.rows.specs.declared.draft.DraftFault.TheVariants.{NotNode, NoMemory}
use Rattle.rows.specs.Drafts.{IsFaultOfAll}
use Rattle.rows.specs.Entries.{part_of}
use Rattle.rows.specs.Written.{has_rows}
use Rattle.batch_laws.specs.Batch.{Change, at_key, after, entry, IsLater}
use Rattle.batch_laws.specs.Previous.{value_met, previous_node, previous_gap}
use Rattle.batch_laws.specs.Links.{Rows, LinkEdge, Log, and_then, add_row, under_rows, onto_links, pairing, pairs_in_turn, subtreeing, walking, Step}
use Rattle.batch_laws.specs.Written.{AllGoOn, GoesOn}
use Rattle.edit.specs.Agenda.{Task, node_does, agenda_does, agenda_meets, size_of_node, size_of_gap, IsPutOff, IsGoneOn}
use Rattle.edit.specs.Edges.{edge_of}
use Rattle.edit.specs.Passing.{IsUntouched, AreUntouched, IsTaken, IsUntaken, IsPassed, IsUnpassed}
use Rattle.key_changes.specs.Keyed.{are_ascending}
use Rattle.edit.specs.Stops.{IsRefused}
use Rattle.edit.proofs.Closing.{closing-rest}
use Rattle.edit.proofs.Halting.{node-goes}
use Rattle.edit.proofs.Making.{onto-same}
use Rattle.edit.proofs.Placing.{beyond}
use Rattle.key_changes.proofs.Ascending.{ascends, later-than}
use Rattle.edit.proofs.Putting.{one-pair}
use Rattle.edit.proofs.Runs.{part-is}
use Rattle.edit.proofs.Stopping.{empty-keys, leads-refused}

-- ---- the test

pub some-mapped : {A B : Type 0} (f : A → B) (x : Option A) (y : Option B) → option_map f x ≡ y → is_some x ≡ is_some y
some-mapped f None y e = ap is_some e
some-mapped f (Some a) y e = ap is_some e

pub none-touch : (k : ℕ) (cs : List Change) (l : Option (List ℕ)) (key : List ℕ) → AllByRecursion (IsLater key) cs
    → (k ≡ 0 → l ≡ None) → IsUntouched k cs l key
none-touch k cs l key h low =
    let b = beyond key cs h in
    record { before_is = b.none_before; at_is = b.none_at; after_is = b.all_after; low = low }

pub low-none : (k : ℕ) (l : Option (List ℕ)) → is_some l ≡ false → k ≡ 0 → l ≡ None
low-none k None s h = refl
low-none k (Some c) s h = absurd cc

pub not-low : (k : ℕ) (l : Option (List ℕ)) → 0 < k → k ≡ 0 → l ≡ None
not-low k l p h = absurd (omega arith)

pub is-later : (o : Ordering) → is_gt o ≡ true → o ≡ Greater
is-later Less h = absurd cc
is-later Equal h = absurd cc
is-later Greater h = refl

pub first-later : (key : List ℕ) (cs back : List Change) (c : Change) → are_ascending cs ≡ true → cs ≡ c ∷ back
    → order c.0 key ≡ Greater → AllByRecursion (IsLater key) cs
first-later key cs back c a e o =
    let up = ascends (c ∷ back) (sym (ap are_ascending e) ∙ a) in
    subst (AllByRecursion (IsLater key)) (sym e) (o, later-than key c.0 back o up.0)

-- ---- some pairs of a node

onto-snoc : (rows : Rows) (l : Option (List ℕ)) (e : Pair) (r : Shape)
    → onto_links (rows ++ ((l, e) ∷ [])) r ≡ onto_links rows (MoreLinks l e r)
onto-snoc [] l e r = refl
onto-snoc (x ∷ rows) l e r = ap (MoreLinks x.0 x.1) (onto-snoc rows l e r)

untouched-snoc : (k : ℕ) (cs : List Change) (rows : Rows) (l : Option (List ℕ)) (e : Pair) → AreUntouched k cs rows
    → IsUntouched k cs l e.0 → AreUntouched k cs (rows ++ ((l, e) ∷ []))
untouched-snoc k cs [] l e h u = (u, tt)
untouched-snoc k cs (x ∷ rows) l e h u = (h.0, untouched-snoc k cs rows l e h.1 u)

pub taken-none : (k : ℕ) (cs : List Change) (begun : Rows) (node : Shape) → IsTaken k cs begun node begun node
taken-none k cs begun node =
    record { more = []; new_is = sym (append-nil begun); node_is = refl; untouched = tt }

-- nothing came
pub taken-ahead : (k : ℕ) (cs : List Change) (begun new : Rows) (node rest : Shape) → new ≡ begun → node ≡ rest
    → IsTaken k cs begun node new rest
taken-ahead k cs begun new node rest new_is node_is =
    record { more = []; new_is = new_is ∙ sym (append-nil begun); node_is = node_is; untouched = tt }

pub taken-more : (k : ℕ) (cs : List Change) (begun rows new : Rows) (node mid rest : Shape) (l : Option (List ℕ)) (e : Pair)
    → IsTaken k cs begun node rows mid → mid ≡ MoreLinks l e rest → IsUntouched k cs l e.0
    → new ≡ rows ++ ((l, e) ∷ []) → IsTaken k cs begun node new rest
taken-more k cs begun rows new node mid rest l e t m u n = record {
  more = t.more ++ ((l, e) ∷ []);
  new_is = n ∙ ap (λ ys. ys ++ ((l, e) ∷ [])) t.new_is ∙ append_assoc begun t.more ((l, e) ∷ []);
  node_is = t.node_is ∙ ap (onto_links t.more) m ∙ sym (onto-snoc t.more l e rest);
  untouched = untouched-snoc k cs t.more l e t.untouched u;
}

pub untaken-more : (k : ℕ) (cs : List Change) (begun rows : Rows) (node mid rest : Shape) (l : Option (List ℕ)) (e : Pair)
    (f : DraftFault) → IsTaken k cs begun node rows mid → mid ≡ MoreLinks l e rest → IsUntouched k cs l e.0
    → IsFaultOfAll (rows ++ ((l, e) ∷ [])) f → IsUntaken k cs begun node f
untaken-more k cs begun rows node mid rest l e f t m u r =
    let all = taken-more k cs begun rows (rows ++ ((l, e) ∷ [])) node mid rest l e t m u refl in
    record {
      more = all.more;
      rest = rest;
      node_is = all.node_is;
      untouched = all.untouched;
      refused = subst (λ xs. IsFaultOfAll xs f) all.new_is r;
    }

onto-both : (xs ys : Rows) (r : Shape) → onto_links (xs ++ ys) r ≡ onto_links xs (onto_links ys r)
onto-both [] ys r = refl
onto-both (x ∷ xs) ys r = ap (MoreLinks x.0 x.1) (onto-both xs ys r)

untouched-both : (k : ℕ) (cs : List Change) (xs ys : Rows) → AreUntouched k cs xs → AreUntouched k cs ys
    → AreUntouched k cs (xs ++ ys)
untouched-both k cs [] ys h i = i
untouched-both k cs (x ∷ xs) ys h i = (h.0, untouched-both k cs xs ys h.1 i)

-- first some, and then more
pub taken-then : (k : ℕ) (cs : List Change) (begun rows new : Rows) (node mid rest : Shape)
    → IsTaken k cs begun node rows mid → IsTaken k cs rows mid new rest → IsTaken k cs begun node new rest
taken-then k cs begun rows new node mid rest t u = record {
  more = t.more ++ u.more;
  new_is = u.new_is ∙ ap (λ ys. ys ++ u.more) t.new_is ∙ append_assoc begun t.more u.more;
  node_is = t.node_is ∙ ap (onto_links t.more) u.node_is ∙ sym (onto-both t.more u.more rest);
  untouched = untouched-both k cs t.more u.more t.untouched u.untouched;
}

pub untaken-then : (k : ℕ) (cs : List Change) (begun rows : Rows) (node mid : Shape) (f : DraftFault)
    → IsTaken k cs begun node rows mid → IsUntaken k cs rows mid f → IsUntaken k cs begun node f
untaken-then k cs begun rows node mid f t u = record {
  more = t.more ++ u.more;
  rest = u.rest;
  node_is = t.node_is ∙ ap (onto_links t.more) u.node_is ∙ sym (onto-both t.more u.more u.rest);
  untouched = untouched-both k cs t.more u.more t.untouched u.untouched;
  refused = subst (λ xs. IsFaultOfAll xs f)
      (ap (λ ys. ys ++ u.more) t.new_is ∙ append_assoc begun t.more u.more) u.refused;
}

-- ---- pairs that were read, and then came at once

run-is : (k : ℕ) (cs : List Change) (begun read last now : Rows) (node rest : Shape) (from to : ℕ) → from ≡ length begun
    → to ≡ length read → now ≡ read ++ last → (t : IsTaken k cs begun node read rest) → part_of from to now ≡ t.more
run-is k cs begun read last now node rest from to from_is to_is now_is t =
    part-is begun t.more read last now from to from_is to_is now_is t.new_is

pub taken-run : (k : ℕ) (cs : List Change) (begun read last now written new : Rows) (node rest : Shape) (from to : ℕ)
    → from ≡ length begun → to ≡ length read → now ≡ read ++ last → IsTaken k cs begun node read rest
    → new ≡ written ++ part_of from to now → IsTaken k cs written node new rest
taken-run k cs begun read last now written new node rest from to from_is to_is now_is t n = record {
  more = t.more;
  new_is = n ∙ ap (λ ys. written ++ ys) (run-is k cs begun read last now node rest from to from_is to_is now_is t);
  node_is = t.node_is;
  untouched = t.untouched;
}

-- ---- what it makes of an edge

module _ (digest : List ℕ → List ℕ) (shows : List ℕ → Option Shape) where
  waits-below : (k d : ℕ) (c : List ℕ) (ls : List Rows) (log : Log) → length ls ≡ d
      → subtreeing digest shows (suc k) d c (edge_of ls None) log ≡ Ok (edge_of ls (Some c), log)
  waits-below k zero c [] log h = refl
  waits-below k (suc d) c [] log h = absurd (omega arith)
  waits-below k zero c (x ∷ ls) log h = absurd (omega arith)
  waits-below k (suc d) c (x ∷ ls) log h =
      ap (λ o. under_rows x o) (waits-below k d c ls log (omega arith))

  waits-first : (k d : ℕ) (c : List ℕ) (ls : List Rows) (log : Log) → length ls ≡ d
      → subtreeing digest shows (suc k) (suc d) c (edge_of ls None) log ≡ Ok (edge_of (ls ++ ([] ∷ [])) (Some c), log)
  waits-first k zero c [] log h = refl
  waits-first k (suc d) c [] log h = absurd (omega arith)
  waits-first k zero c (x ∷ ls) log h = absurd (omega arith)
  waits-first k (suc d) c (x ∷ ls) log h =
      ap (λ o. under_rows x o) (waits-first k d c ls log (omega arith))

  row-below : (d : ℕ) (e : Pair) (above : List Rows) (begun : Rows) (l : Option (List ℕ)) (log : Log) → length above ≡ d
      → pairing digest shows d e (edge_of (above ++ (begun ∷ [])) l) log
      ≡ Ok (edge_of (above ++ ((begun ++ ((l, e) ∷ [])) ∷ [])) None, log)
  row-below zero e [] begun l log h = ap (add_row e begun) (closing-rest digest l log)
  row-below (suc d) e [] begun l log h = absurd (omega arith)
  row-below zero e (x ∷ above) begun l log h = absurd (omega arith)
  row-below (suc d) e (x ∷ above) begun l log h =
      ap (λ o. under_rows x o) (row-below d e above begun l log (omega arith))

  row-first : (d : ℕ) (e : Pair) (ls : List Rows) (log : Log) → length ls ≡ d
      → pairing digest shows d e (edge_of ls None) log ≡ Ok (edge_of (ls ++ (((None, e) ∷ []) ∷ [])) None, log)
  row-first zero e [] log h = refl
  row-first (suc d) e [] log h = absurd (omega arith)
  row-first zero e (x ∷ ls) log h = absurd (omega arith)
  row-first (suc d) e (x ∷ ls) log h =
      ap (λ o. under_rows x o) (row-first d e ls log (omega arith))

  module _ (layer : List ℕ → ℕ) (n : ℕ) where
    -- a gap without changes and then a pair
    abbrev Comes : ℕ → ℕ → Option (List ℕ) → Pair → LinkEdge → LinkEdge → Log → Type 0
    Comes k d l e s t log =
        (g : LinkEdge → Log → Step LinkEdge) → and_then (walking digest shows layer n k (suc d) l [] s log)
        (λ t1 log1. and_then (pairs_in_turn digest shows (λ key. d) (e ∷ []) t1 log1) g) ≡ g t log

    then-pair : (d : ℕ) (e : Pair) (s t : LinkEdge) (log : Log) (o : Step LinkEdge) → o ≡ Ok (s, log)
        → pairing digest shows d e s log ≡ Ok (t, log) → (g : LinkEdge → Log → Step LinkEdge)
        → and_then o (λ t1 log1. and_then (pairs_in_turn digest shows (λ key. d) (e ∷ []) t1 log1) g) ≡ g t log
    then-pair d e s t log o a p g =
        ap (λ x. and_then x (λ t1 log1. and_then (pairs_in_turn digest shows (λ key. d) (e ∷ []) t1 log1) g)) a
        ∙ ap (λ x. and_then x g) (one-pair digest shows (λ key. d) e d s t log log refl p)

    comes-below : (k d : ℕ) (l : Option (List ℕ)) (e : Pair) (above : List Rows) (begun : Rows) (log : Log)
        → length above ≡ d → (k ≡ 0 → l ≡ None)
        → Comes k d l e (edge_of (above ++ (begun ∷ [])) None)
        (edge_of (above ++ ((begun ++ ((l, e) ∷ [])) ∷ [])) None) log
    comes-below zero d None e above begun log h low =
        then-pair d e _ _ log _ refl (row-below d e above begun None log h)
    comes-below zero d (Some c) e above begun log h low = let bad = low refl in absurd cc
    comes-below (suc k) d None e above begun log h low =
        then-pair d e _ _ log _ refl (row-below d e above begun None log h)
    comes-below (suc k) d (Some c) e above begun log h low =
        then-pair d e _ _ log _ (waits-below k (suc d) c (above ++ (begun ∷ [])) log (one-more above begun h))
        (row-below d e above begun (Some c) log h)
      where
        one-more : (ls : List Rows) (x : Rows) {m : ℕ} → length ls ≡ m → length (ls ++ (x ∷ [])) ≡ suc m
        one-more [] x q = ap suc q
        one-more (y ∷ ls) x q = ap suc (one-more ls x refl) ∙ ap suc q

    comes-first : (k d : ℕ) (l : Option (List ℕ)) (e : Pair) (ls : List Rows) (log : Log) → length ls ≡ d
        → (k ≡ 0 → l ≡ None)
        → Comes k d l e (edge_of ls None) (edge_of (ls ++ (((l, e) ∷ []) ∷ [])) None) log
    comes-first zero d None e ls log h low = then-pair d e _ _ log _ refl (row-first d e ls log h)
    comes-first zero d (Some c) e ls log h low = let bad = low refl in absurd cc
    comes-first (suc k) d None e ls log h low = then-pair d e _ _ log _ refl (row-first d e ls log h)
    comes-first (suc k) d (Some c) e ls log h low =
        then-pair d e _ _ log _ (waits-first k d c ls log h) (row-below d e ls [] (Some c) log h)

    row-comes : (k d : ℕ) (cs : List Change) (l : Option (List ℕ)) (e : Pair) (r : Shape) (s t : LinkEdge) (log : Log)
        → IsUntouched k cs l e.0 → Comes k d l e s t log
        → node_does digest shows layer n k d cs (MoreLinks l e r) s log ≡ node_does digest shows layer n k d cs r t log
    row-comes k d cs l e r s t log u c =
        let gap = λ (ds : List Change). walking digest shows layer n k (suc d) l ds s log in
        let pair = λ (a : Option (Option (List ℕ))) (t1 : LinkEdge) (log1 : Log).
        pairs_in_turn digest shows (λ key. d) (entry a e) t1 log1 in
        let on = λ (ds : List Change). node_does digest shows layer n k d ds r in
        ap (λ ds. and_then (gap ds) (λ t1 log1. and_then (pair (at_key e.0 cs) t1 log1) (on (after e.0 cs)))) u.before_is
        ∙ ap (λ a. and_then (gap []) (λ t1 log1. and_then (pair a t1 log1) (on (after e.0 cs)))) u.at_is
        ∙ ap (λ ds. and_then (gap []) (λ t1 log1. and_then (pair None t1 log1) (on ds))) u.after_is
        ∙ c (on cs)

    rows-come : (k d : ℕ) (cs : List Change) (more : Rows) (rest : Shape) (above : List Rows) (begun : Rows) (log : Log)
        → length above ≡ d → AreUntouched k cs more
        → node_does digest shows layer n k d cs (onto_links more rest) (edge_of (above ++ (begun ∷ [])) None) log
        ≡ node_does digest shows layer n k d cs rest (edge_of (above ++ ((begun ++ more) ∷ [])) None) log
    rows-come k d cs [] rest above begun log h u =
        ap (λ rows. node_does digest shows layer n k d cs rest (edge_of (above ++ (rows ∷ [])) None) log)
        (sym (append-nil begun))
    rows-come k d cs (x ∷ more) rest above begun log h u =
        row-comes k d cs x.0 x.1 (onto_links more rest) _ _ log u.0
        (comes-below k d x.0 x.1 above begun log h u.0.low)
        ∙ rows-come k d cs more rest above (begun ++ (x ∷ [])) log h u.1
        ∙ ap (λ rows. node_does digest shows layer n k d cs rest (edge_of (above ++ (rows ∷ [])) None) log)
        (append_assoc begun (x ∷ []) more)

    first-come : (k d : ℕ) (cs : List Change) (x : Option (List ℕ) × Pair) (more : Rows) (rest : Shape) (ls : List Rows)
        (log : Log) → length ls ≡ d → AreUntouched k cs (x ∷ more)
        → node_does digest shows layer n k d cs (onto_links (x ∷ more) rest) (edge_of ls None) log
        ≡ node_does digest shows layer n k d cs rest (edge_of (ls ++ ((x ∷ more) ∷ [])) None) log
    first-come k d cs x more rest ls log h u =
        row-comes k d cs x.0 x.1 (onto_links more rest) _ _ log u.0 (comes-first k d x.0 x.1 ls log h u.0.low)
        ∙ rows-come k d cs more rest ls (x ∷ []) log h u.1

-- ---- what the changed keys had, and how much is left

gap-meets : (shows : List ℕ → Option Shape) (k : ℕ) (l : Option (List ℕ)) → previous_gap shows k l [] ≡ []
gap-meets shows zero None = refl
gap-meets shows zero (Some c) = refl
gap-meets shows (suc k) None = refl
gap-meets shows (suc k) (Some c) = refl

rows-meet : (shows : List ℕ → Option Shape) (k : ℕ) (cs : List Change) (more : Rows) (rest : Shape)
    → AreUntouched k cs more
    → previous_node (previous_gap shows k) cs (onto_links more rest) ≡ previous_node (previous_gap shows k) cs rest
rows-meet shows k cs [] rest u = refl
rows-meet shows k cs (x ∷ more) rest u =
    let on = λ (ds : List Change). previous_node (previous_gap shows k) ds (onto_links more rest) in
    ap (λ ds. previous_gap shows k x.0 ds ++ (value_met (at_key x.1.0 cs) x.1 ++ on (after x.1.0 cs))) u.0.before_is
    ∙ ap (λ a. previous_gap shows k x.0 [] ++ (value_met a x.1 ++ on (after x.1.0 cs))) u.0.at_is
    ∙ ap (λ ds. previous_gap shows k x.0 [] ++ on ds) u.0.after_is
    ∙ ap (λ vs. vs ++ on cs) (gap-meets shows k x.0)
    ∙ rows-meet shows k cs more rest u.1

rows-size : (gap : Option (List ℕ) → ℕ) (more : Rows) (rest : Shape)
    → size_of_node gap rest ≤ size_of_node gap (onto_links more rest)
rows-size gap [] rest = omega arith
rows-size gap (x ∷ more) rest = let i = rows-size gap more rest in omega arith

-- ---- they come

pass-taken : (k d : ℕ) (cs : List Change) (node rest : Shape) (s t : LinkEdge) (begun filled : Rows)
    → (taken : IsTaken k cs begun node filled rest)
    → ((digest : List ℕ → List ℕ) (shows : List ℕ → Option Shape) (layer : List ℕ → ℕ) (n : ℕ) (log : Log)
    → node_does digest shows layer n k d cs (onto_links taken.more rest) s log
    ≡ node_does digest shows layer n k d cs rest t log)
    → IsPassed k d cs node rest s t
pass-taken k d cs node rest s t begun filled taken h = record {
  does = λ digest shows layer n log.
      ap (λ x. node_does digest shows layer n k d cs x s log) taken.node_is ∙ h digest shows layer n log;
  meets = λ shows.
      ap (previous_node (previous_gap shows k) cs) taken.node_is ∙ rows-meet shows k cs taken.more rest taken.untouched;
  smaller = λ shows.
      subst (λ x. size_of_node (size_of_gap shows k) rest ≤ size_of_node (size_of_gap shows k) x) (sym taken.node_is)
      (rows-size (size_of_gap shows k) taken.more rest);
}

-- the node's layer is the lowest that is open
above-long : (d : ℕ) (ls above : List Rows) (begun : Rows) → length ls ≡ d + 1 → ls ≡ above ++ (begun ∷ [])
    → length above ≡ d
above-long d ls above begun h e =
    let n : length ls ≡ length (above ++ (begun ∷ [])) = ap length e in
    let a = length-append above (begun ∷ []) in
    omega arith

pub pass-below : (k d : ℕ) (cs : List Change) (node rest : Shape) (ls above new : List Rows) (begun filled : Rows)
    (link last : Option (List ℕ)) → length ls ≡ d + 1 → link ≡ None → last ≡ None → ls ≡ above ++ (begun ∷ [])
    → IsTaken k cs begun node filled rest → new ≡ above ++ (filled ∷ [])
    → IsPassed k d cs node rest (edge_of ls link) (edge_of new last)
pass-below k d cs node rest ls above new begun filled link last h c v e t f =
    let long = above-long d ls above begun h e in
    subst (λ l. IsPassed k d cs node rest (edge_of ls l) (edge_of new last)) (sym c)
    (subst (λ l. IsPassed k d cs node rest (edge_of ls None) (edge_of new l)) (sym v)
    (pass-taken k d cs node rest (edge_of ls None) (edge_of new None) begun filled t
    (λ digest shows layer n log.
    ap (λ ys. node_does digest shows layer n k d cs (onto_links t.more rest) (edge_of ys None) log) e
    ∙ rows-come digest shows layer n k d cs t.more rest above begun log long t.untouched
    ∙ ap (λ rows. node_does digest shows layer n k d cs rest (edge_of (above ++ (rows ∷ [])) None) log) (sym t.new_is)
    ∙ ap (λ ys. node_does digest shows layer n k d cs rest (edge_of ys None) log) (sym f))))

-- all layers above it are open, and the first pair opens its own
pub pass-opens : (k d : ℕ) (cs : List Change) (node rest : Shape) (ls new : List Rows) (begun filled : Rows)
    (link last : Option (List ℕ)) → length ls ≡ d → link ≡ None → last ≡ None → begun ≡ []
    → IsTaken k cs begun node filled rest → has_rows filled ≡ true → new ≡ ls ++ (filled ∷ [])
    → IsPassed k d cs node rest (edge_of ls link) (edge_of new last)
pass-opens k d cs node rest ls new begun filled link last h c v b t some f =
    subst (λ l. IsPassed k d cs node rest (edge_of ls l) (edge_of new last)) (sym c)
    (subst (λ l. IsPassed k d cs node rest (edge_of ls None) (edge_of new l)) (sym v)
    (pass-taken k d cs node rest (edge_of ls None) (edge_of new None) begun filled t
    (λ digest shows layer n log.
    opens digest shows layer n log t.more t.untouched (ap has_rows (sym whole) ∙ some)
    ∙ ap (λ rows. node_does digest shows layer n k d cs rest (edge_of (ls ++ (rows ∷ [])) None) log) (sym whole)
    ∙ ap (λ ys. node_does digest shows layer n k d cs rest (edge_of ys None) log) (sym f))))
  where
    whole : filled ≡ t.more
    whole = t.new_is ∙ ap (λ ys. ys ++ t.more) b

    opens : (digest : List ℕ → List ℕ) (shows : List ℕ → Option Shape) (layer : List ℕ → ℕ) (n : ℕ) (log : Log)
        (more : Rows) → AreUntouched k cs more → has_rows more ≡ true
        → node_does digest shows layer n k d cs (onto_links more rest) (edge_of ls None) log
        ≡ node_does digest shows layer n k d cs rest (edge_of (ls ++ (more ∷ [])) None) log
    opens digest shows layer n log [] u q = absurd cc
    opens digest shows layer n log (x ∷ more) u q = first-come digest shows layer n k d cs x more rest ls log h u

-- no pair came
pub pass-nothing : (k d : ℕ) (cs : List Change) (node rest : Shape) (s : LinkEdge) (begun filled : Rows) → begun ≡ []
    → IsTaken k cs begun node filled rest → has_rows filled ≡ false → IsPassed k d cs node rest s s
pass-nothing k d cs node rest s begun filled b t none =
    pass-taken k d cs node rest s s begun filled t
    (λ digest shows layer n log. stays digest shows layer n log t.more
    (ap has_rows (sym (t.new_is ∙ ap (λ ys. ys ++ t.more) b)) ∙ none))
  where
    stays : (digest : List ℕ → List ℕ) (shows : List ℕ → Option Shape) (layer : List ℕ → ℕ) (n : ℕ) (log : Log)
        (more : Rows) → has_rows more ≡ false
        → node_does digest shows layer n k d cs (onto_links more rest) s log
        ≡ node_does digest shows layer n k d cs rest s log
    stays digest shows layer n log [] q = refl
    stays digest shows layer n log (x ∷ more) q = absurd cc

-- ---- they are refused

last-begun : (P : Shape → Type 0) (above : List Rows) (rows : Rows) (l : Option (List ℕ))
    → AllGoOn P (edge_of (above ++ (rows ∷ [])) l) → GoesOn P rows
last-begun P [] rows l h = h.0
last-begun P (x ∷ above) rows l h = last-begun P above rows l h.1

rows-refused : (digest : List ℕ → List ℕ) (shows : List ℕ → Option Shape) (layer : List ℕ → ℕ) (n k d : ℕ)
    (cs : List Change) (rest : Shape) (above : List Rows) (rows : Rows) (log : Log) (f : DraftFault)
    → IsFaultOfAll rows f
    → IsRefused (node_does digest shows layer n k d cs rest (edge_of (above ++ (rows ∷ [])) None) log) f
rows-refused digest shows layer n k d cs rest above rows log f r =
    let s = edge_of (above ++ (rows ∷ [])) None in
    leads-refused (Ok (s, log)) (node_does digest shows layer n k d cs rest s log) f
    (node-goes (λ c. shows c) digest shows layer n k d cs rest s log) (here f r)
  where
    here : (g : DraftFault) → IsFaultOfAll rows g → IsRefused (Ok (edge_of (above ++ (rows ∷ [])) None, log)) g
    here NotNode q = λ w.
        (let g = last-begun HasKeys above rows None w.begun in q g.0 (subst HasKeys (sym (onto-same rows g.0)) g.1))
    here NoMemory q = tt

pub refused-below : (k d : ℕ) (cs : List Change) (node : Shape) (ls above : List Rows) (begun : Rows)
    (link : Option (List ℕ)) (log : Log) (f : DraftFault) → length ls ≡ d + 1 → link ≡ None
    → ls ≡ above ++ (begun ∷ []) → IsUntaken k cs begun node f → IsUnpassed k d cs node (edge_of ls link) log f
refused-below k d cs node ls above begun link log f h c e u = λ digest shows layer n.
    subst (λ o. IsRefused o f)
    (sym (ap (λ x. node_does digest shows layer n k d cs x (edge_of ls link) log) u.node_is
    ∙ ap (λ l. node_does digest shows layer n k d cs (onto_links u.more u.rest) (edge_of ls l) log) c
    ∙ ap (λ ys. node_does digest shows layer n k d cs (onto_links u.more u.rest) (edge_of ys None) log) e
    ∙ rows-come digest shows layer n k d cs u.more u.rest above begun log (above-long d ls above begun h e) u.untouched))
    (rows-refused digest shows layer n k d cs u.rest above (begun ++ u.more) log f u.refused)

pub refused-first : (k d : ℕ) (cs : List Change) (node : Shape) (ls : List Rows) (begun : Rows)
    (link : Option (List ℕ)) (log : Log) (f : DraftFault) → length ls ≡ d → link ≡ None
    → begun ≡ [] → IsUntaken k cs begun node f → IsUnpassed k d cs node (edge_of ls link) log f
refused-first k d cs node ls begun link log f h c b u = λ digest shows layer n.
    subst (λ o. IsRefused o f)
    (sym (ap (λ x. node_does digest shows layer n k d cs x (edge_of ls link) log) u.node_is
    ∙ ap (λ l. node_does digest shows layer n k d cs (onto_links u.more u.rest) (edge_of ls l) log) c))
    (some digest shows layer n f u.more u.untouched
    (subst (λ xs. IsFaultOfAll (xs ++ u.more) f) b u.refused))
  where
    some : (digest : List ℕ → List ℕ) (shows : List ℕ → Option Shape) (layer : List ℕ → ℕ) (n : ℕ) (g : DraftFault)
        (more : Rows) → AreUntouched k cs more → IsFaultOfAll more g
        → IsRefused (node_does digest shows layer n k d cs (onto_links more u.rest) (edge_of ls None) log) g
    some digest shows layer n NoMemory more t q = tt
    some digest shows layer n NotNode [] t q = absurd (q (LastLink None) empty-keys)
    some digest shows layer n NotNode (x ∷ more) t q =
        subst (λ o. IsRefused o NotNode) (sym (first-come digest shows layer n k d cs x more u.rest ls log h t))
        (rows-refused digest shows layer n k d cs u.rest ls (x ∷ more) log NotNode q)

-- ---- and the rest is put off

pub passed-on : (k d : ℕ) (cs : List Change) (node rest : Shape) (s t : LinkEdge) (fs new : List Task)
    → IsPassed k d cs node rest s t → IsPutOff k d cs rest fs new → IsGoneOn k d cs node fs new s t
passed-on k d cs node rest s t fs new p w = record {
  does = λ digest shows layer n log.
      ap (agenda_does digest shows layer n fs) (p.does digest shows layer n log) ∙ w.does digest shows layer n t log;
  meets = λ shows. w.meets shows ∙ ap (λ vs. vs ++ agenda_meets shows fs) (sym (p.meets shows));
  smaller = λ shows. (let a = p.smaller shows in let b = w.smaller shows in omega arith);
}
