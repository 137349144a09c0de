-- What a layer needs, and what of it a source lacks.
use Rattle.std.proofs.Common.{◌≡◌, ◌≢◌, ℕ, zero, suc, ◌+◌, ◌-◌, ◌<◌, ◌≤◌, max, Bool, true, false, ◌||◌, ◌&&◌, cond, not, nat_eq, List, [], ◌∷◌, ◌++◌, append_assoc, length, get_or, take, refl, sym, ap, ◌∙◌, subst, arith, Option, Result, Ok, Err}
use Rattle.std.proofs.lemmas.List.{length-append, length-map, map-append, take_all, take_more}
use Rattle.std.proofs.lemmas.List.Elements.{filter-append}
use Rattle.std.proofs.lemmas.Bool.Decides.{nat_tests}
use Rattle.std.specs.declared.option.Option.TheVariants.{Some, None}
use Rattle.std.specs.Prelude.{is_none, filter, option_and_then, option_map}
use Rattle.std.specs.List.{cons_option}
use Rattle.std.specs.declared.cmp.Ordering.{Ordering}
use Rattle.std.specs.declared.cmp.Ordering.TheVariants.{Less, Equal, Greater}
use Rattle.edit_laws.specs.Changes.{count, has_cid, one_if_equal}
use Rattle.edit_laws.specs.Order.{order}
use Rattle.edit_laws.specs.Sources.{shape_of_bytes}
use Rattle.lookups.specs.Steps.{nodes_given}
use Rattle.spec.specs.Layer.{layer as layer_of}
use Rattle.edit_laws.proofs.Lists.{count-append, filter-fewer, filter-out, has-not}
use Rattle.edit_laws.proofs.Orders.{order-equal}
use Rattle.spec.specs.Reading.{◌>>=◌}
use Rattle.spec.specs.NodeFormat.{Shape, LastLink, MoreLinks}
use Rattle.difference_laws.specs.Lines.{Opened, Side, Stop, NotShown, both_opened, compared, compared_at, level, levels, link_without, links_in, opened, opened_last, opened_row, opened_when, repeats, shared_when, side_at, side_of, spliced, tested, unless, within, without}
use Rattle.difference_laws.specs.Lines as lines
use Rattle.batch_laws.specs.Links.{Rows, onto_links}
use Rattle.difference.specs.Keys.{key_in}
use Rattle.difference.specs.declared.line.Row.{Row}
use Rattle.difference.specs.Sides.{HasLinks, IsStopped, links_among, row_of, rows_of, rows_without, shapes_in}
use Rattle.rows.specs.Drafts.{shape_in}
use Rattle.std.specs.Arc.{arc_value}
use Rattle.std.specs.declared.sync.Arc.{Arc}
use Rattle.difference.proofs.Noting.{links-append, links-line, links_of, rows-more}
use Rattle.difference.proofs.Opens.{ok-is, without-empty, without-line, without-set}
use Rattle.difference.specs.declared.faults.DifferenceFault.{DifferenceFault}
use Rattle.difference.specs.declared.faults.DifferenceFault.TheVariants.{BlockMissing, BadNode, TooDeep, NotTree, NoMemory}
use Rattle.std.specs.BTreeSet.{BTreeSet}
use Rattle.difference.specs.Starts.{IsStart}
use Rattle.difference.specs.Missing.{IfMissing, IsOtherStop, IsTelling, Place, both_links, further, lacked, links_when, needed_at, needed_from, needed_in, needed_last, needed_of, reached, reached_from, read_before, read_from, read_in}

-- ---- where something stops

abbrev pub stop_of : {X : Type 0} → Result X Stop → Option Stop
stop_of (Ok x) = None
stop_of (Err e) = Some e

abbrev pub or_next : Option Shape → List ℕ → Option Stop → Option Stop
or_next None c s = Some (NotShown c)
or_next (Some m) c s = s

-- the first of these that isn't shown
abbrev pub first_stop : (List ℕ → Option Shape) → List (List ℕ) → Option Stop
first_stop shows [] = None
first_stop shows (c ∷ cs) = or_next (shows c) c (first_stop shows cs)

abbrev then_stop : Option Stop → Option Stop → Option Stop
then_stop None s = s
then_stop (Some e) s = Some e

module _ (shows : List ℕ → Option Shape) where
  next-append : (o : Option Shape) (c : List ℕ) (s t : Option Stop)
      → or_next o c (then_stop s t) ≡ then_stop (or_next o c s) t
  next-append None c s t = refl
  next-append (Some m) c s t = refl

  first-append : (xs ys : List (List ℕ))
      → first_stop shows (xs ++ ys) ≡ then_stop (first_stop shows xs) (first_stop shows ys)
  first-append [] ys = refl
  first-append (x ∷ xs) ys =
      ap (or_next (shows x) x) (first-append xs ys) ∙ next-append (shows x) x (first_stop shows xs) (first_stop shows ys)

  within-stop : (f : Shape → Shape) (x : Opened) → stop_of (within f x) ≡ stop_of x
  within-stop f (Ok x) = refl
  within-stop f (Err e) = refl

  last-stop : (c : List ℕ) (o : Option Shape) (read : List Shape) → stop_of (opened_last c o read) ≡ or_next o c None
  last-stop c None read = refl
  last-stop c (Some m) read = refl

  row-stop : (go : List Shape → Opened) (c : List ℕ) (e : List ℕ × List ℕ) (o : Option Shape) (read : List Shape)
      (s : Option Stop) → ((r : List Shape) → stop_of (go r) ≡ s) → stop_of (opened_row go c e o read) ≡ or_next o c s
  row-stop go c e None read s h = refl
  row-stop go c e (Some m) read s h = within-stop (λ r. spliced m e r) (go (read ++ (m ∷ []))) ∙ h (read ++ (m ∷ []))

  -- a line stops at the first of its links that isn't shown
  pub opened-stop : (line : Shape) (read : List Shape) → stop_of (opened shows line read) ≡ first_stop shows (links_in line)
  opened-stop (LastLink None) read = refl
  opened-stop (LastLink (Some c)) read = last-stop c (shows c) read
  opened-stop (MoreLinks None e r) read =
      within-stop (λ t. MoreLinks None e t) (opened shows r read) ∙ opened-stop r read
  opened-stop (MoreLinks (Some c) e r) read =
      row-stop (opened shows r) c e (shows c) read (first_stop shows (links_in r)) (opened-stop r)

  side-stop : (n : ℕ) (x : Opened) → stop_of (side_of n x) ≡ stop_of x
  side-stop n (Ok x) = refl
  side-stop n (Err e) = refl

  when-stop : (n : ℕ) (p : Bool) (s : Side) → stop_of (opened_when shows n p s) ≡ first_stop shows (links_when p s)
  when-stop n true s = side-stop n (opened shows s.line s.read) ∙ opened-stop s.line s.read
  when-stop n false s = refl

  pair-stop : {X Y : Type 0} (x : Result X Stop) (y : Result Y Stop)
      → stop_of {X = X × Y} (x >>= λ a. y >>= λ b. Ok (a, b)) ≡ then_stop (stop_of x) (stop_of y)
  pair-stop (Ok x) (Ok y) = refl
  pair-stop (Ok x) (Err e) = refl
  pair-stop (Err e) y = refl

  both-stop : (n : ℕ) (p q : Bool) (x : Side × Side)
      → stop_of (both_opened shows n p q x) ≡ first_stop shows (both_links p q x)
  both-stop n p q x =
      pair-stop (opened_when shows n p x.0) (opened_when shows n q x.1)
      ∙ (λ i. then_stop (when-stop n p x.0 i) (when-stop n q x.1 i))
      ∙ sym (first-append (links_when p x.0) (links_when q x.1))

  -- a layer of which no link stands twice stops at the first that it needs and that isn't shown
  pub level-stop : (n : ℕ) (a b : Side) → (repeats (links_in a.line) || repeats (links_in b.line)) ≡ false
      → stop_of (level shows n a b) ≡ first_stop shows (needed_at n a b)
  level-stop n a b h =
      let p = nat_eq a.left (suc n) in
      let q = nat_eq b.left (suc n) in
      ap (λ g. stop_of (tested g (both_opened shows n p q (shared_when (p && q) a b)))) h
      ∙ both-stop n p q (shared_when (p && q) a b)

-- ---- the first that a source lacks

abbrev pub IsFirst : List ℕ → List (List ℕ) → Type 0
IsFirst c [] = ⊥
IsFirst c (d ∷ ds) = c ≡ d

head-same : (c d : List ℕ) (xs ys : List (List ℕ)) (b : Bool) → b ≡ true → c ≡ d → IsFirst c (cond b (d ∷ xs) ys)
head-same c d xs ys true e q = q
head-same c d xs ys false e q = absurd cc

tail-same : (c d : List ℕ) (xs ys : List (List ℕ)) (b : Bool) → b ≡ false → IsFirst c ys → IsFirst c (cond b (d ∷ xs) ys)
tail-same c d xs ys true e q = absurd cc
tail-same c d xs ys false e q = q

pub stop-same : (c d : List ℕ) → ◌≡◌ {A = Option Stop} (Some (NotShown d)) (Some (NotShown c)) → c ≡ d
stop-same c d h = cc

module _ {A : Type 0} (gives : List ℕ → Option A) (shows : List ℕ → Option Shape)
    (shown : (c : List ℕ) → gives c ≡ None → shows c ≡ None) where
  given-case : (d : List ℕ) (m : Shape) (p : Option A) → shows d ≡ Some m → gives d ≡ p → is_none (gives d) ≡ false
  given-case d m None s g = let z : ◌≡◌ {A = Option Shape} None (Some m) = sym (shown d g) ∙ s in absurd cc
  given-case d m (Some b) s g = ap is_none g

  lacks-case : (c d : List ℕ) (ds : List (List ℕ)) (o : Option Shape) → shows d ≡ o
      → gives c ≡ None → or_next o d (first_stop shows ds) ≡ Some (NotShown c)
      → (first_stop shows ds ≡ Some (NotShown c) → IsFirst c (lacked gives ds)) → IsFirst c (lacked gives (d ∷ ds))
  lacks-case c d ds None s g h f =
      let q : c ≡ d = stop-same c d h in
      head-same c d (lacked gives ds) (lacked gives ds) (is_none (gives d)) (ap (λ x. is_none (gives x)) (sym q) ∙ ap is_none g) q
  lacks-case c d ds (Some m) s g h f =
      tail-same c d (lacked gives ds) (lacked gives ds) (is_none (gives d)) (given-case d m (gives d) s refl) (f h)

  -- the first that isn't shown is the first that is lacked, where the source lacks it
  pub first-lacked : (c : List ℕ) (cs : List (List ℕ)) → gives c ≡ None → first_stop shows cs ≡ Some (NotShown c)
      → IsFirst c (lacked gives cs)
  first-lacked c [] g h = absurd cc
  first-lacked c (d ∷ ds) g h = lacks-case c d ds (shows d) refl g h (first-lacked c ds g)

-- ---- each once

or-none : (a b : Bool) → (a || b) ≡ false → (a ≡ false) × (b ≡ false)
or-none true b h = absurd cc
or-none false b h = (refl, h)

once-case : (d c : List ℕ) (cs : List (List ℕ)) (o : Ordering) → order c d ≡ o → count c cs ≡ 0 → count d cs ≤ 1
    → one_if_equal o + count d cs ≤ 1
once-case d c cs Less q n m = omega arith
once-case d c cs Greater q n m = omega arith
once-case d c cs Equal q n m =
    let e : c ≡ d = order-equal c d q in
    let z : count d cs ≡ 0 = ap (λ x. count x cs) (sym e) ∙ n in omega arith

pub counted-once : (cs : List (List ℕ)) → repeats cs ≡ false → (d : List ℕ) → count d cs ≤ 1
counted-once [] h d = omega arith
counted-once (c ∷ cs) h d =
    let n = or-none (has_cid c cs) (repeats cs) h in
    once-case d c cs (order c d) refl (has-not c cs n.0) (counted-once cs n.1 d)

kept-filter : (b : Bool) (c : List ℕ) (xs ys : List (List ℕ)) → xs ≡ ys
    → cons_option (unless b c) xs ≡ cond (not b) (c ∷ ys) ys
kept-filter true c xs ys h = h
kept-filter false c xs ys h = ap (λ z. c ∷ z) h

link-filter : (cs : List (List ℕ)) (l : Option (List ℕ)) (xs ys : List (List ℕ))
    → xs ≡ filter (λ c. not (has_cid c cs)) ys
    → cons_option (link_without cs l) xs ≡ filter (λ c. not (has_cid c cs)) (cons_option l ys)
link-filter cs None xs ys h = h
link-filter cs (Some c) xs ys h = kept-filter (has_cid c cs) c xs (filter (λ c. not (has_cid c cs)) ys) h

without-links : (cs : List (List ℕ)) (s : Shape)
    → links_in (without cs s) ≡ filter (λ c. not (has_cid c cs)) (links_in s)
without-links cs (LastLink l) = link-filter cs l [] [] refl
without-links cs (MoreLinks l e r) =
    link-filter cs l (links_in (without cs r)) (links_in r) (without-links cs r)

module _ (a b : Side) (ra : repeats (links_in a.line) ≡ false) (rb : repeats (links_in b.line) ≡ false) (d : List ℕ) where
  apart-case : (t : Bool) → has_cid d (links_in b.line) ≡ t
      → count d (filter (λ c. not (has_cid c (links_in b.line))) (links_in a.line))
      + count d (filter (λ c. not (has_cid c (links_in a.line))) (links_in b.line)) ≤ 1
  apart-case true h =
      let out = filter-out (λ c. not (has_cid c (links_in b.line))) d (links_in a.line) (ap not h) in
      let few = filter-fewer (λ c. not (has_cid c (links_in a.line))) d (links_in b.line) in
      let one = counted-once (links_in b.line) rb d in
      omega arith
  apart-case false h =
      let none = has-not d (links_in b.line) h in
      let few = filter-fewer (λ c. not (has_cid c (links_in a.line))) d (links_in b.line) in
      let less = filter-fewer (λ c. not (has_cid c (links_in b.line))) d (links_in a.line) in
      let one = counted-once (links_in a.line) ra d in
      omega arith

  both-once : (p q : Bool) → count d (both_links p q (shared_when (p && q) a b)) ≤ 1
  both-once true true =
      let both = count-append d (links_in (without (links_in b.line) a.line)) (links_in (without (links_in a.line) b.line)) in
      let x = ap (count d) (without-links (links_in b.line) a.line) in
      let y = ap (count d) (without-links (links_in a.line) b.line) in
      let sum = apart-case (has_cid d (links_in b.line)) refl in
      omega arith
  both-once true false =
      let both = count-append d (links_in a.line) [] in
      let one = counted-once (links_in a.line) ra d in
      omega arith
  both-once false true = counted-once (links_in b.line) rb d
  both-once false false = omega arith

-- ---- the layer at which opening stops

-- some CIDs, each once, of which this is the first that isn't shown
pub record IsStop (shows : List ℕ → Option Shape) (c : List ℕ) (cs : List (List ℕ)) : Type 0 where
  pub first : first_stop shows cs ≡ Some (NotShown c)
  pub once : (d : List ℕ) → count d cs ≤ 1

stop-is : {X : Type 0} (g h : Stop) → ◌≡◌ {A = Result X Stop} (Err g) (Err h) → g ≡ h
stop-is g h e = cc

module _ (shows : List ℕ → Option Shape) (c : List ℕ) where
  tested-case : (n : ℕ) (a b : Side) (t : Bool) → (repeats (links_in a.line) || repeats (links_in b.line)) ≡ t
      → level shows n a b ≡ Err (NotShown c) → IsStop shows c (needed_at n a b)
  tested-case n a b true e h =
      let p = nat_eq a.left (suc n) in
      let q = nat_eq b.left (suc n) in
      let twice : level shows n a b ≡ Err lines.NotTree =
      ap (λ t. tested t (both_opened shows n p q (shared_when (p && q) a b))) e in
      let z : ◌≡◌ {A = Result (Side × Side) Stop} (Err lines.NotTree) (Err (NotShown c)) = sym twice ∙ h in absurd cc
  tested-case n a b false e h =
      let clean = or-none (repeats (links_in a.line)) (repeats (links_in b.line)) e in
      record {
        first = sym (level-stop shows n a b e) ∙ ap stop_of h;
        once = λ d. both-once a b clean.0 clean.1 d (nat_eq a.left (suc n)) (nat_eq b.left (suc n));
      }

  levels-case : (n : ℕ) (a b : Side) (x : Result (Side × Side) Stop) → level shows n a b ≡ x
      → (x >>= λ y. levels shows n y.0 y.1) ≡ Err (NotShown c)
      → ((s t : Side) → levels shows n s t ≡ Err (NotShown c) → IsStop shows c (needed_in (reached shows n s t)))
      → IsStop shows c (needed_in (further (suc n, a, b) x (λ y. reached shows n y.0 y.1)))
  levels-case n a b (Ok y) e h f = f y.0 y.1 h
  levels-case n a b (Err g) e h f =
      tested-case n a b (repeats (links_in a.line) || repeats (links_in b.line)) refl
      (e ∙ ap Err (stop-is g (NotShown c) h))

  pub levels-stop : (k : ℕ) (a b : Side) → levels shows k a b ≡ Err (NotShown c)
      → IsStop shows c (needed_in (reached shows k a b))
  levels-stop zero a b h = absurd cc
  levels-stop (suc n) a b h = levels-case n a b (level shows n a b) refl h (levels-stop n)

module _ (shows : List ℕ → Option Shape) (z : Side × Side) where
  end-level : (n : ℕ) (x : Place) (y : Result (Side × Side) Stop) → (y >>= λ w. levels shows n w.0 w.1) ≡ Ok z
      → ((s t : Side) → levels shows n s t ≡ Ok z → reached shows n s t ≡ (0, z.0, z.1))
      → further x y (λ w. reached shows n w.0 w.1) ≡ (0, z.0, z.1)
  end-level n x (Ok w) h f = f w.0 w.1 h
  end-level n x (Err e) h f = absurd cc

  pub levels-end : (k : ℕ) (a b : Side) → levels shows k a b ≡ Ok z → reached shows k a b ≡ (0, z.0, z.1)
  levels-end zero a b h = ap (λ (w : Side × Side). (0, w.0, w.1)) (ok-is (a, b) z h)
  levels-end (suc n) a b h = end-level n (suc n, a, b) (level shows n a b) h (levels-end n)

-- ---- from the roots

one-most : (o : Ordering) → one_if_equal o ≤ 1
one-most Less = omega arith
one-most Equal = omega arith
one-most Greater = omega arith

module _ (shows : List ℕ → Option Shape) (layer : List ℕ → ℕ) (old new : List ℕ) where
  two-case : (d : List ℕ) → old ≢ new → (o p : Ordering) → order old d ≡ o → order new d ≡ p
      → one_if_equal o + (one_if_equal p + 0) ≤ 1
  two-case d apart Equal Equal h k = absurd (apart (order-equal old d h ∙ sym (order-equal new d k)))
  two-case d apart Equal Less h k = omega arith
  two-case d apart Equal Greater h k = omega arith
  two-case d apart Less p h k = let few = one-most p in omega arith
  two-case d apart Greater p h k = let few = one-most p in omega arith

  two-once : old ≢ new → (d : List ℕ) → count d (old ∷ new ∷ []) ≤ 1
  two-once apart d = two-case d apart (order old d) (order new d) refl refl

  from-case : (c : List ℕ) → old ≢ new → (s t : Option Shape) → shows old ≡ s → shows new ≡ t
      → compared_at shows layer old new s t ≡ Err (NotShown c) → IsStop shows c (needed_from shows layer old new s t)
  from-case c apart None t p q h = record {
    first = ap (λ o. or_next o old (first_stop shows (new ∷ []))) p ∙ ap Some (stop-is (NotShown old) (NotShown c) h);
    once = two-once apart;
  }
  from-case c apart (Some s) None p q h = record {
    first = (λ i. or_next (p i) old (or_next (q i) new None)) ∙ ap Some (stop-is (NotShown new) (NotShown c) h);
    once = two-once apart;
  }
  from-case c apart (Some s) (Some t) p q h =
      let a = side_at layer old s in
      let b = side_at layer new t in
      levels-stop shows c (max a.left b.left) a b h

  -- opening stops at the first CID that the layer needs and that isn't shown, and it needs each once
  pub stops-at : (c : List ℕ) → old ≢ new → compared shows layer old new ≡ Err (NotShown c)
      → IsStop shows c (needed_last shows layer old new)
  stops-at c apart h = from-case c apart (shows old) (shows new) refl refl h

  -- where opening doesn't stop nothing is needed, and this is read
  pub record IsEnd (x : Side × Side) (s t : Option Shape) : Type 0 where
    pub needs : needed_from shows layer old new s t ≡ []
    pub reads : read_from shows layer old new s t ≡ read_in (0, x.0, x.1)

  end-case : (s t : Option Shape) (x : Side × Side) → compared_at shows layer old new s t ≡ Ok x → IsEnd x s t
  end-case None t x h = absurd cc
  end-case (Some s) None x h = absurd cc
  end-case (Some s) (Some t) x h =
      let a = side_at layer old s in
      let b = side_at layer new t in
      let e = levels-end shows x (max a.left b.left) a b h in
      record { needs = ap needed_in e; reads = ap read_in e }

  pub ends-at : (x : Side × Side) → compared shows layer old new ≡ Ok x → IsEnd x (shows old) (shows new)
  ends-at x h = end-case (shows old) (shows new) x h

-- ---- what the code opens

append-none : (xs : List (List ℕ)) → xs ++ [] ≡ xs
append-none [] = refl
append-none (x ∷ xs) = ap (λ t. x ∷ t) (append-none xs)

is-eq : (x y : ℕ) → x ≡ y → nat_eq x y ≡ true
is-eq x y h = grind (arith, nat_tests)

not-eq : (x y : ℕ) → x < y → nat_eq x y ≡ false
not-eq x y h = grind (arith, nat_tests)

module _ (a b : Side) where
  needed-case : (k : ℕ) (p q : Bool) → 0 < k → nat_eq a.left (suc (k - 1)) ≡ p → nat_eq b.left (suc (k - 1)) ≡ q
      → needed_of k a b ≡ both_links p q (shared_when (p && q) a b)
  needed-case k p q some h i =
      let e : k ≡ suc (k - 1) = omega arith in
      ap (λ z. needed_of z a b) e ∙ (λ j. both_links (h j) (i j) (shared_when (h j && i j) a b))

  pub needed-old : b.left < a.left → needed_of (max a.left b.left) a b ≡ links_in a.line
  needed-old l =
      needed-case (max a.left b.left) true false (omega arith) (is-eq a.left (suc (max a.left b.left - 1)) (omega arith))
      (not-eq b.left (suc (max a.left b.left - 1)) (omega arith)) ∙ append-none (links_in a.line)

  pub needed-new : a.left < b.left → needed_of (max a.left b.left) a b ≡ links_in b.line
  needed-new l =
      needed-case (max a.left b.left) false true (omega arith) (not-eq a.left (suc (max a.left b.left - 1)) (omega arith))
      (is-eq b.left (suc (max a.left b.left - 1)) (omega arith))

  pub needed-both : a.left ≡ b.left → 0 < a.left → needed_of (max a.left b.left) a b
      ≡ links_in (without (links_in b.line) a.line) ++ links_in (without (links_in a.line) b.line)
  needed-both e some =
      needed-case (max a.left b.left) true true (omega arith) (is-eq a.left (suc (max a.left b.left - 1)) (omega arith))
      (is-eq b.left (suc (max a.left b.left - 1)) (omega arith))

-- ---- layer after layer

module _ (shows : List ℕ → Option Shape) (k : ℕ) (a b : Side) where
  pub reached-step : (m : ℕ) (s t : Side) → suc m ≡ k → ((n : ℕ) → k ≡ suc n → level shows n a b ≡ Ok (s, t))
      → reached shows k a b ≡ reached shows m s t
  reached-step m s t e h =
      ap (λ j. reached shows j a b) (sym e)
      ∙ ap (λ x. further (suc m, a, b) x (λ y. reached shows m y.0 y.1)) (h m (sym e))

  pub reached-stop : (e : Stop) → 0 < k → ((n : ℕ) → k ≡ suc n → level shows n a b ≡ Err e) → reached shows k a b ≡ (k, a, b)
  reached-stop e some h =
      let n = k - 1 in
      let q : k ≡ suc n = omega arith in
      ap (λ j. reached shows j a b) q
      ∙ ap (λ x. further (suc n, a, b) x (λ y. reached shows n y.0 y.1)) (h n q)
      ∙ (λ i. (sym q i, a, b))

  pub reached-end : k ≡ 0 → reached shows k a b ≡ (0, a, b)
  reached-end e = ap (λ j. reached shows j a b) e

-- ---- links of rows

pub among-next : {B : Type 0} (cids : List (List ℕ)) (rs : List (Row B)) (x : Row B) (ss : List (Row B)) → rs ≡ x ∷ ss
    → (link : Option (List ℕ)) → link ≡ link_without cids x.link
    → links_among cids (rows_of rs) ≡ length (cons_option link []) + links_among cids (rows_of ss)
among-next cids rs x ss next link is =
    ap (λ (z : List (Row _)). links_among cids (rows_of z)) next
    ∙ ap (λ l. length (cons_option l []) + links_among cids (rows_of ss)) (sym is)

cons-length : (l : Option (List ℕ)) (xs : List (List ℕ)) → length (cons_option l xs) ≡ length (cons_option l []) + length xs
cons-length None xs = omega arith
cons-length (Some c) xs = omega arith

pub among-line : (cids : List (List ℕ)) (rows : Rows) (last : Option (List ℕ))
    → length (links_in (without cids (onto_links rows (LastLink last))))
    ≡ links_among cids rows + length (cons_option (link_without cids last) [])
among-line cids [] last = omega arith
among-line cids (x ∷ rows) last =
    let i = cons-length (link_without cids x.0) (links_in (without cids (onto_links rows (LastLink last)))) in
    let j = among-line cids rows last in
    omega arith

-- ---- links that are noted

rows-without-append : (cids : List (List ℕ)) (xs ys : Rows)
    → rows_without cids (xs ++ ys) ≡ rows_without cids xs ++ rows_without cids ys
rows-without-append cids xs ys = map-append (λ x. (link_without cids x.0, x.1)) xs ys

module _ {B : Type 0} (cids : List (List ℕ)) (rs : List (Row B)) where
  -- one row more
  pub noted-more : (i : ℕ) (x : Row B) → i < length rs → x ≡ get_or rs i x → (old new : List (List ℕ)) (link : Option (List ℕ))
      → link ≡ link_without cids x.link → new ≡ (old ++ links_of (rows_without cids (rows_of (take i rs)))) ++ cons_option link []
      → new ≡ old ++ links_of (rows_without cids (rows_of (take (i + 1) rs)))
  noted-more i x short is old new link at q =
      q ∙ ap (λ l. (old ++ links_of (rows_without cids (rows_of (take i rs)))) ++ cons_option l []) at
      ∙ append_assoc old (links_of (rows_without cids (rows_of (take i rs)))) (cons_option (link_without cids x.link) [])
      ∙ ap (λ z. old ++ z)
      (sym (links-append (rows_without cids (rows_of (take i rs))) ((link_without cids x.link, (key_in x.key, x.value)) ∷ []))
      ∙ ap links_of (sym (rows-without-append cids (rows_of (take i rs)) (row_of x ∷ []))
      ∙ ap (rows_without cids) (sym (rows-more rs i x short is))))

  -- and the last link
  pub noted-all : (i : ℕ) → i ≡ length rs → (last : Option (List ℕ)) (old new : List (List ℕ)) (link : Option (List ℕ))
      → link ≡ link_without cids last → new ≡ (old ++ links_of (rows_without cids (rows_of (take i rs)))) ++ cons_option link []
      → new ≡ old ++ links_in (without cids (onto_links (rows_of rs) (LastLink last)))
  noted-all i all last old new link at q =
      q ∙ ap (λ l. (old ++ links_of (rows_without cids (rows_of (take i rs)))) ++ cons_option l []) at
      ∙ append_assoc old (links_of (rows_without cids (rows_of (take i rs)))) (cons_option (link_without cids last) [])
      ∙ ap (λ z. old ++ (links_of (rows_without cids (rows_of z)) ++ cons_option (link_without cids last) []))
      (take_all i rs (omega (arith, all)))
      ∙ ap (λ z. old ++ z) (sym (links-line (rows_without cids (rows_of rs)) (LastLink (link_without cids last)))
      ∙ ap links_in (sym (without-line cids (rows_of rs) last)))

-- ---- those that a source lacks

module _ {A : Type 0} (gives : List ℕ → Option A) (cids : List (List ℕ)) (i : ℕ) (x : List ℕ) (short : i < length cids)
    (is : x ≡ get_or cids i x) where
  lacked-more : lacked gives (take (i + 1) cids) ≡ lacked gives (take i cids) ++ cond (is_none (gives x)) (x ∷ []) []
  lacked-more =
      ap (lacked gives) (take_more cids i x short ∙ ap (λ y. take i cids ++ (y ∷ [])) (sym is))
      ∙ filter-append (λ c. is_none (gives c)) (take i cids) (x ∷ [])

  pub lacked-in : (all more : List (List ℕ)) → all ≡ lacked gives (take i cids) → more ≡ all ++ (x ∷ []) → gives x ≡ None
      → more ≡ lacked gives (take (i + 1) cids)
  lacked-in all more h q none =
      q ∙ ap (λ z. z ++ (x ∷ [])) h
      ∙ ap (λ o. lacked gives (take i cids) ++ cond (is_none o) (x ∷ []) []) (sym none) ∙ sym lacked-more

  pub lacked-out : (all : List (List ℕ)) → all ≡ lacked gives (take i cids) → is_none (gives x) ≡ false
      → all ≡ lacked gives (take (i + 1) cids)
  lacked-out all h some =
      h ∙ sym (append-none (lacked gives (take i cids)))
      ∙ ap (λ b. lacked gives (take i cids) ++ cond b (x ∷ []) []) (sym some) ∙ sym lacked-more

-- ---- what is needed where a layer stops

pub if-missing : (fault : DifferenceFault) (P : Type 0) → P → IfMissing fault P
if-missing (BlockMissing c) P p = p
if-missing (BadNode c) P p = tt
if-missing TooDeep P p = tt
if-missing NotTree P p = tt
if-missing NoMemory P p = tt

-- what was noted of a line without the links of an empty set, or of a set
pub noted-whole : (s : BTreeSet (List ℕ)) → s.keys ≡ [] → (line : Shape) (old new : List (List ℕ)) → old ≡ []
    → new ≡ old ++ links_in (without s.keys line) → new ≡ links_in line
noted-whole s e line old new h q =
    q ∙ (λ i. h i ++ links_in (without-empty s e line i))

pub noted-both : (ours theirs : BTreeSet (List ℕ)) (a b : Shape) → HasLinks (links_in a) ours → HasLinks (links_in b) theirs
    → (old mid new : List (List ℕ)) → old ≡ [] → mid ≡ old ++ links_in (without theirs.keys a)
    → new ≡ mid ++ links_in (without ours.keys b)
    → new ≡ links_in (without (links_in b) a) ++ links_in (without (links_in a) b)
noted-both ours theirs a b h k old mid new e p q =
    q ∙ (λ i. (p ∙ (λ j. e j ++ links_in (without-set (links_in b) theirs k a j))) i
    ++ links_in (without-set (links_in a) ours h b i))

pub both-lengths : (a b : Side) → a.left ≡ b.left → 0 < a.left → (ours theirs : BTreeSet (List ℕ)) → HasLinks (links_in a.line) ours
    → HasLinks (links_in b.line) theirs → length (needed_of (max a.left b.left) a b)
    ≡ length (links_in (without theirs.keys a.line)) + length (links_in (without ours.keys b.line))
both-lengths a b e some ours theirs h k =
    ap length (needed-both a b e some)
    ∙ length-append (links_in (without (links_in b.line) a.line)) (links_in (without (links_in a.line) b.line))
    ∙ (λ i. length (links_in (sym (without-set (links_in b.line) theirs k a.line) i))
    + length (links_in (sym (without-set (links_in a.line) ours h b.line) i)))

-- ---- what is needed, from both roots on

pub missing-both : (fault : DifferenceFault) (P Q R : Type 0) → (P → Q → R) → IfMissing fault P → IfMissing fault Q
    → IfMissing fault R
missing-both (BlockMissing c) P Q R f p q = f p q
missing-both (BadNode c) P Q R f p q = tt
missing-both TooDeep P Q R f p q = tt
missing-both NotTree P Q R f p q = tt
missing-both NoMemory P Q R f p q = tt

pub missing-then : (fault : DifferenceFault) (P R : Type 0) → (P → R) → IfMissing fault P → IfMissing fault R
missing-then (BlockMissing c) P R f p = f p
missing-then (BadNode c) P R f p = tt
missing-then TooDeep P R f p = tt
missing-then NotTree P R f p = tt
missing-then NoMemory P R f p = tt

module _ (shows : List ℕ → Option Shape) (layer : List ℕ → ℕ) (old new : List ℕ) where
  pub needed-starts : (a b : Side) → IsStart shows layer old a → IsStart shows layer new b
      → needed_last shows layer old new ≡ needed_in (reached_from shows a b)
  needed-starts a b (s, p) (t, q) =
      (λ i. needed_from shows layer old new (p.0 i) (q.0 i))
      ∙ (λ i. needed_in (reached_from shows (sym p.1 i) (sym q.1 i)))

  pub read-starts : (a b : Side) → IsStart shows layer old a → IsStart shows layer new b
      → read_before shows layer old new ≡ read_in (reached_from shows a b)
  read-starts a b (s, p) (t, q) =
      (λ i. read_from shows layer old new (p.0 i) (q.0 i))
      ∙ (λ i. read_in (reached_from shows (sym p.1 i) (sym q.1 i)))

-- where a block is missing, no more is opened
pub reached-missing : {A : Type 0} (gives : List ℕ → Option A) (shows : List ℕ → Option Shape) (k : ℕ) (a b : Side)
    (fault : DifferenceFault) → 0 < k → ((n : ℕ) → k ≡ suc n → IsStopped gives (level shows n a b) fault)
    → IfMissing fault (reached shows k a b ≡ (k, a, b))
reached-missing gives shows k a b (BlockMissing c) some h = reached-stop shows k a b (NotShown c) some (λ n e. (h n e).1)
reached-missing gives shows k a b (BadNode c) some h = tt
reached-missing gives shows k a b TooDeep some h = tt
reached-missing gives shows k a b NotTree some h = tt
reached-missing gives shows k a b NoMemory some h = tt

-- how often it was asked: once for each root, then for each block that was opened, and for what the layer needs at most
pub most-here : (r0 r1 r2 at now wa wb xa xb na nb need before : ℕ) → r1 ≡ suc r0 → r2 ≡ suc r1 → wa ≡ 1 → wb ≡ 1
    → at + (wa + wb) ≡ r2 + (xa + xb) → xa ≡ max 1 na → xb ≡ max 1 nb → before ≡ max 1 na + max 1 nb
    → now ≤ at + need → now ≤ r0 + (before + need)
most-here r0 r1 r2 at now wa wb xa xb na nb need before h i j k l m n o p = omega arith

pub read-lengths : {A : Type 0} (k : ℕ) (a b : Side) (xs ys : List (Arc (List ℕ) A)) → a.read ≡ shapes_in xs → b.read ≡ shapes_in ys
    → read_in (k, a, b) ≡ max 1 (length xs) + max 1 (length ys)
read-lengths k a b xs ys h i =
    let m = ap length h ∙ length-map xs (λ b. shape_in (arc_value b)) in
    let n = ap length i ∙ length-map ys (λ b. shape_in (arc_value b)) in
    (λ j. max 1 (m j) + max 1 (n j))

-- ---- what is answered

pub telling-of : {A : Type 0} (gives : List ℕ → Option A) (step : Result (Side × Side) Stop) (c : List ℕ) (cs : List (List ℕ))
    → gives c ≡ None → step ≡ Err (NotShown c) → IsFirst c cs → IsTelling gives step cs
telling-of gives step c [] g h f = absurd f
telling-of gives step c (d ∷ ds) g h f = (ap gives (sym f) ∙ g, h ∙ ap (λ x. Err (NotShown x)) f)

pub not-given : {A : Type 0} (gives : List ℕ → Option (Arc (List ℕ) A)) (c : List ℕ) → gives c ≡ None → nodes_given gives c ≡ None
not-given gives c h = ap (λ o. option_and_then shape_of_bytes (option_map arc_value o)) h

-- the list that is answered where opening stops for want of a block
module _ {A : Type 0} (digest : List ℕ → List ℕ) (bits : ℕ) (gives : List ℕ → Option (Arc (List ℕ) A)) (old new c : List ℕ)
    (cids needs : List (List ℕ)) (apart : old ≢ new)
    (stopped : IsStopped gives (compared (nodes_given gives) (layer_of digest bits) old new) (BlockMissing c))
    (needed : needs ≡ needed_last (nodes_given gives) (layer_of digest bits) old new) (found : cids ≡ lacked gives needs) where
  at-stop : IsStop (nodes_given gives) c (needed_last (nodes_given gives) (layer_of digest bits) old new)
  at-stop = stops-at (nodes_given gives) (layer_of digest bits) old new c apart stopped.1

  pub missing-told : IsTelling gives (compared (nodes_given gives) (layer_of digest bits) old new) cids
  missing-told =
      telling-of gives (compared (nodes_given gives) (layer_of digest bits) old new) c cids stopped.0 stopped.1
      (subst (IsFirst c) (sym (found ∙ ap (lacked gives) needed))
      (first-lacked gives (nodes_given gives) (not-given gives) c
      (needed_last (nodes_given gives) (layer_of digest bits) old new) stopped.0 at-stop.first))

  pub missing-once : (d : List ℕ) → count d cids ≤ 1
  missing-once d =
      let is = ap (count d) (found ∙ ap (lacked gives) needed) in
      let few = filter-fewer (λ x. is_none (gives x)) d (needed_last (nodes_given gives) (layer_of digest bits) old new) in
      let once = at-stop.once d in
      omega arith

-- why there is no list
pub other-stop : {A : Type 0} (gives : List ℕ → Option A) (step : Result (Side × Side) Stop) (fault : DifferenceFault)
    → ((c : List ℕ) → fault ≢ BlockMissing c) → IsStopped gives step fault → IsOtherStop gives step fault
other-stop gives step (BlockMissing c) n h = n c refl
other-stop gives step (BadNode c) n h = h
other-stop gives step TooDeep n h = h
other-stop gives step NotTree n h = h
other-stop gives step NoMemory n h = tt
