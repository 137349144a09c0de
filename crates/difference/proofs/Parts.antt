-- Two trees over a part of a source that has both.
use Rattle.std.proofs.Common.{◌≡◌, ◌⊎◌, inl, inr, ℕ, zero, suc, ◌+◌, ◌<◌, Bool, true, false, cond, ◌||◌, ◌&&◌, nat_eq, max, List, [], ◌∷◌, ◌++◌, map, refl, sym, ap, ◌∙◌, subst, arith, Option, Result, Ok, Err}
use Rattle.std.specs.Prelude.{Contains, IsSome, is_none, option_and_then, option_map}
use Rattle.std.specs.Arc.{arc_value}
use Rattle.std.specs.declared.cmp.Ordering.{Ordering}
use Rattle.std.specs.declared.cmp.Ordering.TheVariants.{Less, Equal, Greater}
use Rattle.std.specs.declared.sync.Arc.{Arc}
use Rattle.std.proofs.lemmas.List.{get_or-map, length-map}
use Rattle.std.proofs.lemmas.List.Elements.{Contains-append_left, Contains-append_right}
use Rattle.std.specs.List.{AllByRecursion}
use Rattle.std.specs.declared.option.Option.TheVariants.{Some, None}
use Rattle.spec.specs.Cid.{IsDigest}
use Rattle.spec.specs.Layer.{layer as layer_of}
use Rattle.spec.specs.Reading.{◌>>=◌}
use Rattle.spec.specs.NodeFormat.{Shape, LastLink, MoreLinks, shape_bytes}
use Rattle.spec.specs.Tree.{Pair}
use Rattle.spec.proofs.RootLaws.{in_head, in_tail}
use Rattle.edit_laws.specs.Changes.{count, one_if_equal}
use Rattle.edit_laws.specs.Order.{order}
use Rattle.edit_laws.specs.Sources.{Extends, shape_of_bytes, shown_by}
use Rattle.edit_laws.proofs.Lists.{contains-counted, counted-contains, filter-fewer, filter-in}
use Rattle.edit_laws.proofs.Orders.{order-equal}
use Rattle.lookups.specs.Steps.{nodes_given}
use Rattle.lookups.specs.Trees.{HasTree, bytes_given}
use Rattle.difference_laws.specs.Laws.{HaveCompared}
use Rattle.difference_laws.proofs.Compared.{trees-compared}
use Rattle.difference.specs.Differences.{IsWant}
use Rattle.difference.specs.declared.faults.DifferenceFault.{DifferenceFault}
use Rattle.difference.specs.declared.faults.DifferenceFault.TheVariants.{BlockMissing, BadNode, TooDeep, NotTree, NoMemory}
use Rattle.difference_laws.specs.Lines.{Opened, Side, Stop, NotShown, both_opened, compared, compared_at, level, levels, links_in, opened, opened_last, opened_row, opened_when, repeats, shared_when, side_at, side_of, spliced, tested, within}
use Rattle.difference_laws.specs.Lines as lines
use Rattle.difference.specs.Missing.{AreOfOneTree, IsOfOneTree, IsOtherStop, Place, both_links, further, links_when, needed_at, needed_from, needed_in, needed_last, lacked, missing_of, reached}
use Rattle.difference.proofs.Needing.{first_stop, level-stop, levels-end, or_next, stop-same, stop_of}

-- ---- what is opened is read

-- what a source shows under this CID is among these nodes
pub record IsAmong (shows : List ℕ → Option Shape) (ms : List Shape) (c : List ℕ) : Type 0 where
  pub node : Shape
  pub shown : shows c ≡ Some node
  pub among : Contains ms node

-- what was read stays
abbrev pub Keeps : List Shape → List Shape → Type 0
Keeps old new = (m : Shape) → Contains old m → Contains new m

-- each of these CIDs was read, and what was read before stays
pub record AreRead (shows : List ℕ → Option Shape) (cs : List (List ℕ)) (old new : List Shape) : Type 0 where
  pub each : AllByRecursion (IsAmong shows new) cs
  pub keeps : Keeps old new

pub each-append : (P : List ℕ → Type 0) (xs ys : List (List ℕ)) → AllByRecursion P xs → AllByRecursion P ys
    → AllByRecursion P (xs ++ ys)
each-append P [] ys h k = k
each-append P (x ∷ xs) ys h k = (h.0, each-append P xs ys h.1 k)

module _ (shows : List ℕ → Option Shape) where
  among-more : (old new : List Shape) → Keeps old new → (c : List ℕ) → IsAmong shows old c → IsAmong shows new c
  among-more old new k c h = record { node = h.node; shown = h.shown; among = k h.node h.among }

  each-more : (old new : List Shape) → Keeps old new → (cs : List (List ℕ)) → AllByRecursion (IsAmong shows old) cs
      → AllByRecursion (IsAmong shows new) cs
  each-more old new k [] h = tt
  each-more old new k (c ∷ cs) h = (among-more old new k c h.0, each-more old new k cs h.1)

  one-keeps : (read : List Shape) (m : Shape) → Keeps read (read ++ (m ∷ []))
  one-keeps read m = λ n h. Contains-append_left read (m ∷ []) n h

  one-among : (read : List Shape) (c : List ℕ) (m : Shape) → shows c ≡ Some m → IsAmong shows (read ++ (m ∷ [])) c
  one-among read c m h = record {
    node = m;
    shown = h;
    among = Contains-append_right read (m ∷ []) m (0, omega arith, refl);
  }

  read-none : (read : List Shape) → AreRead shows [] read read
  read-none read = record { each = tt; keeps = λ m h. h }

  read-link : (c : List ℕ) (cs : List (List ℕ)) (read new : List Shape) (m : Shape) → shows c ≡ Some m
      → AreRead shows cs (read ++ (m ∷ [])) new → AreRead shows (c ∷ cs) read new
  read-link c cs read new m h r = record {
    each = (among-more (read ++ (m ∷ [])) new r.keeps c (one-among read c m h), r.each);
    keeps = λ n i. r.keeps n (one-keeps read m n i);
  }

  -- a line that opens has all its links read
  abbrev Reads : List (List ℕ) → List Shape → Opened → Type 0
  Reads cs read (Ok x) = AreRead shows cs read x.1
  Reads cs read (Err e) = Unit {0}

  reads-within : (f : Shape → Shape) (cs : List (List ℕ)) (read : List Shape) (x : Opened) → Reads cs read x
      → Reads cs read (within f x)
  reads-within f cs read (Ok x) h = h
  reads-within f cs read (Err e) h = tt

  reads-link : (c : List ℕ) (cs : List (List ℕ)) (read : List Shape) (m : Shape) (x : Opened) → shows c ≡ Some m
      → Reads cs (read ++ (m ∷ [])) x → Reads (c ∷ cs) read x
  reads-link c cs read m (Ok x) s h = read-link c cs read x.1 m s h
  reads-link c cs read m (Err e) s h = tt

  last-reads : (c : List ℕ) (o : Option Shape) (read : List Shape) → shows c ≡ o → Reads (c ∷ []) read (opened_last c o read)
  last-reads c None read s = tt
  last-reads c (Some m) read s = read-link c [] read (read ++ (m ∷ [])) m s (read-none (read ++ (m ∷ [])))

  row-reads : (go : List Shape → Opened) (c : List ℕ) (e : List ℕ × List ℕ) (o : Option Shape) (cs : List (List ℕ))
      (read : List Shape) → shows c ≡ o → ((r : List Shape) → Reads cs r (go r)) → Reads (c ∷ cs) read (opened_row go c e o read)
  row-reads go c e None cs read s f = tt
  row-reads go c e (Some m) cs read s f =
      reads-within (λ r. spliced m e r) (c ∷ cs) read (go (read ++ (m ∷ [])))
      (reads-link c cs read m (go (read ++ (m ∷ []))) s (f (read ++ (m ∷ []))))

  opened-reads : (line : Shape) (read : List Shape) → Reads (links_in line) read (opened shows line read)
  opened-reads (LastLink None) read = read-none read
  opened-reads (LastLink (Some c)) read = last-reads c (shows c) read refl
  opened-reads (MoreLinks None e r) read =
      reads-within (λ t. MoreLinks None e t) (links_in r) read (opened shows r read) (opened-reads r read)
  opened-reads (MoreLinks (Some c) e r) read =
      row-reads (opened shows r) c e (shows c) (links_in r) read refl (opened-reads r)

  -- a side, where it stands at the layer
  abbrev ReadsSide : List (List ℕ) → List Shape → Result Side Stop → Type 0
  ReadsSide cs read (Ok s) = AreRead shows cs read s.read
  ReadsSide cs read (Err e) = Unit {0}

  side-reads : (n : ℕ) (cs : List (List ℕ)) (read : List Shape) (x : Opened) → Reads cs read x
      → ReadsSide cs read (side_of n x)
  side-reads n cs read (Ok x) h = h
  side-reads n cs read (Err e) h = tt

  when-reads : (n : ℕ) (p : Bool) (s : Side) → ReadsSide (links_when p s) s.read (opened_when shows n p s)
  when-reads n true s = side-reads n (links_in s.line) s.read (opened shows s.line s.read) (opened-reads s.line s.read)
  when-reads n false s = read-none s.read

  -- both sides: each CID was read for one of them
  abbrev IsAmongBoth : Side × Side → List ℕ → Type 0
  IsAmongBoth z c = IsAmong shows z.0.read c ⊎ IsAmong shows z.1.read c

  pub record AreBothRead (cs : List (List ℕ)) (x z : Side × Side) : Type 0 where
    pub each : AllByRecursion (IsAmongBoth z) cs
    pub old_keeps : Keeps x.0.read z.0.read
    pub new_keeps : Keeps x.1.read z.1.read

  abbrev ReadsBoth : List (List ℕ) → Side × Side → Result (Side × Side) Stop → Type 0
  ReadsBoth cs x (Ok z) = AreBothRead cs x z
  ReadsBoth cs x (Err e) = Unit {0}

  each-left : (z : Side × Side) (cs : List (List ℕ)) → AllByRecursion (IsAmong shows z.0.read) cs
      → AllByRecursion (IsAmongBoth z) cs
  each-left z [] h = tt
  each-left z (c ∷ cs) h = (inl h.0, each-left z cs h.1)

  each-right : (z : Side × Side) (cs : List (List ℕ)) → AllByRecursion (IsAmong shows z.1.read) cs
      → AllByRecursion (IsAmongBoth z) cs
  each-right z [] h = tt
  each-right z (c ∷ cs) h = (inr h.0, each-right z cs h.1)

  pair-reads : (cs ds : List (List ℕ)) (x : Side × Side) (s t : Result Side Stop) → ReadsSide cs x.0.read s
      → ReadsSide ds x.1.read t → ReadsBoth (cs ++ ds) x (s >>= λ a. t >>= λ b. Ok (a, b))
  pair-reads cs ds x (Ok a) (Ok b) h k = record {
    each = each-append (IsAmongBoth (a, b)) cs ds (each-left (a, b) cs h.each) (each-right (a, b) ds k.each);
    old_keeps = h.keeps;
    new_keeps = k.keeps;
  }
  pair-reads cs ds x (Ok a) (Err e) h k = tt
  pair-reads cs ds x (Err e) t h k = tt

  both-reads : (n : ℕ) (p q : Bool) (x : Side × Side) → ReadsBoth (both_links p q x) x (both_opened shows n p q x)
  both-reads n p q x =
      pair-reads (links_when p x.0) (links_when q x.1) x (opened_when shows n p x.0) (opened_when shows n q x.1)
      (when-reads n p x.0) (when-reads n q x.1)

  shared-reads : (t : Bool) (a b : Side) (cs : List (List ℕ)) (r : Result (Side × Side) Stop)
      → ReadsBoth cs (shared_when t a b) r → ReadsBoth cs (a, b) r
  shared-reads true a b cs (Ok z) h = record { each = h.each; old_keeps = h.old_keeps; new_keeps = h.new_keeps }
  shared-reads true a b cs (Err e) h = tt
  shared-reads false a b cs r h = h

  tested-reads : (t : Bool) (cs : List (List ℕ)) (x : Side × Side) (r : Result (Side × Side) Stop) → ReadsBoth cs x r
      → ReadsBoth cs x (tested t r)
  tested-reads true cs x r h = tt
  tested-reads false cs x r h = h

  pub level-reads : (n : ℕ) (a b : Side) → ReadsBoth (needed_at n a b) (a, b) (level shows n a b)
  level-reads n a b =
      let p = nat_eq a.left (suc n) in
      let q = nat_eq b.left (suc n) in
      tested-reads (repeats (links_in a.line) || repeats (links_in b.line)) (needed_at n a b) (a, b)
      (both_opened shows n p q (shared_when (p && q) a b))
      (shared-reads (p && q) a b (needed_at n a b) (both_opened shows n p q (shared_when (p && q) a b))
      (both-reads n p q (shared_when (p && q) a b)))

  -- layer after layer what was read stays
  later-keeps : (cs : List (List ℕ)) (x y z : Side × Side) → AreBothRead cs x y → Keeps y.0.read z.0.read
      → Keeps y.1.read z.1.read → AreBothRead cs x z
  later-keeps cs x y z h k l = record {
    each = each-both y z k l cs h.each;
    old_keeps = λ m i. k m (h.old_keeps m i);
    new_keeps = λ m i. l m (h.new_keeps m i);
  }
    where
      both-more : (y z : Side × Side) → Keeps y.0.read z.0.read → Keeps y.1.read z.1.read → (c : List ℕ) → IsAmongBoth y c
          → IsAmongBoth z c
      both-more y z k l c (inl h) = inl (among-more y.0.read z.0.read k c h)
      both-more y z k l c (inr h) = inr (among-more y.1.read z.1.read l c h)

      each-both : (y z : Side × Side) → Keeps y.0.read z.0.read → Keeps y.1.read z.1.read → (cs : List (List ℕ))
          → AllByRecursion (IsAmongBoth y) cs → AllByRecursion (IsAmongBoth z) cs
      each-both y z k l [] h = tt
      each-both y z k l (c ∷ cs) h = (both-more y z k l c h.0, each-both y z k l cs h.1)

-- ---- the first that isn't shown

holds-case : (P : List ℕ → Type 0) (shows : List ℕ → Option Shape) (c d : List ℕ) (ds : List (List ℕ)) (o : Option Shape)
    → shows d ≡ o → P d → or_next o d (first_stop shows ds) ≡ Some (NotShown c)
    → (first_stop shows ds ≡ Some (NotShown c) → (shows c ≡ None) × P c) → (shows c ≡ None) × P c
holds-case P shows c d ds None e k h f =
    let q : c ≡ d = stop-same c d h in (ap shows q ∙ e, subst P (sym q) k)
holds-case P shows c d ds (Some m) e k h f = f h

pub first-holds : (P : List ℕ → Type 0) (shows : List ℕ → Option Shape) (c : List ℕ) (cs : List (List ℕ))
    → first_stop shows cs ≡ Some (NotShown c) → AllByRecursion P cs → (shows c ≡ None) × P c
first-holds P shows c [] h k = absurd cc
first-holds P shows c (d ∷ ds) h k =
    holds-case P shows c d ds (shows d) refl k.0 h (λ i. first-holds P shows c ds i k.1)

-- ---- a part of a source

stop-err : {X : Type 0} (x : Result X Stop) (e : Stop) → stop_of x ≡ Some e → x ≡ Err e
stop-err (Ok x) e h = absurd cc
stop-err (Err f) e h = ap Err (some-same f e h)
  where
    some-same : (f e : Stop) → ◌≡◌ {A = Option Stop} (Some f) (Some e) → f ≡ e
    some-same f e h = cc

names-case : (d : List ℕ) (o : Option Shape) (s : Option Stop) (e : Stop) → or_next o d s ≡ Some e
    → (s ≡ Some e → (c : List ℕ) × (e ≡ NotShown c)) → (c : List ℕ) × (e ≡ NotShown c)
names-case d None s e h f = (d, cc)
names-case d (Some m) s e h f = f h

-- what isn't shown is a CID
stop-names : (shows : List ℕ → Option Shape) (cs : List (List ℕ)) (e : Stop) → first_stop shows cs ≡ Some e
    → (c : List ℕ) × (e ≡ NotShown c)
stop-names shows [] e h = absurd cc
stop-names shows (d ∷ ds) e h = names-case d (shows d) (first_stop shows ds) e h (stop-names shows ds e)

ok-same : {X : Type 0} (x y : X) → ◌≡◌ {A = Result X Stop} (Ok x) (Ok y) → x ≡ y
ok-same x y h = cc

row-same : (f g : List Shape → Opened) (c : List ℕ) (e : List ℕ × List ℕ) (o : Option Shape) (read : List Shape)
    → ((r : List Shape) → f r ≡ g r) → opened_row f c e o read ≡ opened_row g c e o read
row-same f g c e None read h = refl
row-same f g c e (Some m) read h = ap (within (λ t. spliced m e t)) (h (read ++ (m ∷ [])))

each-split : (P : List ℕ → Type 0) (xs ys : List (List ℕ)) → AllByRecursion P (xs ++ ys)
    → AllByRecursion P xs × AllByRecursion P ys
each-split P [] ys h = (tt, h)
each-split P (x ∷ xs) ys h = let k = each-split P xs ys h.1 in ((h.0, k.0), k.1)

module _ (part whole : List ℕ → Option Shape) (within_whole : (c : List ℕ) (m : Shape) → part c ≡ Some m → whole c ≡ Some m) where
  abbrev IsSame : List ℕ → Type 0
  IsSame c = part c ≡ whole c

  same-case : (d : List ℕ) (ds : List (List ℕ)) (o : Option Shape) → part d ≡ o → or_next o d (first_stop part ds) ≡ None
      → (first_stop part ds ≡ None → AllByRecursion IsSame ds) → AllByRecursion IsSame (d ∷ ds)
  same-case d ds None e h f = absurd cc
  same-case d ds (Some m) e h f = (e ∙ sym (within_whole d m e), f h)

  all-same : (cs : List (List ℕ)) → first_stop part cs ≡ None → AllByRecursion IsSame cs
  all-same [] h = tt
  all-same (d ∷ ds) h = same-case d ds (part d) refl h (all-same ds)

  opened-same : (line : Shape) (read : List Shape) → AllByRecursion IsSame (links_in line)
      → opened part line read ≡ opened whole line read
  opened-same (LastLink None) read h = refl
  opened-same (LastLink (Some c)) read h = ap (λ o. opened_last c o read) h.0
  opened-same (MoreLinks None e r) read h = ap (within (λ t. MoreLinks None e t)) (opened-same r read h)
  opened-same (MoreLinks (Some c) e r) read h =
      ap (λ o. opened_row (opened part r) c e o read) h.0
      ∙ row-same (opened part r) (opened whole r) c e (whole c) read (λ s. opened-same r s h.1)

  when-same : (n : ℕ) (p : Bool) (s : Side) → AllByRecursion IsSame (links_when p s)
      → opened_when part n p s ≡ opened_when whole n p s
  when-same n true s h = ap (side_of n) (opened-same s.line s.read h)
  when-same n false s h = refl

  both-same : (n : ℕ) (p q : Bool) (x : Side × Side) → AllByRecursion IsSame (both_links p q x)
      → both_opened part n p q x ≡ both_opened whole n p q x
  both-same n p q x h =
      let k = each-split IsSame (links_when p x.0) (links_when q x.1) h in
      (λ i. when-same n p x.0 k.0 i >>= λ a. when-same n q x.1 k.1 i >>= λ b. Ok (a, b))

  -- a layer that is all there is opened as by the whole
  pub level-each : (n : ℕ) (a b : Side) → AllByRecursion IsSame (needed_at n a b) → level part n a b ≡ level whole n a b
  level-each n a b h =
      let p = nat_eq a.left (suc n) in
      let q = nat_eq b.left (suc n) in
      ap (tested (repeats (links_in a.line) || repeats (links_in b.line))) (both-same n p q (shared_when (p && q) a b) h)

  pub level-same : (n : ℕ) (a b : Side) → first_stop part (needed_at n a b) ≡ None → level part n a b ≡ level whole n a b
  level-same n a b h = level-each n a b (all-same (needed_at n a b) h)

  -- where the whole opens two trees, its part does, or stops for want of a block that it doesn't show, in a layer of which the
  -- whole reads each
  abbrev Wants : Side × Side → Result (Side × Side) Stop → Place → Type 0
  Wants z r x = (c : List ℕ) × ((r ≡ Err (NotShown c)) × (part c ≡ None) × (IsAmongBoth whole z c)
      × AllByRecursion (IsAmongBoth whole z) (needed_in x))

  abbrev Follows : Side × Side → Result (Side × Side) Stop → Place → Type 0
  Follows z r x = (r ≡ Ok z) ⊎ Wants z r x

  abbrev Finish : Side × Side → Side × Side → Type 0
  Finish x z = Keeps x.0.read z.0.read × Keeps x.1.read z.1.read

  finish-case : (n : ℕ) (a b : Side) (r : Result (Side × Side) Stop) (z : Side × Side) → level whole n a b ≡ r
      → (r >>= λ y. levels whole n y.0 y.1) ≡ Ok z
      → ((s t : Side) → levels whole n s t ≡ Ok z → Finish (s, t) z) → AreBothRead whole (needed_at n a b) (a, b) z
  finish-case n a b (Err e) z h k f = absurd cc
  finish-case n a b (Ok y) z h k f =
      let l = f y.0 y.1 k in
      later-keeps whole (needed_at n a b) (a, b) y z (subst (ReadsBoth whole (needed_at n a b) (a, b)) h (level-reads whole n a b)) l.0 l.1

  levels-finish : (k : ℕ) (a b : Side) (z : Side × Side) → levels whole k a b ≡ Ok z → Finish (a, b) z
  levels-finish zero a b z h =
      let e : (a, b) ≡ z = ok-same (a, b) z h in
      (subst (λ (w : Side × Side). Keeps a.read w.0.read) e (λ m i. i), subst (λ (w : Side × Side). Keeps b.read w.1.read) e (λ m i. i))
  levels-finish (suc n) a b z h =
      let r = finish-case n a b (level whole n a b) z refl h (λ s t i. levels-finish n s t z i) in (r.old_keeps, r.new_keeps)

  -- all that a layer needs is read in the end
  layer-read : (n : ℕ) (a b : Side) (z : Side × Side) → levels whole (suc n) a b ≡ Ok z
      → AllByRecursion (IsAmongBoth whole z) (needed_at n a b)
  layer-read n a b z h =
      (finish-case n a b (level whole n a b) z refl h (λ s t i. levels-finish n s t z i)).each

  -- a layer that isn't all there stops at the first that is lacked
  lacks-layer : (n : ℕ) (a b : Side) (z : Side × Side) (c : List ℕ) → levels whole (suc n) a b ≡ Ok z
      → level part n a b ≡ Err (NotShown c) → first_stop part (needed_at n a b) ≡ Some (NotShown c)
      → Wants z (levels part (suc n) a b) (reached part (suc n) a b)
  lacks-layer n a b z c w r s =
      let each = layer-read n a b z w in
      let at = first-holds (IsAmongBoth whole z) part c (needed_at n a b) s each in
      subst (λ x. Wants z (x >>= λ y. levels part n y.0 y.1) (further (suc n, a, b) x (λ y. reached part n y.0 y.1))) (sym r)
      (c, (refl, at.0, at.1, each))

  -- where the whole opens a layer, and its part lacks one that is needed, that stops
  pub stopped-layer : (n : ℕ) (a b : Side) (e : Stop) (t : Bool)
      → (repeats (links_in a.line) || repeats (links_in b.line)) ≡ t → (y : Side × Side) → level whole n a b ≡ Ok y
      → first_stop part (needed_at n a b) ≡ Some e → level part n a b ≡ Err e
  stopped-layer n a b e true h y q s =
      let p = nat_eq a.left (suc n) in
      let p2 = nat_eq b.left (suc n) in
      let twice : level whole n a b ≡ Err lines.NotTree =
      ap (λ t. tested t (both_opened whole n p p2 (shared_when (p && p2) a b))) h in
      let no : ◌≡◌ {A = Result (Side × Side) Stop} (Err lines.NotTree) (Ok y) = sym twice ∙ q in absurd cc
  stopped-layer n a b e false h y q s = stop-err (level part n a b) e (level-stop part n a b h ∙ s)

  stop-layer : (n : ℕ) (a b : Side) (z : Side × Side) (e : Stop) → levels whole (suc n) a b ≡ Ok z
      → (y : Side × Side) → level whole n a b ≡ Ok y → first_stop part (needed_at n a b) ≡ Some e
      → Wants z (levels part (suc n) a b) (reached part (suc n) a b)
  stop-layer n a b z e w y q s =
      let is = stop-names part (needed_at n a b) e s in
      let r = stopped-layer n a b e (repeats (links_in a.line) || repeats (links_in b.line)) refl y q s in
      lacks-layer n a b z is.0 w (r ∙ ap Err is.1) (s ∙ ap Some is.1)

  follow-case : (n : ℕ) (a b : Side) (z : Side × Side) (o : Option Stop) → first_stop part (needed_at n a b) ≡ o
      → (r : Result (Side × Side) Stop) → level whole n a b ≡ r → (r >>= λ y. levels whole n y.0 y.1) ≡ Ok z
      → ((s t : Side) → levels whole n s t ≡ Ok z → Follows z (levels part n s t) (reached part n s t))
      → Follows z (levels part (suc n) a b) (reached part (suc n) a b)
  follow-case n a b z o s (Err e) q h f = absurd cc
  follow-case n a b z None s (Ok y) q h f =
      subst (λ x. Follows z (x >>= λ y. levels part n y.0 y.1) (further (suc n, a, b) x (λ y. reached part n y.0 y.1)))
      (sym (level-same n a b s ∙ q)) (f y.0 y.1 h)
  follow-case n a b z (Some e) s (Ok y) q h f =
      inr (stop-layer n a b z e (ap (λ x. x >>= λ y. levels whole n y.0 y.1) q ∙ h) y q s)

  pub levels-follow : (k : ℕ) (a b : Side) (z : Side × Side) → levels whole k a b ≡ Ok z
      → Follows z (levels part k a b) (reached part k a b)
  levels-follow zero a b z h = inl h
  levels-follow (suc n) a b z h =
      follow-case n a b z (first_stop part (needed_at n a b)) refl (level whole n a b) refl h (λ s t i. levels-follow n s t z i)

  -- ---- from the roots

  module _ (layer : List ℕ → ℕ) (old new : List ℕ) where
    -- a CID that is asked for is a root, or is read by the whole
    abbrev pub IsAsked : Side × Side → List ℕ → Type 0
    IsAsked z c = (c ≡ old) ⊎ ((c ≡ new) ⊎ IsAmongBoth whole z c)

    pub record IsPart (z : Side × Side) (r : Result (Side × Side) Stop) (cs : List (List ℕ)) : Type 0 where
      pub stops : (r ≡ Ok z) ⊎ ((c : List ℕ) × ((r ≡ Err (NotShown c)) × (part c ≡ None) × ((m : Shape) × (whole c ≡ Some m))))
      pub asked : AllByRecursion (IsAsked z) cs

    asked-each : (z : Side × Side) (cs : List (List ℕ)) → AllByRecursion (IsAmongBoth whole z) cs → AllByRecursion (IsAsked z) cs
    asked-each z [] h = tt
    asked-each z (c ∷ cs) h = (inr (inr h.0), asked-each z cs h.1)

    both-shown : (z : Side × Side) (c : List ℕ) → IsAmongBoth whole z c → (m : Shape) × (whole c ≡ Some m)
    both-shown z c (inl h) = (h.node, h.shown)
    both-shown z c (inr h) = (h.node, h.shown)

    follow-part : (z : Side × Side) (r : Result (Side × Side) Stop) (x : Place) → Follows z r x → (r ≡ Ok z → needed_in x ≡ [])
        → IsPart z r (needed_in x)
    follow-part z r x (inl h) f = record { stops = inl h; asked = subst (AllByRecursion (IsAsked z)) (sym (f h)) tt }
    follow-part z r x (inr h) f = record {
      stops = inr (h.0, (h.1.0, h.1.1, both-shown z h.0 h.1.2));
      asked = asked-each z (needed_in x) h.1.3;
    }

    roots-asked : (z : Side × Side) → AllByRecursion (IsAsked z) (old ∷ new ∷ [])
    roots-asked z = (inl refl, (inr (inl refl), tt))

    whole-old : (o p : Option Shape) (z : Side × Side) → compared_at whole layer old new o p ≡ Ok z
        → whole old ≡ o → (m : Shape) × (whole old ≡ Some m)
    whole-old None p z h e = absurd cc
    whole-old (Some m) p z h e = (m, e)

    whole-new : (o p : Option Shape) (z : Side × Side) → compared_at whole layer old new o p ≡ Ok z
        → whole new ≡ p → (m : Shape) × (whole new ≡ Some m)
    whole-new None p z h e = absurd cc
    whole-new (Some s) None z h e = absurd cc
    whole-new (Some s) (Some m) z h e = (m, e)

    part-case : (z : Side × Side) → compared whole layer old new ≡ Ok z → (s t : Option Shape) → part old ≡ s → part new ≡ t
        → IsPart z (compared_at part layer old new s t) (needed_from part layer old new s t)
    part-case z h None t p q = record {
      stops = inr (old, (refl, p, whole-old (whole old) (whole new) z h refl));
      asked = roots-asked z;
    }
    part-case z h (Some s) None p q = record {
      stops = inr (new, (refl, q, whole-new (whole old) (whole new) z h refl));
      asked = roots-asked z;
    }
    part-case z h (Some s) (Some t) p q =
        let a = side_at layer old s in
        let b = side_at layer new t in
        let k = max a.left b.left in
        let w : levels whole k a b ≡ Ok z =
        sym (λ i. compared_at whole layer old new (within_whole old s p i) (within_whole new t q i)) ∙ h in
        follow-part z (levels part k a b) (reached part k a b) (levels-follow k a b z w)
        (λ e. ap needed_in (levels-end part z k a b e))

    -- over a part of a source opening comes to the same, or stops for want of a block that the whole has
    pub part-of : (z : Side × Side) → compared whole layer old new ≡ Ok z
        → IsPart z (compared part layer old new) (needed_last part layer old new)
    part-of z h = part-case z h (part old) (part new) refl refl

-- ---- of all that a list contains

each-case : (P : List ℕ → Type 0) (c x : List ℕ) (xs : List (List ℕ)) (o : Ordering) → order x c ≡ o → P x
    → 0 < one_if_equal o + count c xs → (0 < count c xs → P c) → P c
each-case P c x xs Less q p n f = f (omega arith)
each-case P c x xs Equal q p n f = subst P (order-equal x c q) p
each-case P c x xs Greater q p n f = f (omega arith)

each-counted : (P : List ℕ → Type 0) (xs : List (List ℕ)) → AllByRecursion P xs → (c : List ℕ) → 0 < count c xs → P c
each-counted P [] h c n = absurd (omega arith)
each-counted P (x ∷ xs) h c n = each-case P c x xs (order x c) refl h.0 n (each-counted P xs h.1 c)

pub each-contained : (P : List ℕ → Type 0) (xs : List (List ℕ)) → AllByRecursion P xs → (c : List ℕ) → Contains xs c → P c
each-contained P xs h c k = each-counted P xs h c (counted-contains c xs k)

pub contained-each : (P : List ℕ → Type 0) (xs : List (List ℕ)) → ((c : List ℕ) → Contains xs c → P c) → AllByRecursion P xs
contained-each P [] f = tt
contained-each P (x ∷ xs) f = (f x (in_head x xs), contained-each P xs (λ c h. f c (in_tail x c xs h)))

-- what is lacked of some CIDs is among them, and those of them that aren't given are lacked
pub lacked-among : {A : Type 0} (gives : List ℕ → Option A) (cs : List (List ℕ)) (c : List ℕ) → Contains (lacked gives cs) c
    → Contains cs c
lacked-among gives cs c h =
    let n = counted-contains c (lacked gives cs) h in
    let few = filter-fewer (λ d. is_none (gives d)) c cs in
    contains-counted c cs (omega arith)

pub among-lacked : {A : Type 0} (gives : List ℕ → Option A) (cs : List (List ℕ)) (c : List ℕ) → Contains cs c
    → gives c ≡ None → Contains (lacked gives cs) c
among-lacked gives cs c h e =
    let n = counted-contains c cs h in
    let all = filter-in (λ d. is_none (gives d)) c cs (ap is_none e) in
    contains-counted c (lacked gives cs) (omega arith)

-- a source lacks what it has no bytes of
none-of : {A : Type 0} (o : Option (Arc (List ℕ) A)) → is_none (option_map arc_value o) ≡ is_none o
none-of None = refl
none-of (Some b) = refl

pub lacked-bytes : {A : Type 0} (gives : List ℕ → Option (Arc (List ℕ) A)) (cs : List (List ℕ))
    → lacked (bytes_given gives) cs ≡ lacked gives cs
lacked-bytes gives [] = refl
lacked-bytes gives (c ∷ cs) = (λ i. cond (none-of (gives c) i) (c ∷ lacked-bytes gives cs i) (lacked-bytes gives cs i))

-- ---- sources of bytes

shows-case : (o p : Option (List ℕ)) (m : Shape) → ((b : List ℕ) → o ≡ Some b → p ≡ Some b)
    → option_and_then shape_of_bytes o ≡ Some m → option_and_then shape_of_bytes p ≡ Some m
shows-case None p m f h = absurd cc
shows-case (Some b) p m f h = ap (option_and_then shape_of_bytes) (f b refl) ∙ h

-- what is given in part is shown in part
pub shows-part : (gives more : List ℕ → Option (List ℕ)) → Extends gives more → (c : List ℕ) (m : Shape)
    → shown_by gives c ≡ Some m → shown_by more c ≡ Some m
shows-part gives more e c m h = shows-case (gives c) (more c) m (e c) h

-- ---- what is asked for is of one tree

contains-map : (f : Shape → List ℕ) (ms : List Shape) (m : Shape) → Contains ms m → Contains (map f ms) (f m)
contains-map f ms m h = (
  h.0,
  subst (λ n. h.0 < n) (sym (length-map ms f)) h.1,
  get_or-map f ms h.0 m (f m) h.1 ∙ ap f h.2,
)

module _ {A : Type 0} (digest : List ℕ → List ℕ) (bits : ℕ) (fits : IsDigest digest) (gives : List ℕ → Option (Arc (List ℕ) A))
    (whole : List ℕ → Option (List ℕ)) (extends : Extends (bytes_given gives) whole) (old new : List ℕ) (es fs : List Pair)
    (has_es : HasTree digest bits whole old es) (has_fs : HasTree digest bits whole new fs) where
  abbrev lay : List ℕ → ℕ
  lay = layer_of digest bits

  ended : HaveCompared digest bits whole es fs
  ended = trees-compared digest bits fits whole es fs has_es.pairs has_fs.pairs has_es.nodes has_fs.nodes

  abbrev sides : Side × Side
  sides = (ended.old, ended.new)

  whole-is : compared (shown_by whole) lay old new ≡ Ok sides
  whole-is = (λ i. compared (shown_by whole) lay (has_es.root_is i) (has_fs.root_is i)) ∙ ended.is

  part : IsPart (nodes_given gives) (shown_by whole) (shows-part (bytes_given gives) whole extends) lay old new sides
      (compared (nodes_given gives) lay old new) (needed_last (nodes_given gives) lay old new)
  part = part-of (nodes_given gives) (shown_by whole) (shows-part (bytes_given gives) whole extends) lay old new sides whole-is

  of-one : (c : List ℕ) → IsAmong (shown_by whole) ended.old.read c ⊎ IsAmong (shown_by whole) ended.new.read c
      → (m : Shape) × ((shown_by whole c ≡ Some m) × IsOfOneTree digest bits es fs (shape_bytes m))
  of-one c (inl h) =
      (h.node, (h.shown, inl ((ended.are.unshared.go_is (shape_bytes h.node)).0 (contains-map shape_bytes ended.old.read h.node h.among))))
  of-one c (inr h) =
      (h.node, (h.shown, inr ((ended.are.unshared.come_is (shape_bytes h.node)).0 (contains-map shape_bytes ended.new.read h.node h.among))))

  asked-one : (c : List ℕ) → (c ≡ old) ⊎ ((c ≡ new) ⊎ (IsAmong (shown_by whole) ended.old.read c ⊎ IsAmong (shown_by whole) ended.new.read c))
      → (c ≡ old) ⊎ ((c ≡ new) ⊎ ((m : Shape) × ((shown_by whole c ≡ Some m) × IsOfOneTree digest bits es fs (shape_bytes m))))
  asked-one c (inl h) = inl h
  asked-one c (inr (inl h)) = inr (inl h)
  asked-one c (inr (inr h)) = inr (inr (of-one c h))

  -- the list that is answered, as no node of both trees
  pub missing-unshared : (cids : List (List ℕ)) → cids ≡ missing_of gives lay old new
      → AreOfOneTree digest bits whole old new es fs cids
  missing-unshared cids q = λ c h.
      asked-one c (each-contained (IsAsked (nodes_given gives) (shown_by whole)
      (shows-part (bytes_given gives) whole extends) lay old new sides) (needed_last (nodes_given gives) lay old new) part.asked c
      (lacked-among (bytes_given gives) (needed_last (nodes_given gives) lay old new) c (subst (λ x. Contains x c) q h)))

  -- no reason but a want of memory
  given-node : (c : List ℕ) (m : Shape) (o : Option (Arc (List ℕ) A)) → gives c ≡ o → IsSome o → shown_by whole c ≡ Some m
      → nodes_given gives c ≡ None → ⊥
  given-node c m None e s h k = absurd cc
  given-node c m (Some b) e s h k =
      let bytes = extends c (arc_value b) (ap (option_map arc_value) e) in
      let w = sym (ap (option_and_then shape_of_bytes) bytes) ∙ h in
      let n = sym (ap (λ x. option_and_then shape_of_bytes (option_map arc_value x)) e) ∙ k in
      let z : ◌≡◌ {A = Option Shape} None (Some m) = sym n ∙ w in cc

  other-part : (fault : DifferenceFault) → (step : Result (Side × Side) Stop)
      → ((step ≡ Ok sides) ⊎ ((c : List ℕ) × ((step ≡ Err (NotShown c)) × (nodes_given gives c ≡ None)
      × ((m : Shape) × (shown_by whole c ≡ Some m))))) → IsOtherStop gives step fault → IsWant fault
  other-part (BlockMissing c) step p h = h
  other-part TooDeep step p h = h
  other-part NoMemory step p h = tt
  other-part NotTree step (inl e) h =
      let z : ◌≡◌ {A = Result (Side × Side) Stop} (Ok sides) (Err lines.NotTree) = sym e ∙ h in cc
  other-part NotTree step (inr p) h =
      let z : ◌≡◌ {A = Result (Side × Side) Stop} (Err (NotShown p.0)) (Err lines.NotTree) = sym p.1.0 ∙ h in cc
  other-part (BadNode d) step (inl e) h =
      let z : ◌≡◌ {A = Result (Side × Side) Stop} (Ok sides) (Err (NotShown d)) = sym e ∙ h.1 in cc
  other-part (BadNode d) step (inr p) h =
      let z : ◌≡◌ {A = Result (Side × Side) Stop} (Err (NotShown p.0)) (Err (NotShown d)) = sym p.1.0 ∙ h.1 in
      let same : p.0 ≡ d = cc in
      given-node d p.1.2.0 (gives d) refl h.0 (ap (shown_by whole) (sym same) ∙ p.1.2.1)
      (ap (nodes_given gives) (sym same) ∙ p.1.1)

  pub want-part : (fault : DifferenceFault) → IsOtherStop gives (compared (nodes_given gives) lay old new) fault → IsWant fault
  want-part fault h = other-part fault (compared (nodes_given gives) lay old new) part.stops h
