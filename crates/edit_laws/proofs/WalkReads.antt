-- A walk reads exactly the nodes whose open range of keys meets the range of what it gives.
use Rattle.std.proofs.Common.{◌≡◌, ◌≢◌, ℕ, zero, suc, Bool, true, false, ◌&&◌, List, [], ◌∷◌, ◌++◌, map, take, Option, None, refl, sym, ap, ◌∙◌, subst, append-nil, append_assoc, arith}
use Rattle.std.specs.Prelude.{filter}
use Rattle.std.specs.declared.option.Option.TheVariants.{Some}
use Rattle.std.specs.declared.cmp.Ordering.{Ordering}
use Rattle.std.specs.declared.cmp.Ordering.TheVariants.{Less, Equal, Greater}
use Rattle.std.specs.Ordering.{is_lt}
use Rattle.std.proofs.lemmas.List.{map-append}
use Rattle.std.proofs.lemmas.List.Elements.{filter-append}
use Rattle.spec.specs.Tree.{Pair, Node, Part, Last, More, Nothing, Sub, pairs_in, pairs_under, EachNode, EachUnder}
use Rattle.spec.specs.Blocks.{is_from}
use Rattle.spec.specs.Laws.Tree.{HasPairs}
use Rattle.edit_laws.specs.Order.{order}
use Rattle.edit_laws.specs.Pairs.{Each, IsBefore, IsAfter, Ascending}
use Rattle.edit_laws.specs.TreeEdit.{first, locate, further}
use Rattle.edit_laws.specs.Trace.{find_path}
use Rattle.edit_laws.specs.Walk.{from_here, start, Frame, later, go_down, walk_reads, next_reads, Ranged, ranged_in, ranged_under, is_above, is_under, meets, nodes_meeting, last_key}
use Rattle.edit_laws.proofs.EachPair.{Halves, halves, each-left, each-right, each-map, ascending-parts}
use Rattle.edit_laws.proofs.Orders.{order-same, turned, turned_back, order-equal, order-is, before-trans}
use Rattle.edit_laws.proofs.WalkPairs.{IsFrom, all-from, filtered-from, from-order, rest_pairs, first-rest, stack_pairs, later-pairs, IsReady, ready-later, down-pairs, down-ready, ascending-filter, each-start, each-first_part, path-start}
use Rattle.edit_laws.proofs.Within.{IsWithin, AllWithin, within-first}

-- ---- tests and orders

pub above-order : (a last : List ℕ) (o : Ordering) → order a last ≡ o → is_above (Some a) last ≡ is_lt o
above-order a last o h = ap is_lt (order-is a last ∙ h)

pub under-order : (b from : List ℕ) (o : Ordering) → order from b ≡ o → is_under (Some b) from ≡ is_lt o
under-order b from o h = ap is_lt (order-is from b ∙ h)

-- a key isn't below another
abbrev pub IsNotBelow : List ℕ → List ℕ → Type 0
IsNotBelow z from = is_lt (order z from) ≡ false

below-choice : (x z from : List ℕ) (o : Ordering) → order z from ≡ o → is_lt o ≡ false → order x from ≡ Less
    → order x z ≡ Less
below-choice x z from Less q h k = absurd cc
below-choice x z from Equal q h k = subst (λ t. order x t ≡ Less) (sym (order-equal z from q)) k
below-choice x z from Greater q h k = before-trans x from z k (turned z from q)

-- what is below a key is below what isn't below it
below-less : (x z from : List ℕ) → IsNotBelow z from → order x from ≡ Less → order x z ≡ Less
below-less x z from h k = below-choice x z from (order z from) refl h k

less-choice : (z b from : List ℕ) (o : Ordering) → order z from ≡ o → is_lt o ≡ false → order z b ≡ Less
    → order from b ≡ Less
less-choice z b from Less q h k = absurd cc
less-choice z b from Equal q h k = subst (λ t. order t b ≡ Less) (order-equal z from q) k
less-choice z b from Greater q h k = before-trans from z b (turned z from q) k

less-below : (z b from : List ℕ) → IsNotBelow z from → order z b ≡ Less → order from b ≡ Less
less-below z b from h k = less-choice z b from (order z from) refl h k

pub not-below : (from : List ℕ) (e : Pair) → IsFrom from e → IsNotBelow e.0 from
not-below from e h = go (order e.0 from) refl
  where
    go : (o : Ordering) → order e.0 from ≡ o → is_lt o ≡ false
    go Less q = absurd (let c : true ≡ false = sym h ∙ from-order from e Less q in cc)
    go Equal q = refl
    go Greater q = refl

and-false : (b : Bool) → (b && false) ≡ false
and-false true = refl
and-false false = refl

each-take : (P : Pair → Type 0) (n : ℕ) (es : List Pair) → Each P es → Each P (take n es)
each-take P zero es h = tt
each-take P (suc n) [] h = tt
each-take P (suc n) (e ∷ es) h = (h.0, each-take P n es h.1)

-- the last key of some after another key
last-after : (z x : List ℕ) (es : List Pair) → order z x ≡ Less → Each (IsAfter z) es → order z (last_key x es) ≡ Less
last-after z x [] h k = h
last-after z x (e ∷ es) h k = last-after z e.0 es (turned e.0 z k.0) k.1

last-from : (from x : List ℕ) (es : List Pair) → IsNotBelow x from → Each (IsFrom from) es
    → IsNotBelow (last_key x es) from
last-from from x [] h k = h
last-from from x (e ∷ es) h k = last-from from e.0 es (not-below from e k.0) k.1

-- ---- the nodes still to come

abbrev pub next_key : List Frame → Option (List ℕ)
next_key [] = None
next_key (x ∷ xs) = Some x.0.0

abbrev pub ranged_stack : List Frame → List Ranged
ranged_stack [] = []
ranged_stack (x ∷ xs) = ranged_under (Some x.0.0) (next_key xs) x.1 ++ ranged_stack xs

-- each subtree below what is still to come has a pair
abbrev pub AreFilled : List Frame → Type 0
AreFilled [] = Unit {0}
AreFilled (x ∷ xs) = EachUnder HasPairs x.1 × AreFilled xs

filled-later : (m : Node) (stack : List Frame) → EachUnder HasPairs m → AreFilled stack → AreFilled (later m stack)
filled-later (Last p) stack h s = s
filled-later (More p e r) stack h s = (h.1, s)

down-filled : (n : ℕ) (from : List ℕ) (p : Part) (stack : List Frame) → EachNode HasPairs p → AreFilled stack
    → AreFilled (go_down n from p stack)
down-filled zero from p stack h s = s
down-filled (suc n) from Nothing stack h s = s
down-filled (suc n) from (Sub m) stack h s =
    let k = start from m in
    let f = each-start HasPairs from m h.1 in
    down-filled n from (first k) (later k stack) (each-first_part HasPairs k f) (filled-later k stack f s)

-- the rest of a node after a pair, and the stack below it
ranged-rest : (a : Option (List ℕ)) (r : Node) (stack : List Frame)
    → ranged_in a (next_key (later r stack)) (first r) ++ ranged_stack (later r stack)
    ≡ ranged_under a (next_key stack) r ++ ranged_stack stack
ranged-rest a (Last p) stack = refl
ranged-rest a (More p e r) stack =
    sym (append_assoc (ranged_in a (Some e.0) p) (ranged_under (Some e.0) (next_key stack) r) (ranged_stack stack))

module _ (from last : List ℕ) where
  -- the nodes of some ranges that meet the range of a walk
  abbrev pub chosen : List Ranged → List Node
  chosen xs = map (λ (x : Ranged). x.node) (filter (meets from last) xs)

  chosen-append : (xs ys : List Ranged) → chosen (xs ++ ys) ≡ chosen xs ++ chosen ys
  chosen-append xs ys =
      ap (map (λ (x : Ranged). x.node)) (filter-append (meets from last) xs ys)
      ∙ map-append (λ (x : Ranged). x.node) (filter (meets from last) xs) (filter (meets from last) ys)

  -- ---- subtrees that are skipped, or come too late

  abbrev pub IsPassed : Pair → Type 0
  IsPassed e = is_under (Some e.0) from ≡ false

  abbrev pub IsLate : Pair → Type 0
  IsLate e = is_above (Some e.0) last ≡ false

  chosen-first : (x : Ranged) (xs : List Ranged) → meets from last x ≡ false → chosen xs ≡ [] → chosen (x ∷ xs) ≡ []
  chosen-first x xs h i = rw h i

  chosen-none : (xs ys : List Ranged) → chosen xs ≡ [] → chosen ys ≡ [] → chosen (xs ++ ys) ≡ []
  chosen-none xs ys h k = chosen-append xs ys ∙ rw (h, k) refl

  mutual
    passed-in : (a b : Option (List ℕ)) (p : Part) → is_under b from ≡ false → Each IsPassed (pairs_in p)
        → chosen (ranged_in a b p) ≡ []
    passed-in a b Nothing h k = refl
    passed-in a b (Sub m) h k =
        chosen-first (record { node = m; above = a; under = b }) (ranged_under a b m)
        (ap (λ t. is_above a last && t) h ∙ and-false (is_above a last)) (passed-under a b m h k)

    passed-under : (a b : Option (List ℕ)) (m : Node) → is_under b from ≡ false → Each IsPassed (pairs_under m)
        → chosen (ranged_under a b m) ≡ []
    passed-under a b (Last p) h k = passed-in a b p h k
    passed-under a b (More p e r) h k =
        let l = each-left IsPassed (pairs_in p) (e ∷ pairs_under r) k in
        let t = each-right IsPassed (pairs_in p) (e ∷ pairs_under r) k in
        chosen-none (ranged_in a (Some e.0) p) (ranged_under (Some e.0) b r) (passed-in a (Some e.0) p t.0 l)
        (passed-under (Some e.0) b r h t.1)

  mutual
    late-in : (a b : Option (List ℕ)) (p : Part) → is_above a last ≡ false → Each IsLate (pairs_in p)
        → chosen (ranged_in a b p) ≡ []
    late-in a b Nothing h k = refl
    late-in a b (Sub m) h k =
        chosen-first (record { node = m; above = a; under = b }) (ranged_under a b m)
        (ap (λ t. t && is_under b from) h) (late-under a b m h k)

    late-under : (a b : Option (List ℕ)) (m : Node) → is_above a last ≡ false → Each IsLate (pairs_under m)
        → chosen (ranged_under a b m) ≡ []
    late-under a b (Last p) h k = late-in a b p h k
    late-under a b (More p e r) h k =
        let l = each-left IsLate (pairs_in p) (e ∷ pairs_under r) k in
        let t = each-right IsLate (pairs_in p) (e ∷ pairs_under r) k in
        chosen-none (ranged_in a (Some e.0) p) (ranged_under (Some e.0) b r) (late-in a (Some e.0) p h l)
        (late-under (Some e.0) b r t.0 t.1)

  pub late-stack : (stack : List Frame) → Each IsLate (stack_pairs stack) → chosen (ranged_stack stack) ≡ []
  late-stack [] h = refl
  late-stack (x ∷ xs) h =
      chosen-none (ranged_under (Some x.0.0) (next_key xs) x.1) (ranged_stack xs)
      (late-under (Some x.0.0) (next_key xs) x.1 h.0 (each-left IsLate (pairs_under x.1) (stack_pairs xs) h.1))
      (late-stack xs (each-right IsLate (pairs_under x.1) (stack_pairs xs) h.1))

  -- ---- the way down

  abbrev pub DownReads : ℕ → Type 0
  DownReads n = (a : Option (List ℕ)) (p : Part) (stack : List Frame) → IsWithin n p → Ascending (pairs_in p)
      → is_above a last ≡ true → is_under (next_key stack) from ≡ true
      → chosen (ranged_in a (next_key stack) p ++ ranged_stack stack)
      ≡ find_path n from p ++ chosen (ranged_stack (go_down n from p stack))

  down-nothing : (n : ℕ) (stack : List Frame)
      → find_path n from Nothing ++ chosen (ranged_stack (go_down n from Nothing stack))
      ≡ chosen (ranged_stack stack)
  down-nothing zero stack = refl
  down-nothing (suc n) stack = refl

  under-further : (n : ℕ) → DownReads n
      → (a : Option (List ℕ)) (p : Part) (e : Pair) (r : Node) (stack : List Frame) (o : Ordering)
      → order e.0 from ≡ o
      → IsWithin n p → Halves (pairs_in p) e (pairs_under r) → is_above a last ≡ true
      → (order e.0 from ≡ Less → chosen (ranged_under (Some e.0) (next_key stack) r ++ ranged_stack stack)
      ≡ find_path n from (first (start from r))
      ++ chosen (ranged_stack (go_down n from (first (start from r)) (later (start from r) stack))))
      → let k = from_here from (further o p e r (locate from r)).here in
      chosen (ranged_under a (next_key stack) (More p e r) ++ ranged_stack stack)
      ≡ find_path n from (first k) ++ chosen (ranged_stack (go_down n from (first k) (later k stack)))
  under-further n ih a p e r stack Less q w h l i =
      let b : is_under (Some e.0) from ≡ false = under-order e.0 from Greater (turned_back e.0 from q) in
      let passed = each-map (IsBefore e.0) IsPassed (pairs_in p)
      (λ f k. under-order f.0 from Greater (turned_back f.0 from (before-trans f.0 e.0 from k q))) h.before in
      ap chosen (append_assoc (ranged_in a (Some e.0) p) (ranged_under (Some e.0) (next_key stack) r)
      (ranged_stack stack))
      ∙ chosen-append (ranged_in a (Some e.0) p) (ranged_under (Some e.0) (next_key stack) r ++ ranged_stack stack)
      ∙ ap (λ t. t ++ chosen (ranged_under (Some e.0) (next_key stack) r ++ ranged_stack stack))
      (passed-in a (Some e.0) p b passed)
      ∙ i q
  under-further n ih a p e r stack Equal q w h l i =
      let same = order-equal e.0 from q in
      let b : is_under (Some e.0) from ≡ false = under-order e.0 from Equal (ap (order from) same ∙ order-same from) in
      let passed = each-map (IsBefore e.0) IsPassed (pairs_in p)
      (λ f k. under-order f.0 from Greater (turned_back f.0 from (subst (λ t. order f.0 t ≡ Less) same k)))
      h.before in
      ap chosen (append_assoc (ranged_in a (Some e.0) p) (ranged_under (Some e.0) (next_key stack) r)
      (ranged_stack stack))
      ∙ chosen-append (ranged_in a (Some e.0) p) (ranged_under (Some e.0) (next_key stack) r ++ ranged_stack stack)
      ∙ ap (λ t. t ++ chosen (ranged_under (Some e.0) (next_key stack) r ++ ranged_stack stack))
      (passed-in a (Some e.0) p b passed)
      ∙ rw q (sym (down-nothing n ((e, r) ∷ stack)))
  under-further n ih a p e r stack Greater q w h l i =
      let b : is_under (Some e.0) from ≡ true = under-order e.0 from Less (turned e.0 from q) in
      ap chosen (append_assoc (ranged_in a (Some e.0) p) (ranged_under (Some e.0) (next_key stack) r)
      (ranged_stack stack))
      ∙ rw q (ih a p ((e, r) ∷ stack) w h.front l b)

  module _ (lower : (x : List ℕ) → order x from ≡ Less → is_above (Some x) last ≡ true) where
    under-reads : (n : ℕ) → DownReads n → (a : Option (List ℕ)) (m : Node) (stack : List Frame) → AllWithin n m
        → Ascending (pairs_under m)
        → is_above a last ≡ true → is_under (next_key stack) from ≡ true
        → chosen (ranged_under a (next_key stack) m ++ ranged_stack stack)
        ≡ find_path n from (first (start from m))
        ++ chosen (ranged_stack (go_down n from (first (start from m)) (later (start from m) stack)))
    under-reads n ih a (Last p) stack w s l u = ih a p stack w s l u
    under-reads n ih a (More p e r) stack w s l u =
        let h = halves (pairs_in p) e (pairs_under r) s in
        under-further n ih a p e r stack (order e.0 from) refl w.0 h l
        (λ q. under-reads n ih (Some e.0) r stack w.1 h.back (lower e.0 q) u)

    pub down-reads : (n : ℕ) → DownReads n
    down-reads zero a Nothing stack w s l u = refl
    down-reads zero a (Sub m) stack w s l u = absurd w
    down-reads (suc n) a Nothing stack w s l u = refl
    down-reads (suc n) a (Sub m) stack w s l u =
        rw (l, u)
        (ap (λ t. m ∷ t)
        (under-reads n (down-reads n) a m stack w s l u
        ∙ ap (λ t. t ++ chosen (ranged_stack (go_down n from (first (start from m)) (later (start from m) stack))))
        (sym (path-start from n (locate from m).here))))

-- ---- the whole walk

pub nothing-reads : (n : ℕ) (from : List ℕ) (xs : List Node) → find_path n from Nothing ++ xs ≡ xs
nothing-reads zero from xs = refl
nothing-reads (suc n) from xs = refl

nothing-down : (n : ℕ) (from : List ℕ) (stack : List Frame) → go_down n from Nothing stack ≡ stack
nothing-down zero from stack = refl
nothing-down (suc n) from stack = refl

-- after a pair with the key z, which isn't below from
abbrev pub ReadsAt : ℕ → ℕ → List ℕ → Type 0
ReadsAt limit n from = (z : List ℕ) (p : Part) (stack : List Frame) → IsWithin n p → IsReady n stack
    → EachNode HasPairs p → AreFilled stack
    → Ascending (pairs_in p ++ stack_pairs stack) → Each (IsAfter z) (pairs_in p ++ stack_pairs stack)
    → IsNotBelow z from
    → walk_reads limit n from p stack
    ≡ chosen from (last_key z (take limit (pairs_in p ++ stack_pairs stack)))
    (ranged_in (Some z) (next_key stack) p ++ ranged_stack stack)

rest-list : (r : Node) (xs : List Frame)
    → pairs_in (first r) ++ stack_pairs (later r xs) ≡ pairs_under r ++ stack_pairs xs
rest-list r xs =
    rw (later-pairs r xs)
    (sym (append_assoc (pairs_in (first r)) (rest_pairs r) (stack_pairs xs))
    ∙ ap (λ t. t ++ stack_pairs xs) (first-rest r))

-- from the next pair on
stack-reads : (limit n : ℕ) (from : List ℕ) → ReadsAt limit n from → (w : List ℕ) (stack : List Frame)
    → IsReady n stack → AreFilled stack → Ascending (stack_pairs stack) → Each (IsFrom from) (stack_pairs stack)
    → next_reads (walk_reads limit n from) stack
    ≡ chosen from (last_key w (take (suc limit) (stack_pairs stack))) (ranged_stack stack)
stack-reads limit n from ih w [] s f a g = refl
stack-reads limit n from ih w (x ∷ xs) s f a g =
    let r = x.1 in
    let e = rest-list r xs in
    ih x.0.0 (first r) (later r xs) (within-first n r s.0) (ready-later n r xs s.0 s.1 s.2)
    (each-first_part HasPairs r f.0) (filled-later r xs f.0 f.1)
    (subst Ascending (sym e) a.1) (subst (Each (IsAfter x.0.0)) (sym e) a.0) (not-below from x.0 g.0)
    ∙ rw (e, ranged-rest (Some x.0.0) r xs) refl

-- what the way down leaves, from what it began with
down-list : (n : ℕ) (from : List ℕ) (p : Part) (stack : List Frame) → IsWithin n p → Ascending (pairs_in p)
    → Each (IsFrom from) (pairs_in p)
    → stack_pairs (go_down n from p stack) ≡ pairs_in p ++ stack_pairs stack
down-list n from p stack w a f = down-pairs n from p stack w a
    ∙ ap (λ t. t ++ stack_pairs stack) (all-from from (pairs_in p) f)

after-from : (from z : List ℕ) (es : List Pair) → IsNotBelow z from → Each (IsAfter z) es → Each (IsFrom from) es
after-from from z es h k =
    each-map (IsAfter z) (IsFrom from) es
    (λ e a. from-order from e Greater (turned_back from e.0 (less-below z e.0 from h (turned e.0 z a)))) k

next-upper : (from z : List ℕ) (stack : List Frame) → IsNotBelow z from → Each (IsAfter z) (stack_pairs stack)
    → is_under (next_key stack) from ≡ true
next-upper from z [] h k = refl
next-upper from z (x ∷ xs) h k = under-order x.0.0 from Less (less-below z x.0.0 from h (turned x.0.0 z k.0))

-- where a subtree is left, more than nothing is given
last-less : (z : List ℕ) (limit : ℕ) (x : Pair) (es fs : List Pair) → es ≡ x ∷ fs → Each (IsAfter z) es
    → order z (last_key z (take (suc limit) es)) ≡ Less
last-less z limit x es fs e h =
    let k = subst (Each (IsAfter z)) e h in
    ap (λ (t : List Pair). order z (last_key z (take (suc limit) t))) e
    ∙ last-after z x.0 (take limit fs) (turned x.0 z k.0) (each-take (IsAfter z) limit fs k.1)

-- a list that isn't empty begins with something
abbrev IsFilled : List Pair → Type 0
IsFilled es = (e : Pair) × (fs : List Pair) × (es ≡ e ∷ fs)

filled : (es : List Pair) → es ≢ [] → IsFilled es
filled [] h = absurd (h refl)
filled (e ∷ es) h = (e, es, refl)

sub-reads : (limit n : ℕ) (from : List ℕ) → ReadsAt limit n from → (z : List ℕ) (m : Node) (stack : List Frame)
    → IsWithin n (Sub m) → IsReady n stack → EachNode HasPairs (Sub m) → AreFilled stack
    → Ascending (pairs_under m ++ stack_pairs stack) → Each (IsAfter z) (pairs_under m ++ stack_pairs stack)
    → IsNotBelow z from
    → walk_reads (suc limit) n from (Sub m) stack
    ≡ chosen from (last_key z (take (suc limit) (pairs_under m ++ stack_pairs stack)))
    (ranged_in (Some z) (next_key stack) (Sub m) ++ ranged_stack stack)
sub-reads limit n from ih z m stack w s f g a h b =
    let L = pairs_under m ++ stack_pairs stack in
    let last = last_key z (take (suc limit) L) in
    let whole = filled (pairs_under m) f.0 in
    let z_last : order z last
    ≡ Less = last-less z limit whole.0 L (whole.1 ++ stack_pairs stack)
    (ap (λ t. t ++ stack_pairs stack) whole.2) h in
    let lower : (x : List ℕ) → order x from ≡ Less
    → is_above (Some x) last ≡ true =
    λ x k. above-order x last Less (before-trans x z last (below-less x z from b k) z_last) in
    let all = after-from from z L b h in
    let parts = ascending-parts (pairs_under m) (stack_pairs stack) a in
    let e = down-list n from (Sub m) stack w parts.0
    (each-left (IsFrom from) (pairs_under m) (stack_pairs stack) all) in
    let d = go_down n from (Sub m) stack in
    ap (λ t. find_path n from (Sub m) ++ t)
    (stack-reads limit n from ih z d (down-ready n n from (Sub m) stack (omega arith) w parts.0 s)
    (down-filled n from (Sub m) stack f g)
    (subst Ascending (sym e) a) (subst (Each (IsFrom from)) (sym e) all)
    ∙ ap (λ (t : List Pair). chosen from (last_key z (take (suc limit) t)) (ranged_stack d)) e)
    ∙ sym (down-reads from last lower n (Some z) (Sub m) stack w parts.0 (above-order z last Less z_last)
    (next-upper from z stack b (each-right (IsAfter z) (pairs_under m) (stack_pairs stack) h)))

late-all : (z : List ℕ) (es : List Pair) → Each (IsAfter z) es → Each (λ e. is_above (Some e.0) z ≡ false) es
late-all z es h = each-map (IsAfter z) (λ e. is_above (Some e.0) z ≡ false) es (λ e k. above-order e.0 z Greater k) h

nothing-case : (limit n : ℕ) (from : List ℕ) → ReadsAt limit n from → (z : List ℕ) (stack : List Frame)
    → IsReady n stack → AreFilled stack
    → Ascending (stack_pairs stack) → Each (IsAfter z) (stack_pairs stack) → IsNotBelow z from
    → walk_reads (suc limit) n from Nothing stack
    ≡ chosen from (last_key z (take (suc limit) (stack_pairs stack))) (ranged_stack stack)
nothing-case limit n from ih z stack s g a h b =
    nothing-reads n from (next_reads (walk_reads limit n from) (go_down n from Nothing stack))
    ∙ ap (next_reads (walk_reads limit n from)) (nothing-down n from stack)
    ∙ stack-reads limit n from ih z stack s g a (after-from from z (stack_pairs stack) b h)

pub reads-after : (limit n : ℕ) (from : List ℕ) → ReadsAt limit n from
reads-after zero n from z p stack w s f g a h b =
    let late = late-all z (pairs_in p ++ stack_pairs stack) h in
    sym (chosen-none from z (ranged_in (Some z) (next_key stack) p) (ranged_stack stack)
    (late-in from z (Some z) (next_key stack) p (above-order z z Equal (order-same z))
    (each-left (IsLate from z) (pairs_in p) (stack_pairs stack) late))
    (late-stack from z stack (each-right (IsLate from z) (pairs_in p) (stack_pairs stack) late)))
reads-after (suc limit) n from z Nothing stack w s f g a h b =
    nothing-case limit n from (reads-after limit n from) z stack s g a h b
reads-after (suc limit) n from z (Sub m) stack w s f g a h b =
    sub-reads limit n from (reads-after limit n from) z m stack w s f g a h b

-- of a walk from the top, that gives at least one pair if there is one
pub reads-first : (limit n : ℕ) (from : List ℕ) (p : Part) → IsWithin n p → EachNode HasPairs p → Ascending (pairs_in p)
    → walk_reads (suc limit) n from p []
    ≡ nodes_meeting from (last_key from (take (suc limit) (filter (is_from from) (pairs_in p)))) p
reads-first limit n from p w f a =
    let L = filter (is_from from) (pairs_in p) in
    let last = last_key from (take (suc limit) L) in
    let same : IsNotBelow from from = ap is_lt (order-same from) in
    let up = last-from from from (take (suc limit) L) same
    (each-take (IsFrom from) (suc limit) L (filtered-from from (pairs_in p))) in
    let lower : (x : List ℕ) → order x from ≡ Less
    → is_above (Some x) last ≡ true = λ x k. above-order x last Less (below-less x last from up k) in
    let e : stack_pairs (go_down n from p []) ≡ L = down-pairs n from p [] w a ∙ append-nil L in
    let d = go_down n from p [] in
    ap (λ t. find_path n from p ++ t)
    (stack-reads limit n from (reads-after limit n from) from d (down-ready n n from p [] (omega arith) w a tt)
    (down-filled n from p [] f tt)
    (subst Ascending (sym e) (ascending-filter from (pairs_in p) a))
    (subst (Each (IsFrom from)) (sym e) (filtered-from from (pairs_in p)))
    ∙ ap (λ (t : List Pair). chosen from (last_key from (take (suc limit) t)) (ranged_stack d)) e)
    ∙ sym (down-reads from last lower n None p [] w a refl refl)
    ∙ ap (chosen from last) (append-nil (ranged_in None None p))
