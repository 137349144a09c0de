-- A walk gives the first pairs from a key on.
use Rattle.std.proofs.Common.{◌≡◌, ℕ, zero, suc, Bool, true, false, not, List, [], ◌∷◌, ◌++◌, ◌≤◌, take, cond, refl, sym, ap, ◌∙◌, subst, append-nil, append_assoc, arith}
use Rattle.std.specs.Prelude.{filter}
use Rattle.std.specs.declared.cmp.Ordering.{Ordering}
use Rattle.std.specs.declared.cmp.Ordering.TheVariants.{Less, Equal, Greater}
use Rattle.std.specs.Ordering.{is_lt}
use Rattle.std.proofs.lemmas.List.Elements.{filter-append}
use Rattle.spec.specs.Tree.{Pair, Node, Part, Last, More, Nothing, Sub, pairs_in, pairs_under, EachNode, EachUnder}
use Rattle.spec.specs.Blocks.{is_from}
use Rattle.edit_laws.specs.Order.{order, if_equal}
use Rattle.edit_laws.specs.Pairs.{Each, IsBefore, IsAfter, Ascending}
use Rattle.edit_laws.specs.TreeEdit.{first, locate, further}
use Rattle.edit_laws.specs.Trace.{beside, find_path}
use Rattle.edit_laws.specs.Walk.{from_here, start, Frame, later, go_down, next, walk}
use Rattle.edit_laws.proofs.EachPair.{each-both, each-left, each-right, each-map, each-parts, Halves, halves, ascending-parts}
use Rattle.edit_laws.proofs.Orders.{after-trans, after-same, order-equal, order-is, before-trans}
use Rattle.edit_laws.proofs.Within.{IsWithin, AllWithin, within-first, within-locate, within-under-up}

-- ---- the pairs from a key on

abbrev pub IsFrom : List ℕ → Pair → Type 0
IsFrom from e = is_from from e ≡ true

pub from-order : (from : List ℕ) (e : Pair) (o : Ordering) → order e.0 from ≡ o → is_from from e ≡ not (is_lt o)
from-order from e o h = ap (λ o. not (is_lt o)) (order-is e.0 from ∙ h)

pub from-after : (from key : List ℕ) (e : Pair) → IsAfter key e → order key from ≡ Equal → IsFrom from e
from-after from key e a h = from-order from e Greater (after-same e.0 key from a h)

pub from-later : (from key : List ℕ) (e : Pair) → IsAfter key e → order key from ≡ Greater → IsFrom from e
from-later from key e a h = from-order from e Greater (after-trans e.0 key from a h)

none-before : (from : List ℕ) (es : List Pair) → Each (IsBefore from) es → filter (is_from from) es ≡ []
none-before from [] h = refl
none-before from (e ∷ es) h = rw (from-order from e Less h.0) (none-before from es h.1)

pub all-from : (from : List ℕ) (es : List Pair) → Each (IsFrom from) es → filter (is_from from) es ≡ es
all-from from [] h = refl
all-from from (e ∷ es) h = rw h.0 (ap (λ t. e ∷ t) (all-from from es h.1))

filter-first : (from : List ℕ) (e : Pair) (tail : List Pair) (b : Bool) → is_from from e ≡ b
    → Each (IsFrom from) tail → Each (IsFrom from) (cond b (e ∷ tail) tail)
filter-first from e tail true q h = (q, h)
filter-first from e tail false q h = h

pub filtered-from : (from : List ℕ) (es : List Pair) → Each (IsFrom from) (filter (is_from from) es)
filtered-from from [] = tt
filtered-from from (e ∷ es) =
    filter-first from e (filter (is_from from) es) (is_from from e) refl (filtered-from from es)

each-first : (P : Pair → Type 0) (e : Pair) (tail : List Pair) (b : Bool) → P e → Each P tail
    → Each P (cond b (e ∷ tail) tail)
each-first P e tail true h k = (h, k)
each-first P e tail false h k = k

each-filter : (P : Pair → Type 0) (from : List ℕ) (es : List Pair) → Each P es → Each P (filter (is_from from) es)
each-filter P from [] h = tt
each-filter P from (e ∷ es) h =
    each-first P e (filter (is_from from) es) (is_from from e) h.0 (each-filter P from es h.1)

ascending-first_kept : (e : Pair) (tail : List Pair) (b : Bool) → Each (IsAfter e.0) tail → Ascending tail
    → Ascending (cond b (e ∷ tail) tail)
ascending-first_kept e tail true h k = (h, k)
ascending-first_kept e tail false h k = k

pub ascending-filter : (from : List ℕ) (es : List Pair) → Ascending es → Ascending (filter (is_from from) es)
ascending-filter from [] h = tt
ascending-filter from (e ∷ es) h =
    ascending-first_kept e (filter (is_from from) es) (is_from from e) (each-filter (IsAfter e.0) from es h.0)
    (ascending-filter from es h.1)

-- ---- what is left of a node

abbrev pub rest_pairs : Node → List Pair
rest_pairs (Last p) = []
rest_pairs (More p e r) = e ∷ pairs_under r

pub first-rest : (m : Node) → pairs_in (first m) ++ rest_pairs m ≡ pairs_under m
first-rest (Last p) = append-nil (pairs_in p)
first-rest (More p e r) = refl

-- the pairs still to come
abbrev pub stack_pairs : List Frame → List Pair
stack_pairs [] = []
stack_pairs (x ∷ xs) = x.0 ∷ (pairs_under x.1 ++ stack_pairs xs)

pub later-pairs : (m : Node) (stack : List Frame) → stack_pairs (later m stack) ≡ rest_pairs m ++ stack_pairs stack
later-pairs (Last p) stack = refl
later-pairs (More p e r) stack = refl

all_before : (from key : List ℕ) (es : List Pair) → Each (IsBefore key) es → order key from ≡ Less
    → Each (IsBefore from) es
all_before from key es h k = each-map (IsBefore key) (IsBefore from) es (λ e b. before-trans e.0 key from b k) h

all_before_same : (from key : List ℕ) (es : List Pair) → Each (IsBefore key) es → key ≡ from → Each (IsBefore from) es
all_before_same from key es h k = subst (λ x. Each (IsBefore x) es) k h

start-further : (from : List ℕ) (p : Part) (e : Pair) (r : Node) (o : Ordering) → order e.0 from ≡ o
    → Halves (pairs_in p) e (pairs_under r)
    → filter (is_from from) (pairs_under r)
    ≡ filter (is_from from) (pairs_in (first (start from r))) ++ rest_pairs (start from r)
    → let h = from_here from (further o p e r (locate from r)).here in
    filter (is_from from) (pairs_in p ++ e ∷ pairs_under r) ≡ filter (is_from from) (pairs_in (first h)) ++ rest_pairs h
start-further from p e r Less q h i =
    filter-append (is_from from) (pairs_in p) (e ∷ pairs_under r)
    ∙ rw (none-before from (pairs_in p) (all_before from e.0 (pairs_in p) h.before q), from-order from e Less q) i
start-further from p e r Equal q h i =
    filter-append (is_from from) (pairs_in p) (e ∷ pairs_under r)
    ∙ rw (
      none-before from (pairs_in p) (all_before_same from e.0 (pairs_in p) h.before (order-equal e.0 from q)),
      from-order from e Equal q,
      q,
      all-from from (pairs_under r)
          (each-map (IsAfter e.0) (IsFrom from) (pairs_under r) (λ f a. from-after from e.0 f a q) h.after),
    ) refl
start-further from p e r Greater q h i =
    filter-append (is_from from) (pairs_in p) (e ∷ pairs_under r)
    ∙ rw (
      from-order from e Greater q,
      q,
      all-from from (pairs_under r)
          (each-map (IsAfter e.0) (IsFrom from) (pairs_under r) (λ f a. from-later from e.0 f a q) h.after),
    ) refl

-- the pairs from a key on are those of the first subtree that is left, and all others that are left
pub start-pairs : (from : List ℕ) (m : Node) → Ascending (pairs_under m)
    → filter (is_from from) (pairs_under m)
    ≡ filter (is_from from) (pairs_in (first (start from m))) ++ rest_pairs (start from m)
start-pairs from (Last p) h = sym (append-nil (filter (is_from from) (pairs_in p)))
start-pairs from (More p e r) h =
    let s = halves (pairs_in p) e (pairs_under r) h in
    start-further from p e r (order e.0 from) refl s (start-pairs from r s.back)

-- ---- where a walk goes on

-- what holds of each node below a node holds of each below what is left of it
pub each-first_part : (P : Node → Type 0) (m : Node) → EachUnder P m → EachNode P (first m)
each-first_part P (Last p) h = h
each-first_part P (More p e r) h = h.0

each-choice : (P : Node → Type 0) (o : Ordering) (p : Part) → EachNode P p → EachNode P (if_equal o Nothing p)
each-choice P Less p h = h
each-choice P Equal p h = tt
each-choice P Greater p h = h

each-further : (P : Node → Type 0) (from : List ℕ) (o : Ordering) (p : Part) (e : Pair) (r : Node)
    → EachUnder P (More p e r) → EachUnder P (start from r)
    → EachUnder P (from_here from (further o p e r (locate from r)).here)
each-further P from Less p e r h i = i
each-further P from Equal p e r h i = (each-choice P (order e.0 from) p h.0, h.1)
each-further P from Greater p e r h i = (each-choice P (order e.0 from) p h.0, h.1)

pub each-start : (P : Node → Type 0) (from : List ℕ) (m : Node) → EachUnder P m → EachUnder P (start from m)
each-start P from (Last p) h = h
each-start P from (More p e r) h = each-further P from (order e.0 from) p e r h (each-start P from r h.1)

path-choice : (from : List ℕ) (n : ℕ) (o : Ordering) (p : Part)
    → if_equal o [] (find_path n from p) ≡ find_path n from (if_equal o Nothing p)
path-choice from n Less p = refl
path-choice from zero Equal p = refl
path-choice from (suc n) Equal p = refl
path-choice from n Greater p = refl

-- a look-up goes on where the walk does
pub path-start : (from : List ℕ) (n : ℕ) (h : Node)
    → beside from h (λ p q. []) (find_path n from (first h)) ≡ find_path n from (first (from_here from h))
path-start from n (Last p) = refl
path-start from n (More p e r) = path-choice from n (order e.0 from) p

-- ---- the way down

-- what a stack holds is in order, and no node is more than n layers deep
abbrev pub IsReady : ℕ → List Frame → Type 0
IsReady n [] = Unit {0}
IsReady n (x ∷ xs) = AllWithin n x.1 × Ascending (pairs_under x.1) × IsReady n xs

pub ready-later : (n : ℕ) (m : Node) (stack : List Frame) → AllWithin n m → Ascending (pairs_under m)
    → IsReady n stack → IsReady n (later m stack)
ready-later n (Last p) stack w a h = h
ready-later n (More p e r) stack w a h = (w.1, (halves (pairs_in p) e (pairs_under r) a).back, h)

within-start-here : (n : ℕ) (from : List ℕ) (m : Node) → AllWithin n m → AllWithin n (from_here from m)
within-start-here n from (Last p) w = w
within-start-here n from (More p e r) w = (within-choice n p (order e.0 from) w.0, w.1)
  where
    within-choice : (n : ℕ) (p : Part) (o : Ordering) → IsWithin n p → IsWithin n (if_equal o Nothing p)
    within-choice n p Less w = w
    within-choice n p Equal w = tt
    within-choice n p Greater w = w

pub within-start : (n : ℕ) (from : List ℕ) (m : Node) → AllWithin n m → AllWithin n (start from m)
within-start n from m w = within-start-here n from (locate from m).here (within-locate n from m w)

ascending-further : (from : List ℕ) (p : Part) (e : Pair) (r : Node) (o : Ordering) → order e.0 from ≡ o
    → Ascending (pairs_in p ++ e ∷ pairs_under r) → Ascending (pairs_under (start from r))
    → Ascending (pairs_under (from_here from (further o p e r (locate from r)).here))
ascending-further from p e r Less q h i = i
ascending-further from p e r Equal q h i = rw q (ascending-parts (pairs_in p) (e ∷ pairs_under r) h).1
ascending-further from p e r Greater q h i = rw q h

pub ascending-start : (from : List ℕ) (m : Node) → Ascending (pairs_under m) → Ascending (pairs_under (start from m))
ascending-start from (Last p) h = h
ascending-start from (More p e r) h =
    ascending-further from p e r (order e.0 from) refl h
    (ascending-start from r (halves (pairs_in p) e (pairs_under r) h).back)

pub ascending-first : (m : Node) → Ascending (pairs_under m) → Ascending (pairs_in (first m))
ascending-first (Last p) h = h
ascending-first (More p e r) h = (halves (pairs_in p) e (pairs_under r) h).front

-- what is still to come after the way down are the pairs of the part from the key on, and those of the stack
pub down-pairs : (n : ℕ) (from : List ℕ) (p : Part) (stack : List Frame) → IsWithin n p → Ascending (pairs_in p)
    → stack_pairs (go_down n from p stack) ≡ filter (is_from from) (pairs_in p) ++ stack_pairs stack
down-pairs zero from Nothing stack w h = refl
down-pairs zero from (Sub m) stack w h = absurd w
down-pairs (suc n) from Nothing stack w h = refl
down-pairs (suc n) from (Sub m) stack w h =
    let k = start from m in
    let a = ascending-start from m h in
    down-pairs n from (first k) (later k stack) (within-first n k (within-start n from m w)) (ascending-first k a)
    ∙ rw (later-pairs k stack, start-pairs from m h)
    (sym (append_assoc (filter (is_from from) (pairs_in (first k))) (rest_pairs k) (stack_pairs stack)))

pub down-ready : (n top : ℕ) (from : List ℕ) (p : Part) (stack : List Frame) → n ≤ top → IsWithin n p
    → Ascending (pairs_in p) → IsReady top stack → IsReady top (go_down n from p stack)
down-ready zero top from p stack l w h s = s
down-ready (suc n) top from Nothing stack l w h s = s
down-ready (suc n) top from (Sub m) stack l w h s =
    let k = start from m in
    let a = ascending-start from m h in
    let d = within-start n from m w in
    down-ready n top from (first k) (later k stack) (omega arith) (within-first n k d) (ascending-first k a)
    (ready-later top k stack (within-under-up n top k (omega arith) d) a s)

-- ---- the walk

abbrev pub WalkAt : ℕ → ℕ → List ℕ → Type 0
WalkAt limit n from = (p : Part) (stack : List Frame) → IsWithin n p → Ascending (pairs_in p) → IsReady n stack
    → Each (IsFrom from) (stack_pairs stack)
    → walk limit n from p stack ≡ take limit (filter (is_from from) (pairs_in p) ++ stack_pairs stack)

-- from the first pair still to come on
next-pairs : (limit n : ℕ) (from : List ℕ) → WalkAt limit n from → (stack : List Frame) → IsReady n stack
    → Each (IsFrom from) (stack_pairs stack)
    → next (walk limit n from) stack ≡ take (suc limit) (stack_pairs stack)
next-pairs limit n from ih [] s f = refl
next-pairs limit n from ih (x ∷ xs) s f =
    let r = x.1 in
    let later_from = each-parts (IsFrom from) (pairs_under r) (stack_pairs xs) f.1 in
    let first_from = each-left (IsFrom from) (pairs_in (first r)) (rest_pairs r)
    (subst (Each (IsFrom from)) (sym (first-rest r)) later_from.0) in
    let rest_from = each-right (IsFrom from) (pairs_in (first r)) (rest_pairs r)
    (subst (Each (IsFrom from)) (sym (first-rest r)) later_from.0) in
    ap (λ t. x.0 ∷ t)
    (ih (first r) (later r xs) (within-first n r s.0) (ascending-first r s.1) (ready-later n r xs s.0 s.1 s.2)
    (subst (Each (IsFrom from)) (sym (later-pairs r xs))
    (each-both (IsFrom from) (rest_pairs r) (stack_pairs xs) rest_from later_from.1))
    ∙ ap (take limit)
    (rw (all-from from (pairs_in (first r)) first_from, later-pairs r xs)
    (sym (append_assoc (pairs_in (first r)) (rest_pairs r) (stack_pairs xs))
    ∙ ap (λ t. t ++ stack_pairs xs) (first-rest r))))

pub walk-pairs : (limit n : ℕ) (from : List ℕ) → WalkAt limit n from
walk-pairs zero n from p stack w a s f = refl
walk-pairs (suc limit) n from p stack w a s f =
    let e = down-pairs n from p stack w a in
    next-pairs limit n from (walk-pairs limit n from) (go_down n from p stack)
    (down-ready n n from p stack (omega arith) w a s)
    (subst (Each (IsFrom from)) (sym e)
    (each-both (IsFrom from) (filter (is_from from) (pairs_in p)) (stack_pairs stack)
    (filtered-from from (pairs_in p)) f))
    ∙ ap (take (suc limit)) e
