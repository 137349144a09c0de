-- Over a source that has a tree's nodes, loops over links read what functions of the tree read.
use Rattle.std.proofs.Common.{◌≡◌, ℕ, zero, suc, ◌+◌, ◌*◌, ◌≤◌, List, [], ◌∷◌, ◌++◌, length, map, Option, None, refl, sym, ap, ◌∙◌, arith}
use Rattle.std.specs.declared.option.Option.TheVariants.{Some}
use Rattle.std.specs.declared.cmp.Ordering.{Ordering}
use Rattle.std.specs.declared.cmp.Ordering.TheVariants.{Less, Equal, Greater}
use Rattle.std.proofs.lemmas.List.{map-append, length-append}
use Rattle.std.proofs.Math.Nat.{suc-mul}
use Rattle.spec.specs.Tree.{Pair, Node, Part, Last, More, Nothing, Sub, EachNode, EachUnder}
use Rattle.spec.specs.NodeFormat.{Shape, LastLink, first_link, part_link, shape, shape_cid}
use Rattle.edit_laws.specs.Order.{order}
use Rattle.edit_laws.specs.TreeEdit.{first, locate, further, find, answer}
use Rattle.edit_laws.specs.Trace.{find_path, last_part, merge_pairs, prune_path}
use Rattle.edit_laws.specs.Walk.{from_here, start, Frame, later, go_down, next, walk, next_reads, walk_reads}
use Rattle.edit_laws.specs.Sources.{shown, gap, gap_at, entry_value, entry_value_at, path_from, path_at, or_deeper, value_from, seam_from, pruned_from, start_shape, start_at, later_shape, down_from, next_from, walk_from, next_path, walk_path}
use Rattle.edit_laws.proofs.ShapeBridges as bridge
use Rattle.edit_laws.proofs.WalkPairs.{each-first_part, each-start, path-start}

-- ---- how much is read, whatever the source shows

at-most : (n : ℕ) (further : Option (List ℕ) → List Shape) → ((l : Option (List ℕ)) → length (further l) ≤ n)
    → (key : List ℕ) (s : Option Shape)
    → length (path_at further key s) ≤ suc n
at-most n further h key None = omega arith
at-most n further h key (Some s) = let i = h (gap key s) in omega arith

pub path-most : (shows : List ℕ → Option Shape) (n : ℕ) (key : List ℕ) (l : Option (List ℕ))
    → length (path_from shows n key l) ≤ n
path-most shows zero key l = omega arith
path-most shows (suc n) key l = at-most n (path_from shows n key) (path-most shows n key) key (shown shows l)

-- ---- one step

module _ (digest : List ℕ → List ℕ) where
  gap-further : (key : List ℕ) (o : Ordering) (p : Part) (e : Pair) (r : Node) → order e.0 key ≡ o
      → gap key (shape digest r) ≡ part_link digest (first (start key r))
      → gap_at o (part_link digest p) (gap key (shape digest r))
      ≡ part_link digest (first (from_here key (further o p e r (locate key r)).here))
  gap-further key Less p e r h i = i
  gap-further key Equal p e r h i = rw h refl
  gap-further key Greater p e r h i = rw h refl

  -- the link below which a key lies
  pub link-gap : (key : List ℕ) (m : Node) → gap key (shape digest m) ≡ part_link digest (first (start key m))
  link-gap key (Last p) = refl
  link-gap key (More p e r) = gap-further key (order e.0 key) p e r refl (link-gap key r)

  start-further : (key : List ℕ) (o : Ordering) (p : Part) (e : Pair) (r : Node) → order e.0 key ≡ o
      → start_shape key (shape digest r) ≡ shape digest (start key r)
      → start_at o (part_link digest p) e (shape digest r) (start_shape key (shape digest r))
      ≡ shape digest (from_here key (further o p e r (locate key r)).here)
  start-further key Less p e r h i = i
  start-further key Equal p e r h i = rw h refl
  start-further key Greater p e r h i = rw h refl

  pub shape-start : (key : List ℕ) (m : Node) → start_shape key (shape digest m) ≡ shape digest (start key m)
  shape-start key (Last p) = refl
  shape-start key (More p e r) = start-further key (order e.0 key) p e r refl (shape-start key r)

  -- a value of a row, or a deeper one
  value-further : (key : List ℕ) (n : ℕ) (o : Ordering) (p : Part) (e : Pair) (r : Node) → order e.0 key ≡ o
      → or_deeper (entry_value key (shape digest r)) (find n key (first (start key r)))
      ≡ answer key (find n key (first (locate key r).here)) (locate key r).here
      → let h = (further o p e r (locate key r)).here in
      or_deeper (entry_value_at o e (entry_value key (shape digest r))) (find n key (first (from_here key h)))
      ≡ answer key (find n key (first h)) h
  value-further key n Less p e r h i = i
  value-further key n Equal p e r h i = rw h refl
  value-further key n Greater p e r h i = rw h refl

  pub value-step : (key : List ℕ) (n : ℕ) (m : Node)
      → or_deeper (entry_value key (shape digest m)) (find n key (first (start key m)))
      ≡ answer key (find n key (first (locate key m).here)) (locate key m).here
  value-step key n (Last p) = refl
  value-step key n (More p e r) = value-further key n (order e.0 key) p e r refl (value-step key n r)

  shape-later : (m : Node) (stack : List Frame)
      → later_shape (shape digest m) (map (λ (x : Frame). (x.0, shape digest x.1)) stack)
      ≡ map (λ (x : Frame). (x.0, shape digest x.1)) (later m stack)
  shape-later (Last p) stack = refl
  shape-later (More p e r) stack = refl

  -- ---- the loops

  module _ (shows : List ℕ → Option Shape) where
    abbrev pub IsShown : Node → Type 0
    IsShown m = shows (shape_cid digest (shape digest m)) ≡ Some (shape digest m)

    pub path-holds : (n : ℕ) (key : List ℕ) (p : Part) → EachNode IsShown p
        → path_from shows n key (part_link digest p) ≡ map (shape digest) (find_path n key p)
    path-holds zero key p h = refl
    path-holds (suc n) key Nothing h = refl
    path-holds (suc n) key (Sub m) h =
        let k = start key m in
        rw (h.0, link-gap key m, path-holds n key (first k) (each-first_part IsShown k (each-start IsShown key m h.1)))
        (ap (λ t. shape digest m ∷ map (shape digest) t) (sym (path-start key n (locate key m).here)))

    pub value-holds : (n : ℕ) (key : List ℕ) (p : Part) → EachNode IsShown p
        → value_from shows n key (part_link digest p) ≡ find n key p
    value-holds zero key p h = refl
    value-holds (suc n) key Nothing h = refl
    value-holds (suc n) key (Sub m) h =
        let k = start key m in
        rw (
          h.0,
          link-gap key m,
          value-holds n key (first k) (each-first_part IsShown k (each-start IsShown key m h.1)),
        ) (value-step key n m)

    each-last_part : (m : Node) → EachUnder IsShown m → EachNode IsShown (last_part m)
    each-last_part (Last p) h = h
    each-last_part (More p e r) h = each-last_part r h.1

    pub seam-holds : (n : ℕ) (p q : Part) → EachNode IsShown p → EachNode IsShown q
        → seam_from shows n (part_link digest p) (part_link digest q)
        ≡ map (bridge.two_shapes digest) (merge_pairs n p q)
    seam-holds zero p q h k = refl
    seam-holds (suc n) Nothing q h k = refl
    seam-holds (suc n) (Sub m) Nothing h k = rw h.0 refl
    seam-holds (suc n) (Sub m) (Sub j) h k =
        rw (h.0, k.0, bridge.link-last digest m, bridge.link-first digest j)
        (ap (λ t. (shape digest m, shape digest j) ∷ t)
        (seam-holds n (last_part m) (first j) (each-last_part m h.1) (each-first_part IsShown j k.1)))

    pub pruned-holds : (n : ℕ) (p : Part) → EachNode IsShown p
        → pruned_from shows (suc n) (part_link digest p) ≡ map (shape digest) (prune_path n p)
    pruned-holds n Nothing h = refl
    pruned-holds zero (Sub (Last p)) h = rw h.0 refl
    pruned-holds zero (Sub (More p e r)) h = rw h.0 refl
    pruned-holds (suc n) (Sub (Last p)) h = rw h.0 (ap (λ t. LastLink (part_link digest p) ∷ t) (pruned-holds n p h.1))
    pruned-holds (suc n) (Sub (More p e r)) h = rw h.0 refl

    -- ---- walks

    abbrev pub AreShown : List Frame → Type 0
    AreShown [] = Unit {0}
    AreShown (x ∷ xs) = EachUnder IsShown x.1 × AreShown xs

    shown-later : (m : Node) (stack : List Frame) → EachUnder IsShown m → AreShown stack → AreShown (later m stack)
    shown-later (Last p) stack h s = s
    shown-later (More p e r) stack h s = (h.1, s)

    pub down-shown : (n : ℕ) (from : List ℕ) (p : Part) (stack : List Frame) → EachNode IsShown p → AreShown stack
        → AreShown (go_down n from p stack)
    down-shown zero from p stack h s = s
    down-shown (suc n) from Nothing stack h s = s
    down-shown (suc n) from (Sub m) stack h s =
        let k = start from m in
        let f = each-start IsShown from m h.1 in
        down-shown n from (first k) (later k stack) (each-first_part IsShown k f) (shown-later k stack f s)

    abbrev pub frames : List Frame → List (Pair × Shape)
    frames stack = map (λ (x : Frame). (x.0, shape digest x.1)) stack

    pub down-holds : (n : ℕ) (from : List ℕ) (p : Part) (stack : List Frame) → EachNode IsShown p
        → down_from shows n from (part_link digest p) (frames stack) ≡ frames (go_down n from p stack)
    down-holds zero from p stack h = refl
    down-holds (suc n) from Nothing stack h = refl
    down-holds (suc n) from (Sub m) stack h =
        let k = start from m in
        rw (h.0, shape-start from m, bridge.link-first digest k, shape-later k stack)
        (down-holds n from (first k) (later k stack) (each-first_part IsShown k (each-start IsShown from m h.1)))

    abbrev pub WalkHolds : ℕ → ℕ → List ℕ → Type 0
    WalkHolds limit n from = (p : Part) (stack : List Frame) → EachNode IsShown p → AreShown stack
        → walk_from shows limit n from (part_link digest p) (frames stack) ≡ walk limit n from p stack

    next-holds : (limit n : ℕ) (from : List ℕ) → WalkHolds limit n from → (stack : List Frame) → AreShown stack
        → next_from (walk_from shows limit n from) (frames stack) ≡ next (walk limit n from) stack
    next-holds limit n from ih [] s = refl
    next-holds limit n from ih (x ∷ xs) s =
        rw (bridge.link-first digest x.1, shape-later x.1 xs)
        (ap (λ t. x.0 ∷ t) (ih (first x.1) (later x.1 xs) (each-first_part IsShown x.1 s.0)
        (shown-later x.1 xs s.0 s.1)))

    pub walk-holds : (limit n : ℕ) (from : List ℕ) → WalkHolds limit n from
    walk-holds zero n from p stack h s = refl
    walk-holds (suc limit) n from p stack h s =
        ap (next_from (walk_from shows limit n from)) (down-holds n from p stack h)
        ∙ next-holds limit n from (walk-holds limit n from) (go_down n from p stack) (down-shown n from p stack h s)

    abbrev pub ReadsHold : ℕ → ℕ → List ℕ → Type 0
    ReadsHold limit n from = (p : Part) (stack : List Frame) → EachNode IsShown p → AreShown stack
        → walk_path shows limit n from (part_link digest p) (frames stack)
        ≡ map (shape digest) (walk_reads limit n from p stack)

    next-reads_hold : (limit n : ℕ) (from : List ℕ) → ReadsHold limit n from → (stack : List Frame) → AreShown stack
        → next_path (walk_path shows limit n from) (frames stack)
        ≡ map (shape digest) (next_reads (walk_reads limit n from) stack)
    next-reads_hold limit n from ih [] s = refl
    next-reads_hold limit n from ih (x ∷ xs) s =
        rw (bridge.link-first digest x.1, shape-later x.1 xs)
        (ih (first x.1) (later x.1 xs) (each-first_part IsShown x.1 s.0) (shown-later x.1 xs s.0 s.1))

    pub reads-hold : (limit n : ℕ) (from : List ℕ) → ReadsHold limit n from
    reads-hold zero n from p stack h s = refl
    reads-hold (suc limit) n from p stack h s =
        let d = go_down n from p stack in
        rw (path-holds n from p h)
        (ap (λ t. map (shape digest) (find_path n from p) ++ t)
        (ap (next_path (walk_path shows limit n from)) (down-holds n from p stack h)
        ∙ next-reads_hold limit n from (reads-hold limit n from) d (down-shown n from p stack h s))
        ∙ sym (map-append (shape digest) (find_path n from p) (next_reads (walk_reads limit n from) d)))

-- at most n nodes for each pair, whatever the source shows
next-most : (limit : ℕ) (further : Option (List ℕ) → List (Pair × Shape) → List Shape)
    → ((l : Option (List ℕ)) (stack : List (Pair × Shape)) → length (further l stack) ≤ limit)
    → (stack : List (Pair × Shape)) → length (next_path further stack) ≤ limit
next-most limit further h [] = omega arith
next-most limit further h (x ∷ xs) = h (first_link x.1) (later_shape x.1 xs)

pub walk-most : (shows : List ℕ → Option Shape) (limit n : ℕ) (from : List ℕ) (l : Option (List ℕ))
    (stack : List (Pair × Shape)) → length (walk_path shows limit n from l stack) ≤ limit * n
walk-most shows zero n from l stack = omega arith
walk-most shows (suc limit) n from l stack =
    let d = down_from shows n from l stack in
    let i = next-most (limit * n) (walk_path shows limit n from) (walk-most shows limit n from) d in
    let a = path-most shows n from l in
    let b = length-append (path_from shows n from l) (next_path (walk_path shows limit n from) d) in
    let c : suc limit * n ≡ limit * n + n = suc-mul limit n in
    omega arith
