-- The whole tree, from the rows of its pairs.
use Rattle.std.proofs.Common.{◌≡◌, ℕ, suc, ◌<◌, ◌^◌, true, List, [], ◌∷◌, map, length, slice_index_or, Option, Some, None, MatchOption, sym, ap, subst, ◌∙◌, arith}
use Rattle.std.specs.Prelude.{Contains}
use Rattle.std.specs.List.{AllByRecursion, list_all}
use Rattle.std.specs.FinMap.{is_sorted}
use Rattle.std.specs.Cmp.Lexicographic.{slice_cmp}
use Rattle.std.specs.Ordering.{nat_cmp}
use Rattle.std.proofs.lemmas.List.{length-map, get_or-map}
use Rattle.std.proofs.lemmas.List.Elements.{Contains-get_or}
use Rattle.spec.specs.Cid.{cid, is_own_cid, IsDigest}
use Rattle.spec.specs.Layer.{layer}
use Rattle.spec.specs.Tree.{Pair, tree, top, top_layer}
use Rattle.spec.specs.NodeFormat.{is_key, is_ascending, node_bytes}
use Rattle.spec.specs.Blocks.{ArePairs, IsClashFree, IsClash, IsClashIn, nodes, root, firsts}
use Rattle.spec.proofs.Bools.{both}
use Rattle.spec.proofs.TreeLaws.{lower-from_top}
use Rattle.spec.proofs.RootLaws.{all_of}
use Rattle.spec.proofs.Once.{firsts-nodes}
use Rattle.scratch.specs.Rows.{pair_of}
use Rattle.scratch.specs.Faults.{AreClashing}
use Rattle.scratch.specs.declared.rows.Row.{Row}
use Rattle.scratch.proofs.Aheads.{node_ahead, before-all}

-- all pairs lie ahead of the top
pub node-top : (of : List ℕ → ℕ) (es : List Pair) → node_ahead of (top_layer of es) es ≡ top of es
node-top of es = ap (tree of (top_layer of es)) (before-all of (suc (top_layer of es)) es (lower-from_top of (top_layer of es) es (omega arith)))

-- the first of the nodes is the root's
pub first-is_root : {X : Type 0} (f : X → List ℕ) (digest : List ℕ → List ℕ) (bits : ℕ) (es : List Pair) (xs : List X) (x : X) (root_is : List ℕ) → map f xs ≡ nodes digest bits es → x ≡ slice_index_or xs 0 x
    → root_is ≡ cid digest (f x) → root_is ≡ root digest bits es
first-is_root f digest bits es [] x root_is are is e = absurd cc
first-is_root f digest bits es (y ∷ ys) x root_is are is e =
    let top : f y ≡ node_bytes digest (top (layer digest bits) es) = cc in
    e ∙ ap (λ z. cid digest (f z)) is ∙ ap (cid digest) top

pub some-nodes : {X : Type 0} (f : X → List ℕ) (digest : List ℕ → List ℕ) (bits : ℕ) (es : List Pair) (xs : List X) → map f xs ≡ nodes digest bits es → 0 < length xs
some-nodes f digest bits es [] are = absurd cc
some-nodes f digest bits es (y ∷ ys) are = omega arith

-- ---- each node once

own_values : (rows : List Row) → AllByRecursion (λ e. is_own_cid e.1 ≡ true) (map pair_of rows)
own_values [] = tt
own_values (r ∷ rows) = (r.value.own, own_values rows)

pub pairs-are : (rows : List Row) (es : List Pair) → map pair_of rows ≡ es → is_ascending es ≡ true → length rows < 2 ^ 64 → ArePairs es
pairs-are rows es is up few =
    let p = both (is_sorted (slice_cmp nat_cmp) es) (list_all (λ e. is_key e.0) es) up in
    let same : length (map pair_of rows) ≡ length rows = length-map rows pair_of in
    let count : length (map pair_of rows) ≡ length es = ap length is in
    record { sorted = p.0; keys = all_of (λ e. is_key e.0) es p.1; values = subst (λ (xs : List Pair). AllByRecursion (λ e. is_own_cid e.1 ≡ true) xs) is (own_values rows); count = omega arith }

pub free-nodes : (digest : List ℕ → List ℕ) (bits : ℕ) (es : List Pair) (blocks : List (List ℕ)) → blocks ≡ nodes digest bits es → IsClashFree digest blocks → IsClashFree digest (nodes digest bits es)
free-nodes digest bits es blocks is free = subst (IsClashFree digest) is free

pub once : (digest : List ℕ → List ℕ) (bits : ℕ) → IsDigest digest → (rows : List Row) (es : List Pair) (blocks : List (List ℕ)) → map pair_of rows ≡ es → is_ascending es ≡ true → length rows < 2 ^ 64
    → blocks ≡ nodes digest bits es → IsClashFree digest blocks → firsts (cid digest) (nodes digest bits es) ≡ nodes digest bits es
once digest bits fits rows es blocks is up few are free = firsts-nodes digest bits fits es (pairs-are rows es is up few) (free-nodes digest bits es blocks are free)

-- ---- a clash

pub clash-at : {X : Type 0} (f : X → List ℕ) (digest : List ℕ → List ℕ) (xs : List X) (i j : ℕ) (x y : X) → AreClashing digest (map f xs) i j
    → x ≡ slice_index_or xs i x → y ≡ slice_index_or xs j y → Contains (map f xs) (f x) × Contains (map f xs) (f y) × IsClash digest (f x) (f y)
clash-at f digest xs i j x y h is_x is_y =
    let few : length (map f xs) ≡ length xs = length-map xs f in
    let at_x : slice_index_or (map f xs) i [] ≡ f x = get_or-map f xs i x [] (omega (arith, h.has_one)) ∙ ap f (sym is_x) in
    let at_y : slice_index_or (map f xs) j [] ≡ f y = get_or-map f xs j y [] (omega (arith, h.has_other)) ∙ ap f (sym is_y) in
    let one : Contains (map f xs) (f x) = subst (Contains (map f xs)) at_x (Contains-get_or (map f xs) i [] h.has_one) in
    let other : Contains (map f xs) (f y) = subst (Contains (map f xs)) at_y (Contains-get_or (map f xs) j [] h.has_other) in
    let clash : IsClash digest (f x) (f y) = (ap (cid digest) (sym at_x) ∙ h.clash.0 ∙ ap (cid digest) at_y, λ e. h.clash.1 (at_x ∙ e ∙ sym at_y)) in
    (one, other, clash)

pub clash-in : {X : Type 0} (f : X → List ℕ) (digest : List ℕ → List ℕ) (xs : List X) (i j : ℕ) (x y : X) (pair : List ℕ × List ℕ) → AreClashing digest (map f xs) i j
    → x ≡ slice_index_or xs i x → y ≡ slice_index_or xs j y → pair ≡ (f x, f y) → IsClashIn digest (map f xs) pair
clash-in f digest xs i j x y pair h is_x is_y is = subst (IsClashIn digest (map f xs)) (sym is) (clash-at f digest xs i j x y h is_x is_y)

pub clash-among : (digest : List ℕ → List ℕ) (blocks nodes : List (List ℕ)) (pair : List ℕ × List ℕ) → blocks ≡ nodes → IsClashIn digest blocks pair → IsClashIn digest nodes pair
clash-among digest blocks nodes pair is h = subst (λ (bs : List (List ℕ)). IsClashIn digest bs pair) is h

-- ---- what was found, or not

pub at_none : {X : Type 0} (P : Type 0) (Q : X → Type 0) (o : Option X) → o ≡ None → MatchOption o P Q → P
at_none P Q None e h = h
at_none P Q (Some x) e h = absurd cc
