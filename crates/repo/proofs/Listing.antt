-- The blocks that a core keeps, each once.
use Rattle.std.proofs.Common.{zero, suc, ◌≡◌, ℕ, ◌∷◌, [], List, refl, ap, sym, ◌∙◌, subst, cond, Bool, true, false, arith, nat_eq, Option, None}
use Rattle.std.specs.declared.option.Option.TheVariants.{Some}
use Rattle.std.specs.Prelude.{map as each, ◌&&◌, T, Contains, option_map}
use Rattle.std.specs.Ordering.{nat_cmp, is_eq, is_lt}
use Rattle.std.specs.declared.cmp.Ordering.{Ordering}
use Rattle.std.specs.declared.cmp.Ordering.TheVariants.{Less, Equal, Greater}
use Rattle.std.specs.Cmp.Lexicographic.{slice_cmp, nat_list_eq_equiv, pointwise}
use Rattle.std.specs.List.{IsDistinct}
use Rattle.std.specs.List.Sorted.{IsPermutation}
use Rattle.std.specs.Map.{keys_of}
use Rattle.std.proofs.lemmas.List.Sorted.{IsPermutation-sym, IsPermutation-map, Contains-permutation}
use Rattle.std.proofs.lemmas.Map.Keys.{IsDistinct-IsPermutation}
use Rattle.std.specs.FinMap as map
use Rattle.std.specs.FinMap.{find, is_sorted, slice_cmp-IsAntisymmetric, nat_cmp-IsAntisymmetric}
use Rattle.std.specs.FinMap.Entries.{below_all}
use Rattle.spec.specs.Cid.{cid}
use Rattle.spec.specs.States.{State, state_blocks}
use Rattle.edit_laws.proofs.Orders.{order-same, order-is}
use Rattle.edit_laws.proofs.Using.{User, user}
use Rattle.kept.specs.Counts.{Counts, Keeping, count_of, bytes_at, blocks_of}
use Rattle.kept.proofs.Listing.{distinct_sorted}
use Rattle.repo.specs.Cores.{IsCore, AreEachOnce}
use Rattle.repo.specs.Keeping.{AreKept}

abbrev Entries : Type 0
Entries = List (List ℕ × (List ℕ × ℕ))

both : (a b : Bool) → T a → T b → T (a && b)
both true b p q = q
both false b p q = absurd p

first : (a b : Bool) → T (a && b) → T a
first true b p = tt
first false b p = absurd p

second : (a b : Bool) → T (a && b) → T b
second true b p = p
second false b p = absurd p

some-is : (x y : List ℕ) → ◌≡◌ {A = Option (List ℕ)} (Some x) (Some y) → x ≡ y
some-is x y e = cc

tie : (c : List ℕ) → is_eq (slice_cmp nat_cmp c c) ≡ true
tie c = ap is_eq (order-is c c ∙ order-same c)

-- a key below each key of a list isn't found in it
missed : (q : List ℕ) (es : Entries) → T (below_all (slice_cmp nat_cmp) q es) → find (slice_cmp nat_cmp) q es ≡ None
missed q [] h = refl
missed q (e ∷ es) h = other (slice_cmp nat_cmp q e.0) (first (is_lt (slice_cmp nat_cmp q e.0)) (below_all (slice_cmp nat_cmp) q es) h)
    ∙ missed q es (second (is_lt (slice_cmp nat_cmp q e.0)) (below_all (slice_cmp nat_cmp) q es) h)
  where
    other : (r : Ordering) → T (is_lt r) → cond (is_eq r) (Some e.1) (find (slice_cmp nat_cmp) q es) ≡ find (slice_cmp nat_cmp) q es
    other Less t = refl
    other Equal t = absurd t
    other Greater t = absurd t

-- what is found in the rest of a list in order is found in the list
further : (e : List ℕ × (List ℕ × ℕ)) (es : Entries) (c : List ℕ) (u : List ℕ × ℕ) → T (below_all (slice_cmp nat_cmp) e.0 es) → find (slice_cmp nat_cmp) c es ≡ Some u
    → find (slice_cmp nat_cmp) c (e ∷ es) ≡ Some u
further e es c u below h = step (slice_cmp nat_cmp c e.0) refl
  where
    never : find (slice_cmp nat_cmp) c es ≡ None → ⊥
    never n = let x : ◌≡◌ {A = Option (List ℕ × ℕ)} None (Some u) = sym n ∙ h in absurd cc

    step : (r : Ordering) → slice_cmp nat_cmp c e.0 ≡ r → find (slice_cmp nat_cmp) c (e ∷ es) ≡ Some u
    step Less t = ap (λ s. cond (is_eq s) (Some e.1) (find (slice_cmp nat_cmp) c es)) t ∙ h
    step Greater t = ap (λ s. cond (is_eq s) (Some e.1) (find (slice_cmp nat_cmp) c es)) t ∙ h
    step Equal t = let same = slice_cmp-IsAntisymmetric nat_cmp-IsAntisymmetric c e.0 t in
        absurd (never (ap (λ x. find (slice_cmp nat_cmp) x es) same ∙ missed e.0 es below))

-- an entry is one of these blocks, under its CID
record Stands (digest : List ℕ → List ℕ) (bs : List (List ℕ)) (c b : List ℕ) : Type 0 where
  named : cid digest b ≡ c
  here : Contains bs b

module _ (digest : List ℕ → List ℕ) (bs : List (List ℕ)) where
  abbrev Facts : Entries → Type 0
  Facts es = (c : List ℕ) (u : List ℕ × ℕ) → find (slice_cmp nat_cmp) c es ≡ Some u → Stands digest bs c u.0

  head-fact : (e : List ℕ × (List ℕ × ℕ)) (es : Entries) → Facts (e ∷ es) → Stands digest bs e.0 e.1.0
  head-fact e es h = h e.0 e.1 (ap (λ t. cond t (Some e.1) (find (slice_cmp nat_cmp) e.0 es)) (tie e.0))

  tail-facts : (e : List ℕ × (List ℕ × ℕ)) (es : Entries) → T (is_sorted (slice_cmp nat_cmp) (e ∷ es)) → Facts (e ∷ es) → Facts es
  tail-facts e es s h = λ c u f. h c u (further e es c u (first (below_all (slice_cmp nat_cmp) e.0 es) (is_sorted (slice_cmp nat_cmp) es) s) f)

  rest : (e : List ℕ × (List ℕ × ℕ)) (es : Entries) → T (is_sorted (slice_cmp nat_cmp) (e ∷ es)) → T (is_sorted (slice_cmp nat_cmp) es)
  rest e es s = second (below_all (slice_cmp nat_cmp) e.0 es) (is_sorted (slice_cmp nat_cmp) es) s

  among-entries : (es : Entries) → T (is_sorted (slice_cmp nat_cmp) es) → Facts es → (b : List ℕ) → Contains (each (λ e. e.1.0) es) b → Contains bs b
  among-entries [] s h b (i, lt, is) = absurd (omega arith)
  among-entries (e ∷ es) s h b (zero, lt, is) = subst (Contains bs) is (head-fact e es h).here
  among-entries (e ∷ es) s h b (suc i, lt, is) = among-entries es (rest e es s) (tail-facts e es s h) b (i, omega arith, is)

  abbrev named_blocks : Entries → List (List ℕ × List ℕ)
  named_blocks es = each (λ b. (cid digest b, b)) (each (λ e. e.1.0) es)

  below-named : (k : List ℕ) (es : Entries) → T (is_sorted (slice_cmp nat_cmp) es) → Facts es → T (below_all (slice_cmp nat_cmp) k es) → T (below_all (slice_cmp nat_cmp) k (named_blocks es))
  below-named k [] s h l = tt
  below-named k (e ∷ es) s h l =
      both (is_lt (slice_cmp nat_cmp k (cid digest e.1.0))) (below_all (slice_cmp nat_cmp) k (named_blocks es))
      (subst (λ c. T (is_lt (slice_cmp nat_cmp k c))) (sym (head-fact e es h).named) (first (is_lt (slice_cmp nat_cmp k e.0)) (below_all (slice_cmp nat_cmp) k es) l))
      (below-named k es (rest e es s) (tail-facts e es s h) (second (is_lt (slice_cmp nat_cmp k e.0)) (below_all (slice_cmp nat_cmp) k es) l))

  sorted-named : (es : Entries) → T (is_sorted (slice_cmp nat_cmp) es) → Facts es → T (is_sorted (slice_cmp nat_cmp) (named_blocks es))
  sorted-named [] s h = tt
  sorted-named (e ∷ es) s h =
      both (below_all (slice_cmp nat_cmp) (cid digest e.1.0) (named_blocks es)) (is_sorted (slice_cmp nat_cmp) (named_blocks es))
      (subst (λ c. T (below_all (slice_cmp nat_cmp) c (named_blocks es))) (sym (head-fact e es h).named)
      (below-named e.0 es (rest e es s) (tail-facts e es s h) (first (below_all (slice_cmp nat_cmp) e.0 es) (is_sorted (slice_cmp nat_cmp) es) s)))
      (sorted-named es (rest e es s) (tail-facts e es s h))

-- what is found is one of the entries
found-block : (q : List ℕ) (es : Entries) (b : List ℕ) → option_map (λ u. u.0) (find (slice_cmp nat_cmp) q es) ≡ Some b → Contains (each (λ e. e.1.0) es) b
found-block q [] b h = absurd cc
found-block q (e ∷ es) b h = step (λ f. found-block q es b f) (is_eq (slice_cmp nat_cmp q e.0)) h
  where
    later : Contains (each (λ e. e.1.0) es) b → Contains (each (λ e. e.1.0) (e ∷ es)) b
    later (i, lt, is) = (suc i, omega arith, is)

    step : (option_map (λ u. u.0) (find (slice_cmp nat_cmp) q es) ≡ Some b → Contains (each (λ e. e.1.0) es) b) → (t : Bool)
        → option_map (λ u. u.0) (cond t (Some e.1) (find (slice_cmp nat_cmp) q es)) ≡ Some b → Contains (each (λ e. e.1.0) (e ∷ es)) b
    step again true f = (zero, omega arith, some-is e.1.0 b f)
    step again false f = later (again f)

-- the keys of blocks under their CIDs
names : (digest : List ℕ → List ℕ) (xs : List (List ℕ)) → keys_of (each (λ b. (cid digest b, b)) xs) ≡ each (cid digest) xs
names digest [] = refl
names digest (x ∷ xs) = ap (λ ys. cid digest x ∷ ys) (names digest xs)

module _ (digest : List ℕ → List ℕ) (bs : List (List ℕ)) (m : Counts) (is : AreKept digest bs m) where
  entry-stands : (c : List ℕ) (u : List ℕ × ℕ) → map.get m c ≡ Some u → Stands digest bs c u.0
  entry-stands c u e =
      let n = is.counted c in
      let here = ap count_of e in
      let some = is.used c u e in
      let x : User digest c bs = user digest c bs (omega (arith, n, here, some)) in
      let same : u.0 ≡ x.block = some-is u.0 x.block (sym (ap (option_map (λ (v : List ℕ × ℕ). v.0)) e) ∙ ap (bytes_at m) (sym x.is) ∙ is.has x.block x.here) in
      record { named = ap (cid digest) same ∙ x.is; here = subst (Contains bs) (sym same) x.here }

  facts : Facts digest bs (map.entries m)
  facts = λ c u f. entry-stands c u (map.get-entries m c ∙ f)

  pub kept-once : AreEachOnce digest bs (blocks_of m)
  kept-once = record {
    among = among-entries digest bs (map.entries m) (map.entries_sorted m) facts;
    whole = λ b h. found-block (cid digest b) (map.entries m) b (ap (option_map (λ (v : List ℕ × ℕ). v.0)) (sym (map.get-entries m (cid digest b))) ∙ is.has b h);
    apart = subst (IsDistinct (pointwise nat_eq)) (names digest (each (λ e. e.1.0) (map.entries m)))
        (distinct_sorted (named_blocks digest bs (map.entries m)) (sorted-named digest bs (map.entries m) (map.entries_sorted m) facts));
  }

-- the same in another order
turned : (digest : List ℕ → List ℕ) (all once list : List (List ℕ)) → AreEachOnce digest all once → IsPermutation once list → AreEachOnce digest all list
turned digest all once list is p = record {
  among = λ b h. is.among b (Contains-permutation list once b (IsPermutation-sym once list p) h);
  whole = λ b h. Contains-permutation once list b p (is.whole b h);
  apart = IsDistinct-IsPermutation (pointwise nat_eq) nat_list_eq_equiv.symm (each (cid digest) once) (each (cid digest) list)
      (IsPermutation-map (cid digest) once list p) is.apart;
}

pub core-blocks : (digest : List ℕ → List ℕ) (bits : ℕ) (s given : State) (root : List ℕ) (commit : Option (List ℕ)) (k : Keeping) (list : List (List ℕ)) → IsCore digest bits s root commit k → s ≡ given
    → IsPermutation (blocks_of k.uses) list → AreEachOnce digest (state_blocks digest bits given) list
core-blocks digest bits s given root commit k list is e p =
    subst (λ (x : State). AreEachOnce digest (state_blocks digest bits x) list) e
    (turned digest (state_blocks digest bits s) (blocks_of k.uses) list (kept-once digest (state_blocks digest bits s) k.uses is.kept) p)
