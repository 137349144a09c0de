-- The counts of the kept blocks, and how they follow the changes of the map.
use Rattle.std.proofs.Common.{zero, suc, ◌≡◌, ℕ, ◌<◌, ◌-◌, ◌∷◌, [], List, refl, ap, sym, ◌∙◌, subst, cond, Bool, true, false, arith}
use Rattle.std.specs.Prelude.{Option, Some, None, option_map}
use Rattle.std.specs.Arc.{arc_value}
use Rattle.std.specs.Ordering.{nat_cmp, is_eq}
use Rattle.std.specs.declared.cmp.Ordering.{Ordering}
use Rattle.std.specs.declared.cmp.Ordering.TheVariants.{Less, Equal, Greater}
use Rattle.std.specs.Cmp.Lexicographic.{slice_cmp, nat_list_cmp_total}
use Rattle.std.specs.BTreeMap.{is_at}
use Rattle.std.specs.FinMap as map
use Rattle.spec.specs.Cid.{cid as cid_of}
use Rattle.kept.specs.Counts.{Counts, AllUsed, with_count, count_of, count_at, raised, lowered, lowered_from, bytes_at, HasNoOther}
use Rattle.kept.specs.Uses.{Uses, counted_in, lowered_in, if_used, at, Updated, counted, lent, AreUses, IsUse, IsKept, IsRaised, uses_of}
use Rattle.kept.specs.declared.kept_use.Use.{Use}
use Rattle.kept.proofs.Entries.{same, turn, here, the_same, listed_at, entries_at}

-- the bytes with a count, where it isn't 0
abbrev pub some_if : List ℕ → ℕ → Option (List ℕ × ℕ)
some_if bytes zero = None
some_if bytes (suc n) = Some (bytes, suc n)

abbrev pub count_in : {D A : Type 0} → Option (Use D A) → Option (List ℕ × ℕ)
count_in None = None
count_in (Some u) = some_if (arc_value u.hold.0) u.uses

pub some_if_used : (bytes : List ℕ) (n : ℕ) → 0 < n → some_if bytes n ≡ Some (bytes, n)
some_if_used bytes zero h = absurd (omega (arith, h))
some_if_used bytes (suc n) h = refl

pub get_with_count : (m : Counts) (c bytes : List ℕ) (n : ℕ) (q : List ℕ)
    → map.get (with_count m c bytes n) q ≡ cond (is_eq (slice_cmp nat_cmp q c)) (some_if bytes n) (map.get m q)
get_with_count m c bytes zero q = map.get-remove nat_list_cmp_total m c q
get_with_count m c bytes (suc n) q = map.get-insert nat_list_cmp_total m c (bytes, suc n) q

lowered_some : (m : Counts) (c bytes : List ℕ) (n : ℕ) → map.get m c ≡ some_if bytes n → (q : List ℕ)
    → cond (is_eq (slice_cmp nat_cmp q c)) (some_if bytes (n - 1)) (map.get m q) ≡ map.get (lowered_from m c (some_if bytes n)) q
lowered_some m c bytes zero e q = none (slice_cmp nat_cmp q c) refl
  where
    none : (r : Ordering) → slice_cmp nat_cmp q c ≡ r → cond (is_eq r) None (map.get m q) ≡ map.get m q
    none Less tied = refl
    none Equal tied = sym e ∙ ap (map.get m) (sym (same q c tied))
    none Greater tied = refl
lowered_some m c bytes (suc n) e q = sym (get_with_count m c bytes (suc n - 1) q)

some_count : (bytes : List ℕ) (n : ℕ) → count_of (some_if bytes n) ≡ n
some_count bytes zero = refl
some_count bytes (suc n) = refl

some_used : (bytes : List ℕ) (n : ℕ) (p : List ℕ × ℕ) → some_if bytes n ≡ Some p → 0 < p.1
some_used bytes zero p e = absurd cc
some_used bytes (suc n) p e = let is : p.1 ≡ suc n = cc in omega (arith, is)

module _ {D A : Type 0} where
  first_counted : (u : Use D A) (o : Option (Use D A)) (b : Bool)
      → cond b (some_if (arc_value u.hold.0) u.uses) (count_in o) ≡ count_in (cond b (Some u) o)
  first_counted u o true = refl
  first_counted u o false = refl

  get_counted_in : (es : List (List ℕ × Use D A)) (q : List ℕ) → map.get (counted_in es) q ≡ count_in (listed_at es q)
  get_counted_in [] q = map.get-empty (slice_cmp nat_cmp) q
  get_counted_in (e ∷ es) q = get_with_count (counted_in es) e.0 (arc_value e.1.hold.0) e.1.uses q
      ∙ ap (cond (is_eq (slice_cmp nat_cmp q e.0)) (some_if (arc_value e.1.hold.0) e.1.uses)) (get_counted_in es q)
      ∙ first_counted e.1 (listed_at es q) (is_eq (slice_cmp nat_cmp q e.0))

  pub get_counted : (m : Uses D A) (q : List ℕ) → map.get (counted m) q ≡ count_in (at m q)
  get_counted m q = get_counted_in (map.entries m) q ∙ ap count_in (entries_at m q)

  -- an entry is put
  pub counted_put : (es fs : Uses D A) (k : List ℕ) (u : Use D A) → Updated (at es) (at fs) k (Some u)
      → counted fs ≡ with_count (counted es) k (arc_value u.hold.0) u.uses
  counted_put es fs k u h = map.same_map nat_list_cmp_total same _ _ (λ q.
      get_counted fs q ∙ ap count_in (h q ∙ ap (λ b. cond b (Some u) (at es q)) (turn k q))
      ∙ sym (get_with_count (counted es) k (arc_value u.hold.0) u.uses q
      ∙ ap (cond (is_eq (slice_cmp nat_cmp q k)) (some_if (arc_value u.hold.0) u.uses)) (get_counted es q)
      ∙ first_counted u (at es q) (is_eq (slice_cmp nat_cmp q k))))

  uses_in : (o : Option (Use D A)) → count_of (count_in o) ≡ uses_of o
  uses_in None = refl
  uses_in (Some u) = some_count (arc_value u.hold.0) u.uses

  pub uses_at : (es : Uses D A) (c : List ℕ) (o : Option (Use D A)) → at es c ≡ o → uses_of o ≡ count_at (counted es) c
  uses_at es c o e = sym (ap count_of (get_counted es c ∙ ap count_in e) ∙ uses_in o)

  used_in : (o : Option (Use D A)) (p : List ℕ × ℕ) → count_in o ≡ Some p → 0 < p.1
  used_in None p e = absurd cc
  used_in (Some u) p e = some_used (arc_value u.hold.0) u.uses p e

  pub all_used : (es : Uses D A) → AllUsed (counted es)
  all_used es c p e = used_in (at es c) p (sym (get_counted es c) ∙ e)

  -- ---- one use more

  pub raised_counted : (digest : List ℕ → List ℕ) (me : ℕ) (es fs : Uses D A) (bytes : List ℕ) → IsRaised digest me (at es) (at fs) bytes
      → counted fs ≡ raised digest (counted es) bytes
  raised_counted digest me es fs bytes h =
      let m = counted es in
      let c = cid_of digest bytes in
      counted_put es fs c h.u h.updated
      ∙ ap (λ (b : List ℕ). with_count m c b h.u.uses) h.bytes_are
      ∙ ap (with_count m c bytes) (h.uses_are ∙ ap (λ (n : ℕ). suc n) (uses_at es c (at es c) refl))

  no_other_in : (o : Option (Use D A)) (bytes : List ℕ) → ((v : Use D A) → o ≡ Some v → arc_value v.hold.0 ≡ bytes)
      → (p : List ℕ × ℕ) → count_in o ≡ Some p → p.0 ≡ bytes
  no_other_in None bytes h p e = absurd cc
  no_other_in (Some v) bytes h p e = some v.uses e
    where
      some : (k : ℕ) → some_if (arc_value v.hold.0) k ≡ Some p → p.0 ≡ bytes
      some zero e = absurd cc
      some (suc k) e = let f : (arc_value v.hold.0, suc k) ≡ p = cc in sym (ap (λ (x : List ℕ × ℕ). x.0) f) ∙ h v refl

  pub raised_no_other : (digest : List ℕ → List ℕ) (me : ℕ) (es fs : Uses D A) (bytes : List ℕ)
      → IsRaised digest me (at es) (at fs) bytes → HasNoOther digest (counted es) bytes
  raised_no_other digest me es fs bytes h p e =
      no_other_in (at es (cid_of digest bytes)) bytes h.no_other p (sym (get_counted es (cid_of digest bytes)) ∙ e)

  -- where what is kept under the CID of these bytes has them, no other block stands there
  pub counted_no_other : (digest : List ℕ → List ℕ) (es : Uses D A) (bytes : List ℕ)
      → ((v : Use D A) → at es (cid_of digest bytes) ≡ Some v → arc_value v.hold.0 ≡ bytes) → HasNoOther digest (counted es) bytes
  counted_no_other digest es bytes h p e =
      no_other_in (at es (cid_of digest bytes)) bytes h p (sym (get_counted es (cid_of digest bytes)) ∙ e)

  -- ---- one use less

  cond_counted : (w o : Option (Use D A)) (x : Option (List ℕ × ℕ)) (b : Bool) → count_in w ≡ x
      → count_in (cond b w o) ≡ cond b x (count_in o)
  cond_counted w o x true e = e
  cond_counted w o x false e = refl

  count_if_used : (u : Use D A) (n : ℕ) → count_in (if_used (record u { uses = n }) n) ≡ some_if (arc_value u.hold.0) n
  count_if_used u zero = refl
  count_if_used u (suc n) = refl

  none_less : (es : Uses D A) (c q : List ℕ) (b : Bool) → is_at (slice_cmp nat_cmp c) q ≡ b → at es c ≡ None → cond b None (at es q) ≡ at es q
  none_less es c q true e a = sym a ∙ ap (at es) (here c q e)
  none_less es c q false e a = refl

  pub lowered_counted : (es fs : Uses D A) (c : List ℕ) (o : Option (Use D A)) → at es c ≡ o → Updated (at es) (at fs) c (lowered_in o)
      → counted fs ≡ lowered (counted es) c
  lowered_counted es fs c None e h =
      let m = counted es in
      map.same_map nat_list_cmp_total same _ _ (λ q.
      get_counted fs q ∙ ap count_in (h q ∙ none_less es c q (is_at (slice_cmp nat_cmp c) q) refl e) ∙ sym (get_counted es q))
      ∙ ap (lowered_from m c) (sym (get_counted es c ∙ ap count_in e))
  lowered_counted es fs c (Some u) e h =
      let m = counted es in
      let g : map.get m c ≡ some_if (arc_value u.hold.0) u.uses = get_counted es c ∙ ap count_in e in
      map.same_map nat_list_cmp_total same _ _ (λ q.
      get_counted fs q ∙ ap count_in (h q ∙ ap (λ b. cond b (lowered_in (Some u)) (at es q)) (turn c q))
      ∙ cond_counted (lowered_in (Some u)) (at es q) (some_if (arc_value u.hold.0) (u.uses - 1)) (is_eq (slice_cmp nat_cmp q c)) (count_if_used u (u.uses - 1))
      ∙ ap (cond (is_eq (slice_cmp nat_cmp q c)) (some_if (arc_value u.hold.0) (u.uses - 1))) (sym (get_counted es q))
      ∙ lowered_some m c (arc_value u.hold.0) u.uses g q
      ∙ ap (λ (x : Option (List ℕ × ℕ)). map.get (lowered_from m c x) q) (sym g))

  -- ---- what is lent

  lent_in : (o : Option (Use D A)) (bytes : List ℕ) → option_map (λ (p : List ℕ × ℕ). p.0) (count_in o) ≡ Some bytes
      → option_map arc_value (option_map (λ (u : Use D A). u.hold.0) o) ≡ Some bytes
  lent_in None bytes h = absurd cc
  lent_in (Some u) bytes h = some u.uses h
    where
      some : (k : ℕ) → option_map (λ (p : List ℕ × ℕ). p.0) (some_if (arc_value u.hold.0) k) ≡ Some bytes → Some (arc_value u.hold.0) ≡ Some bytes
      some zero h = absurd cc
      some (suc k) h = h

  pub lent_counted : (es : Uses D A) (c bytes : List ℕ) → bytes_at (counted es) c ≡ Some bytes
      → option_map arc_value (lent es c) ≡ Some bytes
  lent_counted es c bytes h =
      lent_in (at es c) bytes (ap (option_map (λ (p : List ℕ × ℕ). p.0)) (sym (get_counted es c)) ∙ h)

  -- ---- the law, after a change

  uses_put : (digest : List ℕ → List ℕ) (me : ℕ) (f g : List ℕ → Option (Use D A)) (c : List ℕ) (w : Option (Use D A))
      → AreUses digest me f → Updated f g c w → ((u : Use D A) → w ≡ Some u → IsUse digest me c u) → AreUses digest me g
  uses_put digest me f g c w are h is q u e = by_key (is_at (slice_cmp nat_cmp c) q) refl (sym (h q) ∙ e)
    where
      by_key : (b : Bool) → is_at (slice_cmp nat_cmp c) q ≡ b → cond b w (f q) ≡ Some u → IsUse digest me q u
      by_key true t e = subst (λ (x : List ℕ). IsUse digest me x u) (here c q t) (is u e)
      by_key false t e = are q u e

  pub uses_raised : (digest : List ℕ → List ℕ) (me : ℕ) (f g : List ℕ → Option (Use D A)) (bytes : List ℕ)
      → AreUses digest me f → IsRaised digest me f g bytes → AreUses digest me g
  uses_raised digest me f g bytes are h =
      uses_put digest me f g (cid_of digest bytes) (Some h.u) are h.updated
      (λ u e. subst (IsUse digest me (cid_of digest bytes)) (the_same h.u u e)
      (record { named = ap (cid_of digest) (sym h.bytes_are); mine = h.mine; used = let n = h.uses_are in omega (arith, n) }))

  still_used : (digest : List ℕ → List ℕ) (me : ℕ) (c : List ℕ) (v u : Use D A) (n : ℕ) → IsUse digest me c v
      → if_used (record v { uses = n }) n ≡ Some u → IsUse digest me c u
  still_used digest me c v u zero is e = absurd cc
  still_used digest me c v u (suc n) is e =
      subst (IsUse digest me c) (the_same (record v { uses = suc n }) u e) (record { named = is.named; mine = is.mine; used = omega arith })

  lowered_is : (digest : List ℕ → List ℕ) (me : ℕ) (c : List ℕ) (o : Option (Use D A)) → ((u : Use D A) → o ≡ Some u → IsUse digest me c u)
      → (u : Use D A) → lowered_in o ≡ Some u → IsUse digest me c u
  lowered_is digest me c None h u e = absurd cc
  lowered_is digest me c (Some v) h u e = still_used digest me c v u (v.uses - 1) (h v refl) e

  pub uses_lowered : (digest : List ℕ → List ℕ) (me : ℕ) (f g : List ℕ → Option (Use D A)) (c : List ℕ)
      → AreUses digest me f → Updated f g c (lowered_in (f c)) → AreUses digest me g
  uses_lowered digest me f g c are h = uses_put digest me f g c (lowered_in (f c)) are h (lowered_is digest me c (f c) (are c))

  -- ---- a block that is there, and one that isn't

  pub none_at : (es : Uses D A) (c : List ℕ) → at es c ≡ None → None ≡ bytes_at (counted es) c
  none_at es c e = sym (ap (option_map (λ (p : List ℕ × ℕ). p.0)) (get_counted es c ∙ ap count_in e))

  pub used_at : (es : Uses D A) (c : List ℕ) (u : Use D A) → at es c ≡ Some u → 0 < u.uses
      → Some (arc_value u.hold.0) ≡ bytes_at (counted es) c
  used_at es c u e some =
      sym (ap (option_map (λ (p : List ℕ × ℕ). p.0)) (get_counted es c ∙ ap count_in e ∙ some_if_used (arc_value u.hold.0) u.uses some))

-- ---- without a block

pub counted_empty : (D A : Type 0) → counted {D = D} {A = A} map.empty ≡ map.empty
counted_empty D A = map.same_map nat_list_cmp_total same _ _ (λ q.
    get_counted {D = D} {A = A} map.empty q ∙ ap count_in (map.get-empty (slice_cmp nat_cmp) q) ∙ sym (map.get-empty (slice_cmp nat_cmp) q))

pub kept_empty : {D A : Type 0} (digest : List ℕ → List ℕ) (me : ℕ) → me < 1024 → IsKept {D = D} {A = A} digest me map.empty
kept_empty {D} {A} digest me s = record {
  small = s;
  entries = λ q u e. let never : ◌≡◌ {A = Option (Use D A)} None (Some u) = sym (map.get-empty (slice_cmp nat_cmp) q) ∙ e in absurd cc;
}
