-- One use of a block more or less.
use Rattle.std.proofs.Common.{◌≡◌, ℕ, zero, suc, ◌+◌, ◌-◌, ◌<◌, ◌≤◌, true, false, cond, List, [], ◌∷◌, ◌++◌, refl, sym, ap, subst, ◌∙◌, arith, inl, inr, Option, None}
use Rattle.std.specs.declared.option.Option.TheVariants.{Some}
use Rattle.std.specs.Prelude.{◌⊎◌, Contains, option_map}
use Rattle.std.specs.declared.cmp.Ordering.{Ordering}
use Rattle.std.specs.declared.cmp.Ordering.TheVariants.{Less, Equal, Greater}
use Rattle.std.specs.Ordering.{nat_cmp, is_eq}
use Rattle.std.specs.Cmp.Lexicographic.{slice_cmp, nat_list_cmp_total}
use Rattle.std.specs.FinMap as map
use Rattle.std.proofs.lemmas.List.Elements.{Contains-append_cases, Contains-append_right}
use Rattle.spec.specs.Cid.{cid}
use Rattle.spec.specs.Blocks.{IsClashFree}
use Rattle.edit_laws.specs.Order.{order}
use Rattle.edit_laws.specs.Changes.{count, one_if_equal}
use Rattle.edit_laws.specs.Uses.{uses}
use Rattle.edit_laws.proofs.Orders.{order-same, order-equal, order-is, turned, turned_back}
use Rattle.edit_laws.proofs.Lists.{count-append}
use Rattle.edit_laws.proofs.RecordCounts.{count-map_append}
use Rattle.kept.specs.Counts.{Counts, AllUsed, ComeAlone, with_count, count_of, count_at, bytes_at, raised, gained, lowered, lowered_from, lost, HasNoOther, HaveNoOther}
use Rattle.kept.specs.Gains.{IsGained, IsLost}
use Rattle.kept.proofs.Entries.{same}

-- ---- two CIDs are the same, or no test takes them for the same

record Apart (q c : List ℕ) : Type 0 where
  test : is_eq (slice_cmp nat_cmp q c) ≡ false
  one : one_if_equal (order c q) ≡ 0

tell : (q c : List ℕ) → (q ≡ c) ⊎ Apart q c
tell q c = by_order (order c q) refl
  where
    apart : (r : Ordering) → order q c ≡ r → is_eq r ≡ false → is_eq (slice_cmp nat_cmp q c) ≡ false
    apart r e h = ap is_eq (order-is q c ∙ e) ∙ h

    by_order : (r : Ordering) → order c q ≡ r → (q ≡ c) ⊎ Apart q c
    by_order Less e = inr (record { test = apart Greater (turned_back c q e) refl; one = ap one_if_equal e })
    by_order Equal e = inl (sym (order-equal c q e))
    by_order Greater e = inr (record { test = apart Less (turned c q e) refl; one = ap one_if_equal e })

tie : (c : List ℕ) → is_eq (slice_cmp nat_cmp c c) ≡ true
tie c = ap is_eq (order-is c c ∙ order-same c)

once : (c : List ℕ) → one_if_equal (order c c) ≡ 1
once c = ap one_if_equal (order-same c)

-- ---- entries

record Entry (o : Option (List ℕ × ℕ)) (b : List ℕ) : Type 0 where
  entry : List ℕ × ℕ
  is : o ≡ Some entry
  bytes : entry.0 ≡ b

entry-of : (o : Option (List ℕ × ℕ)) (b : List ℕ) → option_map (λ u. u.0) o ≡ Some b → Entry o b
entry-of None b h = absurd cc
entry-of (Some u) b h = record { entry = u; is = refl; bytes = cc }

only : (b x : List ℕ) → Contains (x ∷ []) b → b ≡ x
only b x (zero, lt, is) = sym is
only b x (suc i, lt, is) = absurd (omega arith)

-- ---- one use more

module _ (digest : List ℕ → List ℕ) (m : Counts) (b : List ℕ) where
  n : ℕ
  n = suc (count_at m (cid digest b))

  pub get-raised : (q : List ℕ) → map.get (raised digest m b) q
      ≡ cond (is_eq (slice_cmp nat_cmp q (cid digest b))) (Some (b, suc (count_at m (cid digest b)))) (map.get m q)
  get-raised q = map.get-insert nat_list_cmp_total m (cid digest b) (b, suc (count_at m (cid digest b))) q

  raised-here : map.get (raised digest m b) (cid digest b) ≡ Some (b, suc (count_at m (cid digest b)))
  raised-here = get-raised (cid digest b) ∙ ap (λ t. cond t (Some (b, suc (count_at m (cid digest b)))) (map.get m (cid digest b))) (tie (cid digest b))

  raised-beside : (q : List ℕ) → Apart q (cid digest b) → map.get (raised digest m b) q ≡ map.get m q
  raised-beside q a = get-raised q ∙ ap (λ t. cond t (Some (b, suc (count_at m (cid digest b)))) (map.get m q)) a.test

  extends-here : HasNoOther digest m b → (x : List ℕ) → bytes_at m (cid digest b) ≡ Some x → bytes_at (raised digest m b) (cid digest b) ≡ Some x
  extends-here h x e =
      let u = entry-of (map.get m (cid digest b)) x e in
      ap (option_map (λ v. v.0)) raised-here ∙ ap (λ (y : List ℕ). Some y) (sym (h u.entry u.is) ∙ u.bytes)

  pub raised-gained : HasNoOther digest m b → IsGained digest (b ∷ []) m (raised digest m b)
  raised-gained h = record {
    extends = λ q x e. elim (tell q (cid digest b)) [
      | inl s ↦ subst (λ y. bytes_at (raised digest m b) y ≡ Some x) (sym s) (extends-here h x (subst (λ y. bytes_at m y ≡ Some x) s e))
      | inr a ↦ ap (option_map (λ v. v.0)) (raised-beside q a) ∙ e
    ];
    has = λ y i. subst (λ z. bytes_at (raised digest m b) (cid digest z) ≡ Some z) (sym (only y b i)) (ap (option_map (λ v. v.0)) raised-here);
    counted = λ q. elim (tell q (cid digest b)) [
      | inl s ↦ subst (λ y. count_at (raised digest m b) y ≡ count_at m y + uses digest y (b ∷ [])) (sym s)
          (let o = once (cid digest b) in let r = ap count_of raised-here in omega (arith, o, r))
      | inr a ↦ let r = ap count_of (raised-beside q a) in let o = a.one in omega (arith, o, r)
    ];
    used = λ u q v e. elim (tell q (cid digest b)) [
      | inl s ↦ let x = some_is (b, suc (count_at m (cid digest b))) v (sym raised-here ∙ ap (map.get (raised digest m b)) (sym s) ∙ e) in
          let y = ap (λ (z : List ℕ × ℕ). z.1) x in omega (arith, y)
      | inr a ↦ u q v (sym (raised-beside q a) ∙ e)
    ];
  }
    where
      some_is : (x y : List ℕ × ℕ) → ◌≡◌ {A = Option (List ℕ × ℕ)} (Some x) (Some y) → x ≡ y
      some_is x y e = cc

-- ---- one use less

-- the bytes with a count, where it isn't 0
abbrev some_if : List ℕ → ℕ → Option (List ℕ × ℕ)
some_if b zero = None
some_if b (suc n) = Some (b, suc n)

some-bytes : (b : List ℕ) (n : ℕ) (x : List ℕ) → option_map (λ u. u.0) (some_if b n) ≡ Some x → b ≡ x
some-bytes b zero x h = absurd cc
some-bytes b (suc n) x h = cc

some-count : (b : List ℕ) (n : ℕ) → count_of (some_if b n) ≡ n
some-count b zero = refl
some-count b (suc n) = refl

some-used : (b : List ℕ) (n : ℕ) (v : List ℕ × ℕ) → some_if b n ≡ Some v → 0 < v.1
some-used b zero v h = absurd cc
some-used b (suc n) v h = let is : v.1 ≡ suc n = cc in omega (arith, is)

module _ (m : Counts) (c b : List ℕ) where
  pub get-with : (n : ℕ) (q : List ℕ) → map.get (with_count m c b n) q ≡ cond (is_eq (slice_cmp nat_cmp q c)) (some_if b n) (map.get m q)
  get-with zero q = map.get-remove nat_list_cmp_total m c q
  get-with (suc n) q = map.get-insert nat_list_cmp_total m c (b, suc n) q

  with-here : (n : ℕ) → map.get (with_count m c b n) c ≡ some_if b n
  with-here n = get-with n c ∙ ap (λ t. cond t (some_if b n) (map.get m c)) (tie c)

  with-beside : (n : ℕ) (q : List ℕ) → Apart q c → map.get (with_count m c b n) q ≡ map.get m q
  with-beside n q a = get-with n q ∙ ap (λ t. cond t (some_if b n) (map.get m q)) a.test

  with-lost : (n : ℕ) → map.get m c ≡ Some (b, n) → IsLost (c ∷ []) m (with_count m c b (n - 1))
  with-lost n e = record {
    same = λ q x h. elim (tell q c) [
      | inl s ↦ let y = some-bytes b (n - 1) x (sym (ap (option_map (λ u. u.0)) (with-here (n - 1))) ∙ ap (bytes_at (with_count m c b (n - 1))) (sym s) ∙ h) in
          ap (bytes_at m) s ∙ ap (option_map (λ u. u.0)) e ∙ ap (λ (z : List ℕ). Some z) y
      | inr a ↦ sym (ap (option_map (λ u. u.0)) (with-beside (n - 1) q a)) ∙ h
    ];
    counted = λ q h. elim (tell q c) [
      | inl s ↦ let o = once c in let old = ap count_of e in let new = ap count_of (with-here (n - 1)) ∙ some-count b (n - 1) in
          let l : count c (c ∷ []) ≤ count_at m c = subst (λ x. count x (c ∷ []) ≤ count_at m x) s h in
          subst (λ x. count_at (with_count m c b (n - 1)) x + count x (c ∷ []) ≡ count_at m x) (sym s) (omega (arith, o, old, new, l))
      | inr a ↦ let r = ap count_of (with-beside (n - 1) q a) in let o = a.one in omega (arith, o, r)
    ];
    used = λ u q v h. elim (tell q c) [
      | inl s ↦ some-used b (n - 1) v (sym (with-here (n - 1)) ∙ ap (map.get (with_count m c b (n - 1))) (sym s) ∙ h)
      | inr a ↦ u q v (sym (with-beside (n - 1) q a) ∙ h)
    ];
  }

pub lowered-lost : (m : Counts) (c : List ℕ) → IsLost (c ∷ []) m (lowered m c)
lowered-lost m c = by_entry (map.get m c) refl
  where
    by_entry : (o : Option (List ℕ × ℕ)) → map.get m c ≡ o → IsLost (c ∷ []) m (lowered_from m c o)
    by_entry None e = record {
      same = λ q x h. h;
      counted = λ q h. elim (tell q c) [
        | inl s ↦ let o = once c in let old = ap count_of e in
            let l : count c (c ∷ []) ≤ count_at m c = subst (λ x. count x (c ∷ []) ≤ count_at m x) s h in absurd (omega (arith, o, old, l))
        | inr a ↦ let o = a.one in omega (arith, o)
      ];
      used = λ u. u;
    }
    by_entry (Some u) e = with-lost m c u.0 u.1 e

-- ---- one after the other

none-in : (b : List ℕ) → Contains [] b → ⊥
none-in b h = let l = h.1 in omega arith

gained-none : (digest : List ℕ → List ℕ) (m : Counts) → IsGained digest [] m m
gained-none digest m = record { extends = λ q x h. h; has = λ b h. absurd (none-in b h); counted = λ q. omega arith; used = λ u. u }

gained-then : (digest : List ℕ → List ℕ) (xs ys : List (List ℕ)) (k l m : Counts) → IsGained digest xs k l → IsGained digest ys l m → IsGained digest (xs ++ ys) k m
gained-then digest xs ys k l m g h = record {
  extends = λ q x e. h.extends q x (g.extends q x e);
  has = λ b i. elim (Contains-append_cases xs ys b i) [
    | inl first ↦ h.extends (cid digest b) b (g.has b first)
    | inr later ↦ h.has b later
  ];
  counted = λ q. let a = g.counted q in let b = h.counted q in let s = count-map_append (cid digest) q xs ys in omega (arith, a, b, s);
  used = λ u. h.used (g.used u);
}

-- these blocks come, each alone under its CID
pub gained-is : (digest : List ℕ → List ℕ) (m : Counts) (bs : List (List ℕ)) → ComeAlone digest m bs → IsGained digest bs m (gained digest m bs)
gained-is digest m [] h = gained-none digest m
gained-is digest m (b ∷ bs) h =
    gained-then digest (b ∷ []) bs m (raised digest m b) (gained digest (raised digest m b) bs) (raised-gained digest m b h.0)
    (gained-is digest (raised digest m b) bs h.1)

lost-none : (m : Counts) → IsLost [] m m
lost-none m = record { same = λ q x h. h; counted = λ q h. omega arith; used = λ u. u }

lost-then : (xs ys : List (List ℕ)) (k l m : Counts) → IsLost xs k l → IsLost ys l m → IsLost (xs ++ ys) k m
lost-then xs ys k l m g h = record {
  same = λ q x e. g.same q x (h.same q x e);
  counted = λ q e.
      let s = count-append q xs ys in
      let a = g.counted q (omega (arith, e, s)) in
      let b = h.counted q (omega (arith, e, s, a)) in
      omega (arith, a, b, s);
  used = λ u. h.used (g.used u);
}

-- the blocks with these CIDs go
pub lost-is : (m : Counts) (cids : List (List ℕ)) → IsLost cids m (lost m cids)
lost-is m [] = lost-none m
lost-is m (c ∷ cs) = lost-then (c ∷ []) cs m (lowered m c) (lost (lowered m c) cs) (lowered-lost m c) (lost-is (lowered m c) cs)

-- ---- with one more at the end

pub gained-more : (digest : List ℕ → List ℕ) (m : Counts) (bs : List (List ℕ)) (b : List ℕ) → gained digest m (bs ++ b ∷ []) ≡ raised digest (gained digest m bs) b
gained-more digest m [] b = refl
gained-more digest m (x ∷ bs) b = gained-more digest (raised digest m x) bs b

pub lost-more : (m : Counts) (cs : List (List ℕ)) (c : List ℕ) → lost m (cs ++ c ∷ []) ≡ lowered (lost m cs) c
lost-more m [] c = refl
lost-more m (x ∷ cs) c = lost-more (lowered m x) cs c

pub alone-more : (digest : List ℕ → List ℕ) (m : Counts) (bs : List (List ℕ)) (b : List ℕ) → ComeAlone digest m bs
    → HasNoOther digest (gained digest m bs) b → ComeAlone digest m (bs ++ b ∷ [])
alone-more digest m [] b h n = (n, tt)
alone-more digest m (x ∷ bs) b h n = (h.0, alone-more digest (raised digest m x) bs b h.1 n)

pub alone-last : (digest : List ℕ → List ℕ) (m : Counts) (bs : List (List ℕ)) (b : List ℕ) → ComeAlone digest m (bs ++ b ∷ [])
    → ComeAlone digest m bs × HasNoOther digest (gained digest m bs) b
alone-last digest m [] b h = (tt, h.0)
alone-last digest m (x ∷ bs) b h = let rest = alone-last digest (raised digest m x) bs b h.1 in ((h.0, rest.0), rest.1)

-- ---- one use is taken back

restored : (b : List ℕ) (o : Option (List ℕ × ℕ)) → ((u : List ℕ × ℕ) → o ≡ Some u → u.0 ≡ b) → ((u : List ℕ × ℕ) → o ≡ Some u → 0 < u.1)
    → some_if b (count_of o) ≡ o
restored b None same used = refl
restored b (Some u) same used = some-if-used b u.0 u.1 (same u refl) (used u refl)
  where
    some-if-used : (b x : List ℕ) (n : ℕ) → x ≡ b → 0 < n → some_if b n ≡ Some (x, n)
    some-if-used b x zero e h = absurd (omega (arith, h))
    some-if-used b x (suc n) e h = ap (λ (y : List ℕ). Some (y, suc n)) (sym e)

-- a block that came is taken back
pub taken_back : (digest : List ℕ → List ℕ) (m : Counts) (b : List ℕ) → AllUsed m → HasNoOther digest m b → lowered (raised digest m b) (cid digest b) ≡ m
taken_back digest m b used alone =
    let c = cid digest b in
    let more = raised digest m b in
    ap (lowered_from more c) (raised-here digest m b)
    ∙ map.same_map nat_list_cmp_total same _ _ (λ q. get-with more c b (suc (count_at m c) - 1) q ∙ back q)
  where
    less : (n : ℕ) → suc n - 1 ≡ n
    less n = omega arith

    back : (q : List ℕ) → cond (is_eq (slice_cmp nat_cmp q (cid digest b))) (some_if b (suc (count_at m (cid digest b)) - 1)) (map.get (raised digest m b) q) ≡ map.get m q
    back q = elim (tell q (cid digest b)) [
      | inl s ↦ subst (λ (x : List ℕ). cond (is_eq (slice_cmp nat_cmp x (cid digest b))) (some_if b (suc (count_at m (cid digest b)) - 1)) (map.get (raised digest m b) x) ≡ map.get m x) (sym s)
          (ap (λ t. cond t (some_if b (suc (count_at m (cid digest b)) - 1)) (map.get (raised digest m b) (cid digest b))) (tie (cid digest b))
          ∙ ap (some_if b) (less (count_at m (cid digest b)))
          ∙ restored b (map.get m (cid digest b)) alone (used (cid digest b)))
      | inr a ↦ ap (λ t. cond t (some_if b (suc (count_at m (cid digest b)) - 1)) (map.get (raised digest m b) q)) a.test ∙ raised-beside digest m b q a
    ]

-- the last of the blocks that came is taken back
pub last-taken_back : (digest : List ℕ → List ℕ) (m : Counts) (bs : List (List ℕ)) (b : List ℕ) → AllUsed m → ComeAlone digest m (bs ++ b ∷ [])
    → lowered (gained digest m (bs ++ b ∷ [])) (cid digest b) ≡ gained digest m bs
last-taken_back digest m bs b used h =
    let last = alone-last digest m bs b h in
    ap (λ (k : Counts). lowered k (cid digest b)) (gained-more digest m bs b)
    ∙ taken_back digest (gained digest m bs) b ((gained-is digest m bs last.0).used used) last.1

-- what stands under the CID of none of the blocks that come stays
pub gained-beside : (digest : List ℕ → List ℕ) (m : Counts) (bs : List (List ℕ)) (c : List ℕ) → ((b : List ℕ) → Contains bs b → cid digest b ≡ c → ⊥)
    → map.get (gained digest m bs) c ≡ map.get m c
gained-beside digest m [] c none = refl
gained-beside digest m (b ∷ bs) c none =
    gained-beside digest (raised digest m b) bs c (λ x i. none x (Contains-append_right (b ∷ []) bs x i))
    ∙ elim (tell c (cid digest b)) [
      | inl s ↦ absurd (none b (0, omega arith, refl) (sym s))
      | inr a ↦ raised-beside digest m b c a
    ]

-- ---- no other block under the CIDs of those that come

other-before : (digest : List ℕ → List ℕ) (m : Counts) (b x : List ℕ) → HasNoOther digest m b → HasNoOther digest (raised digest m b) x → HasNoOther digest m x
other-before digest m b x first later u e = elim (tell (cid digest x) (cid digest b)) [
  | inl s ↦ first u (sym (ap (map.get m) s) ∙ e) ∙ later (b, suc (count_at m (cid digest b))) (ap (map.get (raised digest m b)) s ∙ raised-here digest m b)
  | inr a ↦ later u (raised-beside digest m b (cid digest x) a ∙ e)
]

same-cid : (digest : List ℕ → List ℕ) (m : Counts) (b x : List ℕ) → HasNoOther digest (raised digest m b) x → cid digest x ≡ cid digest b → b ≡ x
same-cid digest m b x later s = later (b, suc (count_at m (cid digest b))) (ap (map.get (raised digest m b)) s ∙ raised-here digest m b)

in-cons : (b x : List ℕ) (bs : List (List ℕ)) → Contains (b ∷ bs) x → (b ≡ x) ⊎ Contains bs x
in-cons b x bs (zero, lt, is) = inl is
in-cons b x bs (suc i, lt, is) = inr (i, omega arith, is)

cons-head : (b : List ℕ) (bs : List (List ℕ)) → Contains (b ∷ bs) b
cons-head b bs = (zero, omega arith, refl)

cons-tail : (b x : List ℕ) (bs : List (List ℕ)) → Contains bs x → Contains (b ∷ bs) x
cons-tail b x bs (i, lt, is) = (suc i, omega arith, is)

pub alone-no_other : (digest : List ℕ → List ℕ) (m : Counts) (bs : List (List ℕ)) → ComeAlone digest m bs → HaveNoOther digest m bs
alone-no_other digest m [] h x i = absurd (none-in x i)
alone-no_other digest m (b ∷ bs) h x i = elim (in-cons b x bs i) [
  | inl e ↦ subst (HasNoOther digest m) e h.0
  | inr later ↦ other-before digest m b x h.0 (alone-no_other digest (raised digest m b) bs h.1 x later)
]

pub alone-clash_free : (digest : List ℕ → List ℕ) (m : Counts) (bs : List (List ℕ)) → ComeAlone digest m bs → IsClashFree digest bs
alone-clash_free digest m [] h x y i j e = absurd (none-in x i)
alone-clash_free digest m (b ∷ bs) h x y i j e =
    let others = alone-no_other digest (raised digest m b) bs h.1 in
    elim (in-cons b x bs i) [
      | inl p ↦ elim (in-cons b y bs j) [
        | inl q ↦ sym p ∙ q
        | inr l ↦ sym p ∙ same-cid digest m b y (others y l) (sym e ∙ ap (cid digest) (sym p))
      ]
      | inr k ↦ elim (in-cons b y bs j) [
        | inl q ↦ sym (same-cid digest m b x (others x k) (e ∙ ap (cid digest) (sym q))) ∙ q
        | inr l ↦ alone-clash_free digest (raised digest m b) bs h.1 x y k l e
      ]
    ]

-- and the other way round
no_other-after : (digest : List ℕ → List ℕ) (m : Counts) (b x : List ℕ) → HasNoOther digest m x → (cid digest x ≡ cid digest b → b ≡ x)
    → HasNoOther digest (raised digest m b) x
no_other-after digest m b x none apart u e = elim (tell (cid digest x) (cid digest b)) [
  | inl s ↦
      let is : (b, suc (count_at m (cid digest b))) ≡ u = some-is _ u (sym (ap (map.get (raised digest m b)) s ∙ raised-here digest m b) ∙ e) in
      sym (ap (λ (z : List ℕ × ℕ). z.0) is) ∙ apart s
  | inr a ↦ none u (sym (raised-beside digest m b (cid digest x) a) ∙ e)
]
  where
    some-is : (x y : List ℕ × ℕ) → ◌≡◌ {A = Option (List ℕ × ℕ)} (Some x) (Some y) → x ≡ y
    some-is x y e = cc

pub alone-from : (digest : List ℕ → List ℕ) (m : Counts) (bs : List (List ℕ)) → HaveNoOther digest m bs → IsClashFree digest bs → ComeAlone digest m bs
alone-from digest m [] none free = tt
alone-from digest m (b ∷ bs) none free = (
  none b (cons-head b bs),
  alone-from digest (raised digest m b) bs
      (λ x i. no_other-after digest m b x (none x (cons-tail b x bs i)) (λ s. free b x (cons-head b bs) (cons-tail b x bs i) (sym s)))
      (λ x y i j e. free x y (cons-tail b x bs i) (cons-tail b y bs j) e),
)
