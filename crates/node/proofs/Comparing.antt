-- Lists compared by what they have in common.
use Rattle.std.proofs.Common.{◌≡◌, ◌≢◌, ℕ, suc, ◌+◌, ◌<◌, ◌≤◌, Bool, true, false, cond, eqb, ltb, List, [], ◌∷◌, length, get_or, drop, refl, sym, ap, ◌∙◌, arith}
use Rattle.std.specs.declared.cmp.Ordering.{Ordering}
use Rattle.std.specs.declared.cmp.Ordering.TheVariants.{Less, Equal, Greater}
use Rattle.std.specs.Ordering.{nat_cmp, ordering_then, is_lt}
use Rattle.std.specs.Cmp.Lexicographic.{slice_cmp}
use Rattle.std.proofs.lemmas.Bool.{eqb-true, eqb-false, eq-eqb, ne_eqb, ltb-true, ltb-false, le-ltb, lt-ltb}
use Rattle.spec.specs.NodeFormat.{common}

abbrev pub cmp : List ℕ → List ℕ → Ordering
cmp xs ys = slice_cmp nat_cmp xs ys

cmp-same : (x y : ℕ) (xs ys : List ℕ) → eqb x y ≡ true → cmp (x ∷ xs) (y ∷ ys) ≡ cmp xs ys
cmp-same x y xs ys e = let q : x ≡ y = eqb-true x y e in let t : ltb x y ≡ false = le-ltb x y (omega arith) in rw (t, e) refl

cmp-other : (x y : ℕ) (xs ys : List ℕ) → eqb x y ≡ false → cmp (x ∷ xs) (y ∷ ys) ≡ nat_cmp x y
cmp-other x y xs ys e = elim (ltb x y) as (λ t. ordering_then (cond t Less (cond (eqb x y) Equal Greater)) (cmp xs ys) ≡ cond t Less (cond (eqb x y) Equal Greater)) [ true ↦ refl | false ↦ rw e refl ]

common-same : (x y : ℕ) (xs ys : List ℕ) → eqb x y ≡ true → common (x ∷ xs) (y ∷ ys) ≡ suc (common xs ys)
common-same x y xs ys e = rw e refl

common-other : (x y : ℕ) (xs ys : List ℕ) → eqb x y ≡ false → common (x ∷ xs) (y ∷ ys) ≡ 0
common-other x y xs ys e = rw e refl

-- what the place where two lists part says of their order
pub record Parts (xs ys : List ℕ) : Type 0 where
  pub both_end : common xs ys ≡ length xs → common xs ys ≡ length ys → cmp xs ys ≡ Equal
  pub first_ends : common xs ys ≡ length xs → common xs ys ≢ length ys → cmp xs ys ≡ Less
  pub second_ends : common xs ys ≢ length xs → common xs ys ≡ length ys → cmp xs ys ≡ Greater
  pub neither_ends : common xs ys ≢ length xs → common xs ys ≢ length ys → cmp xs ys ≡ nat_cmp (get_or xs (common xs ys) 0) (get_or ys (common xs ys) 0)

parts-step : (x y : ℕ) (xs ys : List ℕ) (t : Bool) → eqb x y ≡ t → Parts xs ys → Parts (x ∷ xs) (y ∷ ys)
parts-step x y xs ys true e p =
    let c = common-same x y xs ys e in
    let o = cmp-same x y xs ys e in
    record {
      both_end = λ a b. o ∙ p.both_end (omega (arith, a, c)) (omega (arith, b, c));
      first_ends = λ a b. o ∙ p.first_ends (omega (arith, a, c)) (λ q. b (omega (arith, q, c)));
      second_ends = λ a b. o ∙ p.second_ends (λ q. a (omega (arith, q, c))) (omega (arith, b, c));
      neither_ends = λ a b. o ∙ p.neither_ends (λ q. a (omega (arith, q, c))) (λ q. b (omega (arith, q, c))) ∙ ap (λ (n : ℕ). nat_cmp (get_or (x ∷ xs) n 0) (get_or (y ∷ ys) n 0)) (sym c);
    }
parts-step x y xs ys false e p =
    let c = common-other x y xs ys e in
    record {
      both_end = λ a b. absurd (omega (arith, a, c));
      first_ends = λ a b. absurd (omega (arith, a, c));
      second_ends = λ a b. absurd (omega (arith, b, c));
      neither_ends = λ a b. cmp-other x y xs ys e ∙ ap (λ (n : ℕ). nat_cmp (get_or (x ∷ xs) n 0) (get_or (y ∷ ys) n 0)) (sym c);
    }

pub parts : (xs ys : List ℕ) → Parts xs ys
parts [] [] = record { both_end = λ a b. refl; first_ends = λ a b. absurd (b refl); second_ends = λ a b. absurd (a refl); neither_ends = λ a b. absurd (a refl) }
parts [] (y ∷ ys) = record { both_end = λ a b. absurd (omega arith); first_ends = λ a b. refl; second_ends = λ a b. absurd (a refl); neither_ends = λ a b. absurd (a refl) }
parts (x ∷ xs) [] = record { both_end = λ a b. absurd (omega arith); first_ends = λ a b. absurd (omega arith); second_ends = λ a b. refl; neither_ends = λ a b. absurd (b refl) }
parts (x ∷ xs) (y ∷ ys) = parts-step x y xs ys (eqb x y) refl (parts xs ys)

below : (x y : ℕ) → is_lt (nat_cmp x y) ≡ true → x < y
below x y h = elim (ltb x y) as (λ t. ltb x y ≡ t → is_lt (cond t Less (cond (eqb x y) Equal Greater)) ≡ true → x < y) [
  | true ↦ λ t g. ltb-true x y t
  | false ↦ λ t. elim (eqb x y) as (λ u. is_lt (cond u Equal Greater) ≡ true → x < y) [ true ↦ λ g. absurd cc | false ↦ λ g. absurd cc ]
] refl h

-- ---- a key against a sought one, where the key before both is known

-- what a key beside the one before tells of a sought one
pub record Beside (before key sought : List ℕ) : Type 0 where
  pub fewer : common before key < common before sought → (cmp key sought ≡ Greater) × (common key sought ≡ common before key)
  pub as_many : common before key ≡ common before sought
      → (cmp key sought ≡ cmp (drop (common before key) key) (drop (common before key) sought)) × (common key sought ≡ common before key + common (drop (common before key) key) (drop (common before key) sought))

beside-step : (x y z : ℕ) (before key sought : List ℕ) (t u : Bool) → eqb x y ≡ t → eqb x z ≡ u → is_lt (cmp (x ∷ before) (y ∷ key)) ≡ true → (is_lt (cmp before key) ≡ true → Beside before key sought)
    → Beside (x ∷ before) (y ∷ key) (z ∷ sought)
beside-step x y z before key sought true true e f less rest =
    let c = common-same x y before key e in
    let d = common-same x z before sought f in
    let b = rest (ap is_lt (sym (cmp-same x y before key e)) ∙ less) in
    let q : y ≡ z = omega (arith, eqb-true x y e, eqb-true x z f) in
    let same : eqb y z ≡ true = eq-eqb y z q in
    let o = cmp-same y z key sought same in
    let m = common-same y z key sought same in
    record {
      fewer = λ lt. let w = b.fewer (omega (arith, lt, c, d)) in (o ∙ w.0, m ∙ ap suc w.1 ∙ sym c);
      as_many = λ eq.
          let w = b.as_many (omega (arith, eq, c, d)) in
          rw c (o ∙ w.0, m ∙ ap suc w.1 ∙ omega arith);
    }
beside-step x y z before key sought true false e f less rest =
    let c = common-same x y before key e in
    let d = common-other x z before sought f in
    record { fewer = λ lt. absurd (omega (arith, lt, d)); as_many = λ eq. absurd (omega (arith, eq, c, d)) }
beside-step x y z before key sought false true e f less rest =
    let c = common-other x y before key e in
    let d = common-same x z before sought f in
    let rises : is_lt (nat_cmp x y) ≡ true = ap is_lt (sym (cmp-other x y before key e)) ∙ less in
    let lt : x < y = below x y rises in
    let q : x ≡ z = eqb-true x z f in
    let over : ltb y z ≡ false = le-ltb y z (omega arith) in
    let other : eqb y z ≡ false = ne_eqb y z (λ eq. omega arith) in
    record {
      fewer = λ _. (rw (over, other) refl, common-other y z key sought other ∙ sym c);
      as_many = λ eq. absurd (omega (arith, eq, c, d));
    }
beside-step x y z before key sought false false e f less rest =
    let c = common-other x y before key e in
    let d = common-other x z before sought f in
    record { fewer = λ lt. absurd (omega (arith, lt, d)); as_many = λ eq. rw c (refl, omega arith) }

pub beside : (before key sought : List ℕ) → is_lt (cmp before key) ≡ true → Beside before key sought
beside [] key sought less = record { fewer = λ lt. absurd (omega arith); as_many = λ eq. (refl, omega arith) }
beside (x ∷ before) [] sought less = absurd cc
beside (x ∷ before) (y ∷ key) [] less =
    record { fewer = λ lt. absurd (omega arith); as_many = λ eq. rw eq (refl, omega arith) }
beside (x ∷ before) (y ∷ key) (z ∷ sought) less = beside-step x y z before key sought (eqb x y) (eqb x z) refl refl less (beside before key sought)

-- ---- the other way round

apart : (x y : ℕ) → eqb x y ≡ false → nat_cmp x y ≡ Equal → ⊥
apart x y t h = elim (ltb x y) as (λ u. cond u Less (cond (eqb x y) Equal Greater) ≡ Equal → ⊥) [ true ↦ λ g. cc | false ↦ λ g. let f = rw t at g in cc ] h

above : (x y : ℕ) → nat_cmp x y ≡ Greater → y < x
above x y h = elim (ltb x y) as (λ t. ltb x y ≡ t → cond t Less (cond (eqb x y) Equal Greater) ≡ Greater → y < x) [
  | true ↦ λ t g. absurd cc
  | false ↦ λ t. elim (eqb x y) as (λ u. eqb x y ≡ u → cond u Equal Greater ≡ Greater → y < x) [ true ↦ λ u g. absurd cc | false ↦ λ u g. let le : y ≤ x = ltb-false x y t in let ne : x ≢ y = eqb-false x y u in omega arith ] refl
] refl h

pub cmp-turn : (xs ys : List ℕ) → cmp xs ys ≡ Greater → cmp ys xs ≡ Less
cmp-turn [] [] h = absurd cc
cmp-turn [] (y ∷ ys) h = absurd cc
cmp-turn (x ∷ xs) [] h = refl
cmp-turn (x ∷ xs) (y ∷ ys) h =
    elim (eqb x y) as (λ t. eqb x y ≡ t → cmp (y ∷ ys) (x ∷ xs) ≡ Less) [
      | true ↦ λ t. cmp-same y x ys xs (eq-eqb y x (sym (eqb-true x y t))) ∙ cmp-turn xs ys (sym (cmp-same x y xs ys t) ∙ h)
      | false ↦ λ t. let lt : y < x = above x y (sym (cmp-other x y xs ys t) ∙ h) in rw (lt-ltb y x lt) refl
    ] refl

pub common-turn : (xs ys : List ℕ) → common xs ys ≡ common ys xs
common-turn [] [] = refl
common-turn [] (y ∷ ys) = refl
common-turn (x ∷ xs) [] = refl
common-turn (x ∷ xs) (y ∷ ys) =
    elim (eqb x y) as (λ t. eqb x y ≡ t → common (x ∷ xs) (y ∷ ys) ≡ common (y ∷ ys) (x ∷ xs)) [
      | true ↦ λ t. common-same x y xs ys t ∙ ap suc (common-turn xs ys) ∙ sym (common-same y x ys xs (eq-eqb y x (sym (eqb-true x y t))))
      | false ↦ λ t. common-other x y xs ys t ∙ sym (common-other y x ys xs (ne_eqb y x (λ q. eqb-false x y t (sym q))))
    ] refl

pub cmp-equal : (xs ys : List ℕ) → cmp xs ys ≡ Equal → xs ≡ ys
cmp-equal [] [] h = refl
cmp-equal [] (y ∷ ys) h = absurd cc
cmp-equal (x ∷ xs) [] h = absurd cc
cmp-equal (x ∷ xs) (y ∷ ys) h =
    elim (eqb x y) as (λ t. eqb x y ≡ t → x ∷ xs ≡ y ∷ ys) [
      | true ↦ λ t. ap (λ (z : ℕ). z ∷ xs) (eqb-true x y t) ∙ ap (λ (zs : List ℕ). y ∷ zs) (cmp-equal xs ys (sym (cmp-same x y xs ys t) ∙ h))
      | false ↦ λ t. absurd (apart x y t (sym (cmp-other x y xs ys t) ∙ h))
    ] refl
