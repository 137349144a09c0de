-- Lists of bytes compared by the numbers that they spell.
use Rattle.std.proofs.Common.{◌≡◌, ℕ, suc, ◌+◌, ◌*◌, ◌<◌, List, [], ◌∷◌, ◌++◌, length, refl, sym, ap, ◌∙◌, arith}
use Rattle.std.specs.declared.cmp.Ordering.{Ordering}
use Rattle.std.specs.declared.cmp.Ordering.TheVariants.{Less, Equal, Greater}
use Rattle.std.specs.Cmp.{ranks, nat_cmp_is}
use Rattle.std.specs.Cmp.Lexicographic.{slice_cmp}
use Rattle.std.specs.Int.{w64, from_be_bytes}
use Rattle.std.specs.Ordering.{nat_cmp, ordering_then, MatchOrdering}
use Rattle.std.specs.Slice.Scan.{big_endian}
use Rattle.spec.specs.Reading.{IsBytes}

then-Equal : (o : Ordering) → ordering_then o Equal ≡ o
then-Equal Less = refl
then-Equal Equal = refl
then-Equal Greater = refl

then-then : (o p q : Ordering) → ordering_then (ordering_then o p) q ≡ ordering_then o (ordering_then p q)
then-then Less p q = refl
then-then Equal p q = refl
then-then Greater p q = refl

digit : (m n x y : ℕ) → x < 256 → y < 256 → ordering_then (nat_cmp m n) (nat_cmp x y) ≡ nat_cmp (m * 256 + x) (n * 256 + y)
digit m n x y below above =
    nat_cmp_is (m * 256 + x) (n * 256 + y) _ (by (nat_cmp m n) (ranks m n) (nat_cmp x y) (ranks x y))
  where
    by : (o : Ordering) → MatchOrdering o (m < n) (m ≡ n) (n < m) → (p : Ordering) → MatchOrdering p (x < y) (x ≡ y) (y < x)
        → MatchOrdering (ordering_then o p) (m * 256 + x < n * 256 + y) (m * 256 + x ≡ n * 256 + y) (n * 256 + y < m * 256 + x)
    by Less h p k = omega (arith, h, below, above)
    by Greater h p k = omega (arith, h, below, above)
    by Equal h Less k = omega (arith, h, k)
    by Equal h Equal k = omega (arith, h, k)
    by Equal h Greater k = omega (arith, h, k)

-- bytes after a number compare as the numbers that they go on to
spelled : (m n : ℕ) (xs ys : List ℕ) → length xs ≡ length ys → IsBytes xs → IsBytes ys
    → nat_cmp (big_endian m xs) (big_endian n ys) ≡ ordering_then (nat_cmp m n) (slice_cmp nat_cmp xs ys)
spelled m n [] [] long f g = sym (then-Equal (nat_cmp m n))
spelled m n [] (y ∷ ys) long f g = absurd cc
spelled m n (x ∷ xs) [] long f g = absurd cc
spelled m n (x ∷ xs) (y ∷ ys) long f g =
    spelled (m * 256 + x) (n * 256 + y) xs ys (omega (arith, long)) (λ i. f (suc i)) (λ i. g (suc i))
    ∙ ap (λ (o : Ordering). ordering_then o (slice_cmp nat_cmp xs ys)) (sym (digit m n x y (f 0) (g 0)))
    ∙ then-then (nat_cmp m n) (nat_cmp x y) (slice_cmp nat_cmp xs ys)

number-is : (zs : List ℕ) → length zs ≡ 8 → from_be_bytes w64 zs ≡ big_endian 0 zs
number-is (a ∷ b ∷ c ∷ d ∷ e ∷ f ∷ g ∷ h ∷ []) long = omega arith
number-is [] long = absurd cc
number-is (a ∷ []) long = absurd (omega (arith, long))
number-is (a ∷ b ∷ []) long = absurd (omega (arith, long))
number-is (a ∷ b ∷ c ∷ []) long = absurd (omega (arith, long))
number-is (a ∷ b ∷ c ∷ d ∷ []) long = absurd (omega (arith, long))
number-is (a ∷ b ∷ c ∷ d ∷ e ∷ []) long = absurd (omega (arith, long))
number-is (a ∷ b ∷ c ∷ d ∷ e ∷ f ∷ []) long = absurd (omega (arith, long))
number-is (a ∷ b ∷ c ∷ d ∷ e ∷ f ∷ g ∷ []) long = absurd (omega (arith, long))
number-is (a ∷ b ∷ c ∷ d ∷ e ∷ f ∷ g ∷ h ∷ i ∷ is) long = absurd (omega (arith, long))

-- eight bytes compare as the number of 64 bits that they spell
pub eight-compare : (xs ys : List ℕ) → length xs ≡ 8 → length ys ≡ 8 → IsBytes xs → IsBytes ys
    → nat_cmp (from_be_bytes w64 xs) (from_be_bytes w64 ys) ≡ slice_cmp nat_cmp xs ys
eight-compare xs ys long short f g =
    ap (λ (n : ℕ). nat_cmp n (from_be_bytes w64 ys)) (number-is xs long) ∙ ap (nat_cmp (big_endian 0 xs)) (number-is ys short)
    ∙ spelled 0 0 xs ys (long ∙ sym short) f g

-- lists compare by their fronts, where these are of one length, and then by what follows
pub parts-compare : (us vs xs ys : List ℕ) → length us ≡ length vs → ordering_then (slice_cmp nat_cmp us vs) (slice_cmp nat_cmp xs ys) ≡ slice_cmp nat_cmp (us ++ xs) (vs ++ ys)
parts-compare [] [] xs ys long = refl
parts-compare [] (v ∷ vs) xs ys long = absurd cc
parts-compare (u ∷ us) [] xs ys long = absurd cc
parts-compare (u ∷ us) (v ∷ vs) xs ys long =
    then-then (nat_cmp u v) (slice_cmp nat_cmp us vs) (slice_cmp nat_cmp xs ys) ∙ ap (ordering_then (nat_cmp u v)) (parts-compare us vs xs ys (omega (arith, long)))
