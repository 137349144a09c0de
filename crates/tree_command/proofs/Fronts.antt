-- Keys compared by the numbers that their first bytes spell.
use Rattle.std.proofs.Common.{◌≡◌, ℕ, zero, suc, ◌*◌, ◌<◌, ◌≤◌, Bool, true, false, List, [], ◌∷◌, ◌++◌, length, take, drop, nat_eq, refl, sym, ap, ◌∙◌, arith}
use Rattle.std.specs.declared.cmp.Ordering.{Ordering}
use Rattle.std.specs.declared.cmp.Ordering.TheVariants.{Less, Equal, Greater}
use Rattle.std.specs.Cmp.{nat_cmp_is}
use Rattle.std.specs.Cmp.Lexicographic.{pointwise, slice_cmp}
use Rattle.std.specs.Ordering.{nat_cmp, ordering_then}
use Rattle.std.proofs.lemmas.Cmp.{nat_list_eq_equiv}
use Rattle.std.proofs.lemmas.Slice.Eq.{bytes_eq-Decides}
use Rattle.std.proofs.lemmas.List.{take-append-drop, length-take, length-drop}
use Rattle.spec.specs.Reading.{IsBytes}
use Rattle.spec.proofs.Taking.{IsBytes-drop, IsBytes-take}
use Rattle.cid.proofs.BigEndian.{eight-compare, parts-compare}
use Rattle.tree_command.specs.Fronts.{filled, numbers, IsFront}

-- ---- lists of numbers

groups : (n : ℕ) (xs ys : List ℕ) → length xs ≡ 8 * n → length ys ≡ 8 * n → IsBytes xs → IsBytes ys → slice_cmp nat_cmp (numbers n xs) (numbers n ys) ≡ slice_cmp nat_cmp xs ys
groups zero [] [] long short f g = refl
groups zero [] (y ∷ ys) long short f g = absurd (omega (arith, short))
groups zero (x ∷ xs) ys long short f g = absurd (omega (arith, long))
groups (suc n) xs ys long short f g =
    let front : length (take 8 xs) ≡ 8 = omega (arith, length-take 8 xs, long) in
    let other : length (take 8 ys) ≡ 8 = omega (arith, length-take 8 ys, short) in
    ap (λ (o : Ordering). ordering_then o (slice_cmp nat_cmp (numbers n (drop 8 xs)) (numbers n (drop 8 ys))))
    (eight-compare (take 8 xs) (take 8 ys) front other (IsBytes-take 8 xs f) (IsBytes-take 8 ys g))
    ∙ ap (ordering_then (slice_cmp nat_cmp (take 8 xs) (take 8 ys)))
    (groups n (drop 8 xs) (drop 8 ys) (omega (arith, length-drop 8 xs, long)) (omega (arith, length-drop 8 ys, short)) (IsBytes-drop 8 xs f) (IsBytes-drop 8 ys g))
    ∙ parts-compare (take 8 xs) (take 8 ys) (drop 8 xs) (drop 8 ys) (front ∙ sym other)
    ∙ ap (λ (l : List ℕ). slice_cmp nat_cmp l (take 8 ys ++ drop 8 ys)) (take-append-drop 8 xs)
    ∙ ap (slice_cmp nat_cmp xs) (take-append-drop 8 ys)

-- ---- the first bytes, filled up

length-filled : (n : ℕ) (key : List ℕ) → length (filled n key) ≡ n
length-filled zero key = refl
length-filled (suc n) [] = ap suc (length-filled n [])
length-filled (suc n) (x ∷ key) = ap suc (length-filled n key)

IsBytes-filled : (n : ℕ) (key : List ℕ) → IsBytes key → IsBytes (filled n key)
IsBytes-filled zero key f i = omega arith
IsBytes-filled (suc n) [] f zero = omega arith
IsBytes-filled (suc n) [] f (suc i) = IsBytes-filled n [] f i
IsBytes-filled (suc n) (x ∷ key) f zero = f 0
IsBytes-filled (suc n) (x ∷ key) f (suc i) = IsBytes-filled n key (λ j. f (suc j)) i

before : (n : ℕ) (ys : List ℕ) → ordering_then (slice_cmp nat_cmp (filled n []) (filled n ys)) Less ≡ Less
before zero ys = refl
before (suc n) [] = before n []
before (suc n) (zero ∷ ys) = before n ys
before (suc n) (suc y ∷ ys) = ap (λ (o : Ordering). ordering_then (ordering_then o (slice_cmp nat_cmp (filled n []) (filled n ys))) Less) (sym (nat_cmp_is 0 (suc y) Less (omega arith)))

after : (n : ℕ) (xs : List ℕ) → ordering_then (slice_cmp nat_cmp (filled n xs) (filled n [])) Greater ≡ Greater
after zero xs = refl
after (suc n) [] = after n []
after (suc n) (zero ∷ xs) = after n xs
after (suc n) (suc x ∷ xs) = ap (λ (o : Ordering). ordering_then (ordering_then o (slice_cmp nat_cmp (filled n xs) (filled n []))) Greater) (sym (nat_cmp_is (suc x) 0 Greater (omega arith)))

level : (n : ℕ) → slice_cmp nat_cmp (filled n []) (filled n []) ≡ Equal
level zero = refl
level (suc n) = level n

one-byte : (o p q : Ordering) → ordering_then p q ≡ q → ordering_then (ordering_then o p) (ordering_then o q) ≡ ordering_then o q
one-byte Less p q e = refl
one-byte Equal p q e = e
one-byte Greater p q e = refl

-- what comes first among bytes that are filled up comes first
filled-first : (n : ℕ) (xs ys : List ℕ) → ordering_then (slice_cmp nat_cmp (filled n xs) (filled n ys)) (slice_cmp nat_cmp xs ys) ≡ slice_cmp nat_cmp xs ys
filled-first zero xs ys = refl
filled-first n [] [] = ap (λ (o : Ordering). ordering_then o Equal) (level n)
filled-first n [] (y ∷ ys) = before n (y ∷ ys)
filled-first n (x ∷ xs) [] = after n (x ∷ xs)
filled-first (suc n) (x ∷ xs) (y ∷ ys) = one-byte (nat_cmp x y) (slice_cmp nat_cmp (filled n xs) (filled n ys)) (slice_cmp nat_cmp xs ys) (filled-first n xs ys)

-- bytes that were copied over zero bytes
pub filling : (m n : ℕ) (key : List ℕ) → m ≤ length key → m ≤ n → (m < n → m ≡ length key) → take m key ++ drop m (filled n []) ≡ filled n key
filling zero zero key p q all = refl
filling zero (suc n) [] p q all = refl
filling zero (suc n) (x ∷ key) p q all = absurd (omega (arith, all (omega arith)))
filling (suc m) n [] p q all = absurd (omega (arith, p))
filling (suc m) zero (x ∷ key) p q all = absurd (omega (arith, q))
filling (suc m) (suc n) (x ∷ key) p q all =
    ap (λ (l : List ℕ). x ∷ l) (filling m n key (omega (arith, p)) (omega (arith, q)) (λ lt. omega (arith, all (omega (arith, lt)))))

-- ---- keys with their fronts

fronts-first : (us vs xs ys : List ℕ) → IsFront us xs → IsFront vs ys → ordering_then (slice_cmp nat_cmp us vs) (slice_cmp nat_cmp xs ys) ≡ slice_cmp nat_cmp xs ys
fronts-first us vs xs ys f g =
    ap (λ (o : Ordering). ordering_then o (slice_cmp nat_cmp xs ys))
    (ap (λ (l : List ℕ). slice_cmp nat_cmp l vs) f.is ∙ ap (slice_cmp nat_cmp (numbers 4 (filled 32 xs))) g.is
    ∙ groups 4 (filled 32 xs) (filled 32 ys) (length-filled 32 xs) (length-filled 32 ys) (IsBytes-filled 32 xs f.fits) (IsBytes-filled 32 ys g.fits))
    ∙ filled-first 32 xs ys

-- fronts that differ decide
pub front-decides : (us vs xs ys : List ℕ) → IsFront us xs → IsFront vs ys → (slice_cmp nat_cmp us vs ≡ Equal → ⊥) → slice_cmp nat_cmp us vs ≡ slice_cmp nat_cmp xs ys
front-decides us vs xs ys f g differ = by (slice_cmp nat_cmp us vs) differ (fronts-first us vs xs ys f g)
  where
    by : (o : Ordering) → (o ≡ Equal → ⊥) → ordering_then o (slice_cmp nat_cmp xs ys) ≡ slice_cmp nat_cmp xs ys → o ≡ slice_cmp nat_cmp xs ys
    by Less differ e = e
    by Equal differ e = absurd (differ refl)
    by Greater differ e = e

-- and keys whose fronts differ do
pub front-differs : (us vs xs ys : List ℕ) → IsFront us xs → IsFront vs ys → pointwise nat_eq us vs ≡ false → pointwise nat_eq xs ys ≡ false
front-differs us vs xs ys f g differ = by (pointwise nat_eq xs ys) refl
  where
    fronts : xs ≡ ys → us ≡ vs
    fronts e = f.is ∙ ap (λ (l : List ℕ). numbers 4 (filled 32 l)) e ∙ sym g.is

    by : (b : Bool) → pointwise nat_eq xs ys ≡ b → b ≡ false
    by false e = refl
    by true e = sym (ap (λ (l : List ℕ). pointwise nat_eq l vs) (fronts ((bytes_eq-Decides xs ys).0 e)) ∙ nat_list_eq_equiv.refl vs) ∙ differ
