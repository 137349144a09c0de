-- The place of a write in its batch.
use Rattle.std.proofs.Common.{◌≡◌, ℕ, Bool, true, false, zero, suc, ◌+◌, ◌<◌, ◌≤◌, ltb, List, [], ◌∷◌, ◌++◌, length, map, take, get_or, arith, refl, sym, ap, ◌∙◌}
use Rattle.std.proofs.lemmas.Bool.{ltb-true, ltb-false, lt-ltb, le-ltb}
use Rattle.std.proofs.lemmas.List.{map-append, length-append, length-map, length-take-le}
use Rattle.spec.specs.Writes.{Write}
use Rattle.kept.proofs.Exchanging.{one_further}

pub length-of : {X : Type 0} (seen : X → Write) (ws : List X) (i : ℕ) → i ≤ length ws → length (map seen (take i ws)) ≡ i
length-of seen ws i l = length-map (take i ws) seen ∙ length-take-le i ws l

pub room-at : (accepted before : List Write) (place room limit : ℕ) → length accepted + room ≡ limit → length before ≡ place → ltb place room ≡ ltb (length (accepted ++ before)) limit
room-at accepted before place room limit e l = by_test (ltb place room) refl
  where
    by_test : (t : Bool) → ltb place room ≡ t → ltb place room ≡ ltb (length (accepted ++ before)) limit
    by_test true h = let k = ltb-true place room h in let n = length-append accepted before in h ∙ sym (lt-ltb (length (accepted ++ before)) limit (omega (arith, k, n, e, l)))
    by_test false h = let k = ltb-false place room h in let n = length-append accepted before in h ∙ sym (le-ltb (length (accepted ++ before)) limit (omega (arith, k, n, e, l)))

-- a list up to an element, that element, and the rest
pub record Cut {X : Type 0} (xs : List X) (i : ℕ) (x : X) : Type 0 where
  pub rest : List X
  pub whole : xs ≡ take i xs ++ x ∷ rest

pub cut-at : {X : Type 0} (xs : List X) (i : ℕ) (x : X) → i < length xs → x ≡ get_or xs i x → Cut xs i x
cut-at [] i x l e = absurd (omega arith)
cut-at (y ∷ ys) zero x l e = record { rest = ys; whole = ap (λ z. z ∷ ys) (sym e) }
cut-at (y ∷ ys) (suc i) x l e = let r = cut-at ys i x (omega arith) e in record { rest = r.rest; whole = ap (λ zs. y ∷ zs) r.whole }

pub one-more-write : {X : Type 0} (seen : X → Write) (ws : List X) (i : ℕ) (x : X) → i < length ws → x ≡ get_or ws i x → map seen (take (i + 1) ws) ≡ map seen (take i ws) ++ seen x ∷ []
one-more-write seen ws i x l e = ap (map seen) (one_further ws i x l e) ∙ map-append seen (take i ws) (x ∷ [])

pub take-whole : {X : Type 0} (xs : List X) (n : ℕ) → length xs ≤ n → take n xs ≡ xs
take-whole [] zero l = refl
take-whole [] (suc n) l = refl
take-whole (x ∷ xs) zero l = absurd (omega arith)
take-whole (x ∷ xs) (suc n) l = ap (λ ys. x ∷ ys) (take-whole xs n (omega arith))
