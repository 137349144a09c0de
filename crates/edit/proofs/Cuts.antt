-- Lists cut at a place.
use Rattle.std.proofs.Common.{◌≡◌, ℕ, zero, suc, ◌<◌, ◌≤◌, List, [], ◌∷◌, ◌++◌, length, take, drop, refl, ap, ◌∙◌, arith}
use Rattle.batch_laws.specs.Links.{Rows}

pub snoc-same : (xs ys : List Rows) (x y : Rows) → xs ++ (x ∷ []) ≡ ys ++ (y ∷ []) → (xs ≡ ys) × (x ≡ y)
snoc-same [] [] x y h = (refl, cc)
snoc-same [] (b ∷ []) x y h = absurd (cc)
snoc-same [] (b ∷ c ∷ ys) x y h = absurd (cc)
snoc-same (a ∷ []) [] x y h = absurd (cc)
snoc-same (a ∷ c ∷ xs) [] x y h = absurd (cc)
snoc-same (a ∷ xs) (b ∷ ys) x y h =
    let t : xs ++ (x ∷ []) ≡ ys ++ (y ∷ []) = cc in
    let e : a ≡ b = cc in
    let i = snoc-same xs ys x y t in
    (ap (λ z. z ∷ xs) e ∙ ap (λ zs. b ∷ zs) i.0, i.1)

-- a list at one of its places
pub record IsCut (d : ℕ) (ls : List Rows) : Type 0 where
  pub rows : Rows
  pub front : take (suc d) ls ≡ take d ls ++ (rows ∷ [])
  pub back : drop d ls ≡ rows ∷ drop (suc d) ls

pub cut-at : (d : ℕ) (ls : List Rows) → d < length ls → IsCut d ls
cut-at d [] h = absurd (omega arith)
cut-at zero (x ∷ ls) h = record { rows = x; front = refl; back = refl }
cut-at (suc d) (x ∷ ls) h =
    let i = cut-at d ls (omega arith) in
    record { rows = i.rows; front = ap (λ ys. x ∷ ys) i.front; back = i.back }

pub drop-end : (d : ℕ) (ls : List Rows) → length ls ≤ d → drop d ls ≡ []
drop-end zero [] h = refl
drop-end (suc d) [] h = refl
drop-end zero (x ∷ ls) h = absurd (omega arith)
drop-end (suc d) (x ∷ ls) h = drop-end d ls (omega arith)

pub take-length : (d : ℕ) (ls : List Rows) → d ≤ length ls → length (take d ls) ≡ d
take-length zero ls h = refl
take-length (suc d) [] h = absurd (omega arith)
take-length (suc d) (x ∷ ls) h = ap suc (take-length d ls (omega arith))

pub cut-whole : (d : ℕ) (ls : List Rows) → take d ls ++ drop d ls ≡ ls
cut-whole zero ls = refl
cut-whole (suc d) [] = refl
cut-whole (suc d) (x ∷ ls) = ap (λ ys. x ∷ ys) (cut-whole d ls)

-- one more at a cut
pub drop-snoc : (d : ℕ) (ls : List Rows) (x : Rows) → length ls ≡ d → drop d (ls ++ (x ∷ [])) ≡ x ∷ []
drop-snoc zero [] x h = refl
drop-snoc (suc d) [] x h = absurd (omega arith)
drop-snoc zero (y ∷ ls) x h = absurd (omega arith)
drop-snoc (suc d) (y ∷ ls) x h = drop-snoc d ls x (omega arith)

pub take-snoc : (d : ℕ) (ls : List Rows) (x : Rows) → length ls ≡ d → take d (ls ++ (x ∷ [])) ≡ ls
take-snoc zero [] x h = refl
take-snoc (suc d) [] x h = absurd (omega arith)
take-snoc zero (y ∷ ls) x h = absurd (omega arith)
take-snoc (suc d) (y ∷ ls) x h = ap (λ ys. y ∷ ys) (take-snoc d ls x (omega arith))
