-- Two trees, layer by layer.
use Rattle.std.proofs.Common.{◌≡◌, ◌⊎◌, inl, inr, ℕ, suc, ◌+◌, ◌-◌, ◌<◌, max, Bool, true, false, ◌||◌, ◌&&◌, nat_eq, List, length, refl, sym, ap, ◌∙◌, subst, arith, Option, Result, Ok, Err}
use Rattle.std.proofs.lemmas.Bool.Decides.{nat_tests}
use Rattle.std.specs.declared.option.Option.TheVariants.{Some, None}
use Rattle.std.specs.Prelude.{MatchOption}
use Rattle.std.specs.BTreeSet.{BTreeSet}
use Rattle.spec.specs.Reading.{◌>>=◌}
use Rattle.spec.specs.NodeFormat.{Shape}
use Rattle.difference_laws.specs.Lines.{Opened, Side, Stop, NotShown, both_opened, compared, compared_at, level, levels, links_in, opened, repeats, shared_when, side_at, side_of, side_without, tested, without}
use Rattle.difference_laws.specs.Lines as lines
use Rattle.difference.specs.Sides.{HasLinks, IsBegun, IsLackAt, IsStopped, waiting}
use Rattle.difference.specs.declared.faults.DifferenceFault.{DifferenceFault}
use Rattle.difference.specs.declared.faults.DifferenceFault.TheVariants.{BlockMissing, BadNode, TooDeep, NotTree, NoMemory}

-- ---- where something stops

-- what stops for a reason stops there as well, where the same comes of it
pub stopped-through : {A X Y : Type 0} (gives : List ℕ → Option A) (x : Result X Stop) (y : Result Y Stop) (fault : DifferenceFault)
    → ((e : Stop) → x ≡ Err e → y ≡ Err e) → IsStopped gives x fault → IsStopped gives y fault
stopped-through gives x y (BlockMissing c) f h = (h.0, f (NotShown c) h.1)
stopped-through gives x y (BadNode c) f h = (h.0, f (NotShown c) h.1)
stopped-through gives x y TooDeep f h = absurd h
stopped-through gives x y NotTree f h = f lines.NotTree h
stopped-through gives x y NoMemory f h = tt

pub lack-stops : {A X : Type 0} (gives : List ℕ → Option A) (shows : List ℕ → Option Shape) (c : List ℕ) (y : Result X Stop)
    (fault : DifferenceFault) → (shows c ≡ None → y ≡ Err (NotShown c)) → IsLackAt gives shows (Some c) fault
    → IsStopped gives y fault
lack-stops gives shows c y (BlockMissing d) f h =
    let same : c ≡ d = cc in
    (h.1, f (ap shows same ∙ h.2) ∙ ap (λ x. Err (NotShown x)) same)
lack-stops gives shows c y (BadNode d) f h =
    let same : c ≡ d = cc in
    (h.1, f (ap shows same ∙ h.2) ∙ ap (λ x. Err (NotShown x)) same)
lack-stops gives shows c y TooDeep f h = absurd h
lack-stops gives shows c y NotTree f h = absurd h
lack-stops gives shows c y NoMemory f h = tt

-- ---- one layer

is-eq : (x y : ℕ) → x ≡ y → nat_eq x y ≡ true
is-eq x y h = grind (arith, nat_tests)

not-eq : (x y : ℕ) → x < y → nat_eq x y ≡ false
not-eq x y h = grind (arith, nat_tests)

neither : (a b : Bool) → a ≡ false → b ≡ false → (a || b) ≡ false
neither a b h k = (λ i. h i || b) ∙ k

either-left : (a b : Bool) → a ≡ true → (a || b) ≡ true
either-left a b h = ap (λ t. t || b) h

either-right : (a b : Bool) → b ≡ true → (a || b) ≡ true
either-right true b h = refl
either-right false b h = h

err-then : {X Y : Type 0} (x : Result X Stop) (f : X → Result Y Stop) (e : Stop) → x ≡ Err e → (x >>= f) ≡ Err e
err-then x f e h = ap (λ r. r >>= f) h

opened-err : (n : ℕ) (x : Opened) (e : Stop) → x ≡ Err e → side_of n x ≡ Err e
opened-err n x e h = ap (side_of n) h

-- a side that was opened
abbrev pub IsOpenedSide : (List ℕ → Option Shape) → List (List ℕ) → Side → Side → Type 0
IsOpenedSide shows cs s t = (opened shows (without cs s.line) s.read ≡ Ok (t.line, t.read)) × (t.left ≡ s.left - 1)

module _ (shows : List ℕ → Option Shape) (n : ℕ) (a b : Side) where
  abbrev steps : Bool → Bool → Result (Side × Side) Stop
  steps p q = both_opened shows n p q (shared_when (p && q) a b)

  level-tested : repeats (links_in a.line) ≡ false → repeats (links_in b.line) ≡ false → (p q : Bool)
      → nat_eq a.left (suc n) ≡ p → nat_eq b.left (suc n) ≡ q → level shows n a b ≡ steps p q
  level-tested ra rb p q hp hq =
      ap (λ g. tested g (steps (nat_eq a.left (suc n)) (nat_eq b.left (suc n))))
      (neither (repeats (links_in a.line)) (repeats (links_in b.line)) ra rb)
      ∙ (λ i. steps (hp i) (hq i))

  -- a link stands twice
  pub level-repeats : (repeats (links_in a.line) ≡ true) ⊎ (repeats (links_in b.line) ≡ true)
      → level shows n a b ≡ Err lines.NotTree
  level-repeats (inl h) =
      ap (λ g. tested g (steps (nat_eq a.left (suc n)) (nat_eq b.left (suc n))))
      (either-left (repeats (links_in a.line)) (repeats (links_in b.line)) h)
  level-repeats (inr h) =
      ap (λ g. tested g (steps (nat_eq a.left (suc n)) (nat_eq b.left (suc n))))
      (either-right (repeats (links_in a.line)) (repeats (links_in b.line)) h)

  side-opened : (line : Shape) (read : List Shape) (t : Side) → opened shows line read ≡ Ok (t.line, t.read) → t.left ≡ n
      → side_of n (opened shows line read) ≡ Ok t
  side-opened line read t h l =
      ap (side_of n) h ∙ (λ i. Ok (record { left = sym l i; line = t.line; read = t.read }))

  module _ (ra : repeats (links_in a.line) ≡ false) (rb : repeats (links_in b.line) ≡ false) where
    -- the old tree is higher
    pub level-old : (t : Side) → max a.left b.left ≡ suc n → b.left < a.left → opened shows a.line a.read ≡ Ok (t.line, t.read)
        → t.left ≡ a.left - 1 → level shows n a b ≡ Ok (t, b)
    level-old t m l h k =
        level-tested ra rb true false (is-eq a.left (suc n) (omega arith)) (not-eq b.left (suc n) (omega arith))
        ∙ ap (λ r. r >>= λ x. Ok (x, b)) (side-opened a.line a.read t h (omega arith))

    pub old-stops : (e : Stop) → max a.left b.left ≡ suc n → b.left < a.left → opened shows a.line a.read ≡ Err e
        → level shows n a b ≡ Err e
    old-stops e m l h =
        level-tested ra rb true false (is-eq a.left (suc n) (omega arith)) (not-eq b.left (suc n) (omega arith))
        ∙ ap (λ r. r >>= λ x. Ok (x, b)) (opened-err n (opened shows a.line a.read) e h)

    -- the new tree is higher
    pub level-new : (t : Side) → max a.left b.left ≡ suc n → a.left < b.left → opened shows b.line b.read ≡ Ok (t.line, t.read)
        → t.left ≡ b.left - 1 → level shows n a b ≡ Ok (a, t)
    level-new t m l h k =
        level-tested ra rb false true (not-eq a.left (suc n) (omega arith)) (is-eq b.left (suc n) (omega arith))
        ∙ ap (λ r. r >>= λ y. Ok (a, y)) (side-opened b.line b.read t h (omega arith))

    pub new-stops : (e : Stop) → max a.left b.left ≡ suc n → a.left < b.left → opened shows b.line b.read ≡ Err e
        → level shows n a b ≡ Err e
    new-stops e m l h =
        level-tested ra rb false true (not-eq a.left (suc n) (omega arith)) (is-eq b.left (suc n) (omega arith))
        ∙ ap (λ r. r >>= λ y. Ok (a, y)) (opened-err n (opened shows b.line b.read) e h)

    -- both stand at one layer
    module _ (m : max a.left b.left ≡ suc n) (same : a.left ≡ b.left) where
      both-tested : level shows n a b ≡ both_opened shows n true true (side_without (links_in b.line) a, side_without (links_in a.line) b)
      both-tested =
          level-tested ra rb true true (is-eq a.left (suc n) (omega arith)) (is-eq b.left (suc n) (omega arith))

      pub level-both : (s t : Side) → opened shows (without (links_in b.line) a.line) a.read ≡ Ok (s.line, s.read)
          → s.left ≡ a.left - 1 → opened shows (without (links_in a.line) b.line) b.read ≡ Ok (t.line, t.read)
          → t.left ≡ b.left - 1 → level shows n a b ≡ Ok (s, t)
      level-both s t h k i j =
          both-tested
          ∙ ap (λ r. r >>= λ x. side_of n (opened shows (without (links_in a.line) b.line) b.read) >>= λ y. Ok (x, y))
          (side-opened (without (links_in b.line) a.line) a.read s h (omega arith))
          ∙ ap (λ r. r >>= λ y. Ok (s, y)) (side-opened (without (links_in a.line) b.line) b.read t i (omega arith))

      pub first-stops : (e : Stop) → opened shows (without (links_in b.line) a.line) a.read ≡ Err e → level shows n a b ≡ Err e
      first-stops e h =
          both-tested
          ∙ ap (λ r. r >>= λ x. side_of n (opened shows (without (links_in a.line) b.line) b.read) >>= λ y. Ok (x, y))
          (opened-err n (opened shows (without (links_in b.line) a.line) a.read) e h)

      pub then-stops : (s : Side) (e : Stop) → opened shows (without (links_in b.line) a.line) a.read ≡ Ok (s.line, s.read)
          → s.left ≡ a.left - 1 → opened shows (without (links_in a.line) b.line) b.read ≡ Err e → level shows n a b ≡ Err e
      then-stops s e h k i =
          both-tested
          ∙ ap (λ r. r >>= λ x. side_of n (opened shows (without (links_in a.line) b.line) b.read) >>= λ y. Ok (x, y))
          (side-opened (without (links_in b.line) a.line) a.read s h (omega arith))
          ∙ ap (λ r. r >>= λ y. Ok (s, y)) (opened-err n (opened shows (without (links_in a.line) b.line) b.read) e i)

-- ---- layer after layer

module _ (shows : List ℕ → Option Shape) (whole : Result (Side × Side) Stop) (k : ℕ) (a b : Side)
    (so_far : whole ≡ levels shows k a b) where
  step-case : (m : ℕ) (s t : Side) → k ≡ suc m → level shows m a b ≡ Ok (s, t) → whole ≡ levels shows m s t
  step-case m s t e h =
      so_far ∙ ap (λ j. levels shows j a b) e ∙ ap (λ r. r >>= λ x. levels shows m x.0 x.1) h

  pub levels-step : (m : ℕ) (s t : Side) → suc m ≡ k → ((n : ℕ) → k ≡ suc n → level shows n a b ≡ Ok (s, t))
      → whole ≡ levels shows m s t
  levels-step m s t e h = step-case m s t (sym e) (h m (sym e))

  stop-case : (m : ℕ) (e : Stop) → k ≡ suc m → level shows m a b ≡ Err e → whole ≡ Err e
  stop-case m e q h =
      so_far ∙ ap (λ j. levels shows j a b) q ∙ ap (λ r. r >>= λ x. levels shows m x.0 x.1) h

  pub levels-stop : {A : Type 0} (gives : List ℕ → Option A) (fault : DifferenceFault) → 0 < k
      → ((n : ℕ) → k ≡ suc n → IsStopped gives (level shows n a b) fault) → IsStopped gives whole fault
  levels-stop gives fault some h =
      let q : k ≡ suc (k - 1) = omega arith in
      stopped-through gives (level shows (k - 1) a b) whole fault (λ e i. stop-case (k - 1) e q i) (h (k - 1) q)

  pub levels-end : k ≡ 0 → whole ≡ Ok (a, b)
  levels-end e = so_far ∙ ap (λ j. levels shows j a b) e

-- ---- from the roots

module _ (shows : List ℕ → Option Shape) (layer : List ℕ → ℕ) (old new : List ℕ) where
  pub starts : (a b : Side) → ((s : Shape) × ((shows old ≡ Some s) × (a ≡ side_at layer old s)))
      → ((s : Shape) × ((shows new ≡ Some s) × (b ≡ side_at layer new s)))
      → compared shows layer old new ≡ levels shows (max a.left b.left) a b
  starts a b (s, p) (t, q) =
      (λ i. compared_at shows layer old new (p.0 i) (q.0 i))
      ∙ (λ i. levels shows (max (sym p.1 i).left (sym q.1 i).left) (sym p.1 i) (sym q.1 i))

  pub old-lacks : shows old ≡ None → compared shows layer old new ≡ Err (NotShown old)
  old-lacks h = ap (λ o. compared_at shows layer old new o (shows new)) h

  pub new-lacks : (a : Side) → ((s : Shape) × ((shows old ≡ Some s) × (a ≡ side_at layer old s))) → shows new ≡ None
      → compared shows layer old new ≡ Err (NotShown new)
  new-lacks a (s, p) h = λ i. compared_at shows layer old new (p.0 i) (h i)

-- how many blocks were read
pub begun-asked : {A : Type 0} (gives : List ℕ → Option A) (rows : List (Option (List ℕ) × (List ℕ × List ℕ))) (last : Option (List ℕ))
    (top : Option A) (read : List A) → IsBegun gives rows last top read → waiting top + length read ≡ max 1 (length read)
begun-asked gives rows last None read h = omega arith
begun-asked gives rows last (Some t) read h = let n : length read ≡ 0 = ap length h.2 in omega arith

-- ---- links that were noted

pub links-none : (cs : List (List ℕ)) (o : Option (BTreeSet (List ℕ)))
    → MatchOption o (repeats cs ≡ true) (λ l. HasLinks cs l × (repeats cs ≡ false)) → o ≡ None → repeats cs ≡ true
links-none cs None m e = m
links-none cs (Some l) m e = absurd cc

pub links-some : (cs : List (List ℕ)) (o : Option (BTreeSet (List ℕ))) (l : BTreeSet (List ℕ))
    → MatchOption o (repeats cs ≡ true) (λ l. HasLinks cs l × (repeats cs ≡ false)) → o ≡ Some l
    → HasLinks cs l × (repeats cs ≡ false)
links-some cs None l m e = absurd cc
links-some cs (Some k) l m e =
    let same : k ≡ l = cc in subst (λ z. HasLinks cs z × (repeats cs ≡ false)) same m
