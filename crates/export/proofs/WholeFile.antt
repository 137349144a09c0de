-- The parts of a file: its header, and then the sections of its commit and of the blocks of a tree.
use Rattle.std.proofs.Common.{◌≡◌, ℕ, ◌+◌, ◌-◌, ◌^◌, Bool, List, [], ◌++◌, length, Option, option_map, Result, min, refl, sym, ap, subst, ◌∙◌, append_assoc, arith}
use Rattle.std.specs.Prelude.{IsErr}
use Rattle.std.specs.declared.option.Option.TheVariants.{Some}
use Rattle.std.proofs.lemmas.List.{length-append}
use Rattle.spec.specs.Car.{header}
use Rattle.spec.specs.Commits.{car_root}
use Rattle.export.specs.Once.{AreSingle, GoesOn, capped, sections}
use Rattle.export.specs.Outs.{TakesBeginning, Takes}
use Rattle.export.specs.Walks.{Walking, blocks_due, blocks_left, blocks_met, car_met, commit_block, sections_due, sections_left}
use Rattle.export.proofs.FirstOnes.{sections-front}
use Rattle.export.proofs.Leaving.{leaves-all, leaves-less, leaves-same, stops, stops-last}
use Rattle.export.proofs.Sectioned.{car-due, met-due}
use Rattle.export.proofs.Singles.{single-later}

pub sum-of : (a b sum x y all : ℕ) → a ≡ x → b ≡ capped y → sum ≡ min (a + b) (2 ^ 64 - 1) → all ≡ x + y → sum ≡ capped all
sum-of a b sum x y all e f g h = omega arith

-- the first of two parts failed
stops-front : {T E : Type 0} (old new all part rest : List ℕ) (r : Result T E) → all ≡ part ++ rest → IsErr r → TakesBeginning old new part
    → Takes old new r all
stops-front old new all part rest r parts err t = stops old old new all part rest r (leaves-same old old all all _ (leaves-all old all) parts) err t

-- so did the second
stops-back : {T E : Type 0} (old one new all part rest : List ℕ) (r : Result T E) → all ≡ part ++ rest → one ≡ old ++ part → IsErr r
    → TakesBeginning one new rest → Takes old new r all
stops-back old one new all part rest r parts first err t =
    stops-last old one new all rest r (leaves-less old old one all part rest (leaves-same old old all all _ (leaves-all old all) parts) first) err t

takes-both : (old one new all part rest : List ℕ) → all ≡ part ++ rest → one ≡ old ++ part → new ≡ one ++ rest → new ≡ old ++ all
takes-both old one new all part rest parts first second =
    second ∙ ap (λ t. t ++ rest) first ∙ append_assoc old part rest ∙ ap (λ t. old ++ t) (sym parts)

-- ---- the commit, and the blocks of a walk

module _ {X : Type 0} (view : X → List ℕ) (digest : List ℕ → List ℕ) (was : List ℕ → Option X) (commit : Option (List ℕ)) (w : Walking)
    (cids : List (List ℕ)) where
  abbrev gives : List ℕ → Option (List ℕ)
  gives d = option_map view (was d)

  abbrev found : List (List ℕ)
  found = commit_block gives commit

  abbrev due : List ℕ
  due = sections_due digest gives cids commit w

  pub stops-commit : {T E : Type 0} (old new : List ℕ) (r : Result T E) → IsErr r → TakesBeginning old new (sections digest cids found)
      → Takes old new r due
  stops-commit old new r err t =
      let front = sections-front digest cids found (blocks_left gives w) in
      stops-front old new due (sections digest cids found) front.0 r front.1 err t

  module _ (may_repeat : List ℕ → Bool) (more : List (List ℕ)) (is : List ℕ → Option X) (single : AreSingle digest may_repeat (blocks_due gives commit w))
      (marks : GoesOn digest may_repeat cids found more) (same : is ≡ was) where
    abbrev left : List ℕ
    left = sections_left digest (λ d. option_map view (is d)) more w

    parts : due ≡ sections digest cids found ++ left
    parts =
        marks (blocks_left gives w) single
        ∙ ap (λ (f : List ℕ → Option X). sections digest cids found ++ sections_left digest (λ d. option_map view (f d)) more w) (sym same)

    -- what the walk is to come to stands once
    pub walked-single : AreSingle digest may_repeat (blocks_left (λ d. option_map view (is d)) w)
    walked-single =
        subst (λ (f : List ℕ → Option X). AreSingle digest may_repeat (blocks_left (λ d. option_map view (f d)) w)) (sym same)
        (single-later digest may_repeat found (blocks_left gives w) single)

    pub stops-blocks : {T E : Type 0} (old one new : List ℕ) (r : Result T E) → one ≡ old ++ sections digest cids found → IsErr r
        → TakesBeginning one new left → Takes old new r due
    stops-blocks old one new r first err t = stops-back old one new due (sections digest cids found) left r parts first err t

    pub sections-taken : (old one new : List ℕ) → one ≡ old ++ sections digest cids found → new ≡ one ++ left → new ≡ old ++ due
    sections-taken old one new first second = takes-both old one new due (sections digest cids found) left parts first second

    pub sections-length : (a b sum : ℕ) → a ≡ length (sections digest cids found) → b ≡ capped (length left) → sum ≡ min (a + b) (2 ^ 64 - 1)
        → sum ≡ capped (length due)
    sections-length a b sum e f g =
        sum-of a b sum (length (sections digest cids found)) (length left) (length due) e f g
        (ap length parts ∙ length-append (sections digest cids found) left)

-- ---- the header, and these sections

module _ {X : Type 0} (view : X → List ℕ) (digest : List ℕ → List ℕ) (was : List ℕ → Option X) (most : ℕ)
    (commit : Option (List ℕ)) (root : List ℕ) where
  abbrev shown : List ℕ → Option (List ℕ)
  shown d = option_map view (was d)

  abbrev all : List ℕ
  all = car_met digest shown most commit root

  abbrev top : Walking
  top = record { most = most; link = Some root; stack = [] }

  pub stops-header : {T E : Type 0} (old new name : List ℕ) (r : Result T E) → name ≡ car_root commit root → IsErr r
      → TakesBeginning old new (header name) → Takes old new r all
  stops-header old new name r e err t =
      stops-front old new all (header (car_root commit root)) (sections_due digest shown [] commit top) r
      (car-due digest shown most commit root top refl) err (subst (λ x. TakesBeginning old new (header x)) e t)

  -- what is written stands once
  pub due-single : (may_repeat : List ℕ → Bool) (w : Walking) → w ≡ top → AreSingle digest may_repeat (blocks_met shown most commit root)
      → AreSingle digest may_repeat (blocks_due shown commit w)
  due-single may_repeat w at single = subst (AreSingle digest may_repeat) (met-due digest shown most commit root w at) single

  module _ (name : List ℕ) (cids : List (List ℕ)) (w : Walking) (named : name ≡ car_root commit root) (none : cids ≡ []) (at : w ≡ top) where
    abbrev rest : List ℕ
    rest = sections_due digest shown cids commit w

    file-parts : all ≡ header name ++ rest
    file-parts =
        car-due digest shown most commit root w at ∙ ap (λ x. header (car_root commit root) ++ sections_due digest shown x commit w) (sym none)
        ∙ ap (λ x. header x ++ rest) (sym named)

    pub stops-sections : {T E : Type 0} (old one new : List ℕ) (r : Result T E) → one ≡ old ++ header name → IsErr r
        → TakesBeginning one new rest → Takes old new r all
    stops-sections old one new r first err t = stops-back old one new all (header name) rest r file-parts first err t

    pub file-taken : (old one new : List ℕ) → one ≡ old ++ header name → new ≡ one ++ rest → new ≡ old ++ all
    file-taken old one new first second = takes-both old one new all (header name) rest file-parts first second

    pub file-length : (h others total : ℕ) → h ≡ length (header name) → others ≡ capped (length rest) → total ≡ min (h + others) (2 ^ 64 - 1)
        → total ≡ capped (length all)
    file-length h others total e f g =
        sum-of h others total (length (header name)) (length rest) (length all) e f g (ap length file-parts ∙ length-append (header name) rest)
