-- A step is taken before what the step before it came to is written.
use Rattle.std.proofs.Common.{◌≡◌, ℕ, suc, ◌+◌, ◌^◌, ◌<◌, Bool, List, [], ◌∷◌, ◌++◌, length, Option, option_map, Result, min, ◌-◌, sym, ap, subst, ◌∙◌, arith}
use Rattle.std.specs.Prelude.{IsErr}
use Rattle.std.specs.declared.option.Option.TheVariants.{Some, None}
use Rattle.std.specs.List.{cons_option}
use Rattle.std.proofs.lemmas.List.{length-append}
use Rattle.spec.specs.Cid.{cid}
use Rattle.edit_laws.specs.Sources.{shown_by}
use Rattle.export.specs.Founds.{bytes_found, seen_found}
use Rattle.export.specs.Once.{AreSingle, HasNoted, capped, sections, section_once}
use Rattle.export.specs.Outs.{Leaves, TakesBeginning, Takes}
use Rattle.export.specs.Walks.{Walking, GoesBy, IsStep, blocks_at, blocks_behind, blocks_left, cids_left, steps_behind}
use Rattle.export.specs.declared.walk.Step.{Step}
use Rattle.export.specs.declared.walk.Step.TheVariants as steps
use Rattle.export.proofs.FirstOnes.{later, sections-more, sections-later}
use Rattle.export.proofs.Leaving.{leaves-all, leaves-same, leaves-less, leaves-some, stops, stops-last}
use Rattle.export.proofs.Sectioned.{count-more}
use Rattle.export.proofs.Singles.{noted-more, single-later}

blocks-by : (gives : List ℕ → Option (List ℕ)) (old new : Walking) (o : Option (List ℕ)) (by : GoesBy gives old new o)
    → blocks_left gives old ≡ cons_option o [] ++ blocks_left gives new
blocks-by gives old new o by =
    ap (blocks_at gives) by.left ∙ ap (λ x. cons_option x [] ++ blocks_left gives new) by.given

-- what is left before a step is what stands behind it
pub behind : {D A : Type 0} (gives : List ℕ → Option (List ℕ)) (step : Step D A) (old new : Walking) → IsStep gives old new step
    → blocks_left gives old ≡ blocks_behind gives step new
behind gives (steps.Found b) old new by = blocks-by gives old new (Some (bytes_found (seen_found b))) by
behind gives steps.Missing old new by = blocks-by gives old new None by
behind gives steps.End old new e = ap (blocks_at gives) e

-- fewer steps are left behind it
pub fewer : {D A : Type 0} (gives : List ℕ → Option (List ℕ)) (step : Step D A) (old new : Walking) → IsStep gives old new step
    → steps_behind gives step new < suc (length (cids_left (shown_by gives) old))
fewer gives (steps.Found b) old new by = let e = ap length by.left in omega arith
fewer gives steps.Missing old new by = let e = ap length by.left in omega arith
fewer gives steps.End old new e = omega arith

pub smaller : {D A : Type 0} (gives : List ℕ → Option (List ℕ)) (was step : Step D A) (old new : Walking)
    → steps_behind gives was old ≡ suc (length (cids_left (shown_by gives) old)) → IsStep gives old new step
    → steps_behind gives step new < steps_behind gives was old
smaller gives was step old new e h = subst (λ n. steps_behind gives step new < n) (sym e) (fewer gives step old new h)

-- what a source gives stays the same
pub step-same : {X D A : Type 0} (view : X → List ℕ) (was is : List ℕ → Option X) (step : Step D A) (old new : Walking) → is ≡ was
    → IsStep (λ d. option_map view (is d)) old new step → IsStep (λ d. option_map view (was d)) old new step
step-same {X = X} view was is step old new same h = subst (λ (f : List ℕ → Option X). IsStep (λ d. option_map view (f d)) old new step) same h

-- ---- a call fails

pub ahead-stops : {T E : Type 0} (first now all rest : List ℕ) (r : Result T E) → Leaves first now all rest → IsErr r → Takes first now r all
ahead-stops first now all rest r l err = stops-last first now now all rest r l err (leaves-some now now rest rest (leaves-all now rest))

module _ (digest : List ℕ → List ℕ) (cids : List (List ℕ)) (b x : List ℕ) (bs : List (List ℕ)) (is : x ≡ b) where
  pub written-stops : {T E : Type 0} (first now newer all : List ℕ) (r : Result T E) → Leaves first now all (sections digest cids (b ∷ bs)) → IsErr r
      → TakesBeginning now newer (section_once digest cids x) → Takes first newer r all
  written-stops first now newer all r l err t =
      stops first now newer all (section_once digest cids x) (later digest cids x bs) r
      (leaves-same first now all (sections digest cids (b ∷ bs)) _ l (ap (λ y. sections digest cids (y ∷ bs)) (sym is) ∙ sections-later digest cids x bs)) err t

  -- ---- one block is written, and others are left

  module _ (may_repeat : List ℕ → Bool) (more : List (List ℕ)) (others : List (List ℕ)) (same : bs ≡ others)
      (single : AreSingle digest may_repeat (b ∷ bs)) (noted : HasNoted (may_repeat (cid digest x)) cids (cid digest x) more) where
    next : sections digest cids (b ∷ bs) ≡ section_once digest cids x ++ sections digest more others
    next =
        ap (λ y. sections digest cids (y ∷ bs)) (sym is)
        ∙ sections-more digest cids more x bs
        (noted-more digest may_repeat x bs (subst (λ y. AreSingle digest may_repeat (y ∷ bs)) (sym is) single) cids more noted)
        ∙ ap (λ t. section_once digest cids x ++ sections digest more t) same

    pub written-leaves : (first now newer all : List ℕ) → Leaves first now all (sections digest cids (b ∷ bs))
        → newer ≡ now ++ section_once digest cids x → Leaves first newer all (sections digest more others)
    written-leaves first now newer all l t =
        leaves-less first now newer all (section_once digest cids x) (sections digest more others)
        (leaves-same first now all (sections digest cids (b ∷ bs)) _ l next) t

    pub written-count : (written part sum all : ℕ) → capped (written + length (sections digest cids (b ∷ bs))) ≡ capped all
        → part ≡ length (section_once digest cids x) → sum ≡ min (written + part) (2 ^ 64 - 1)
        → capped (sum + length (sections digest more others)) ≡ capped all
    written-count written part sum all h e f =
        let size = ap length next ∙ length-append (section_once digest cids x) (sections digest more others) in
        count-more written part sum (length (section_once digest cids x)) (length (sections digest more others)) all
        (ap (λ n. capped (written + n)) (sym size) ∙ h) e f

    pub single-others : AreSingle digest may_repeat others
    single-others = subst (AreSingle digest may_repeat) same (single-later digest may_repeat (b ∷ []) bs single)
