-- Sections that are written one after the other.
use Rattle.std.proofs.Common.{◌≡◌, ℕ, ◌+◌, ◌-◌, ◌^◌, ◌<◌, Bool, List, [], ◌∷◌, ◌++◌, length, Option, Result, Ok, Err, min, sym, ap, subst, ◌∙◌, arith}
use Rattle.std.specs.Prelude.{IfOk, OnOk}
use Rattle.std.specs.declared.option.Option.TheVariants.{Some}
use Rattle.std.proofs.lemmas.List.{append-nil}
use Rattle.std.specs.List.{cons_option, flat_map}
use Rattle.spec.specs.Cid.{cid}
use Rattle.spec.specs.Blocks.{firsts}
use Rattle.spec.specs.Car.{header, section}
use Rattle.spec.specs.Commits.{car_root}
use Rattle.edit_laws.specs.Sources.{shown_by}
use Rattle.export.specs.Once.{AreSingle, GoesOn, HasNoted, capped, sections, section_once}
use Rattle.export.specs.Outs.{Takes}
use Rattle.export.specs.Walks.{Walking, blocks_at, blocks_due, blocks_met, car_met, cids_from, cids_left, commit_block, sections_due}
use Rattle.export.proofs.FirstOnes.{HasMoreAmong, fresh-all, alone-section, sections-more}
use Rattle.export.proofs.Singles.{noted-more}

-- ---- a block by itself

pub one-block : (digest : List ℕ → List ℕ) (cids more : List (List ℕ)) (b : List ℕ) (bs : List (List ℕ)) → HasMoreAmong digest bs cids (cid digest b) more
    → sections digest cids (b ∷ bs) ≡ sections digest cids (b ∷ []) ++ sections digest more bs
one-block digest cids more b bs has =
    sections-more digest cids more b bs has ∙ ap (λ t. t ++ sections digest more bs) (alone-section digest cids b)

-- a commit that a source has
pub commit-some : (gives : List ℕ → Option (List ℕ)) (commit : Option (List ℕ)) (c b : List ℕ) → commit ≡ Some c → gives c ≡ Some b
    → commit_block gives commit ≡ b ∷ []
commit-some gives commit c b is there = ap (commit_block gives) is ∙ ap (λ o. cons_option o []) there

module _ (digest : List ℕ → List ℕ) (cids : List (List ℕ)) (found : List (List ℕ)) (b x : List ℕ) (is : x ≡ b) (e : found ≡ b ∷ []) where
  commit-section : section_once digest cids x ≡ sections digest cids found
  commit-section = alone-section digest cids x ∙ ap (λ t. sections digest cids (t ∷ [])) is ∙ ap (sections digest cids) (sym e)

  pub commit-taken : {T E : Type 0} (old new : List ℕ) (r : Result T E) → Takes old new r (section_once digest cids x)
      → Takes old new r (sections digest cids found)
  commit-taken old new r t = subst (Takes old new r) commit-section t

  pub commit-length : {E : Type 0} (r : Result ℕ E) → IfOk r (λ n. n ≡ length (section_once digest cids x))
      → IfOk r (λ n. n ≡ length (sections digest cids found))
  commit-length r h = subst (λ t. IfOk r (λ n. n ≡ length t)) commit-section h

  one-more : (may_repeat : List ℕ → Bool) (more : List (List ℕ)) → HasNoted (may_repeat (cid digest x)) cids (cid digest x) more
      → GoesOn digest may_repeat cids found more
  one-more may_repeat more noted bs s =
      let at = subst (λ t. HasNoted (may_repeat (cid digest t)) cids (cid digest t) more) is noted in
      let single = subst (λ f. AreSingle digest may_repeat (f ++ bs)) e s in
      ap (λ f. sections digest cids (f ++ bs)) e ∙ one-block digest cids more b bs (noted-more digest may_repeat b bs single cids more at)
      ∙ ap (λ f. sections digest cids f ++ sections digest more bs) (sym e)

  pub commit-seen : {T E : Type 0} (may_repeat : List ℕ → Bool) (more : List (List ℕ)) (r : Result T E)
      → OnOk r (HasNoted (may_repeat (cid digest x)) cids (cid digest x) more) → OnOk r (GoesOn digest may_repeat cids found more)
  commit-seen may_repeat more (Ok y) h = one-more may_repeat more h
  commit-seen may_repeat more (Err f) h = tt

-- ---- numbers of bytes

pub count-more : (written more new part rest all : ℕ) → capped (written + (part + rest)) ≡ capped all → more ≡ part
    → new ≡ min (written + more) (2 ^ 64 - 1) → capped (new + rest) ≡ capped all
count-more written more new part rest all h e f = omega arith

pub count-end : (written rest all : ℕ) → written < 2 ^ 64 → capped (written + rest) ≡ capped all → rest ≡ 0 → written ≡ capped all
count-end written rest all h e f = omega arith

-- ---- the whole file

module _ (digest : List ℕ → List ℕ) (gives : List ℕ → Option (List ℕ)) (most : ℕ) (commit : Option (List ℕ)) (root : List ℕ) where
  abbrev top : Walking
  top = record { most = most; link = Some root; stack = [] }

  cids-top : cids_left (shown_by gives) top ≡ cids_from (shown_by gives) most (Some root)
  cids-top =
      let e : most - 0 ≡ most = omega arith in
      append-nil (cids_from (shown_by gives) (most - 0) (Some root)) ∙ ap (λ n. cids_from (shown_by gives) n (Some root)) e

  -- what a walk from the top comes to, with the commit before it
  pub met-due : (w : Walking) → w ≡ top → blocks_met gives most commit root ≡ blocks_due gives commit w
  met-due w at = ap (λ cs. commit_block gives commit ++ blocks_at gives cs) (sym cids-top) ∙ ap (blocks_due gives commit) (sym at)

  pub car-due : (w : Walking) → w ≡ top
      → car_met digest gives most commit root ≡ header (car_root commit root) ++ sections_due digest gives [] commit w
  car-due w at =
      ap (λ bs. header (car_root commit root) ++ flat_map (section digest) (firsts (cid digest) bs)) (met-due w at)
      ∙ ap (λ bs. header (car_root commit root) ++ flat_map (section digest) bs) (sym (fresh-all digest (blocks_due gives commit w)))
