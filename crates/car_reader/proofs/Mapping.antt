-- The places of sections by their CIDs.
use Rattle.std.proofs.Common.{◌≡◌, ℕ, suc, ◌-◌, ◌<◌, Bool, true, false, cond, List, ◌∷◌, length, get_or, drop, ltb, Option, sym, ap, ◌∙◌, subst, arith, refl, []}
use Rattle.std.specs.Prelude.{option_and_then, option_map, slice_get}
use Rattle.std.specs.declared.option.Option.TheVariants.{Some, None}
use Rattle.std.specs.Prelude.{is_some, IfSome}
use Rattle.std.specs.Borrow.{Bor}
use Rattle.std.proofs.lemmas.Bool.{ltb-true, ltb-false}
use Rattle.spec.specs.CarReading as reading
use Rattle.std.specs.Str.{bytes_eq}
use Rattle.std.proofs.lemmas.Option.{slice_get-get_or, slice_get_past}
use Rattle.std.proofs.Math.Seq.{drop-cons}
use Rattle.cid.specs.CidRef.{bytes_of}
use Rattle.car_reader.specs.Views.{section_of, sections_of}
use Rattle.car_reader.specs.declared.section.Section.{Section}
use Rattle.cid.specs.declared.cid_ref.CidRef.{CidRef}
use Rattle.car_reader.specs.Maps.{first_with, is_same}
use Rattle.spec.specs.CarReading.{section_with}

module _ (ss : List Section) where
  -- each CID has the place of its first section from a place on
  abbrev pub Sees : ℕ → (CidRef → Option ℕ) → Type 0
  Sees n place_of = (c : CidRef) → option_and_then (slice_get ss) (place_of c) ≡ first_with (bytes_of c) (drop n ss)

  found : (n : ℕ) (x : Section) (c : List ℕ) (later : Option ℕ) (b : Bool)
      → slice_get ss n ≡ Some x
      → option_and_then (slice_get ss) later ≡ first_with c (drop (suc n) ss)
      → option_and_then (slice_get ss) (cond b (Some n) later) ≡ cond b (Some x) (first_with c (drop (suc n) ss))
  found n x c later true h i = h
  found n x c later false h i = i

  -- the next section to the front is put under its CID
  Sees-more : (n : ℕ) (x : Section) (k : CidRef) (old new : CidRef → Option ℕ) → n < length ss
      → x ≡ get_or ss n x → k ≡ x.cid
      → ((q : CidRef) → new q ≡ cond (is_same k q) (Some n) (old q))
      → Sees (suc n) old → Sees n new
  Sees-more n x k old new below is key puts sees c =
      let first : drop n ss ≡ x ∷ drop (suc n) ss
      = drop-cons ss n x below ∙ ap (λ t. t ∷ drop (suc n) ss) (sym is) in
      ap (option_and_then (slice_get ss)) (puts c ∙ ap (λ (t : CidRef). cond (is_same t c) (Some n) (old c)) key)
      ∙ found n x (bytes_of c) (old c) (is_same x.cid c)
      (slice_get-get_or ss n x below ∙ ap (λ t. Some t) (sym is)) (sees c)
      ∙ sym (ap (first_with (bytes_of c)) first)

  pub Sees-left : (n : ℕ) (x : Section) (k : CidRef) (old new : CidRef → Option ℕ) → 0 < n
      → n - 1 < length ss
      → x ≡ get_or ss (n - 1) x → k ≡ x.cid
      → ((q : CidRef) → new q ≡ cond (is_same k q) (Some (n - 1)) (old q))
      → Sees n old → Sees (n - 1) new
  Sees-left n x k old new more below is key puts sees =
      let e : n ≡ suc (n - 1) = omega arith in
      Sees-more (n - 1) x k old new below is key puts (subst (λ m. Sees m old) e sees)

-- sections seen as the definitions' sections
seen : (q : List ℕ) (s : Section) (ss : List Section) (b : Bool) → option_map section_of (first_with q ss) ≡ section_with q (sections_of ss)
    → option_map section_of (cond b (Some s) (first_with q ss)) ≡ cond b (Some (section_of s)) (section_with q (sections_of ss))
seen q s ss true h = refl
seen q s ss false h = h

pub section-first : (q : List ℕ) (ss : List Section) → option_map section_of (first_with q ss) ≡ section_with q (sections_of ss)
section-first q [] = refl
section-first q (s ∷ ss) = seen q s ss (bytes_eq (bytes_of s.cid) q) (section-first q ss)

-- a look-up in a list
at-place : (ss : List Section) (n : ℕ) (o : Option (Bor Section)) (t : Bool) → ltb n (length ss) ≡ t → is_some o ≡ t
    → IfSome o (λ x. x.now ≡ get_or ss n x.now) → option_map (λ s. s.now) o ≡ slice_get ss n
at-place ss n None true e h is = absurd cc
at-place ss n None false e h is = sym (slice_get_past ss n (ltb-false n (length ss) e))
at-place ss n (Some x) true e h is =
    ap (λ s. Some s) is ∙ sym (slice_get-get_or ss n x.now (ltb-true n (length ss) e))
at-place ss n (Some x) false e h is = absurd cc

through : (o : Option (Bor Section)) → option_map (λ s. section_of s.now) o ≡ option_map section_of (option_map (λ s. s.now) o)
through None = refl
through (Some x) = refl

-- the section at the place that the map has for a CID
pub looked-up : (ss : List Section) (n : ℕ) (q : List ℕ) (place : Option ℕ) (o : Option (Bor Section)) (all : List reading.Section)
    → is_some o ≡ ltb n (length ss) → IfSome o (λ x. x.now ≡ get_or ss n x.now)
    → option_and_then (slice_get ss) place ≡ first_with q ss → place ≡ Some n → sections_of ss ≡ all
    → option_map (λ s. section_of s.now) o ≡ section_with q all
looked-up ss n q place o all there is placed got seen =
    let here : option_map (λ s. s.now) o ≡ slice_get ss n = at-place ss n o (ltb n (length ss)) refl there is in
    let first : slice_get ss n ≡ first_with q ss = sym (ap (option_and_then (slice_get ss)) got) ∙ placed in
    through o ∙ ap (option_map section_of) (here ∙ first) ∙ section-first q ss ∙ ap (section_with q) seen
