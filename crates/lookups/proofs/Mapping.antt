-- The places of blocks by their CIDs.
use Rattle.std.proofs.Common.{◌≡◌, ℕ, suc, ◌-◌, ◌<◌, Bool, true, false, cond, List, ◌∷◌, length, get_or, drop, Option, sym, ap, ◌∙◌, subst, arith}
use Rattle.std.specs.Prelude.{option_and_then, slice_get}
use Rattle.std.specs.declared.option.Option.TheVariants.{Some}
use Rattle.std.specs.Arc.{arc_value}
use Rattle.std.specs.Cmp.Lexicographic.{slice_cmp}
use Rattle.std.specs.Ordering.{nat_cmp, is_eq}
use Rattle.std.specs.Str.{bytes_eq}
use Rattle.std.specs.declared.sync.Arc.{Arc}
use Rattle.std.proofs.lemmas.Map.Text.{is_eq-slice_cmp}
use Rattle.std.proofs.lemmas.Option.{slice_get-get_or}
use Rattle.std.proofs.Math.Seq.{drop-cons}
use Rattle.spec.specs.Cid.{cid}
use Rattle.lookups.specs.Maps.{first_of}

module _ {A : Type 0} (digest : List ℕ → List ℕ) (blocks : List (Arc (List ℕ) A)) where
  -- each CID has the place of its first block from a place on
  abbrev pub Sees : ℕ → (List ℕ → Option ℕ) → Type 0
  Sees n place_of =
      (c : List ℕ) → option_and_then (slice_get blocks) (place_of c) ≡ first_of digest (drop n blocks) c

  found : (n : ℕ) (x : Arc (List ℕ) A) (c : List ℕ) (later : Option ℕ) (b : Bool)
      → slice_get blocks n ≡ Some x
      → option_and_then (slice_get blocks) later ≡ first_of digest (drop (suc n) blocks) c
      → option_and_then (slice_get blocks) (cond b (Some n) later)
      ≡ cond b (Some x) (first_of digest (drop (suc n) blocks) c)
  found n x c later true h i = h
  found n x c later false h i = i

  -- the next block to the front is put under its CID
  pub Sees-more : (n : ℕ) (x : Arc (List ℕ) A) (k : List ℕ) (old new : List ℕ → Option ℕ) → n < length blocks
      → x ≡ get_or blocks n x → k ≡ cid digest (arc_value x)
      → ((q : List ℕ) → new q ≡ cond (is_eq (slice_cmp nat_cmp k q)) (Some n) (old q))
      → Sees (suc n) old → Sees n new
  Sees-more n x k old new below is key puts sees c =
      let e = is_eq-slice_cmp k c ∙ ap (λ t. bytes_eq t c) key in
      let first : drop n blocks ≡ x ∷ drop (suc n) blocks
      = drop-cons blocks n x below ∙ ap (λ t. t ∷ drop (suc n) blocks) (sym is) in
      ap (option_and_then (slice_get blocks)) (puts c ∙ ap (λ b. cond b (Some n) (old c)) e)
      ∙ found n x c (old c) (bytes_eq (cid digest (arc_value x)) c)
      (slice_get-get_or blocks n x below ∙ ap (λ t. Some t) (sym is)) (sees c)
      ∙ sym (ap (λ bs. first_of digest bs c) first)

  pub Sees-left : (n : ℕ) (x : Arc (List ℕ) A) (k : List ℕ) (old new : List ℕ → Option ℕ) → 0 < n
      → n - 1 < length blocks
      → x ≡ get_or blocks (n - 1) x → k ≡ cid digest (arc_value x)
      → ((q : List ℕ) → new q ≡ cond (is_eq (slice_cmp nat_cmp k q)) (Some (n - 1)) (old q))
      → Sees n old → Sees (n - 1) new
  Sees-left n x k old new more below is key puts sees =
      let e : n ≡ suc (n - 1) = omega arith in
      Sees-more (n - 1) x k old new below is key puts (subst (λ m. Sees m old) e sees)
