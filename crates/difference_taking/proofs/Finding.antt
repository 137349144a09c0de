-- The places of records by their CIDs.
use Rattle.std.proofs.Common.{◌≡◌, ℕ, suc, ◌-◌, ◌<◌, ◌≤◌, ◌++◌, Bool, true, false, cond, List, [], ◌∷◌, length, map, get_or, drop, Option, refl, sym, ap, ◌∙◌, subst, arith}
use Rattle.std.specs.Prelude.{option_and_then, slice_get}
use Rattle.std.specs.declared.option.Option.TheVariants.{Some}
use Rattle.std.specs.Cmp.Lexicographic.{slice_cmp}
use Rattle.std.specs.Ordering.{nat_cmp, is_eq}
use Rattle.std.specs.Str.{bytes_eq}
use Rattle.std.proofs.lemmas.List.{get_or-map, length-map}
use Rattle.std.proofs.lemmas.Map.Text.{is_eq-slice_cmp}
use Rattle.std.proofs.lemmas.Option.{slice_get-get_or}
use Rattle.std.proofs.Math.Seq.{drop-cons}
use Rattle.spec.specs.Cid.{cid, prefix}
use Rattle.spec.specs.Blocks.{block_at}

-- of each list of bytes that elements show, its digest
digests-shown : {X : Type 0} (digest : List ℕ → List ℕ) (shown : X → List ℕ) (xs : List X)
    → map (λ x. digest (shown x)) xs ≡ map digest (map shown xs)
digests-shown digest shown [] = refl
digests-shown digest shown (x ∷ xs) = ap (λ t. digest (shown x) ∷ t) (digests-shown digest shown xs)

module _ (digest : List ℕ → List ℕ) (given : List (List ℕ)) where
  -- each CID has the place of its first record from a place on
  abbrev pub Sees : ℕ → (List ℕ → Option ℕ) → Type 0
  Sees n place_of =
      (c : List ℕ) → option_and_then (slice_get given) (place_of c) ≡ block_at digest c (drop n given)

  found : (n : ℕ) (x : List ℕ) (c : List ℕ) (later : Option ℕ) (b : Bool) → slice_get given n ≡ Some x
      → option_and_then (slice_get given) later ≡ block_at digest c (drop (suc n) given)
      → option_and_then (slice_get given) (cond b (Some n) later)
      ≡ cond b (Some x) (block_at digest c (drop (suc n) given))
  found n x c later true h i = h
  found n x c later false h i = i

  sees-more : (n : ℕ) (x k : List ℕ) (old new : List ℕ → Option ℕ) → n < length given
      → x ≡ get_or given n x → k ≡ cid digest x
      → ((q : List ℕ) → new q ≡ cond (is_eq (slice_cmp nat_cmp k q)) (Some n) (old q))
      → Sees (suc n) old → Sees n new
  sees-more n x k old new below is key puts sees c =
      let e = is_eq-slice_cmp k c ∙ ap (λ t. bytes_eq t c) key in
      let first : drop n given ≡ x ∷ drop (suc n) given
      = drop-cons given n x below ∙ ap (λ t. t ∷ drop (suc n) given) (sym is) in
      ap (option_and_then (slice_get given)) (puts c ∙ ap (λ b. cond b (Some n) (old c)) e)
      ∙ found n x c (old c) (bytes_eq (cid digest x) c)
      (slice_get-get_or given n x below ∙ ap (λ t. Some t) (sym is)) (sees c)
      ∙ sym (ap (λ bs. block_at digest c bs) first)

  named : (x d : List ℕ) → d ≡ digest x → prefix ++ d ≡ cid digest x
  unfolding cid
  named x d e = ap (λ (t : List ℕ). prefix ++ t) e

  -- the next record to the front is put under its CID
  sees-left : (n : ℕ) (d k : List ℕ) (old new : List ℕ → Option ℕ) → 0 < n → n - 1 < length given
      → d ≡ get_or (map digest given) (n - 1) d → k ≡ prefix ++ d
      → ((q : List ℕ) → new q ≡ cond (is_eq (slice_cmp nat_cmp k q)) (Some (n - 1)) (old q))
      → Sees n old → Sees (n - 1) new
  sees-left n d k old new more below is key puts sees =
      let e : n ≡ suc (n - 1) = omega arith in
      let x = get_or given (n - 1) [] in
      let first : x ≡ get_or given (n - 1) x = some-is x (get_or given (n - 1) x)
      (sym (slice_get-get_or given (n - 1) [] below) ∙ slice_get-get_or given (n - 1) x below) in
      let of_x : d ≡ digest x = is ∙ get_or-map digest given (n - 1) [] d below in
      sees-more (n - 1) x k old new below first (key ∙ named x d of_x) puts (subst (λ m. Sees m old) e sees)
    where
      some-is : (x y : List ℕ) → ◌≡◌ {A = Option (List ℕ)} (Some x) (Some y) → x ≡ y
      some-is x y q = cc

-- the same over elements that show the records, and their digests at hand
pub sees-next : {X : Type 0} (digest : List ℕ → List ℕ) (shown : X → List ℕ) (xs : List X) (ds : List (List ℕ)) (n : ℕ) (d k : List ℕ)
    (old new : List ℕ → Option ℕ) → 0 < n → n ≤ length xs → ds ≡ map (λ x. digest (shown x)) xs → d ≡ get_or ds (n - 1) d
    → k ≡ prefix ++ d → ((q : List ℕ) → new q ≡ cond (is_eq (slice_cmp nat_cmp k q)) (Some (n - 1)) (old q))
    → Sees digest (map shown xs) n old → Sees digest (map shown xs) (n - 1) new
sees-next digest shown xs ds n d k old new more within are is key puts sees =
    let count : length (map shown xs) ≡ length xs = length-map xs shown in
    let below : n - 1 < length (map shown xs) = omega arith in
    sees-left digest (map shown xs) n d k old new more below
    (is ∙ ap (λ (es : List (List ℕ)). get_or es (n - 1) d) (are ∙ digests-shown digest shown xs)) key puts sees
