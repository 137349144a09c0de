-- Lists of bytes and their digests, taken from the front one by one.
use Rattle.std.proofs.Common.{◌≡◌, ℕ, true, List, [], ◌∷◌, ◌++◌, map, refl, sym, ap, subst, ◌∙◌, append_assoc, length, ◌⊎◌, inl, inr, Option, None}
use Rattle.std.proofs.lemmas.List.{append-nil, length-map, map-append, nil_from_length}
use Rattle.std.specs.declared.option.Option.TheVariants.{Some}
use Rattle.std.specs.declared.sync.Arc.{Arc}
use Rattle.std.specs.List.{AllByRecursion}
use Rattle.std.specs.Option.{unwrap_or}
use Rattle.std.specs.Prelude.{is_some}
use Rattle.block.specs.declared.write.Write.{Write}
use Rattle.block.specs.Bytes.{has_record, record_in, shared_record}

same_heads : {X : Type 0} (a b : X) (xs ys : List X) → (a ∷ xs) ≡ (b ∷ ys) → (a ≡ b) × (xs ≡ ys)
same_heads a b xs ys e = (cc, cc)

module _ {X Y : Type 0} (f : X → Y) (xs rest : List X) (x : X) (taken : xs ≡ x ∷ rest) where
  pub first_pair : (ys others : List Y) (y : Y) → ys ≡ y ∷ others → ys ≡ map f xs → (y ≡ f x) × (others ≡ map f rest)
  first_pair ys others y also are = same_heads y (f x) others (map f rest) (sym also ∙ are ∙ ap (map f) taken)

  pub one_more : (done after whole : List Y) (y : Y) → after ≡ done ++ y ∷ [] → y ≡ f x → done ++ map f xs ≡ whole → after ++ map f rest ≡ whole
  one_more done after whole y more is all =
      ap (λ (ys : List Y). ys ++ map f rest) more ∙ append_assoc done (y ∷ []) (map f rest) ∙ ap (λ (z : Y). done ++ z ∷ map f rest) is ∙ sym (ap (λ (zs : List X). done ++ map f zs) taken) ∙ all

pub all_done : {X Y : Type 0} (f : X → Y) (done whole : List Y) (rest : List X) → rest ≡ [] → done ++ map f rest ≡ whole → done ≡ whole
all_done f done whole rest empty all = sym (append-nil done) ∙ sym (ap (λ zs. done ++ map f zs) empty) ∙ all

-- a walk over both ends where one of them is at its end
pub ended : {X Y S T : Type 0} {P : S → Type 0} {Q : T → Type 0} (f : X → Y) (xs : List X) (ys : List Y) (n : ℕ) → n ≡ length xs → ys ≡ map f xs
    → ((s : S) × ((n ≡ 0) × P s)) ⊎ ((t : T) × ((length ys ≡ 0) × Q t)) → xs ≡ []
ended f xs ys n count are (inl a) = nil_from_length xs (sym count ∙ a.1.0)
ended f xs ys n count are (inr b) = nil_from_length xs (sym (length-map xs f) ∙ sym (ap length are) ∙ b.1.0)

-- ---- the blocks of writes

pub map-twice : {X Y Z : Type 0} (f : Y → Z) (g : X → Y) (xs : List X) → map f (map g xs) ≡ map (λ x. f (g x)) xs
map-twice f g [] = refl
map-twice f g (x ∷ xs) = ap (λ zs. f (g x) ∷ zs) (map-twice f g xs)

some-is : (o : Option (List ℕ)) → is_some o ≡ true → Some (unwrap_or o []) ≡ o
some-is None h = absurd cc
some-is (Some x) h = refl

module _ {A : Type 0} (ws rest : List (Arc (Write A) A)) (w : Arc (Write A) A) (taken : ws ≡ w ∷ rest) (have : AllByRecursion (λ v. has_record v ≡ true) ws) where
  both-have : AllByRecursion (λ v. has_record v ≡ true) (w ∷ rest)
  both-have = subst (AllByRecursion (λ v. has_record v ≡ true)) taken have

  pub others-have : AllByRecursion (λ v. has_record v ≡ true) rest
  others-have = both-have.1

  -- the block of the record of the first
  pub first-record : (block : List ℕ) → block ≡ record_in w → Some block ≡ shared_record w
  first-record block e = ap (λ (b : List ℕ). Some b) e ∙ some-is (shared_record w) both-have.0

pub one-some : {X : Type 0} (after done : List X) (x : X) → after ≡ done ++ x ∷ [] → map Some after ≡ map Some done ++ Some x ∷ []
one-some after done x e = ap (map Some) e ∙ map-append Some done (x ∷ [])
