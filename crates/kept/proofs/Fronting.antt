-- Blocks in front of the kept ones, each alone under its CID: together they have what is kept once these have come.
use Rattle.std.proofs.Common.{◌≡◌, ℕ, zero, suc, true, false, cond, List, [], ◌∷◌, ◌++◌, map as each, refl, sym, ap, subst, ◌∙◌, arith, inl, inr, Option, None}
use Rattle.std.specs.declared.option.Option.TheVariants.{Some}
use Rattle.std.specs.Prelude.{Bool, Contains, IfSome, option_map}
use Rattle.std.specs.Option.{option_or}
use Rattle.std.specs.Arc.{arc_value}
use Rattle.std.specs.FinMap as map
use Rattle.std.specs.Str.{bytes_eq}
use Rattle.std.specs.declared.sync.Arc.{Arc}
use Rattle.std.proofs.lemmas.List.Elements.{Contains-append_cases}
use Rattle.std.proofs.lemmas.Slice.Eq.{bytes_eq-Decides}
use Rattle.spec.specs.Cid.{cid}
use Rattle.spec.specs.Blocks.{IsClashFree, block_at}
use Rattle.spec.proofs.RepositoryBlocks.{block-some}
use Rattle.spec.proofs.RootLaws.{in_head, in_tail}
use Rattle.edit_laws.specs.Sources.{Extends}
use Rattle.lookups.specs.Maps.{first_of}
use Rattle.kept.specs.Alone.{AreAlone, IsGivenSame}
use Rattle.kept.specs.Counts.{Counts, HasNoOther, HaveNoOther, bytes_at, gained}
use Rattle.kept.specs.Fronts.{in_front}
use Rattle.kept.specs.Gains.{IsGained}
use Rattle.kept.proofs.Gains.{alone-from, gained-beside, gained-is}

only : (x b : List ℕ) → Contains (x ∷ []) b → x ≡ b
only x b (zero, lt, is) = is
only x b (suc i, lt, is) = absurd (omega (arith, lt))

-- ---- the first block with a CID

pub first-is : {A : Type 0} (digest : List ℕ → List ℕ) (bs : List (Arc (List ℕ) A)) (c : List ℕ)
    → option_map arc_value (first_of digest bs c) ≡ block_at digest c (each arc_value bs)
first-is digest [] c = refl
first-is digest (b ∷ bs) c = at (bytes_eq (cid digest (arc_value b)) c) (first-is digest bs c)
  where
    at : (t : Bool) → option_map arc_value (first_of digest bs c) ≡ block_at digest c (each arc_value bs)
        → option_map arc_value (cond t (Some b) (first_of digest bs c)) ≡ cond t (Some (arc_value b)) (block_at digest c (each arc_value bs))
    at true h = refl
    at false h = h

-- it is one of them, and has the CID
record IsFound (digest : List ℕ → List ℕ) (bs : List (List ℕ)) (c b : List ℕ) : Type 0 where
  here : Contains bs b
  named : cid digest b ≡ c

some-same : {X : Type 0} (x y : X) → ◌≡◌ {A = Option X} (Some x) (Some y) → x ≡ y
some-same x y e = cc

found : (digest : List ℕ → List ℕ) (bs : List (List ℕ)) (c b : List ℕ) → block_at digest c bs ≡ Some b → IsFound digest bs c b
found digest [] c b h = absurd cc
found digest (x ∷ xs) c b h = by (bytes_eq (cid digest x) c) refl (found digest xs c b) h
  where
    by : (t : Bool) → bytes_eq (cid digest x) c ≡ t → (block_at digest c xs ≡ Some b → IsFound digest xs c b)
        → cond t (Some x) (block_at digest c xs) ≡ Some b → IsFound digest (x ∷ xs) c b
    by true e further is =
        subst (IsFound digest (x ∷ xs) c) (some-same x b is) (record { here = in_head x xs; named = (bytes_eq-Decides (cid digest x) c).0 e })
    by false e further is = let f = further is in record { here = in_tail x b xs f.here; named = f.named }

-- there is none only where no block has the CID
not-found : (digest : List ℕ → List ℕ) (bs : List (List ℕ)) (c : List ℕ) → block_at digest c bs ≡ None
    → (b : List ℕ) → Contains bs b → cid digest b ≡ c → ⊥
not-found digest [] c h b i e = let l = i.1 in absurd (omega (arith, l))
not-found digest (x ∷ xs) c h b i e = by (bytes_eq (cid digest x) c) refl (λ n j. not-found digest xs c n b j e) h
  where
    by : (t : Bool) → bytes_eq (cid digest x) c ≡ t → (block_at digest c xs ≡ None → Contains xs b → ⊥)
        → cond t (Some x) (block_at digest c xs) ≡ None → ⊥
    by true s further is = absurd cc
    by false s further is = elim (Contains-append_cases (x ∷ []) xs b i) [
      | inl one ↦ let yes = (bytes_eq-Decides (cid digest x) c).1 (ap (cid digest) (only x b one) ∙ e) in absurd cc
      | inr later ↦ further is later
    ]

-- so the first block that a list gives for a CID has it
pub first-named : {A : Type 0} (digest : List ℕ → List ℕ) (bs : List (Arc (List ℕ) A)) (c : List ℕ) (x : Arc (List ℕ) A)
    → first_of digest bs c ≡ Some x → cid digest (arc_value x) ≡ c
first-named digest bs c x h =
    (found digest (each arc_value bs) c (arc_value x) (sym (first-is digest bs c) ∙ ap (option_map arc_value) h)).named

-- ---- blocks that are alone

module _ {A : Type 0} (digest : List ℕ → List ℕ) (come : List (Arc (List ℕ) A)) (m : Counts)
    (alone : AreAlone digest (first_of digest come) m (each arc_value come)) where
  bs : List (List ℕ)
  bs = each arc_value come

  -- the first block with the CID of one of them is that one
  first-same : (b : List ℕ) → Contains (each arc_value come) b → (o : Option (Arc (List ℕ) A)) → first_of digest come (cid digest b) ≡ o
      → block_at digest (cid digest b) (each arc_value come) ≡ Some b
  first-same b i None e =
      absurd (not-found digest (each arc_value come) (cid digest b) (sym (first-is digest come (cid digest b)) ∙ ap (option_map arc_value) e) b i refl)
  first-same b i (Some x) e =
      sym (first-is digest come (cid digest b)) ∙ ap (option_map arc_value) e
      ∙ ap (λ (y : List ℕ). Some y) (subst (λ o. IfSome o (λ y. arc_value y ≡ b)) e (alone.same b i))

  has-come : (b : List ℕ) → Contains (each arc_value come) b → block_at digest (cid digest b) (each arc_value come) ≡ Some b
  has-come b i = first-same b i (first_of digest come (cid digest b)) refl

  pub alone-free : IsClashFree digest (each arc_value come)
  alone-free a b in_a in_b e =
      some-same a b (sym (has-come a in_a) ∙ ap (λ c. block_at digest c (each arc_value come)) e ∙ has-come b in_b)

  gain : IsGained digest (each arc_value come) m (gained digest m (each arc_value come))
  gain = gained-is digest m (each arc_value come) (alone-from digest m (each arc_value come) alone.no_other alone-free)

  -- with these in front of what is kept, all is there that is kept once they have come
  pub fronted : (back : List ℕ → Option (Arc (List ℕ) A)) → Extends (bytes_at m) (λ c. option_map arc_value (back c))
      → Extends (bytes_at (gained digest m (each arc_value come))) (λ c. option_map arc_value (in_front (first_of digest come) back c))
  fronted back lends c x h = by (first_of digest come c) refl
    where
      by : (o : Option (Arc (List ℕ) A)) → first_of digest come c ≡ o → option_map arc_value (option_or o (back c)) ≡ Some x
      by (Some y) e =
          let f = found digest (each arc_value come) c (arc_value y) (sym (first-is digest come c) ∙ ap (option_map arc_value) e) in
          let n = gain.has (arc_value y) f.here in
          sym n ∙ ap (bytes_at (gained digest m (each arc_value come))) f.named ∙ h
      by None e =
          let none = not-found digest (each arc_value come) c (sym (first-is digest come c) ∙ ap (option_map arc_value) e) in
          lends c x (sym (ap (option_map (λ u. u.0)) (gained-beside digest m (each arc_value come) c none)) ∙ h)

-- one more block is alone
pub alone-more : {A : Type 0} (digest : List ℕ → List ℕ) (gives : List ℕ → Option (Arc (List ℕ) A)) (m : Counts) (bs : List (List ℕ)) (x : List ℕ)
    → AreAlone digest gives m bs → IsGivenSame digest gives x → HasNoOther digest m x → AreAlone digest gives m (bs ++ x ∷ [])
alone-more digest gives m bs x h same none = record {
  same = λ b i. elim (Contains-append_cases bs (x ∷ []) b i) [
    | inl first ↦ h.same b first
    | inr last ↦ subst (IsGivenSame digest gives) (only x b last) same
  ];
  no_other = λ b i. elim (Contains-append_cases bs (x ∷ []) b i) [
    | inl first ↦ h.no_other b first
    | inr last ↦ subst (HasNoOther digest m) (only x b last) none
  ];
}

pub alone-none : {A : Type 0} (digest : List ℕ → List ℕ) (gives : List ℕ → Option (Arc (List ℕ) A)) (m : Counts) → AreAlone digest gives m []
alone-none digest gives m = record { same = λ b i. absurd (none b i); no_other = λ b i. absurd (none b i) }
  where
    none : (b : List ℕ) → Contains [] b → ⊥
    none b i = let l = i.1 in omega (arith, l)
