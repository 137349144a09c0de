-- Blocks beside their CIDs.
use Rattle.std.proofs.Common.{◌≡◌, ℕ, ◌<◌, List, [], ◌∷◌, ◌++◌, length, map, refl, sym, ap, subst, ◌∙◌}
use Rattle.std.proofs.Math.ListN.{get_or}
use Rattle.std.proofs.lemmas.List.{length-map, get_or-map}
use Rattle.spec.specs.Cid.{cid, prefix}

-- CIDs by digests
pub by_digests : {X : Type 0} (digest : List ℕ → List ℕ) (items : X → List ℕ) (blocks : List X)
    → map (λ d. prefix ++ d) (map (λ block. digest (items block)) blocks) ≡ map (cid digest) (map items blocks)
unfolding cid
by_digests digest items [] = refl
by_digests digest items (b ∷ bs) = ap (λ (cs : List (List ℕ)). (prefix ++ digest (items b)) ∷ cs) (by_digests digest items bs)

module _ {X : Type 0} (digest : List ℕ → List ℕ) (items : X → List ℕ) (blocks : List X) (cids : List (List ℕ))
    (named : cids ≡ map (cid digest) (map items blocks)) (place : ℕ) (within : place < length blocks) where
  -- each block has one
  pub within_cids : place < length cids
  within_cids =
      subst (λ (n : ℕ). place < n)
      (sym (ap length named ∙ length-map (map items blocks) (cid digest) ∙ length-map blocks items)) within

  -- and that is its own
  pub cid_at : (c : List ℕ) → get_or cids place c ≡ cid digest (get_or (map items blocks) place [])
  cid_at c =
      ap (λ (cs : List (List ℕ)). get_or cs place c) named
      ∙ get_or-map (cid digest) (map items blocks) place [] c (subst (λ (n : ℕ). place < n) (sym (length-map blocks items)) within)
