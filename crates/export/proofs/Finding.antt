-- Blocks found by their CIDs, some of which are known.
use Rattle.std.proofs.Common.{◌≡◌, sym, ap, ◌∙◌, subst, ℕ, suc, ◌+◌, ◌<◌, nat_lt, Bool, true, false, if◌then◌else◌, List, [], ◌∷◌, ◌++◌, length, take, map}
use native.Mathlib.Omega.{arith}
use Rattle.std.proofs.Math.ListN.{get_or}
use Rattle.std.proofs.Math.Seq.{take-suc}
use Rattle.std.proofs.lemmas.List.{length-map, get_or-map, length_push}
use Rattle.spec.specs.Cid.{cid as cid_of}
use Rattle.export.specs.GivenBlocks.{AreHashed}

one_more : (n : ℕ) → n + 1 ≡ suc n
one_more n = omega arith

grown-by : (b : Bool) (cs hs new : List (List ℕ)) (c d : List ℕ) → hs ≡ take (length hs) cs → length hs < length cs → get_or cs (length hs) d ≡ c
    → new ≡ (if b then hs ++ c ∷ [] else hs) → new ≡ take (length new) cs
grown-by true cs hs new c d known within is grows =
    grows ∙ ap (λ xs. xs ++ c ∷ []) known ∙ ap (λ x. take (length hs) cs ++ x ∷ []) (sym is) ∙ sym (take-suc cs (length hs) d within)
    ∙ ap (λ n. take n cs) (sym (ap length grows ∙ length_push hs c ∙ one_more (length hs)))
grown-by false cs hs new c d known within is grows = grows ∙ known ∙ ap (λ xs. take (length xs) cs) (sym grows)

-- the CID of the block after those whose CIDs are known is kept where there is room
pub grown : (digest : List ℕ → List ℕ) (blocks hs new : List (List ℕ)) (place : ℕ) (c : List ℕ) → place ≡ length hs → place < length blocks
    → c ≡ cid_of digest (get_or blocks place []) → AreHashed digest blocks hs
    → new ≡ (if nat_lt (length hs) 32 then hs ++ c ∷ [] else hs) → AreHashed digest blocks new
grown digest blocks hs new place c here within is known grows =
    grown-by (nat_lt (length hs) 32) (map (cid_of digest) blocks) hs new c [] known
    (subst (λ n. n < length (map (cid_of digest) blocks)) here (subst (λ n. place < n) (sym (length-map blocks (cid_of digest))) within))
    (ap (λ n. get_or (map (cid_of digest) blocks) n []) (sym here) ∙ get_or-map (cid_of digest) blocks place [] [] within ∙ sym is)
    grows
