-- CIDs compared by the first eight bytes of their digests.
use Rattle.std.proofs.Common.{◌≡◌, ℕ, true, List, ◌++◌, length, take, drop, sym, ap, ◌∙◌, arith}
use Rattle.std.specs.declared.cmp.Ordering.{Ordering}
use Rattle.std.specs.declared.cmp.Ordering.TheVariants.{Less, Equal, Greater}
use Rattle.std.specs.Cmp.Lexicographic.{slice_cmp}
use Rattle.std.specs.Int.{w64, from_be_bytes}
use Rattle.std.specs.Ordering.{nat_cmp, ordering_then}
use Rattle.std.proofs.lemmas.List.{take-append-drop, length-take}
use Rattle.spec.specs.Cid.{is_own_cid, prefix}
use Rattle.spec.specs.Reading.{IsBytes}
use Rattle.spec.proofs.NodeLaws.{own_cid}
use Rattle.spec.proofs.Taking.{IsBytes-drop, IsBytes-take}
use Rattle.cid.proofs.BigEndian.{eight-compare, parts-compare}

-- a first order that isn't Equal decides
pub decided : (o p q whole : Ordering) → (o ≡ Equal → ⊥) → o ≡ p → ordering_then p q ≡ whole → o ≡ whole
decided o Less q whole n h k = h ∙ k
decided o Equal q whole n h k = absurd (n h)
decided o Greater q whole n h k = h ∙ k

abbrev front : List ℕ → List ℕ
front x = take 8 (drop 4 x)

abbrev back : List ℕ → List ℕ
back x = drop 8 (drop 4 x)

parts : (x : List ℕ) → is_own_cid x ≡ true → x ≡ prefix ++ (front x ++ back x)
parts x own = (own_cid x own).0 ∙ ap (λ (d : List ℕ). prefix ++ d) (sym (take-append-drop 8 (drop 4 x)))

long-front : (x : List ℕ) → is_own_cid x ≡ true → length (front x) ≡ 8
long-front x own = omega (arith, length-take 8 (drop 4 x), (own_cid x own).1)

-- two CIDs compare as the first eight bytes of their digests, and then as the others
pub fronts-decide : (x y : List ℕ) → is_own_cid x ≡ true → is_own_cid y ≡ true → IsBytes x → IsBytes y
    → ordering_then (nat_cmp (from_be_bytes w64 (take 8 (drop 4 x))) (from_be_bytes w64 (take 8 (drop 4 y)))) (slice_cmp nat_cmp (back x) (back y))
    ≡ slice_cmp nat_cmp x y
fronts-decide x y own other f g =
    ap (λ (o : Ordering). ordering_then o (slice_cmp nat_cmp (back x) (back y)))
    (eight-compare (front x) (front y) (long-front x own) (long-front y other) (IsBytes-take 8 (drop 4 x) (IsBytes-drop 4 x f)) (IsBytes-take 8 (drop 4 y) (IsBytes-drop 4 y g)))
    ∙ parts-compare (front x) (front y) (back x) (back y) (long-front x own ∙ sym (long-front y other))
    ∙ ap (λ (u : List ℕ). slice_cmp nat_cmp u (prefix ++ (front y ++ back y))) (sym (parts x own))
    ∙ ap (slice_cmp nat_cmp x) (sym (parts y other))
