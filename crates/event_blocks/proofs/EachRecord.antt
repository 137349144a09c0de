-- Records tested one after the other.
use Rattle.std.proofs.Common.{◌≡◌, ℕ, suc, ◌+◌, ◌<◌, ◌≤◌, List, ◌∷◌, length, drop, get_or, Option, Some, None, Result, Ok, sym, ap, ◌∙◌, arith}
use Rattle.std.proofs.lemmas.List.{at_drop_more, drop_all}
use Rattle.spec.specs.Reading.{◌>>=◌, Fails}
use Rattle.spec.specs.CarReading.{Section}
use Rattle.change_laws.specs.Told.{KeyChange}
use Rattle.event_laws.specs.Verdict.{EventFault, after_test, records_test}

-- those from a place on are all that are left to test
abbrev pub Tests : List Section → List KeyChange → ℕ → Type 0
Tests ss cs i = records_test ss i (drop i cs) ≡ records_test ss 0 cs

at-place : (ss : List Section) (cs : List KeyChange) (i : ℕ) (c : KeyChange) → i < length cs → c ≡ get_or cs i c
    → records_test ss i (drop i cs) ≡ (after_test ss i c.after >>= (λ x. records_test ss (suc i) (drop (i + 1) cs)))
at-place ss cs i c lt is =
    at_drop_more (λ xs. records_test ss i xs) cs i c lt
    ∙ ap (λ (y : KeyChange). records_test ss i (y ∷ drop (i + 1) cs)) (sym is)

pub tests-next : (ss : List Section) (cs : List KeyChange) (i : ℕ) (c : KeyChange) (a : Option (List ℕ)) (x : Unit {0}) → i < length cs
    → c ≡ get_or cs i c → a ≡ c.after → after_test ss i a ≡ Ok x → Tests ss cs i → Tests ss cs (i + 1)
tests-next ss cs i c a x lt is same ok tests =
    let rest = drop (i + 1) cs in
    let next : i + 1 ≡ suc i = omega arith in
    ap (λ (n : ℕ). records_test ss n rest) next
    ∙ sym (ap (λ (r : Result (Unit {0}) EventFault). r >>= (λ y. records_test ss (suc i) rest)) ok)
    ∙ ap (λ (b : Option (List ℕ)). after_test ss i b >>= (λ y. records_test ss (suc i) rest)) same
    ∙ sym (at-place ss cs i c lt is) ∙ tests

pub tests-stop : (ss : List Section) (cs : List KeyChange) (i : ℕ) (c : KeyChange) (o : Option EventFault) → i < length cs
    → c ≡ get_or cs i c → Fails o (after_test ss i c.after) → Tests ss cs i → Fails o (records_test ss 0 cs)
tests-stop ss cs i c None lt is fails tests = tt
tests-stop ss cs i c (Some f) lt is fails tests =
    sym tests ∙ at-place ss cs i c lt is
    ∙ ap (λ (r : Result (Unit {0}) EventFault). r >>= (λ x. records_test ss (suc i) (drop (i + 1) cs))) fails

pub tests-end : (ss : List Section) (cs : List KeyChange) (i : ℕ) → length cs ≤ i → Tests ss cs i → records_test ss 0 cs ≡ Ok tt
tests-end ss cs i all tests = sym tests ∙ ap (λ (xs : List KeyChange). records_test ss i xs) (drop_all i cs all)
