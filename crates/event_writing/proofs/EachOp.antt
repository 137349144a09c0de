-- Operations tested one after the other.
use Rattle.std.proofs.Common.{◌≡◌, ℕ, suc, ◌+◌, ◌<◌, ◌≤◌, List, ◌∷◌, length, drop, get_or, Option, Some, None, Result, Ok, Err, sym, ap, ◌∙◌, arith}
use Rattle.std.proofs.lemmas.List.{at_drop_more, drop_all}
use Rattle.std.specs.Prelude.{IfErr}
use Rattle.spec.specs.Reading.{◌>>=◌, Fails, Gives}
use Rattle.change_laws.specs.Told.{KeyChange}
use Rattle.event_writing_laws.specs.Telling.{UntoldFault, each_test}
use Rattle.event_writing.specs.Views.{untold_fault_of}
use Rattle.event_writing.specs.declared.fault.UntoldFault.{UntoldFault as Untold}

-- ---- a fault that is handed on

pub gives-err : {X Y : Type 0} (view : X → Y) (e : Untold) (r : Result X Untold) (read : Result Y UntoldFault) → r ≡ Err e
    → Fails (untold_fault_of e) read → Gives view untold_fault_of r read
gives-err view e r read is h = rw is h

pub if-err : {X : Type 0} (P : Untold → Type 0) (e : Untold) (r : Result X Untold) → r ≡ Err e → P e → IfErr r P
if-err P e r is h = rw is h

-- ---- operations

abbrev pub Test : Type 0
Test = ℕ → KeyChange → Result (Unit {0}) UntoldFault

-- those from a place on are all that are left to test
abbrev pub Tests : Test → List KeyChange → ℕ → Type 0
Tests test cs i = each_test test i (drop i cs) ≡ each_test test 0 cs

at-place : (test : Test) (cs : List KeyChange) (i : ℕ) (c : KeyChange) → i < length cs → c ≡ get_or cs i c
    → each_test test i (drop i cs) ≡ (test i c >>= (λ x. each_test test (suc i) (drop (i + 1) cs)))
at-place test cs i c lt is =
    at_drop_more (λ xs. each_test test i xs) cs i c lt
    ∙ ap (λ (y : KeyChange). each_test test i (y ∷ drop (i + 1) cs)) (sym is)

pub tests-next : (test : Test) (cs : List KeyChange) (i : ℕ) (c : KeyChange) (x : Unit {0}) → i < length cs
    → c ≡ get_or cs i c → test i c ≡ Ok x → Tests test cs i → Tests test cs (i + 1)
tests-next test cs i c x lt is ok tests =
    let rest = drop (i + 1) cs in
    let next : i + 1 ≡ suc i = omega arith in
    ap (λ (n : ℕ). each_test test n rest) next
    ∙ sym (ap (λ (r : Result (Unit {0}) UntoldFault). r >>= (λ y. each_test test (suc i) rest)) ok)
    ∙ sym (at-place test cs i c lt is) ∙ tests

pub tests-stop : (test : Test) (cs : List KeyChange) (i : ℕ) (c : KeyChange) (o : Option UntoldFault) → i < length cs
    → c ≡ get_or cs i c → Fails o (test i c) → Tests test cs i → Fails o (each_test test 0 cs)
tests-stop test cs i c None lt is fails tests = tt
tests-stop test cs i c (Some f) lt is fails tests =
    sym tests ∙ at-place test cs i c lt is
    ∙ ap (λ (r : Result (Unit {0}) UntoldFault). r >>= (λ x. each_test test (suc i) (drop (i + 1) cs))) fails

pub tests-end : (test : Test) (cs : List KeyChange) (i : ℕ) → length cs ≤ i → Tests test cs i → each_test test 0 cs ≡ Ok tt
tests-end test cs i all tests = sym tests ∙ ap (λ (xs : List KeyChange). each_test test i xs) (drop_all i cs all)
