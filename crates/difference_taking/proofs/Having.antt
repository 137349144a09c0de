-- What changed keys had, one after the other.
use Rattle.std.proofs.Common.{◌≡◌, ℕ, suc, ◌+◌, ◌<◌, ◌≤◌, Bool, true, false, List, [], ◌∷◌, length, drop, get_or, refl, sym, ap, ◌∙◌, arith, Option, Some, None, Result, Ok, Err}
use Rattle.std.specs.List.{AllByRecursion}
use Rattle.std.proofs.lemmas.List.{at_drop_more, drop_all}
use Rattle.std.proofs.lemmas.Slice.Eq.{bytes_eq-Decides}
use Rattle.spec.specs.Reading.{◌>>=◌, ensure}
use Rattle.spec.specs.Tree.{Pair}
use Rattle.spec.specs.Blocks.{value_of}
use Rattle.spec.proofs.Taking.{bind_ok}
use Rattle.batch_laws.specs.Previous.{values}
use Rattle.change_laws.specs.Told.{KeyChange}
use Rattle.change_laws.specs.Given.{ChangeFault, OtherValue}
use Rattle.change_laws.specs.Verdict.{are_told, is_same}
use Rattle.step_laws.specs.Turned.{done, turned}

module _ (es : List Pair) where
  -- from a place on
  abbrev told_from : ℕ → List KeyChange → Result (Unit {0}) ChangeFault
  told_from place cs = are_told place (values (done cs) es) (turned cs)

  -- those from a place on are all that are left to look at
  abbrev pub Had : List KeyChange → ℕ → Type 0
  Had cs i = told_from i (drop i cs) ≡ told_from 0 cs

  at-place : (cs : List KeyChange) (i : ℕ) (c : KeyChange) → i < length cs → c ≡ get_or cs i c
      → told_from i (drop i cs)
      ≡ (ensure (is_same (value_of c.key es) c.before) (OtherValue i) >>= (λ same. told_from (suc i) (drop (i + 1) cs)))
  at-place cs i c lt is =
      at_drop_more (λ xs. told_from i xs) cs i c lt
      ∙ ap (λ (y : KeyChange). told_from i (y ∷ drop (i + 1) cs)) (sym is)

  had-next : (cs : List KeyChange) (i : ℕ) (c : KeyChange) → i < length cs → c ≡ get_or cs i c
      → is_same (value_of c.key es) c.before ≡ true → Had cs i → Had cs (i + 1)
  had-next cs i c lt is e had =
      let rest = drop (i + 1) cs in
      let next : i + 1 ≡ suc i = omega arith in
      ap (λ (n : ℕ). told_from n rest) next
      ∙ sym (ap (λ (b : Bool). ensure b (OtherValue i) >>= (λ same. told_from (suc i) rest)) e)
      ∙ sym (at-place cs i c lt is) ∙ had

  -- the test is made of the change's own fields
  pub had-next_of : (cs : List KeyChange) (i : ℕ) (c seen : KeyChange) (o : Option (List ℕ)) (b : Bool) → i < length cs → c ≡ get_or cs i c
      → seen ≡ c → o ≡ value_of seen.key es → b ≡ is_same o seen.before → b ≡ true → Had cs i → Had cs (i + 1)
  had-next_of cs i c seen o b lt is same value told e had =
      had-next cs i c lt is
      (ap (λ (d : KeyChange). is_same (value_of d.key es) d.before) (sym same)
      ∙ sym (ap (λ (v : Option (List ℕ)). is_same v seen.before) value) ∙ sym told ∙ e) had

  pub had-stop : (cs : List KeyChange) (i : ℕ) (c : KeyChange) → i < length cs → c ≡ get_or cs i c
      → is_same (value_of c.key es) c.before ≡ false → Had cs i → told_from 0 cs ≡ Err (OtherValue i)
  had-stop cs i c lt is e had =
      sym had ∙ at-place cs i c lt is
      ∙ ap (λ (b : Bool). ensure b (OtherValue i) >>= (λ same. told_from (suc i) (drop (i + 1) cs))) e

  pub had-end : (cs : List KeyChange) (i : ℕ) → length cs ≤ i → Had cs i → told_from 0 cs ≡ Ok tt
  had-end cs i all had = sym had ∙ ap (λ (xs : List KeyChange). told_from i xs) (drop_all i cs all)

-- ---- that all had what is told

same-is : (o p : Option (List ℕ)) → is_same o p ≡ true → o ≡ p
same-is None None e = refl
same-is None (Some y) e = absurd cc
same-is (Some x) None e = absurd cc
same-is (Some x) (Some y) e = ap (λ v. Some v) ((bytes_eq-Decides x y).0 e)

ensured : (t : Bool) (place : ℕ) (u : Unit {0}) → ensure t (OtherValue place) ≡ Ok u → t ≡ true
ensured true place u e = refl
ensured false place u e = absurd cc

pub had-all : (es : List Pair) (place : ℕ) (cs : List KeyChange) → are_told place (values (done cs) es) (turned cs) ≡ Ok tt
    → AllByRecursion (λ c. value_of c.key es ≡ c.before) cs
had-all es place [] e = tt
had-all es place (c ∷ cs) e =
    let b = bind_ok (ensure (is_same (value_of c.key es) c.before) (OtherValue place))
    (λ same. are_told (suc place) (values (done cs) es) (turned cs)) tt e in (
      same-is (value_of c.key es) c.before (ensured (is_same (value_of c.key es) c.before) place b.0 b.1),
      had-all es (suc place) cs b.2,
    )

itself : (o : Option (List ℕ)) → is_same o o ≡ true
itself None = refl
itself (Some x) = (bytes_eq-Decides x x).1 refl

-- and the other way
pub all-had : (es : List Pair) (place : ℕ) (cs : List KeyChange) → AllByRecursion (λ c. value_of c.key es ≡ c.before) cs
    → are_told place (values (done cs) es) (turned cs) ≡ Ok tt
all-had es place [] h = refl
all-had es place (c ∷ cs) h =
    ap (λ (o : Option (List ℕ)). ensure (is_same o c.before) (OtherValue place)
    >>= (λ same. are_told (suc place) (values (done cs) es) (turned cs))) h.0
    ∙ ap (λ (b : Bool). ensure b (OtherValue place) >>= (λ same. are_told (suc place) (values (done cs) es) (turned cs))) (itself c.before)
    ∙ all-had es (suc place) cs h.1
