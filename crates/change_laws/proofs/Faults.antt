-- What a verdict says of values and of the root is so of the pairs after.
use Rattle.std.proofs.Common.{◌≡◌, ℕ, suc, Bool, true, false, cond, List, [], ◌∷◌, refl, sym, ap, subst, ◌∙◌, Option, Result, Ok, Err}
use Rattle.std.specs.Str.{bytes_eq}
use Rattle.std.proofs.lemmas.Slice.Eq.{bytes_eq-Decides}
use Rattle.std.specs.declared.option.Option.TheVariants.{Some, None}
use Rattle.spec.specs.Reading.{◌>>=◌, ensure}
use Rattle.spec.specs.Blocks.{root}
use Rattle.batch_laws.specs.Links.{NotShown, LinkTooDeep, Log, Step, Stop, Top}
use Rattle.batch_laws.specs.Previous.{values}
use Rattle.batch_laws.specs.Batch.{changed}
use Rattle.edit_laws.specs.Sources.{shown_by}
use Rattle.spec.specs.Layer.{layer}
use Rattle.batch_laws.specs.Counts.{most_from}
use Rattle.change_laws.specs.Told.{KeyChange, undone}
use Rattle.change_laws.specs.Within.{is_within}
use Rattle.change_laws.specs.Given.{ChangeFault, BlockMissing, BadNode, TooDeep, NotTree, OtherValue, OtherRoot, given_at, unshown, stop_fault_of, or_stop, or_fault, batch_over, batch_given}
use Rattle.change_laws.specs.Verdict.{values_given, is_same, are_told, change_verdict}
use Rattle.change_laws.specs.Laws.{IsSo, FaultsAreSo}
use Rattle.change_laws.proofs.Showing.{whole, met}

err-is : {A E : Type 0} (x y : E) → ◌≡◌ {A = Result A E} (Err x) (Err y) → x ≡ y
err-is x y q = cc

-- ---- which faults come from where

abbrev IsOfValues : ChangeFault → Type 0
IsOfValues (BlockMissing c) = ⊥
IsOfValues (BadNode c) = ⊥
IsOfValues TooDeep = ⊥
IsOfValues NotTree = ⊥
IsOfValues (OtherValue place) = Unit {0}
IsOfValues OtherRoot = ⊥

abbrev AreOfValues : Result (Unit {0}) ChangeFault → Type 0
AreOfValues (Ok x) = Unit {0}
AreOfValues (Err f) = IsOfValues f

told-case : (b : Bool) (place : ℕ) (rest : Result (Unit {0}) ChangeFault) → AreOfValues rest
    → AreOfValues (ensure b (OtherValue place) >>= (λ same. rest))
told-case true place rest h = h
told-case false place rest h = tt

of-values : (place : ℕ) (vs : List (Option (List ℕ))) (cs : List KeyChange) → AreOfValues (are_told place vs cs)
of-values place [] [] = tt
of-values place [] (c ∷ cs) = tt
of-values place (v ∷ vs) [] = tt
of-values place (v ∷ vs) (c ∷ cs) = told-case (is_same v c.after) place (are_told (suc place) vs cs) (of-values (suc place) vs cs)

abbrev IsOfReading : ChangeFault → Type 0
IsOfReading (BlockMissing c) = Unit {0}
IsOfReading (BadNode c) = Unit {0}
IsOfReading TooDeep = Unit {0}
IsOfReading NotTree = Unit {0}
IsOfReading (OtherValue place) = ⊥
IsOfReading OtherRoot = ⊥

abbrev AreOfReading : {A : Type 0} → Result A ChangeFault → Type 0
AreOfReading (Ok x) = Unit {0}
AreOfReading (Err f) = IsOfReading f

module _ (gives : List ℕ → Option (List ℕ)) where
  of-unshown : (c : List ℕ) (o : Option (List ℕ)) → IsOfReading (unshown c o)
  of-unshown c None = tt
  of-unshown c (Some b) = tt

  of-why : (why : Stop) → IsOfReading (stop_fault_of gives why)
  of-why (NotShown c) = of-unshown c (gives c)
  of-why LinkTooDeep = tt

  of-stop : (step : Step Top) → AreOfReading (or_stop gives step)
  of-stop (Ok x) = tt
  of-stop (Err e) = of-why e.why

  of-step : (most : ℕ) (step : Step Top) → AreOfReading (or_fault gives most step)
  of-step most step = by (is_within most step)
    where
      by : (b : Bool) → AreOfReading (cond b (or_stop gives step) (Err NotTree))
      by true = of-stop step
      by false = tt

-- ---- what is judged

abbrev IsJudgedSo : Result (Unit {0}) ChangeFault → Bool → ChangeFault → Type 0
IsJudgedSo told b (BlockMissing c) = Unit {0}
IsJudgedSo told b (BadNode c) = Unit {0}
IsJudgedSo told b TooDeep = Unit {0}
IsJudgedSo told b NotTree = Unit {0}
IsJudgedSo told b (OtherValue place) = told ≡ Err (OtherValue place)
IsJudgedSo told b OtherRoot = (told ≡ Ok tt) × (b ≡ false)

own-so : (b : Bool) (f : ChangeFault) → IsOfValues f → IsJudgedSo (Err f) b f
own-so b (BlockMissing c) h = absurd h
own-so b (BadNode c) h = absurd h
own-so b TooDeep h = absurd h
own-so b NotTree h = absurd h
own-so b (OtherValue place) h = refl
own-so b OtherRoot h = absurd h

judged-so : (told : Result (Unit {0}) ChangeFault) → AreOfValues told → (b : Bool) (fault : ChangeFault)
    → (told >>= (λ x. ensure b OtherRoot)) ≡ Err fault → IsJudgedSo told b fault
judged-so (Ok tt) h true fault e = absurd cc
judged-so (Ok tt) h false fault e = subst (IsJudgedSo (Ok tt) false) (err-is OtherRoot fault e) (refl, refl)
judged-so (Err f) h b fault e = subst (IsJudgedSo (Err f) b) (err-is f fault e) (own-so b f h)

pub faults-are_so : FaultsAreSo
unfolding change_verdict
faults-are_so digest bits fits before new are given free cs keyed fault e =
    by (batch_given digest bits given (undone cs) (root digest bits new)) refl
    (of-step (given_at digest given) (most_from (layer digest bits) (undone cs) (shown_by (given_at digest given) (root digest bits new)))
    (batch_over digest bits (given_at digest given) (undone cs) (root digest bits new))) e
  where
    read-so : (f : ChangeFault) → IsOfReading f → IsSo digest bits before cs new f
    read-so (BlockMissing c) h = tt
    read-so (BadNode c) h = tt
    read-so TooDeep h = tt
    read-so NotTree h = tt
    read-so (OtherValue place) h = absurd h
    read-so OtherRoot h = absurd h

    same-root : (old : List ℕ) → old ≡ root digest bits (changed (undone cs) new) → bytes_eq old before ≡ false
        → before ≡ root digest bits (changed (undone cs) new) → ⊥
    same-root old q r s =
        let t : bytes_eq old before ≡ true = (bytes_eq-Decides old before).1 (q ∙ sym s) in
        cc

    told-so : (old : List ℕ) → old ≡ root digest bits (changed (undone cs) new) → (values_given digest bits given (undone cs) (root digest bits new)) ≡ values (undone cs) new
        → (f : ChangeFault) → IsJudgedSo (are_told 0 (values_given digest bits given (undone cs) (root digest bits new)) cs) (bytes_eq old before) f → IsSo digest bits before cs new f
    told-so old q m (BlockMissing c) j = tt
    told-so old q m (BadNode c) j = tt
    told-so old q m TooDeep j = tt
    told-so old q m NotTree j = tt
    told-so old q m (OtherValue place) j = ap (λ us. are_told 0 us cs) (sym m) ∙ j
    told-so old q m OtherRoot j = (ap (λ us. are_told 0 us cs) (sym m) ∙ j.0, same-root old q j.1)

    by : (o : Result (Top × Log) ChangeFault) → batch_given digest bits given (undone cs) (root digest bits new) ≡ o → AreOfReading o
        → (o >>= (λ old. are_told 0 (values_given digest bits given (undone cs) (root digest bits new)) cs >>= (λ told. ensure (bytes_eq old.0.0 before) OtherRoot))) ≡ Err fault
        → IsSo digest bits before cs new fault
    by (Err f) q h r = subst (IsSo digest bits before cs new) (err-is f fault r) (read-so f h)
    by (Ok x) q h r =
        let w = whole digest bits fits given new are free (undone cs) x q in
        let m = met digest bits fits given new are free (undone cs) keyed.ascending w.0 in
        told-so x.0.0 w.1 m fault (judged-so (are_told 0 (values_given digest bits given (undone cs) (root digest bits new)) cs) (of-values 0 (values_given digest bits given (undone cs) (root digest bits new)) cs) (bytes_eq x.0.0 before) fault r)
