-- What is answered for a verdict.
use Rattle.std.proofs.Common.{◌≡◌, ℕ, List, refl, subst, sym, false}
use Rattle.std.specs.Prelude.{Option, Result, Ok, Err, IfErr, IfSome, IsErrAnd}
use Rattle.console.specs.Lines.{lines}
use Rattle.change_proofs.specs.declared.change_fault.ChangeFault.{ChangeFault}
use Rattle.change_proofs.specs.declared.change_fault.ChangeFault.TheVariants as faults
use Rattle.repository_commands.specs.Faults.{Fault}
use Rattle.repository_commands.specs.Refusals.{is_refusal}
use Rattle.repository_commands.specs.declared.fault.TextFault.{TextFault}
use Rattle.repository_commands.specs.declared.fault.TextFault.TheVariants as errors
use Rattle.console.proofs.Known.{always_known, for_known}
use Rattle.repository_commands.proofs.Making.{passed}
use Rattle.change_commands.specs.Directions.{IsAnswer}
use Rattle.change_commands.specs.declared.direction.Direction.{Direction}
use Rattle.change_commands.specs.Texts.{unshown_as, IsUnshown, IsUnshownBy}
use Rattle.change_commands.specs.Told.{Told, told_in}

-- what a verifier answers for what is told
abbrev pub Answer : (List ℕ → List ℕ) → Direction → Told → ChangeFault → Type 0
Answer digest direction t f = IsAnswer digest direction t.before t.after t.blocks t.changes (Err f)

pub unshown-is : (digest : List ℕ → List ℕ) (direction : Direction) (t : Told) (D A : Type 0) (f : ChangeFault)
    → Answer digest direction t f → IsUnshownBy digest direction (Ok t) (unshown_as {D = D} {A = A} t.numbers f)
unshown-is digest direction t D A (faults.BlockMissing c) is = is
unshown-is digest direction t D A (faults.BadNode c) is = is
unshown-is digest direction t D A faults.TooDeep is = is
unshown-is digest direction t D A faults.NotTree is = is
unshown-is digest direction t D A (faults.OtherValue place) is = refl
unshown-is digest direction t D A faults.OtherRoot is = is
unshown-is digest direction t D A faults.NoMemory is = refl

module _ {D A : Type 0} (digest : List ℕ → List ℕ) (direction : Direction) where
  -- what refuses nothing says nothing of changes
  refuses_nothing : (told : Result Told Fault) (e : TextFault D A) → is_refusal e ≡ false → IsUnshownBy digest direction told e
  refuses_nothing (Err f) e is = is
  refuses_nothing (Ok t) errors.BadDid is = is
  refuses_nothing (Ok t) errors.BadRev is = is
  refuses_nothing (Ok t) errors.BadSig is = is
  refuses_nothing (Ok t) errors.NothingToSign is = is
  refuses_nothing (Ok t) (errors.Root f) is = is
  refuses_nothing (Ok t) (errors.BadBefore f) is = is
  refuses_nothing (Ok t) (errors.BadAfter f) is = is
  refuses_nothing (Ok t) (errors.Proof f) is = is
  refuses_nothing (Ok t) errors.OtherBefore is = is
  refuses_nothing (Ok t) errors.OtherAfter is = is
  refuses_nothing (Ok t) (errors.Change f) is = absurd cc
  refuses_nothing (Ok t) (errors.Line n f) is = is
  refuses_nothing (Ok t) errors.NoMemory is = is
  refuses_nothing (Ok t) errors.ReadFailed is = is

module _ {X D A : Type 0} (digest : List ℕ → List ℕ) (direction : Direction) where
  abbrev pub Unshown : Option (List ℕ) → Result X (TextFault D A) → Type 0
  Unshown input r = IfErr r (λ e. IfSome input (λ xs. IsUnshown digest direction xs e))

  -- such a fault is passed on
  pub unshown-passed : (input : Option (List ℕ)) (r : Result X (TextFault D A)) (f : TextFault D A) → IsErrAnd r (λ e. e ≡ f) → is_refusal f ≡ false → Unshown input r
  unshown-passed input r f e is = passed (Unshown input) r f e (always_known _ input (λ xs. refuses_nothing digest direction (told_in (lines xs)) f is))

  -- what is told is that of the input
  pub unshown-told : (input : Option (List ℕ)) (r : Result X (TextFault D A)) (t : Told) → IfSome input (λ xs. told_in (lines xs) ≡ Ok t) → IfErr r (IsUnshownBy digest direction (Ok t)) → Unshown input r
  unshown-told input (Ok x) t told is = tt
  unshown-told input (Err e) t told is = for_known _ _ input (λ xs same. subst (λ q. IsUnshownBy digest direction q e) (sym same) is) told
