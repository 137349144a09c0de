-- Proofs of changes, from one core to the host.
use Rattle.std.proofs.Common.{◌≡◌, ◌<◌, ◌∙◌, ℕ, List, Bool, true, false, not, refl, sym, subst}
use Rattle.std.proofs.lemmas.Slice.Eq.{bytes_eq-Decides}
use Rattle.std.specs.Prelude.{Result, Ok, Err, IfOk, OnOk}
use Rattle.std.specs.Str.{bytes_eq}
use Rattle.spec.specs.States.{State, state_root}
use Rattle.change_laws.specs.Told.{KeyChange}
use Rattle.change_proofs.specs.Provings.{IsUntrue}
use Rattle.change_proofs.specs.declared.proving_fault.ProvingFault.{ProvingFault}
use Rattle.change_proofs.specs.declared.proving_fault.ProvingFault.TheVariants as provings
use Rattle.host.specs.Seeing.{IsRooted, IsSeen, wanted_of}
use Rattle.host.specs.Views.{HostView}
use Rattle.host_exports.specs.ChangeProofs.{IsNoStepIn, IsNoInversionIn, IsProveChangeFault, IsProveInversionFault, of_proving}
use Rattle.host_exports.specs.declared.fault.ProveChangeFault.{ProveChangeFault}
use Rattle.host_exports.specs.declared.fault.ProveChangeFault.TheVariants as steps
use Rattle.host_exports.specs.declared.fault.ProveInversionFault.{ProveInversionFault}
use Rattle.host_exports.specs.declared.fault.ProveInversionFault.TheVariants as inversions

-- ---- the root of a core, and the one that the caller names

not-false : (b : Bool) → not b ≡ false → b ≡ true
not-false true n = refl
not-false false n = absurd cc

pub own-root : (x y root : List ℕ) → not (bytes_eq x y) ≡ false → x ≡ root → root ≡ y
own-root x y root n is = sym is ∙ (bytes_eq-Decides x y).0 (not-false (bytes_eq x y) n)

pub other-root : (x y root : List ℕ) → not (bytes_eq x y) ≡ true → x ≡ root → ¬ (root ≡ y)
other-root x y root n is same =
    let same_bytes : bytes_eq x y ≡ true = (bytes_eq-Decides x y).1 (is ∙ same) in
    absurd (let no : not true ≡ true = subst (λ b. not b ≡ true) same_bytes n in cc)

-- where a core of a host is seen
module _ (digest : List ℕ → List ℕ) (bits : ℕ) (h : HostView) (repo : ℕ) (root : List ℕ) (s : State) (less : repo < h.repos)
    (seen : IsSeen (wanted_of h repo 0) s) where
  -- what it proves
  pub proved : {T E : Type 0} (r : Result T E) (Q : State → T → Type 0) → OnOk r (state_root digest bits s ≡ root) → IfOk r (Q s)
      → IfOk r (λ x. (t : State) × IsRooted digest bits (wanted_of h repo 0) root t × Q t x)
  proved (Ok x) Q is q = (s, record { seen = seen; root_is = is }, q)
  proved (Err e) Q is q = tt

  -- where that is two things
  pub both-proved : {T E : Type 0} (r : Result T E) (P Q : State → T → Type 0) → OnOk r (state_root digest bits s ≡ root)
      → IfOk r (P s) → IfOk r (Q s)
      → IfOk r (λ x. (t : State) × IsRooted digest bits (wanted_of h repo 0) root t × P t x × Q t x)
  both-proved (Ok x) P Q is p q = (s, record { seen = seen; root_is = is }, p, q)
  both-proved (Err e) P Q is p q = tt

  -- why it proves nothing
  pub step-fault : (fault : ProveChangeFault) → IsNoStepIn digest bits s root fault → IsProveChangeFault digest bits h repo root fault
  step-fault steps.NoSuchRepository n = absurd n
  step-fault steps.OtherRoot n = (less, (s, seen, n))
  step-fault steps.NoMemory n = less

  pub inversion-fault : (cs : List KeyChange) (fault : ProveInversionFault) → IsNoInversionIn digest bits s root cs fault
      → IsProveInversionFault digest bits h repo root cs fault
  inversion-fault cs inversions.NoSuchRepository n = absurd n
  inversion-fault cs inversions.OtherRoot n = (less, (s, seen, n))
  inversion-fault cs (inversions.OtherValue place) n = (less, (s, record { seen = seen; root_is = n.0 }, n.1))
  inversion-fault cs inversions.NoMemory n = less

-- a fault of a core with this root
pub core-fault : (digest : List ℕ → List ℕ) (bits : ℕ) (root : List ℕ) (s : State) (cs : List KeyChange) (fault : ProvingFault)
    → state_root digest bits s ≡ root → IsUntrue digest s cs fault → IsNoInversionIn digest bits s root cs (of_proving fault)
core-fault digest bits root s cs (provings.OtherValue place) is u = (is, u)
core-fault digest bits root s cs provings.NoMemory is u = tt
