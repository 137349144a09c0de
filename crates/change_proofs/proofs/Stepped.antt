-- What is answered of the way back is the answer of a step.
use Rattle.std.proofs.Common.{◌≡◌, ℕ, suc, max, true, List, map, sym, subst, ◌∙◌, Result, Ok, Err}
use Rattle.std.specs.Prelude.{Contains}
use Rattle.spec.specs.Cid.{IsDigest}
use Rattle.spec.specs.Layer.{layer}
use Rattle.spec.specs.Tree.{top, top_layer}
use Rattle.spec.specs.NodeFormat.{node_bytes}
use Rattle.batch_laws.specs.Batch.{AreKeyed}
use Rattle.batch_laws.specs.Counts.{put_layers}
use Rattle.batch_laws.specs.Trace.{batch_read}
use Rattle.key_changes.specs.Keyed.{are_changes}
use Rattle.key_changes.proofs.Ascending.{are-keyed}
use Rattle.change_laws.specs.Told.{KeyChange, undone}
use Rattle.step_laws.specs.Turned.{turned, done}
use Rattle.step_laws.specs.Step.{step_verdict}
use Rattle.step_laws.proofs.Turning.{undone-turned, turned-differ}
use Rattle.step_laws.proofs.Stepping.{step-true}
use Rattle.change_proofs.specs.Verdicts.{IsWhole}
use Rattle.change_proofs.specs.StepVerdicts.{IsStepVerdict, IsStepRight, IsStepWhole}
use Rattle.change_proofs.specs.declared.change_fault.ChangeFault.{ChangeFault}
use Rattle.change_proofs.proofs.Keys.{taken-done}

pub keyed-done : (cs : List KeyChange) → are_changes (undone cs) ≡ true → AreKeyed (done cs)
keyed-done cs h = are-keyed (done cs) (sym (taken-done cs) ∙ h)

module _ (digest : List ℕ → List ℕ) (bits : ℕ) (before after : List ℕ) (given : List (List ℕ)) (cs : List KeyChange) where
  pub step-right : IsDigest digest → AreKeyed (done cs) → (result : Result (Unit {0}) ChangeFault)
      → IsStepVerdict digest bits before after given cs result → IsStepRight digest bits before after given cs result
  step-right fits keyed (Ok x) h old are is free =
      step-true digest bits fits after old are given free cs keyed
      (subst (λ b. step_verdict digest bits b after given cs ≡ Ok tt) is h)
  step-right fits keyed (Err fault) h old are is free = tt

  pub step-whole : (result : Result (Unit {0}) ChangeFault) → IsWhole digest bits after before given (turned cs) result
      → IsStepWhole digest bits before after given cs result
  step-whole result w old new are_old are_new before_is after_is free differ has =
      w new old are_new are_old after_is before_is free (turned-differ cs old new differ)
      (λ b c. has b (subst (λ us. Contains (map (node_bytes digest)
      (batch_read (layer digest bits) (max (suc (top_layer (layer digest bits) old)) (put_layers (layer digest bits) us)) us
      (top (layer digest bits) old))) b) (undone-turned cs) c))
