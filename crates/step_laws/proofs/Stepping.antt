-- The laws of a step follow from those of the way back.
use Rattle.std.proofs.Common.{ℕ, suc, max, List, map, sym, ap, subst, ◌∙◌}
use Rattle.std.specs.Prelude.{Contains}
use Rattle.spec.specs.Layer.{layer as layer_of_key}
use Rattle.spec.specs.Tree.{Pair, top, top_layer}
use Rattle.spec.specs.NodeFormat.{node_bytes}
use Rattle.spec.specs.Blocks.{root}
use Rattle.batch_laws.specs.Batch.{changed, AreKeyed}
use Rattle.batch_laws.specs.Counts.{put_layers}
use Rattle.batch_laws.specs.Previous.{values}
use Rattle.batch_laws.specs.Trace.{batch_read}
use Rattle.change_laws.specs.Told.{KeyChange, undone, DifferBy}
use Rattle.change_laws.specs.Given.{ChangeFault, BlockMissing, BadNode, TooDeep, NotTree, OtherValue, OtherRoot}
use Rattle.change_laws.specs.Verdict.{are_told}
use Rattle.change_laws.specs.Laws.{IsSo}
use Rattle.change_laws.proofs.Faults.{faults-are_so}
use Rattle.change_laws.proofs.Missing.{missing-is_missing}
use Rattle.change_laws.proofs.Showing.{verdict-sound, verdict-complete}
use Rattle.change_laws.proofs.Unblamed.{tree-only_missing}
use Rattle.step_laws.specs.Turned.{turned, done}
use Rattle.step_laws.specs.StepLaws.{StepIsTrue, StepIsComplete, IsSoBefore, StepFaultsAreSo, StepOnlyMissing, StepMissingIsMissing}
use Rattle.step_laws.proofs.Turning.{undone-turned, differ-turned, turned-differ}

turned-keyed : (cs : List KeyChange) → AreKeyed (done cs) → AreKeyed (undone (turned cs))
turned-keyed cs keyed = subst AreKeyed (sym (undone-turned cs)) keyed

pub step-true : StepIsTrue
step-true digest bits fits after old are given free cs keyed e =
    let is = undone-turned cs in
    let s = verdict-sound digest bits fits after old are given free (turned cs) (turned-keyed cs keyed) e in
    record {
      root_is = s.root_is ∙ ap (λ us. root digest bits (changed us old)) is;
      differ = differ-turned cs old (changed (done cs) old)
          (subst (λ us. DifferBy (turned cs) (changed us old) old) is s.differ);
    }

pub step-complete : StepIsComplete
step-complete digest bits fits old new are_old are_new given free cs keyed differ has =
    let layer = layer_of_key digest bits in
    verdict-complete digest bits fits new old are_new are_old given free (turned cs) (turned-keyed cs keyed)
    (turned-differ cs old new differ)
    (λ b c. has b (subst (λ us. Contains (map (node_bytes digest)
    (batch_read layer (max (suc (top_layer layer old)) (put_layers layer us)) us (top layer old))) b) (undone-turned cs) c))

-- ---- faults

so-before : (digest : List ℕ → List ℕ) (bits : ℕ) (after : List ℕ) (cs : List KeyChange) (old : List Pair)
    (fault : ChangeFault) → IsSo digest bits after (turned cs) old fault → IsSoBefore digest bits after cs old fault
so-before digest bits after cs old (BlockMissing c) h = tt
so-before digest bits after cs old (BadNode c) h = tt
so-before digest bits after cs old TooDeep h = tt
so-before digest bits after cs old NotTree h = tt
so-before digest bits after cs old (OtherValue place) h =
    ap (λ us. are_told 0 (values us old) (turned cs)) (sym (undone-turned cs)) ∙ h
so-before digest bits after cs old OtherRoot h = (
  ap (λ us. are_told 0 (values us old) (turned cs)) (sym (undone-turned cs)) ∙ h.0,
  λ e. h.1 (e ∙ ap (λ us. root digest bits (changed us old)) (sym (undone-turned cs))),
)

pub step-faults_are_so : StepFaultsAreSo
step-faults_are_so digest bits fits after old are given free cs keyed fault e =
    so-before digest bits after cs old fault
    (faults-are_so digest bits fits after old are given free (turned cs) (turned-keyed cs keyed) fault e)

pub step-only_missing : StepOnlyMissing
step-only_missing digest bits fits es are free given others after cs keyed fault e =
    tree-only_missing digest bits fits es are free given others after (turned cs) (turned-keyed cs keyed) fault e

pub step-missing_is_missing : StepMissingIsMissing
step-missing_is_missing digest bits before after given cs c e =
    missing-is_missing digest bits after before given (turned cs) c e
