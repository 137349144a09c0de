-- One change of a tree as an edit: what a put and a delete have in common.
use Rattle.std.proofs.Common.{◌≡◌, ℕ, suc, ◌+◌, ◌-◌, ◌*◌, ◌<◌, ◌≤◌, max, true, ◌&&◌, List, [], ◌∷◌, ◌++◌, length, Option, refl, ap, subst, ◌∙◌, arith}
use Rattle.std.specs.declared.option.Option.TheVariants.{Some, None}
use Rattle.spec.specs.Cid.{IsDigest}
use Rattle.spec.specs.Layer.{layer}
use Rattle.spec.specs.Tree.{Pair, top, top_layer}
use Rattle.spec.specs.NodeFormat.{is_key}
use Rattle.spec.specs.Blocks.{IsClashFree, nodes, root as root_of}
use Rattle.spec.proofs.PathNodes.{top_layer-le}
use Rattle.edit_laws.specs.Changes.{AreChanges}
use Rattle.edit_laws.specs.TreeEdit.{layer_of}
use Rattle.edit_laws.proofs.Tops.{layer_of-top}
use Rattle.batch_laws.specs.Batch.{changed}
use Rattle.batch_laws.specs.Counts.{put_layers}
use Rattle.edit.specs.Edits.{IsEditOf}
use Rattle.lookups.specs.Steps.{layers}
use Rattle.edit.specs.declared.outcome.Fault.{Fault}
use Rattle.edit.specs.declared.outcome.Fault.TheVariants as walks
use Rattle.edit.specs.Batches.{layers_of, nodes_read, IsBatchOf, of_walk}
use Rattle.key_changes.specs.Keyed.{are_changes}
use Rattle.edit.specs.Refusals.{IsAbsence}
use Rattle.edit.specs.Singles.{first_value}

pub are-one : (key : List ℕ) (v : Option (List ℕ)) → is_key key ≡ true → are_changes ((key, v) ∷ []) ≡ true
are-one key v h = ap (λ b. b && true) h

-- each key has one of the layers that a tree may have
pub low-key : (digest : List ℕ → List ℕ) (bits : ℕ) → IsDigest digest → (key : List ℕ) → layer digest bits key < layers bits
low-key digest bits fits key =
    let a = top_layer-le digest bits fits ((key, []) ∷ []) in omega (arith, a)

wanted-few : (lay : List ℕ → ℕ) (key : List ℕ) (v : Option (List ℕ)) → put_layers lay ((key, v) ∷ []) ≤ suc (lay key)
wanted-few lay key None = omega arith
wanted-few lay key (Some v) = omega arith

few-blocks : (a t u k w n : ℕ) → n ≡ max (suc t) w → w ≤ suc k → u ≡ t → a ≤ (n - t) + 1 * (n + t)
    → a ≤ 2 * suc (max u k)
few-blocks a t u k w n n_is few same h = omega arith

pub edit-of_batch : (digest : List ℕ → List ℕ) (bits : ℕ) (key : List ℕ) (v : Option (List ℕ)) (es fs : List Pair)
    (read : List (List ℕ)) (root : List ℕ) (add drop : List (List ℕ)) (had : List (Option (List ℕ)))
    (previous : Option (List ℕ)) → changed ((key, v) ∷ []) es ≡ fs → nodes_read digest bits ((key, v) ∷ []) es ≡ read
    → IsBatchOf digest bits ((key, v) ∷ []) es root add drop had → previous ≡ first_value had
    → IsEditOf digest bits es fs key read root add drop previous
edit-of_batch digest bits key v es fs read root add drop had previous leaves reads b first =
    let lay = layer digest bits in
    record {
      root_is = b.root_is ∙ ap (root_of digest bits) leaves;
      previous_is = first ∙ ap first_value b.previous_is;
      changes = subst (λ ps. AreChanges digest (nodes digest bits es) (nodes digest bits ps) read add drop) leaves
          (subst (λ bs. AreChanges digest (nodes digest bits es) (nodes digest bits (changed ((key, v) ∷ []) es)) bs add drop)
          reads b.changes);
      clash_free = subst (λ bs. IsClashFree digest (add ++ bs)) reads b.clash_free;
      count = few-blocks (length add) (top_layer lay es) (layer_of lay (top lay es)) (lay key) (put_layers lay ((key, v) ∷ []))
          (layers_of digest bits ((key, v) ∷ []) es) refl (wanted-few lay key v) (layer_of-top lay es) b.count;
    }

-- the walk stops for no clash
pub walk-absence : (D A : Type 0) (fault : Fault) → IsAbsence {D = D} {A = A} (of_walk fault)
walk-absence D A (walks.Missing c) = tt
walk-absence D A (walks.BadNode c) = tt
walk-absence D A walks.TooDeep = tt
walk-absence D A walks.NotTree = tt
walk-absence D A walks.NoMemory = tt
