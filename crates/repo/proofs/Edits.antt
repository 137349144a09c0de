-- The edit of a batch that passed its tests, as what the batch exchanges.
use Rattle.std.proofs.Common.{◌≡◌, ℕ, List, [], ◌∷◌, ◌++◌, sym, ap, subst, ◌∙◌, map as each, Option}
use Rattle.std.specs.Arc.{arc_value}
use Rattle.std.specs.List.{cons_option}
use Rattle.spec.specs.Cid.{cid, IsDigest}
use Rattle.spec.specs.Blocks.{IsClashIn, nodes, pairs}
use Rattle.spec.specs.Tree.{Pair}
use Rattle.spec.specs.Commits.{commit_bytes}
use Rattle.spec.specs.States.{State, records}
use Rattle.spec.specs.Writes.{Write}
use Rattle.batch_laws.specs.Batch.{Change, changed}
use Rattle.batch_laws.specs.Collecting.{collected, with_cids}
use Rattle.batch_laws.specs.Previous.{values}
use Rattle.batch_laws.specs.Uses.{present_values, records_come}
use Rattle.batches.specs.Values.{stamp_of}
use Rattle.batches.specs.declared.stamp.Stamp.{Stamp}
use Rattle.edit.specs.Refusals.{IsRefusal}
use Rattle.edit.specs.declared.outcome.BatchEdit.{BatchEdit}
use Rattle.edit.specs.declared.outcome.EditFault.{EditFault}
use Rattle.edit.specs.declared.outcome.EditFault.TheVariants as edits
use Rattle.kept.specs.Counts.{Counts, bytes_at}
use Rattle.lookups.specs.Trees.{HasTree}
use Rattle.repo.specs.Edits.{IsEditMade, IsTestedOn}
use Rattle.repo.specs.Exchanging.{IsExchangeOf}
use Rattle.repo.specs.Tested.{changes_in}
use Rattle.repo.specs.declared.changes.Collected.{Collected}
use Rattle.repo.proofs.Keeping.{kept-tree}

module _ {A : Type 0} (digest : List ℕ → List ℕ) (bits : ℕ) (s : State) (batch : List Write) (root : List ℕ) (last : Option (List ℕ))
    (stamp : Stamp A) (changes : Collected A) (m : Counts) (on : IsTestedOn digest bits s batch root last stamp changes m) where
  pub tested-tree : IsDigest digest → HasTree digest bits (bytes_at m) root (pairs digest (records s))
  tested-tree fits =
      subst (λ (r : List ℕ). HasTree digest bits (bytes_at m) r (pairs digest (records s))) (sym on.root_is)
      (kept-tree digest bits fits s m on.lawful on.kept)

  pub exchange-made : {D : Type 0} (edit : BatchEdit D A) (came : List (List ℕ)) (block commit : List ℕ) (come go : List (List ℕ))
      → IsEditMade digest bits (with_cids digest (changes_in changes)) (pairs digest (records s)) edit
      → came ≡ records_come (changes_in changes) → block ≡ commit_bytes (stamp_of stamp) edit.root → commit ≡ cid digest block
      → come ≡ (each arc_value edit.add.items ++ came) ++ block ∷ []
      → go ≡ (edit.drop.items ++ present_values edit.previous.items) ++ cons_option last []
      → IsExchangeOf digest bits s (stamp_of stamp) batch edit.root commit (each arc_value edit.add.items) come edit.drop.items go
  exchange-made edit came block commit come go h r b n x y =
      let cs = with_cids digest (collected batch) in
      let made : IsEditMade digest bits cs (pairs digest (records s)) edit =
      subst (λ (c : List Change). IsEditMade digest bits (with_cids digest c) (pairs digest (records s)) edit) on.changes_are h in
      record {
        passes = on.passes;
        root_is = made.root_is;
        changes = made.changes;
        come_is = x ∙ ap (λ (bs : List (List ℕ)). (each arc_value edit.add.items ++ bs) ++ block ∷ []) (r ∙ ap records_come on.changes_are)
            ∙ ap (λ (z : List ℕ). (each arc_value edit.add.items ++ records_come (collected batch)) ++ z ∷ []) b;
        commit_is = n ∙ ap (cid digest) b;
        go_is = y ∙ ap (λ (os : List (Option (List ℕ))). (edit.drop.items ++ present_values os) ++ cons_option last []) made.previous_is
            ∙ ap (λ (o : Option (List ℕ)). (edit.drop.items ++ present_values (values cs (pairs digest (records s)))) ++ cons_option o []) on.commit_is;
      }

-- two nodes that clash, as a fault here
pub edit-clash : {D A : Type 0} (digest : List ℕ → List ℕ) (bits : ℕ) (es : List Pair) (cs ds : List Change) (found : EditFault D A) (pair : List ℕ × List ℕ) → cs ≡ ds → found ≡ edits.Clash pair
    → IsRefusal digest (nodes digest bits es ++ nodes digest bits (changed cs es)) ⊥ found → IsClashIn digest (nodes digest bits es ++ nodes digest bits (changed ds es)) pair
edit-clash {D} {A} digest bits es cs ds found pair c e h =
    subst (λ (xs : List Change). IsClashIn digest (nodes digest bits es ++ nodes digest bits (changed xs es)) pair) c
    (subst (λ (f : EditFault D A). IsRefusal digest (nodes digest bits es ++ nodes digest bits (changed cs es)) ⊥ f) e h)
