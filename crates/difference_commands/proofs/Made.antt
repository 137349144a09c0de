-- What is told of two files, from what was compared of them.
use Rattle.std.proofs.Common.{◌≡◌, ℕ, List, map, sym, ap, subst, ◌∙◌}
use Rattle.std.specs.Arc.{arc_value}
use Rattle.std.specs.Prelude.{Option, option_map, Result, Ok, Err, IfErr, IfOk, IsErrAnd}
use Rattle.difference.specs.Differences.{IsDifferenceOf}
use Rattle.difference.specs.Merged.{changes_told}
use Rattle.spec.specs.Blocks.{root}
use Rattle.spec.specs.Tree.{Pair}
use Rattle.difference_commands.specs.Files.{IsContents, said_commit, said_pairs, said_records}
use Rattle.difference_commands.specs.Faults.{of_trees}
use Rattle.difference_commands.specs.Forms.{form_of}
use Rattle.difference_commands.specs.Slices.{coming}
use Rattle.difference_commands.specs.Texts.{Coming, lines_text, slice_if}
use Rattle.difference_commands.specs.Trees.{IsClashBetween}
use Rattle.export_commands.specs.Texts.{Records}
use Rattle.difference_commands.specs.Views.{Entry, pairs_in, records_in}
use Rattle.difference_commands.specs.declared.told.Told.{Told}
use Rattle.difference_commands.specs.declared.trees.Compared.{Compared}
use Rattle.difference_commands.specs.declared.trees.TreesFault.{TreesFault}
use Rattle.difference_commands.specs.declared.trees.TreesFault.TheVariants as trees_faults
use Rattle.difference_commands.specs.Outcomes.{AreTexts, AreTextsBetween, AreTextsOf, IsFault, IsFaultBetween}
use Rattle.difference_commands.specs.declared.command.ChangesCommand.{ChangesCommand}
use Rattle.difference_commands.specs.declared.contents.Contents.{Contents}
use Rattle.difference_commands.specs.declared.fault.ChangesFault.{ChangesFault}
use Rattle.difference_commands.specs.declared.fault.ChangesFault.TheVariants as errors

module _ {A : Type 0} (digest : List ℕ → List ℕ) (command : ChangesCommand) (old new : List ℕ) (before after : Contents A)
    (old_is : IsContents digest command (form_of command.form old) old before)
    (new_is : IsContents digest command (form_of command.form new) new after) where
  -- what is told of what was read of the files is told of these
  pub texts-of : (lines : List ℕ) (sliced : Option (List ℕ)) → AreTextsBetween digest command before after lines sliced
      → AreTextsOf digest command old new lines sliced
  texts-of lines sliced t = record {
    before = said_pairs digest before;
    old_records = said_records before;
    old_says = old_is.says;
    after = said_pairs digest after;
    new_records = said_records after;
    new_says = new_is.says;
    commit = said_commit after;
    commit_is = new_is.commit;
    texts = t;
  }

  pub clash-of : (fault : ChangesFault) → IsFaultBetween digest (said_pairs digest before) (said_pairs digest after) fault
      → IsFault digest command old new fault
  clash-of (errors.Old f) h = absurd h
  clash-of (errors.New f) h = absurd h
  clash-of (errors.OldUnread f) h = absurd h
  clash-of (errors.NewUnread f) h = absurd h
  clash-of errors.Clash h = record {
    before = said_pairs digest before;
    old_records = said_records before;
    old_says = old_is.says;
    after = said_pairs digest after;
    new_records = said_records after;
    new_says = new_is.says;
    clash = h;
  }
  clash-of errors.NoMemory h = tt

-- ---- what the two trees come to

module _ (digest : List ℕ → List ℕ) (es fs : List Pair) where
  -- a fault of both trees
  fault-between : (f : TreesFault) → IsClashBetween digest es fs f → IsFaultBetween digest es fs (of_trees f)
  fault-between trees_faults.Clash h = h
  fault-between trees_faults.NoMemory h = tt

  pub handed-on : {T : Type 0} (f : TreesFault) (r : Result T ChangesFault) → IsErrAnd r (λ x. x ≡ of_trees f)
      → IsClashBetween digest es fs f → IfErr r (IsFaultBetween digest es fs)
  handed-on f (Ok x) e h = tt
  handed-on f (Err x) e h = subst (IsFaultBetween digest es fs) (sym e) (fault-between f h)

-- what is told of what was compared is told of the entries
module _ {D A : Type 0} (digest : List ℕ → List ℕ) (command : ChangesCommand) (commit : Option (List ℕ)) (old new : List Entry)
    (compared : Compared D A)
    (differ : IsDifferenceOf digest 2 (pairs_in old) (pairs_in new)
    (changes_told compared.found.changes.items) (map arc_value compared.found.come.items) compared.found.go.items)
    (root_is : compared.root ≡ root digest 2 (pairs_in new)) where
  abbrev coming-at : List ℕ → Coming
  coming-at r = record { commit = commit; root = r; nodes = map arc_value compared.found.come.items }

  pub of-compared : (lines : List ℕ) (sliced : Option (List ℕ))
      → lines ≡ lines_text command.values (records_in old) (records_in new) (changes_told compared.found.changes.items)
      → sliced ≡ slice_if command.blocks digest (coming commit compared) (records_in new) (changes_told compared.found.changes.items)
      → AreTexts digest command commit (pairs_in old) (pairs_in new) (records_in old) (records_in new) lines sliced
  of-compared lines sliced lines-are slice-is = record {
    changes = changes_told compared.found.changes.items;
    differ = differ.differ;
    nodes = map arc_value compared.found.come.items;
    nodes_are = record { are = differ.come_is; once = differ.come_once };
    lines_are = lines-are;
    slice_is = slice-is
        ∙ ap (λ (r : List ℕ). slice_if command.blocks digest (coming-at r) (records_in new) (changes_told compared.found.changes.items)) root_is;
  }

-- ---- of what both files say, whose entries these are

module _ {A : Type 0} (digest : List ℕ → List ℕ) (command : ChangesCommand) (before after : Contents A) (old new : List Entry)
    (old_pairs : pairs_in old ≡ said_pairs digest before) (old_records : records_in old ≡ said_records before)
    (new_pairs : pairs_in new ≡ said_pairs digest after) (new_records : records_in new ≡ said_records after) where
  between : (lines : List ℕ) (sliced : Option (List ℕ))
      → AreTexts digest command (said_commit after) (pairs_in old) (pairs_in new) (records_in old) (records_in new) lines sliced
      → AreTextsBetween digest command before after lines sliced
  between lines sliced t =
      let commit = said_commit after in
      subst (λ (rs : Records). AreTexts digest command commit (said_pairs digest before) (said_pairs digest after) (said_records before) rs lines sliced) new_records
      (subst (λ (rs : Records). AreTexts digest command commit (said_pairs digest before) (said_pairs digest after) rs (records_in new) lines sliced) old_records
      (subst (λ (fs : List Pair). AreTexts digest command commit (said_pairs digest before) fs (records_in old) (records_in new) lines sliced) new_pairs
      (subst (λ (es : List Pair). AreTexts digest command commit es (pairs_in new) (records_in old) (records_in new) lines sliced) old_pairs t)))

  pub texts-between : {B : Type 0} (r : Result (Told B) ChangesFault)
      → IfOk r (λ t. AreTexts digest command (said_commit after) (pairs_in old) (pairs_in new) (records_in old) (records_in new)
      t.lines.items (option_map (λ bytes. bytes.items) t.slice))
      → IfOk r (λ t. AreTextsBetween digest command before after t.lines.items (option_map (λ bytes. bytes.items) t.slice))
  texts-between (Ok t) h = between t.lines.items (option_map (λ bytes. bytes.items) t.slice) h
  texts-between (Err f) h = tt

  pub fault-said : {T : Type 0} (r : Result T ChangesFault) → IfErr r (IsFaultBetween digest (pairs_in old) (pairs_in new))
      → IfErr r (IsFaultBetween digest (said_pairs digest before) (said_pairs digest after))
  fault-said (Ok x) h = tt
  fault-said (Err f) h =
      subst (λ (es : List Pair). IsFaultBetween digest es (said_pairs digest after) f) old_pairs
      (subst (λ (fs : List Pair). IsFaultBetween digest (pairs_in old) fs f) new_pairs h)
