-- How the command ends on two inputs, to the status.
use Rattle.std.proofs.Common.{◌≡◌, ◌⊎◌, ⊎_elim, inl, inr, ℕ, List, [], Some, None, refl, sym, subst, ◌∙◌, arith}
use Rattle.std.specs.Prelude.{◌≤◌, Option, option_map, Result, Ok, Err, IfErr, IfOk, IfSome}
use Rattle.std.proofs.lemmas.List.{append-nil}
use Rattle.std.specs.Io.KnownBytes.{Appends, Keeps}
use Rattle.console.proofs.Known.{keeps-itself}
use Rattle.console.proofs.Leaving.{Appends-append, Appends-kept, Appends-nil}
use Rattle.console.specs.Faults.{read_status, write_status}
use Rattle.console.specs.Files.{open_status}
use Rattle.console.specs.Saving.{save_status}
use Rattle.console.specs.Written.{AppendsBeginning}
use Rattle.console.specs.declared.save_fault.SaveFault.{SaveFault}
use Rattle.console.specs.declared.save_fault.SaveFault.TheVariants as saves
use Rattle.console.specs.declared.files.OpenFault.{OpenFault}
use Rattle.console.specs.declared.files.OpenFault.TheVariants as opens
use Rattle.console.specs.declared.reading.ReadFault.{ReadFault}
use Rattle.console.specs.declared.reading.ReadFault.TheVariants as reads
use Rattle.console.specs.declared.writing.WriteFault.{WriteFault}
use Rattle.console.specs.declared.writing.WriteFault.TheVariants as writes
use Rattle.repository_check.specs.Views.{check_fault_of}
use Rattle.spec.specs.Exports as exports
use Rattle.export_commands.specs.Faults as export
use Rattle.export_commands.specs.declared.fault.ExportFault.{ExportFault}
use Rattle.export_commands.specs.declared.fault.ExportFault.TheVariants as export_faults
use Rattle.tree_command.specs.Fault as tree
use Rattle.tree_command.specs.declared.fault.TreeFault.{TreeFault}
use Rattle.tree_command.specs.declared.fault.TreeFault.TheVariants as tree_faults
use Rattle.difference_commands.specs.RecordLines as lines
use Rattle.difference_commands.specs.Faults.{file_status, line_fault_of, line_status, lines_status, status_of}
use Rattle.difference_commands.specs.Outcomes.{AreTextsOf, IsBegunBy, IsEndOf, IsFault, IsFinish, IsSavedBy, IsStatusOf, OfInputs, SavesSliceOf}
use Rattle.difference_commands.specs.declared.command.ChangesCommand.{ChangesCommand}
use Rattle.difference_commands.specs.declared.fault.ChangesFault.{ChangesFault}
use Rattle.difference_commands.specs.declared.fault.ChangesFault.TheVariants as errors
use Rattle.difference_commands.specs.declared.lines_fault.LinesFault.{LinesFault}
use Rattle.difference_commands.specs.declared.lines_fault.LinesFault.TheVariants as lines_faults
use Rattle.difference_commands.specs.declared.file_fault.FileFault.{FileFault}
use Rattle.difference_commands.specs.declared.file_fault.FileFault.TheVariants as file_faults
use Rattle.difference_commands.specs.declared.told.Told.{Told}

-- ---- what is said of inputs that may be known

for_both : (P Q : List ℕ → List ℕ → Type 0) (o p : Option (List ℕ)) → ((xs ys : List ℕ) → P xs ys → Q xs ys) → OfInputs o p P → OfInputs o p Q
for_both P Q None p f h = tt
for_both P Q (Some xs) None f h = tt
for_both P Q (Some xs) (Some ys) f h = f xs ys h

always_both : (P : List ℕ → List ℕ → Type 0) (o p : Option (List ℕ)) → ((xs ys : List ℕ) → P xs ys) → OfInputs o p P
always_both P None p f = tt
always_both P (Some xs) None f = tt
always_both P (Some xs) (Some ys) f = f xs ys

known-both : (P : List ℕ → List ℕ → Type 0) (o p : Option (List ℕ)) (a b : List ℕ) → IfSome o (λ xs. a ≡ xs) → IfSome p (λ ys. b ≡ ys)
    → P a b → OfInputs o p P
known-both P None p a b e f h = tt
known-both P (Some xs) None a b e f h = tt
known-both P (Some xs) (Some ys) a b e f h = subst (λ (x : List ℕ). P x ys) e (subst (λ (y : List ℕ). P a y) f h)

-- ---- what is told of inputs that were read

module _ {A : Type 0} (digest : List ℕ → List ℕ) (command : ChangesCommand) (old new : Option (List ℕ)) where
  pub texts_known : (xs ys : List ℕ) (r : Result (Told A) ChangesFault) → IfSome old (λ x. xs ≡ x) → IfSome new (λ y. ys ≡ y)
      → IfOk r (λ t. AreTextsOf digest command xs ys t.lines.items (option_map (λ bytes. bytes.items) t.slice))
      → IfOk r (λ t. OfInputs old new (λ a b. AreTextsOf digest command a b t.lines.items (option_map (λ bytes. bytes.items) t.slice)))
  texts_known xs ys (Ok t) e f h =
      known-both (λ a b. AreTextsOf digest command a b t.lines.items (option_map (λ bytes. bytes.items) t.slice)) old new xs ys e f h
  texts_known xs ys (Err fault) e f h = tt

  pub fault_known : (xs ys : List ℕ) (r : Result (Told A) ChangesFault) → IfSome old (λ x. xs ≡ x) → IfSome new (λ y. ys ≡ y)
      → IfErr r (IsFault digest command xs ys) → IfErr r (λ fault. OfInputs old new (λ a b. IsFault digest command a b fault))
  fault_known xs ys (Ok t) e f h = tt
  fault_known xs ys (Err fault) e f h = known-both (λ a b. IsFault digest command a b fault) old new xs ys e f h

module _ (digest : List ℕ → List ℕ) (command : ChangesCommand) (old new : Option (List ℕ)) (f : ReadFault) where
  -- one of them can't be read
  pub unread_old : OfInputs old new (λ a b. IsFault digest command a b (errors.OldUnread f))
  unread_old = always_both (λ a b. IsFault digest command a b (errors.OldUnread f)) old new (λ a b. tt)

  pub unread_new : OfInputs old new (λ a b. IsFault digest command a b (errors.NewUnread f))
  unread_new = always_both (λ a b. IsFault digest command a b (errors.NewUnread f)) old new (λ a b. tt)

-- ---- lines that were made

pub finished_whole : (lines : List ℕ) (was is last : Option (List ℕ)) (n : ℕ) → Appends was is lines → Keeps is last → (n ≡ 0) ⊎ (n ≡ 4)
    → IsFinish lines was last n
finished_whole lines was is last n w k so =
    let whole : Appends was last lines =
    subst (Appends was last) (append-nil lines) (Appends-append was is last lines [] w (Appends-kept is last k)) in
    record {
      one_of = ⊎_elim (λ z. inl z) (λ f. inr (inr f)) so;
      done = λ zero. whole;
      beginning = (lines, [], sym (append-nil lines), whole);
    }

write-statuses : (w : WriteFault) → (write_status w ≡ 3) ⊎ (write_status w ≡ 4)
write-statuses writes.NoMemory = inl refl
write-statuses writes.Failed = inr refl

open-statuses : (f : OpenFault) → (open_status f ≡ 3) ⊎ (open_status f ≡ 4)
open-statuses opens.NotFound = inr refl
open-statuses opens.Denied = inr refl
open-statuses opens.Directory = inr refl
open-statuses opens.NoMemory = inl refl
open-statuses opens.Failed = inr refl

save-statuses : (f : SaveFault) → (save_status f ≡ 3) ⊎ (save_status f ≡ 4)
save-statuses (saves.Unopened f) = open-statuses f
save-statuses (saves.Unwritten w) = write-statuses w

not-done : (n s : ℕ) → n ≡ s → (s ≡ 3) ⊎ (s ≡ 4) → n ≡ 0 → ⊥
not-done n s so three zero = ⊎_elim (λ e. omega (arith, so, e, zero)) (λ e. omega (arith, so, e, zero)) three

unfinished : (lines : List ℕ) (was is : Option (List ℕ)) (n s : ℕ) → n ≡ s → (s ≡ 3) ⊎ (s ≡ 4) → AppendsBeginning was is lines
    → IsFinish lines was is n
unfinished lines was is n s so three begun = record {
  one_of = inr (⊎_elim (λ e. inl (so ∙ e)) (λ e. inr (so ∙ e)) three);
  done = λ zero. absurd (not-done n s so three zero);
  beginning = begun;
}

pub finished_cut : (lines : List ℕ) (was is : Option (List ℕ)) (w : WriteFault) (n : ℕ) → AppendsBeginning was is lines → n ≡ write_status w
    → IsFinish lines was is n
finished_cut lines was is w n begun so = unfinished lines was is n (write_status w) so (write-statuses w) begun

pub finished_unsaved : (lines : List ℕ) (was : Option (List ℕ)) (f : SaveFault) (n : ℕ) → n ≡ save_status f → IsFinish lines was was n
finished_unsaved lines was f n so =
    unfinished lines was was n (save_status f) so (save-statuses f) ([], lines, refl, Appends-nil was)

pub unwritten_ends : (w : WriteFault) (n : ℕ) → n ≡ write_status w → n ≡ 0 → ⊥
unwritten_ends w n so zero = not-done n (write_status w) so (write-statuses w) zero

pub unsaved_ends : (f : SaveFault) (n : ℕ) → n ≡ save_status f → n ≡ 0 → ⊥
unsaved_ends f n so zero = not-done n (save_status f) so (save-statuses f) zero

-- it is none that says something of the files or the words
not-one : (n : ℕ) → (n ≡ 0) ⊎ ((n ≡ 3) ⊎ (n ≡ 4)) → n ≡ 1 → ⊥
not-one n so one = ⊎_elim (λ z. omega (arith, z, one)) (λ f. ⊎_elim (λ e. omega (arith, e, one)) (λ e. omega (arith, e, one)) f) so

not-two : (n : ℕ) → (n ≡ 0) ⊎ ((n ≡ 3) ⊎ (n ≡ 4)) → n ≡ 2 → ⊥
not-two n so two = ⊎_elim (λ z. omega (arith, z, two)) (λ f. ⊎_elim (λ e. omega (arith, e, two)) (λ e. omega (arith, e, two)) f) so

-- ---- the status

abbrev Statuses : ℕ → Type 0
Statuses n = (1 ≤ n) × (n ≤ 4) × ((n ≡ 2) → ⊥)

check-statuses : (o : Option exports.ExportFault) → Statuses (export.check_status o)
check-statuses (Some f) = (omega arith, omega arith, λ e. omega (arith, e))
check-statuses None = (omega arith, omega arith, λ e. omega (arith, e))

export-statuses : (f : ExportFault) → Statuses (export.status_of f)
export-statuses (export_faults.Check f) = check-statuses (check_fault_of f)
export-statuses (export_faults.NoJsonForm place) = (omega arith, omega arith, λ e. omega (arith, e))
export-statuses export_faults.ReadFailed = (omega arith, omega arith, λ e. omega (arith, e))

tree-statuses : (f : TreeFault) → Statuses (tree.status_of f)
tree-statuses (tree_faults.Line n f) = (omega arith, omega arith, λ e. omega (arith, e))
tree-statuses tree_faults.Clash = (omega arith, omega arith, λ e. omega (arith, e))
tree-statuses tree_faults.NoMemory = (omega arith, omega arith, λ e. omega (arith, e))
tree-statuses tree_faults.ReadFailed = (omega arith, omega arith, λ e. omega (arith, e))

line-statuses : (o : Option lines.LineFault) → Statuses (line_status o)
line-statuses (Some f) = (omega arith, omega arith, λ e. omega (arith, e))
line-statuses None = (omega arith, omega arith, λ e. omega (arith, e))

lines-statuses : (f : LinesFault) → Statuses (lines_status f)
lines-statuses (lines_faults.Line n f) = line-statuses (line_fault_of f)
lines-statuses lines_faults.NoMemory = (omega arith, omega arith, λ e. omega (arith, e))

file-statuses : (f : FileFault) → Statuses (file_status f)
file-statuses (file_faults.Export f) = export-statuses f
file-statuses (file_faults.Listing f) = tree-statuses f
file-statuses (file_faults.Records f) = lines-statuses f
file-statuses file_faults.NoRecords = (omega arith, omega arith, λ e. omega (arith, e))

read-statuses : (f : ReadFault) → Statuses (read_status f)
read-statuses reads.NoMemory = (omega arith, omega arith, λ e. omega (arith, e))
read-statuses reads.Failed = (omega arith, omega arith, λ e. omega (arith, e))

statuses : (f : ChangesFault) → Statuses (status_of f)
statuses (errors.Old f) = file-statuses f
statuses (errors.New f) = file-statuses f
statuses (errors.OldUnread f) = read-statuses f
statuses (errors.NewUnread f) = read-statuses f
statuses errors.Clash = (omega arith, omega arith, λ e. omega (arith, e))
statuses errors.NoMemory = (omega arith, omega arith, λ e. omega (arith, e))

-- a fault doesn't end well
pub fault_ends : (f : ChangesFault) (n : ℕ) → n ≡ status_of f → n ≡ 0 → ⊥
fault_ends f n so zero = omega (arith, so, zero, (statuses f).0)

module _ (digest : List ℕ → List ℕ) (command : ChangesCommand) (old new was : Option (List ℕ)) where
  -- the lines were made
  pub finish_status : (is : Option (List ℕ)) (lines : List ℕ) (sliced : Option (List ℕ)) (n : ℕ)
      → OfInputs old new (λ xs ys. AreTextsOf digest command xs ys lines sliced) → IsFinish lines was is n
      → IsStatusOf digest command old new was is n
  finish_status is lines sliced n of e = record {
    one_of = ⊎_elim (λ z. omega (arith, z)) (λ f. ⊎_elim (λ three. omega (arith, three)) (λ four. omega (arith, four)) f) e.one_of;
    done = λ zero. for_both _ _ old new (λ xs ys h. record { lines = lines; sliced = sliced; of_files = h; written = e.done zero }) of;
    faulty = λ one. absurd (not-one n e.one_of one);
    nothing = λ one. absurd (not-one n e.one_of one);
    usage = λ two. not-two n e.one_of two;
    beginning = for_both _ _ old new (λ xs ys h. inr (record { lines = lines; sliced = sliced; of_files = h; written = e.beginning })) of;
  }

  pub fault_status : (f : ChangesFault) (n : ℕ) → OfInputs old new (λ xs ys. IsFault digest command xs ys f) → n ≡ status_of f
      → IsStatusOf digest command old new was was n
  fault_status f n is-fault so =
      let s = statuses f in
      record {
        one_of = omega (arith, so, s.1);
        done = λ zero. absurd (omega (arith, so, zero, s.0));
        faulty = λ one. for_both _ _ old new (λ xs ys h. (f, h, sym so ∙ one)) is-fault;
        nothing = λ one. keeps-itself was;
        usage = λ two. s.2 (sym so ∙ two);
        beginning = always_both _ old new (λ xs ys. inl (keeps-itself was));
      }

-- their slice was saved, where a file is named for it and there is one
pub finish_saved : (digest : List ℕ → List ℕ) (command : ChangesCommand) (old new : Option (List ℕ)) (lines : List ℕ)
    (sliced name : Option (List ℕ)) (saved : List ℕ → List ℕ → Type 0)
    → OfInputs old new (λ xs ys. AreTextsOf digest command xs ys lines sliced) → IfSome name (λ m. IfSome sliced (saved m))
    → IfSome name (λ m. OfInputs old new (λ xs ys. SavesSliceOf digest command xs ys (saved m)))
finish_saved digest command old new lines sliced None saved of kept = tt
finish_saved digest command old new lines sliced (Some m) saved of kept =
    for_both _ _ old new (λ xs ys h. record { lines = lines; sliced = sliced; of_files = h; kept = kept }) of

-- ---- files that words name

-- a file that can't be opened doesn't end well
pub unopened_ends : (f : OpenFault) (n : ℕ) → n ≡ open_status f → n ≡ 0 → ⊥
unopened_ends f n so zero = not-done n (open_status f) so (open-statuses f) zero

pub unopened_status : (digest : List ℕ → List ℕ) (command : ChangesCommand) (old new was : Option (List ℕ)) (f : OpenFault) (n : ℕ)
    → n ≡ open_status f → IsStatusOf digest command old new was was n
unopened_status digest command old new was f n so =
    let such : (n ≡ 0) ⊎ ((n ≡ 3) ⊎ (n ≡ 4)) = inr (⊎_elim (λ e. inl (so ∙ e)) (λ e. inr (so ∙ e)) (open-statuses f)) in
    record {
      one_of = ⊎_elim (λ z. omega (arith, z)) (λ g. ⊎_elim (λ three. omega (arith, three)) (λ four. omega (arith, four)) g) such;
      done = λ zero. absurd (unopened_ends f n so zero);
      faulty = λ one. absurd (not-one n such one);
      nothing = λ one. absurd (not-one n such one);
      usage = λ two. not-two n such two;
      beginning = always_both _ old new (λ xs ys. inl (keeps-itself was));
    }

-- the words have a form, and what came of the files came of them
end-with : (digest : List ℕ → List ℕ) (command : ChangesCommand) (old new was is : Option (List ℕ)) (n : ℕ)
    → IsStatusOf digest command old new was is n → IsEndOf digest (Some command) old new was is n
end-with digest command old new was is n s = record {
  one_of = s.one_of;
  done = s.done;
  faulty = s.faulty;
  nothing = s.nothing;
  usage = s.usage;
  beginning = s.beginning;
}

pub end_of_status : (digest : List ℕ → List ℕ) (asked : Option ChangesCommand) (command : ChangesCommand) (old new was is : Option (List ℕ)) (n : ℕ)
    → Some command ≡ asked → IsStatusOf digest command old new was is n → IsEndOf digest asked old new was is n
end_of_status digest asked command old new was is n so s =
    subst (λ (o : Option ChangesCommand). IsEndOf digest o old new was is n) so (end-with digest command old new was is n s)

-- they have none
formless : (digest : List ℕ → List ℕ) (old new was : Option (List ℕ)) (n : ℕ) → n ≡ 1 → IsEndOf digest None old new was was n
formless digest old new was n one = record {
  one_of = omega (arith, one);
  done = λ zero. omega (arith, one, zero);
  faulty = λ _. tt;
  nothing = λ _. keeps-itself was;
  usage = λ two. omega (arith, one, two);
  beginning = keeps-itself was;
}

pub end_formless : (digest : List ℕ → List ℕ) (asked : Option ChangesCommand) (old new was : Option (List ℕ)) (n : ℕ) → None ≡ asked → n ≡ 1
    → IsEndOf digest asked old new was was n
end_formless digest asked old new was n so one =
    subst (λ (o : Option ChangesCommand). IsEndOf digest o old new was was n) so (formless digest old new was n one)

-- nothing is a beginning of any text
pub begun_by_nothing : (digest : List ℕ → List ℕ) (asked : Option ChangesCommand) (old new was : Option (List ℕ)) → IsBegunBy digest asked old new was was
begun_by_nothing digest None old new was = keeps-itself was
begun_by_nothing digest (Some command) old new was = always_both _ old new (λ xs ys. inl (keeps-itself was))

-- ---- the file that they name for blocks

pub saved_by_words : (digest : List ℕ → List ℕ) (asked : Option ChangesCommand) (command : ChangesCommand) (old new name : Option (List ℕ))
    (saved : List ℕ → List ℕ → Type 0) → Some command ≡ asked
    → IfSome name (λ n. OfInputs old new (λ xs ys. SavesSliceOf digest command xs ys (saved n)))
    → IsSavedBy digest asked old new name saved
saved_by_words digest asked command old new name saved so s = subst (λ (o : Option ChangesCommand). IsSavedBy digest o old new name saved) so s

pub saved_formless : (digest : List ℕ → List ℕ) (asked : Option ChangesCommand) (old new name : Option (List ℕ))
    (saved : List ℕ → List ℕ → Type 0) → None ≡ asked → IsSavedBy digest asked old new name saved
saved_formless digest asked old new name saved so = subst (λ (o : Option ChangesCommand). IsSavedBy digest o old new name saved) so tt
