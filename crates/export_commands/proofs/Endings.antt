-- How a command on an export ends.
use Rattle.std.proofs.Common.{◌≡◌, ◌∙◌, ◌⊎◌, ⊎_elim, inl, inr, ℕ, List, [], Some, None, refl, sym, subst, arith}
use Rattle.std.specs.Prelude.{◌≤◌, Option, Result, Ok, Err, IfErr, IfSome}
use Rattle.std.proofs.lemmas.List.{append-nil}
use Rattle.std.specs.Io.KnownBytes.{Appends, IsAtEnd, Keeps}
use Rattle.spec.specs.Exports.{IsExport, IsFirstFault}
use Rattle.spec.specs.Exports as exports
use Rattle.spec.specs.SignedCommits.{Commit}
use Rattle.repository_check.specs.Views.{check_fault_of}
use Rattle.console.proofs.Known.{always_known, for_known, keeps-same, write-statuses}
use Rattle.console.proofs.Leaving.{Appends-append, Appends-kept}
use Rattle.console.specs.Written.{AppendsText}
use Rattle.console.specs.declared.fault.CommandFault.{CommandFault}
use Rattle.console.specs.declared.fault.CommandFault.TheVariants as ends
use Rattle.export_commands.specs.declared.command.ExportCommand.{ExportCommand}
use Rattle.export_commands.specs.declared.fault.ExportFault.{ExportFault}
use Rattle.export_commands.specs.declared.fault.ExportFault.TheVariants as errors
use Rattle.export_commands.specs.Faults.{check_status, command_status, status_of}
use Rattle.export_commands.specs.Outcomes.{AppendsTextOf, BeginsText, BeginsTextOf, HasFault, IsFaultOf, IsOutcome, IsOutcomeOf, IsStatusOf, IsTextOf, IsTold, IsUntold, KeepsWithoutText}
use Rattle.export_commands.specs.Texts.{Records, export_text}

module _ (digest : List ℕ → List ℕ) (command : ExportCommand) where
  -- ---- a file that is an export

  module _ (file : List ℕ) (c : Commit) (m : Records) (export : IsExport digest 2 file c m) (old new : Option (List ℕ)) where
    -- why nothing was told
    untold : (text : Result (List ℕ) ℕ) (f : ExportFault) → text ≡ export_text digest command c m → IsUntold text f → IsFaultOf digest command file f
    untold text (errors.Check f) is p = subst (λ g. IsFaultOf digest command file (errors.Check g)) (sym p) tt
    untold text (errors.NoJsonForm place) is p = record { commit = c; records = m; export = export; untold = sym is ∙ p }
    untold text errors.ReadFailed is p = absurd p

    text-of : (text : List ℕ) → export_text digest command c m ≡ Ok text → IsTextOf digest command file text
    text-of text is = record { commit = c; records = m; export = export; is = is }

    appended : (text : Result (List ℕ) ℕ) → export_text digest command c m ≡ text → AppendsText old new text → AppendsTextOf digest command file old new
    appended (Ok text) is p = record { text = text; of_file = text-of text is; written = p }
    appended (Err place) is p = absurd p

    begun : (text : Result (List ℕ) ℕ) → export_text digest command c m ≡ text → BeginsText old new text → BeginsTextOf digest command file old new
    begun (Ok text) is p = record { text = text; of_file = text-of text is; written = p }
    begun (Err place) is p = absurd p

    -- what is told of it is its outcome
    pub outcome-of-told : (r : Result (Unit {0}) (CommandFault ExportFault)) → IsTold (export_text digest command c m) old new r
        → IsOutcomeOf digest command file old new r
    outcome-of-told (Ok done) p = appended (export_text digest command c m) refl p
    outcome-of-told (Err (ends.NoText f)) p = (untold (export_text digest command c m) f refl p.0, p.1)
    outcome-of-told (Err (ends.Unwritten w)) p = begun (export_text digest command c m) refl p

  -- ---- an input that was read

  kept : (file : List ℕ) (old new : Option (List ℕ)) (r : Result (Unit {0}) (CommandFault ExportFault)) → IsOutcomeOf digest command file old new r
      → IfErr r (KeepsWithoutText old new)
  kept file old new (Ok done) p = tt
  kept file old new (Err (ends.NoText f)) p = keeps-same old new p.1
  kept file old new (Err (ends.Unwritten w)) p = tt

  pub outcome-of-file : (input left old new : Option (List ℕ)) (file : List ℕ) (r : Result (Unit {0}) (CommandFault ExportFault))
      → IfSome input (λ xs. file ≡ xs) → IsAtEnd left → IsOutcomeOf digest command file old new r → IsOutcome digest command input left old new r
  outcome-of-file input left old new file r is end p = record {
    of_file = for_known _ _ input (λ xs e. subst (λ f. IsOutcomeOf digest command f old new r) e p) is;
    read = λ judged. end;
    nothing = kept file old new r p;
  }

  -- ---- the status

  written-on : (file : List ℕ) (a b c : Option (List ℕ)) → AppendsTextOf digest command file a b → Keeps b c → AppendsTextOf digest command file a c
  written-on file a b c p k = record {
    text = p.text;
    of_file = p.of_file;
    written = subst (Appends a c) (append-nil p.text) (Appends-append a b c p.text [] p.written (Appends-kept b c k));
  }

  whole : (file : List ℕ) (a b : Option (List ℕ)) → AppendsTextOf digest command file a b → BeginsTextOf digest command file a b
  whole file a b p = record { text = p.text; of_file = p.of_file; written = (p.text, [], sym (append-nil p.text), p.written) }

  module _ (input left old new : Option (List ℕ)) where
    -- the text was written, and reached the writer's end or not
    pub done-status : (last : Option (List ℕ)) (n : ℕ) → IsOutcome digest command input left old new (Ok tt) → Keeps new last → (n ≡ 0) ⊎ (n ≡ 4)
        → IsStatusOf digest command input old last n
    done-status last n outcome stays is =
        let wrote = for_known _ _ input (λ file w. written-on file old new last w stays) outcome.of_file in
        record {
          one_of = ⊎_elim (λ z. omega arith) (λ f. omega arith) is;
          done = λ zero. wrote;
          faulty = λ one. absurd (⊎_elim (λ z. omega arith) (λ f. omega arith) is);
          nothing = λ one. absurd (⊎_elim (λ z. omega arith) (λ f. omega arith) is);
          usage = λ two. ⊎_elim (λ z. omega arith) (λ f. omega arith) is;
          beginning = for_known _ _ input (λ file w. inr (whole file old last w)) wrote;
        }

    check-statuses : (o : Option exports.ExportFault) → (1 ≤ check_status o) × (check_status o ≤ 4) × ((check_status o ≡ 2) → ⊥)
    check-statuses (Some f) = (omega arith, omega arith, λ e. omega (arith, e))
    check-statuses None = (omega arith, omega arith, λ e. omega (arith, e))

    statuses : (f : ExportFault) → (1 ≤ status_of f) × (status_of f ≤ 4) × ((status_of f ≡ 2) → ⊥)
    statuses (errors.Check f) = check-statuses (check_fault_of f)
    statuses (errors.NoJsonForm place) = (omega arith, omega arith, λ e. omega (arith, e))
    statuses errors.ReadFailed = (omega arith, omega arith, λ e. omega (arith, e))

    first : (file : List ℕ) (o : Option exports.ExportFault) → IfSome o (IsFirstFault digest 2 file) → check_status o ≡ 1 → HasFault digest command file
    first file (Some f) p one = inl (f, p)
    first file None p one = absurd (omega (arith, one))

    faulty : (file : List ℕ) (f : ExportFault) → IsFaultOf digest command file f → status_of f ≡ 1 → HasFault digest command file
    faulty file (errors.Check f) p one = first file (check_fault_of f) p one
    faulty file (errors.NoJsonForm place) p one = inr (place, p)
    faulty file errors.ReadFailed p one = absurd (omega (arith, one))

    failed-with : (e : CommandFault ExportFault) → IsOutcome digest command input left old new (Err e) → IsStatusOf digest command input old new (command_status e)
    failed-with (ends.NoText f) outcome =
        let s = statuses f in
        record {
          one_of = s.1;
          done = λ zero. absurd (omega (arith, zero, s.0));
          faulty = λ one. for_known _ _ input (λ file p. faulty file f p.0 one) outcome.of_file;
          nothing = λ one. outcome.nothing;
          usage = s.2;
          beginning = always_known _ input (λ file. inl outcome.nothing);
        }
    failed-with (ends.Unwritten w) outcome =
        let s = write-statuses w in
        record {
          one_of = s.1;
          done = λ zero. absurd (omega (arith, zero, s.0));
          faulty = λ one. absurd (omega (arith, one, s.0));
          nothing = λ one. absurd (omega (arith, one, s.0));
          usage = λ two. omega (arith, two, s.0);
          beginning = for_known _ _ input (λ file p. inr p) outcome.of_file;
        }

    pub failed-status : (e : CommandFault ExportFault) (n : ℕ) → IsOutcome digest command input left old new (Err e) → n ≡ command_status e
        → IsStatusOf digest command input old new n
    failed-status e n outcome is = subst (IsStatusOf digest command input old new) (sym is) (failed-with e outcome)
