-- The text for an input, from its tree, and how its listing ends.
use Rattle.std.proofs.Common.{◌≡◌, ◌⊎◌, ⊎_elim, ℕ, true, false, List, [], Some, None, refl, sym, ap, subst, ◌∙◌, arith}
use Rattle.std.specs.Prelude.{Option, Result, Ok, Err, is_ok, is_some, IfErr, IfSome, OnOk, ◌≤◌}
use Rattle.std.proofs.lemmas.List.{append-nil}
use Rattle.std.specs.Io.KnownBytes.{Appends, IsAtEnd, Keeps}
use Rattle.spec.specs.Reading.{◌>>=◌, Fails, Gives}
use Rattle.spec.specs.Cid.{cid}
use Rattle.spec.specs.Tree.{Pair}
use Rattle.spec.specs.Blocks.{IsClashFree, nodes, root, firsts}
use Rattle.spec.specs.Laws.Clashes.{HasClash}
use Rattle.spec.proofs.BlockLaws.{test-from_IsClashFree, test-from_HasClash}
use Rattle.console.proofs.Known.{always_known, for_known, keeps-same, write-statuses}
use Rattle.console.proofs.Leaving.{Appends-append, Appends-kept}
use Rattle.console.specs.Written.{AppendsBeginning, AppendsText}
use Rattle.console.specs.Faults.{IsWritten}
use Rattle.console.specs.declared.fault.CommandFault.{CommandFault}
use Rattle.console.specs.declared.fault.CommandFault.TheVariants as ends
use Rattle.tree_command.specs.declared.fault.TreeFault.{TreeFault as GivenFault}
use Rattle.tree_command.specs.declared.fault.TreeFault.TheVariants as errors
use Rattle.scratch.specs.declared.tree.Built.{Built}
use Rattle.tree_command.specs.declared.keys.Keys.{Keys}
use Rattle.tree_command.specs.Fault.{end_status, tree_fault_of, status_of}
use Rattle.tree_command.specs.Outcomes.{IsCutOff, IsOutcome, IsStatusOf, Texts, seen}
use Rattle.tree_command.specs.TreeText.{TreeFault, Clash, map_of_input, tree_of_map, tree_of_input, text_of_tree, tree_text, text_or_nothing}

-- ---- the tree

pub tree-free : (digest : List ℕ → List ℕ) (bits : ℕ) (m : List Pair) (r : List ℕ) (bs : List (List ℕ)) → IsClashFree digest (nodes digest bits m) → r ≡ root digest bits m → bs ≡ nodes digest bits m
    → firsts (cid digest) (nodes digest bits m) ≡ nodes digest bits m → tree_of_map digest bits m ≡ Ok (r, bs)
tree-free digest bits m r bs free e f once =
    rw (test-from_IsClashFree digest (nodes digest bits m) free)
    (ap (λ (p : List ℕ × List (List ℕ)). Ok p) (λ i. (sym e i, (once ∙ sym f) i)))

pub tree-clash : (digest : List ℕ → List ℕ) (bits : ℕ) (m : List Pair) → HasClash digest (nodes digest bits m) → tree_of_map digest bits m ≡ Err Clash
tree-clash digest bits m has = rw (test-from_HasClash digest (nodes digest bits m) has) refl

pub tree-of-map : (taken : Keys) (digest : List ℕ → List ℕ) (bits : ℕ) (input : List ℕ) (m : List Pair) → map_of_input taken input ≡ Ok m → tree_of_map digest bits m ≡ tree_of_input taken digest bits input
unfolding tree_of_input
tree-of-map taken digest bits input m e = ap (λ (r : Result (List Pair) TreeFault). r >>= tree_of_map digest bits) (sym e)

-- ---- the text

text-made : (taken : Keys) (digest : List ℕ → List ℕ) (bits : ℕ) (tree : List ℕ × List (List ℕ)) (input : List ℕ) → tree_of_input taken digest bits input ≡ Ok tree
    → tree_text taken digest bits input ≡ Ok (text_of_tree digest tree)
unfolding tree_text
text-made taken digest bits tree input e = ap (λ (r : Result (List ℕ × List (List ℕ)) TreeFault). r >>= (λ t. Ok (text_of_tree digest t))) e

text-failed : (taken : Keys) (digest : List ℕ → List ℕ) (bits : ℕ) (f : Option TreeFault) (input : List ℕ) → Fails f (tree_of_input taken digest bits input)
    → Fails f (tree_text taken digest bits input)
unfolding tree_text
text-failed taken digest bits None input e = tt
text-failed taken digest bits (Some f) input e = ap (λ (r : Result (List ℕ × List (List ℕ)) TreeFault). r >>= (λ t. Ok (text_of_tree digest t))) e

-- ---- how a listing ends

wrote-text : (old new : Option (List ℕ)) (r : Result (List ℕ) TreeFault) (t : List ℕ) → r ≡ Ok t → Appends old new t → AppendsText old new r
wrote-text old new r t e p = rw e p

wrote-beginning : (old new : Option (List ℕ)) (r : Result (List ℕ) TreeFault) (t : List ℕ) → r ≡ Ok t → AppendsBeginning old new t → AppendsBeginning old new (text_or_nothing r)
wrote-beginning old new r t e p = rw e p

module _ (taken : Keys) (digest : List ℕ → List ℕ) (bits : ℕ) (input left old new : Option (List ℕ)) where
  -- the tree was made, and written or not
  pub listed : (tree : List ℕ × List (List ℕ)) → IfSome input (λ xs. tree_of_input taken digest bits xs ≡ Ok tree) → IsAtEnd left
      → Appends old new (text_of_tree digest tree) → IsOutcome (tree_text taken digest bits) input left old new (Ok tt)
  listed tree made end wrote = (
    end,
    for_known _ _ input (λ xs e. wrote-text old new _ _ (text-made taken digest bits tree xs e) wrote) made,
  )

  pub cut-off : (tree : List ℕ × List (List ℕ)) → IfSome input (λ xs. tree_of_input taken digest bits xs ≡ Ok tree)
      → AppendsBeginning old new (text_of_tree digest tree) → IsCutOff (tree_text taken digest bits) input old new
  cut-off tree made wrote = record {
    there = for_known _ _ input (λ xs e. ap is_ok (text-made taken digest bits tree xs e)) made;
    beginning = for_known _ _ input (λ xs e. wrote-beginning old new _ _ (text-made taken digest bits tree xs e) wrote) made;
  }

  -- it has a fault
  unlisted : (f : GivenFault) (r : Result (Unit {0}) (CommandFault GivenFault)) → IfSome input (λ xs. Fails (tree_fault_of f) (tree_of_input taken digest bits xs))
      → (is_some (tree_fault_of f) ≡ true → IsAtEnd left) → r ≡ Err (ends.NoText f) → new ≡ old → IsOutcome (tree_text taken digest bits) input left old new r
  unlisted f r fails judged told kept = subst (IsOutcome (tree_text taken digest bits) input left old new) (sym told) (
    record { of_text = for_known _ _ input (λ xs e. text-failed taken digest bits (tree_fault_of f) xs e) fails; judged = judged },
    keeps-same old new kept,
  )

  pub ended : {D A : Type 0} (made : Result (Built D A) GivenFault) (r : Result (Unit {0}) (CommandFault GivenFault))
      → IfSome input (λ xs. Gives seen tree_fault_of made (tree_of_input taken digest bits xs)) → OnOk made (IsAtEnd left)
      → IfErr made (λ e. is_some (tree_fault_of e) ≡ true → IsAtEnd left) → IsWritten (λ built. text_of_tree digest (seen built)) made old new r
      → IsOutcome (tree_text taken digest bits) input left old new r
  ended (Ok built) (Ok done) tree read judged w = listed (seen built) tree read w
  ended (Ok built) (Err (ends.NoText f)) tree read judged w = absurd w
  ended (Ok built) (Err (ends.Unwritten f)) tree read judged w = cut-off (seen built) tree w
  ended (Err f) r tree read judged w = unlisted f r tree judged w.0 w.1

-- ---- the status

wrote-on : (a b c : Option (List ℕ)) (r : Result (List ℕ) TreeFault) → AppendsText a b r → Keeps b c → AppendsText a c r
wrote-on a b c (Ok t) p k = subst (Appends a c) (append-nil t) (Appends-append a b c t [] p (Appends-kept b c k))
wrote-on a b c (Err f) p k = absurd p

whole : (a b : Option (List ℕ)) (r : Result (List ℕ) TreeFault) → AppendsText a b r → AppendsBeginning a b (text_or_nothing r)
whole a b (Ok t) p = (t, [], sym (append-nil t), p)
whole a b (Err f) p = absurd p

module _ (text : Texts) (input left old new : Option (List ℕ)) where
  -- the text was written, and reached the writer's end or not
  pub done-status : (last : Option (List ℕ)) (n : ℕ) → IsOutcome text input left old new (Ok tt) → Keeps new last → (n ≡ 0) ⊎ (n ≡ 4) → IsStatusOf text input old last n
  done-status last n outcome kept is =
      let wrote = for_known _ _ input (λ xs w. wrote-on old new last (text xs) w kept) outcome.1 in
      record {
        one_of = ⊎_elim (λ z. omega arith) (λ f. omega arith) is;
        done = λ zero. wrote;
        faulty = λ one. absurd (⊎_elim (λ z. omega arith) (λ f. omega arith) is);
        nothing = λ one. absurd (⊎_elim (λ z. omega arith) (λ f. omega arith) is);
        usage = λ two. ⊎_elim (λ z. omega arith) (λ f. omega arith) is;
        beginning = for_known _ _ input (λ xs w. whole old last (text xs) w) wrote;
      }

  no-text : (f : GivenFault) (r : Result (List ℕ) TreeFault) → Fails (tree_fault_of f) r → status_of f ≡ 1 → is_ok r ≡ false
  no-text (errors.Line n g) r fails one = ap is_ok fails
  no-text errors.Clash r fails one = ap is_ok fails
  no-text errors.NoMemory r fails one = absurd (omega (arith, one))
  no-text errors.ReadFailed r fails one = absurd (omega (arith, one))

  statuses : (f : GivenFault) → (1 ≤ status_of f) × (status_of f ≤ 4) × ((status_of f ≡ 2) → ⊥)
  statuses (errors.Line n g) = (omega arith, omega arith, λ e. omega (arith, e))
  statuses errors.Clash = (omega arith, omega arith, λ e. omega (arith, e))
  statuses errors.NoMemory = (omega arith, omega arith, λ e. omega (arith, e))
  statuses errors.ReadFailed = (omega arith, omega arith, λ e. omega (arith, e))

  failed-with : (e : CommandFault GivenFault) → IsOutcome text input left old new (Err e) → IsStatusOf text input old new (end_status e)
  failed-with (ends.NoText f) outcome =
      let s = statuses f in
      record {
        one_of = s.1;
        done = λ zero. absurd (omega (arith, zero, s.0));
        faulty = λ one. for_known _ _ input (λ xs fails. no-text f (text xs) fails one) outcome.0.of_text;
        nothing = λ one. outcome.1;
        usage = s.2;
        beginning = always_known _ input (λ xs. ([], _, refl, Appends-kept old new outcome.1));
      }
  failed-with (ends.Unwritten f) outcome =
      let s = write-statuses f in
      record {
        one_of = s.1;
        done = λ zero. absurd (omega (arith, zero, s.0));
        faulty = λ one. absurd (omega (arith, one, s.0));
        nothing = λ one. absurd (omega (arith, one, s.0));
        usage = λ two. omega (arith, two, s.0);
        beginning = outcome.beginning;
      }

  pub failed-status : (e : CommandFault GivenFault) (n : ℕ) → IsOutcome text input left old new (Err e) → n ≡ end_status e → IsStatusOf text input old new n
  failed-status e n outcome is = subst (IsStatusOf text input old new) (sym is) (failed-with e outcome)
