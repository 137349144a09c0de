-- What a batch left, and the file of it.
use Rattle.std.proofs.Common.{◌≡◌, ℕ, ◌≤◌, List, [], ◌∷◌, ◌++◌, length, Option, Result, Ok, sym, ap, subst, ◌∙◌, append-nil}
use Rattle.std.specs.declared.option.Option.TheVariants.{Some, None}
use Rattle.spec.specs.Reading.{◌>>=◌, Fails}
use Rattle.spec.specs.Cid.{cid}
use Rattle.spec.specs.Tree.{Pair}
use Rattle.spec.specs.Blocks.{pairs}
use Rattle.spec.specs.Car.{car_of}
use Rattle.batch_laws.specs.Previous.{values}
use Rattle.change_laws.specs.Told.{KeyChange, undone}
use Rattle.change_laws.specs.Laws.{change_path}
use Rattle.change_laws.specs.Verdict.{are_told}
use Rattle.change_proofs.specs.Provings.{IsFaultOf}
use Rattle.change_proofs.specs.declared.change_fault.ChangeFault.{ChangeFault}
use Rattle.change_proofs.specs.declared.change_fault.ChangeFault.TheVariants as changes
use Rattle.car_writing.specs.Once.{Written, file_with}
use Rattle.car_writing.proofs.Putting.{file-ended}
use Rattle.event_times.specs.Limits.{most_blocks_bytes}
use Rattle.event_writing_laws.specs.Telling.{UntoldFault as Untold, of_values}
use Rattle.event_writing_laws.specs.Messages.{file_of, left_test, records_left, short_file}
use Rattle.event_writing.specs.Views.{untold_as, untold_fault_of}
use Rattle.event_writing.specs.Steps.{left_file}
use Rattle.event_writing.specs.Putting.{ArePut, IsTooLong}
use Rattle.event_writing.specs.declared.fault.UntoldFault.{UntoldFault}
use Rattle.event_writing.proofs.Puts.{long-fails, short-is}

-- what a proof's fault says is what is said of the values
pub values-fail : (es : List Pair) (ops : List KeyChange) (fault : ChangeFault) (untold : UntoldFault)
    → untold ≡ untold_as fault → IsFaultOf es ops fault
    → Fails (untold_fault_of untold) (of_values (are_told 0 (values (undone ops) es) ops))
values-fail es ops (changes.BlockMissing c) untold e h = absurd h
values-fail es ops (changes.BadNode c) untold e h = absurd h
values-fail es ops changes.TooDeep untold e h = absurd h
values-fail es ops changes.NotTree untold e h = absurd h
values-fail es ops (changes.OtherValue place) untold e h =
    subst (λ (x : UntoldFault). Fails (untold_fault_of x) (of_values (are_told 0 (values (undone ops) es) ops))) (sym e) (ap of_values h)
values-fail es ops changes.OtherRoot untold e h = absurd h
values-fail es ops changes.NoMemory untold e h =
    subst (λ (x : UntoldFault). Fails (untold_fault_of x) (of_values (are_told 0 (values (undone ops) es) ops))) (sym e) tt

-- a step that went well, and then one that doesn't
then-fails : {A : Type 0} (r : Result (Unit {0}) Untold) (next : Result A Untold) (o : Option Untold) (x : Unit {0}) → r ≡ Ok x
    → Fails o next → Fails o (r >>= (λ y. next))
then-fails r next None x e h = tt
then-fails r next (Some f) x e h = ap (λ (t : Result (Unit {0}) Untold). t >>= (λ y. next)) e ∙ h

pub test-fails : (digest : List ℕ → List ℕ) (bits : ℕ) (m : List (List ℕ × List ℕ)) (commit : List ℕ) (ops : List KeyChange)
    (o : Option Untold) → Fails o (left_test digest m ops) → Fails o (left_file digest bits m commit ops)
unfolding left_file
test-fails digest bits m commit ops None h = tt
test-fails digest bits m commit ops (Some f) h =
    ap (λ (t : Result (Unit {0}) Untold). t >>= (λ y. short_file (file_of digest bits commit m ops))) h

-- ---- the file of blocks that are put one after the other

module _ (digest : List ℕ → List ℕ) (bits : ℕ) (m : List (List ℕ × List ℕ)) (commit : List ℕ) (ops : List KeyChange)
    (tested : left_test digest m ops ≡ Ok tt) (nodes : List (List ℕ)) (are : nodes ≡ change_path digest bits ops (pairs digest m))
    (begun : Written) (file-is : (bs : List (List ℕ)) → file_with digest begun bs ≡ car_of digest (cid digest commit) bs) where
  abbrev file : List ℕ
  file = file_of digest bits commit m ops

  -- the file, where these three are put
  all-three : file_with digest begun ((commit ∷ []) ++ (nodes ++ records_left m ops)) ≡ file
  all-three =
      file-is (commit ∷ (nodes ++ records_left m ops))
      ∙ ap (λ (xs : List (List ℕ)). car_of digest (cid digest commit) (commit ∷ (xs ++ records_left m ops))) are

  failed : (bs rest : List (List ℕ)) (w : Written) (fault : UntoldFault) → IsTooLong digest bs w fault
      → file_with digest w (bs ++ rest) ≡ file → Fails (untold_fault_of fault) (left_file digest bits m commit ops)
  unfolding left_file
  failed bs rest w fault long is =
      then-fails (left_test digest m ops) (short_file file) (untold_fault_of fault) tt tested
      (long-fails digest bs rest w file fault long is)

  pub commit-fails : (fault : UntoldFault) → IsTooLong digest (commit ∷ []) begun fault
      → Fails (untold_fault_of fault) (left_file digest bits m commit ops)
  commit-fails fault long = failed (commit ∷ []) (nodes ++ records_left m ops) begun fault long all-three

  module _ (one : Written) (first : ArePut digest (commit ∷ []) begun one) where
    after-one : file_with digest one (nodes ++ records_left m ops) ≡ file
    after-one = first (nodes ++ records_left m ops) ∙ all-three

    pub nodes-fail : (fault : UntoldFault) → IsTooLong digest nodes one fault
        → Fails (untold_fault_of fault) (left_file digest bits m commit ops)
    nodes-fail fault long = failed nodes (records_left m ops) one fault long after-one

    module _ (two : Written) (second : ArePut digest nodes one two) where
      after-two : file_with digest two (records_left m ops ++ []) ≡ file
      after-two =
          ap (file_with digest two) (append-nil (records_left m ops)) ∙ second (records_left m ops) ∙ after-one

      pub records-fail : (fault : UntoldFault) → IsTooLong digest (records_left m ops) two fault
          → Fails (untold_fault_of fault) (left_file digest bits m commit ops)
      records-fail fault long = failed (records_left m ops) [] two fault long after-two

      pub all-put : (three : Written) → ArePut digest (records_left m ops) two three → length three.bytes ≤ most_blocks_bytes
          → (bytes : List ℕ) → bytes ≡ three.bytes → left_file digest bits m commit ops ≡ Ok bytes
      unfolding left_file
      all-put three third short bytes e =
          let is : file ≡ three.bytes = sym (third [] ∙ after-two) ∙ file-ended digest three in
          ap (λ (t : Result (Unit {0}) Untold). t >>= (λ y. short_file file)) tested
          ∙ ap short_file is ∙ short-is three.bytes short ∙ ap (λ (x : List ℕ). Ok x) (sym e)
