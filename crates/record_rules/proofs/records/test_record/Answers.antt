use Rattle.std.proofs.Common.{◌≡◌, ℕ, ◌<◌, ◌≤◌, Bool, true, false, List, length, Option, Some, None, Result, Ok, Err, refl, ap, ◌∙◌}
use Rattle.std.specs.Prelude.{IsSome, option_map}
use Rattle.std.proofs.lemmas.Bool.{lt-leb, le-leb}
use Rattle.spec.specs.Reading.{◌>>=◌, ensure, Fails}
use Rattle.spec.specs.Head as head
use Rattle.spec.specs.DagCbor.{Value, read}
use Rattle.spec.specs.Writes.{WriteFault, BadRecord, record_test, or_bad_record, is_map, RecordSize, NotAMap}
use Rattle.dagcbor.specs.Fault.{cbor_fault_of}
use Rattle.dagcbor.specs.Passed.{spells_map}
use Rattle.dagcbor.specs.declared.fault.CborFault.{CborFault}
use Rattle.dagcbor.specs.declared.fault.CborFault.TheVariants as errors
use Rattle.record_rules.proofs.records.test_record.Goals as goal

too_long : (bytes : List ℕ) → 1048576 < length bytes → record_test bytes ≡ Err RecordSize
unfolding record_test
too_long bytes h = rw (lt-leb (length bytes) 1048576 h)

-- what is left of the test behind the size
abbrev tested : Result Value head.CborFault → Result (Unit {0}) WriteFault
tested r = or_bad_record r >>= λ v. ensure (is_map v) NotAMap

abbrev spelled : Result Value head.CborFault → Result Bool head.CborFault
spelled r = r >>= λ v. Ok (is_map v)

within : (bytes : List ℕ) → length bytes ≤ 1048576 → record_test bytes ≡ tested (read bytes)
unfolding record_test
within bytes h = rw (le-leb (length bytes) 1048576 h)

inner : Bool → Result Bool head.CborFault → Bool
inner b (Ok c) = c
inner b (Err f) = b

inner_fault : head.CborFault → Result Bool head.CborFault → head.CborFault
inner_fault f (Ok c) = f
inner_fault f (Err g) = g

is_spelled : (r : Result Value head.CborFault) (b : Bool) → spelled r ≡ Ok b → tested r ≡ ensure b NotAMap
unfolding inner
is_spelled (Err f) b e = absurd cc
is_spelled (Ok v) b e = ap (λ (c : Bool). ensure c NotAMap) (ap (inner b) e)

is_faulty : (r : Result Value head.CborFault) (f : head.CborFault) → spelled r ≡ Err f → tested r ≡ Err (BadRecord f)
unfolding inner_fault
is_faulty (Err g) f e = ap (λ h. Err (BadRecord h)) (ap (inner_fault f) e)
is_faulty (Ok v) f e = absurd cc

faulty : (o : Option head.CborFault) (bytes : List ℕ) → length bytes ≤ 1048576 → Fails o (spells_map bytes) → Fails (option_map BadRecord o) (record_test bytes)
faulty None bytes h fails = tt
faulty (Some f) bytes h fails = within bytes h ∙ is_faulty (read bytes) f fails

-- each fault but want of memory is one of the definitions
named : (f : CborFault) → (f ≡ errors.NoMemory → ⊥) → IsSome (option_map BadRecord (cbor_fault_of f))
named errors.Truncated h = refl
named errors.LongHead h = refl
named errors.Indefinite h = refl
named errors.BadTag h = refl
named errors.BadLink h = refl
named errors.KeyNotText h = refl
named errors.KeyOrder h = refl
named errors.BadUtf8 h = refl
named errors.Float h = refl
named errors.Simple h = refl
named errors.IntegerRange h = refl
named errors.TooDeep h = refl
named errors.Trailing h = refl
named errors.NoMemory h = absurd (h refl)

pub returns-then-bytes-gt1048576-clause-tested : goal.returns-then-bytes-gt1048576-clause-tested
returns-then-bytes-gt1048576-clause-tested c = too_long c.args.bytes.now c.if-bytes-gt1048576.true

pub returns-in-Ok-true-clause-tested : goal.returns-in-Ok-true-clause-tested
returns-in-Ok-true-clause-tested c =
    let bytes = c.args.bytes.now in
    within bytes c.if-bytes-gt1048576.false ∙ is_spelled (read bytes) true (c.in-Ok-true.ensures.read ∙ ap (λ (b : Bool). Ok b) c.in-Ok-true.field-0-test)

pub returns-in-Ok-false-clause-tested : goal.returns-in-Ok-false-clause-tested
returns-in-Ok-false-clause-tested c =
    let bytes = c.args.bytes.now in
    within bytes c.if-bytes-gt1048576.false ∙ is_spelled (read bytes) false (c.in-Ok-false.ensures.read ∙ ap (λ (b : Bool). Ok b) c.in-Ok-false.field-0-test)

pub returns-in-Err-clause-tested : goal.returns-in-Err-clause-tested
returns-in-Err-clause-tested c =
    faulty (cbor_fault_of c.in-Err.fault) c.args.bytes.now c.if-bytes-gt1048576.false c.in-Err.ensures.read

pub returns-in-Err-clause-takes_no_memory : goal.returns-in-Err-clause-takes_no_memory
returns-in-Err-clause-takes_no_memory c = named c.in-Err.fault (λ e. c.in-Err.ensures.takes_no_memory (ap (λ f. Err f) e))
