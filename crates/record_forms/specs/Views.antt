-- What was read of a word, as the definitions see it.
use Rattle.std.specs.Prelude.{ℕ, List, Result, Ok, Err, Vec, string_bytes, unwrap_or}
use Rattle.record_json.specs.Reading.{Fault, NotJson}
use Rattle.record_json.specs.Kinds.{kind_of}
use Rattle.record_json.specs.declared.fault.JsonFaultKind.{JsonFaultKind}
use Rattle.record_forms.specs.Records.{WordFault, BadWord, OfJson}
use Rattle.record_forms.specs.declared.fault.WordFault.{WordFault as GivenFault}
use Rattle.record_forms.specs.declared.fault.WordFault.TheVariants as errors

-- a fault of JSON, and the way to it; a want of memory, of which the definitions know nothing, is no fault of a word
abbrev pub json_fault_of : JsonFaultKind → List ℕ → Fault
json_fault_of kind path = record { kind = unwrap_or (kind_of kind) NotJson; path = path }

abbrev pub word_fault_of : {A : Type 0} → GivenFault A → WordFault
word_fault_of errors.BadWord = BadWord
word_fault_of (errors.Json kind path) = OfJson (json_fault_of kind (string_bytes path))

-- the bytes of a record, or why there are none
abbrev pub record_read : {A B : Type 0} → Result (Vec ℕ A) (GivenFault B) → Result (List ℕ) WordFault
record_read (Ok bytes) = Ok bytes.items
record_read (Err fault) = Err (word_fault_of fault)
