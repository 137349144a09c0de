-- What a function left that puts the spelling of what is read at the end of bytes.
use Rattle.std.specs.Prelude.{◌≡◌, ℕ, List, ◌++◌, Option, Some, None, Result, Ok, Err, Vec, string_bytes}
use Rattle.spec.specs.Reading.{Fails}
use Rattle.spec.specs.DagCbor.{Value, spelling}
use Rattle.record_json.specs.Reading.{Kind, Fault}
use Rattle.record_json.specs.Kinds.{kind_of}
use Rattle.record_json.specs.declared.fault.JsonFaultKind.{JsonFaultKind}
use Rattle.record_json.specs.declared.fault.JsonFault.{JsonFault}

-- from these bytes to those: the value's spelling was put there, or what is read is faulty here
abbrev pub Puts : Result (Unit {0}) JsonFaultKind → List ℕ → List ℕ → Result Value Kind → Type 0
Puts (Ok done) old new read = (v : Value) × (read ≡ Ok v) × (new ≡ old ++ spelling v)
Puts (Err e) old new read = Fails (kind_of e) read

-- the reading fails so, and the way to the fault was put before these steps
abbrev pub FailsAt : {X : Type 0} → Option Kind → List ℕ → List ℕ → Result X Fault → Type 0
FailsAt None before after read = Unit {0}
FailsAt (Some k) before after read = (way : List ℕ) × (read ≡ Err (record { kind = k; path = way })) × (after ≡ way ++ before)

-- the same of what may be faulty somewhere inside
abbrev pub PutsAt : {X : Type 0} → (X → List ℕ) → Result (Unit {0}) JsonFaultKind → List ℕ → List ℕ → List ℕ → List ℕ → Result X Fault → Type 0
PutsAt {X} spelled (Ok done) old new before after read = (x : X) × (read ≡ Ok x) × (new ≡ old ++ spelled x) × (after ≡ before)
PutsAt spelled (Err e) old new before after read = FailsAt (kind_of e) before after read

-- the fault is the reading's, with the way to it
abbrev pub IsFault : Option Kind → List ℕ → Result Value Fault → Type 0
IsFault None path read = Unit {0}
IsFault (Some k) path read = read ≡ Err (record { kind = k; path = path })

-- the bytes spell the value that is read, or the fault is the first one
abbrev pub Spells : {A B : Type 0} → Result (Vec ℕ A) (JsonFault B) → Result Value Fault → Type 0
Spells (Ok out) read = (v : Value) × (read ≡ Ok v) × (out.items ≡ spelling v)
Spells (Err e) read = IsFault (kind_of e.kind) (string_bytes e.path) read
