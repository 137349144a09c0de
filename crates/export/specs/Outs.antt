-- Outputs.
use Rattle.std.specs.Prelude.{◌≡◌, ◌<◌, ◌++◌, ℕ, List, [], Option, None, Some, Result, Ok, Err, MatchResult, take}
use Rattle.std.specs.Io.KnownBytes.{WriteAppends}
use Rattle.export.specs.declared.export_fault.ExportFault.{ExportFault}
use Rattle.export.specs.declared.export_fault.ExportFault.TheVariants as faults

-- A writer, the bytes that it held from the start, where these are known, with those that it has taken since, and how
-- often it has failed.
pub record Writing (W : Type 0) : Type 0 where
  pub writer : W
  pub taken : List ℕ
  pub failures : ℕ

-- bytes in memory, and how often there was no room for more
pub record Filling : Type 0 where
  pub taken : List ℕ
  pub failures : ℕ

-- it took so many of these bytes, from the first on
abbrev pub TakesFirst : List ℕ → List ℕ → List ℕ → ℕ → Type 0
TakesFirst old new bytes count = new ≡ old ++ take count bytes

-- a writer did, where it is known what it holds
abbrev pub WriterTakes : {W E : Type 0} → (W → Option (List ℕ)) → Writing W → Writing W → Result ℕ E → List ℕ → Type 0
WriterTakes contents old new result bytes = WriteAppends (contents old.writer) (contents new.writer) result bytes

-- what a writer holds, as far as it is known
abbrev pub held : Option (List ℕ) → List ℕ
held None = []
held (Some bytes) = bytes

-- what each writer of a type holds is known, as it is of a vector
abbrev pub AreKnown : {W : Type 0} → (W → Option (List ℕ)) → Type 0
AreKnown {W = W} contents = (w : W) → contents w ≡ Some (held (contents w))

-- a writer of such a type holds these bytes and no others
abbrev pub Holds : {W : Type 0} → (W → Option (List ℕ)) → W → List ℕ → Type 0
Holds contents w bytes = AreKnown contents → contents w ≡ Some bytes

-- of these bytes an output took all but the rest
pub record Leaves (old new all rest : List ℕ) : Type 0 where
  pub done : List ℕ
  pub parts : all ≡ done ++ rest
  pub taken : new ≡ old ++ done

-- it took a beginning of them
pub record TakesBeginning (old new all : List ℕ) : Type 0 where
  pub rest : List ℕ
  pub leaves : Leaves old new all rest

-- it took all of them; or, where the call failed, a beginning
abbrev pub Takes : {T E : Type 0} → List ℕ → List ℕ → Result T E → List ℕ → Type 0
Takes old new result all =
    MatchResult result (λ _. new ≡ old ++ all) (λ _. TakesBeginning old new all)

-- it failed where the call did, and nowhere else
abbrev pub Fails : {T E : Type 0} → ℕ → ℕ → Result T E → Type 0
Fails before after result = MatchResult result (λ _. after ≡ before) (λ _. before < after)

-- A call that isn't whole for want of memory leaves the count as it was; one that is because an output
-- failed does not.
abbrev pub HasCause : {T : Type 0} → ℕ → ℕ → Result T ExportFault → Type 0
HasCause before after (Ok x) = after ≡ before
HasCause before after (Err faults.DeviceFault) = before < after
HasCause before after (Err faults.NoMemory) = after ≡ before
