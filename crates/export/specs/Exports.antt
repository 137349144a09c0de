-- What is exported of a repository.
use Rattle.std.specs.Prelude.{◌≡◌, ℕ, List, [], Option, Some, None, Result, length, map, option_map}
use Rattle.std.specs.Arc.{arc_value}
use Rattle.std.specs.declared.sync.Arc.{Arc}
use Rattle.spec.specs.Blocks.{pairs}
use Rattle.spec.specs.Proof.{path}
use Rattle.spec.specs.States.{State, records, state_car}
use Rattle.export_laws.specs.SignedCars.{state_signed_car}
use Rattle.export.specs.Once.{capped}
use Rattle.export.specs.Outs.{Takes}

-- an output took the CAR of a state; or, where the call failed, a beginning
abbrev pub TakesCar : {T E : Type 0} → (List ℕ → List ℕ) → ℕ → State → List ℕ → List ℕ → Result T E → Type 0
TakesCar digest bits s old new result = Takes old new result (state_car digest bits s)

-- how many bytes that is, as far as 64 bits go
abbrev pub car_length : (List ℕ → List ℕ) → ℕ → State → ℕ
car_length digest bits s = capped (length (state_car digest bits s))

-- a file, or nothing where there is none
abbrev pub bytes_or_none : Option (List ℕ) → List ℕ
bytes_or_none None = []
bytes_or_none (Some file) = file

-- an output took the file of a state with its last batch's commit signed so, or nothing before the first batch; or, where
-- the call failed, a beginning
abbrev pub TakesSignedCar : {T E : Type 0} → (List ℕ → List ℕ) → ℕ → State → List ℕ → List ℕ → List ℕ → Result T E → Type 0
TakesSignedCar digest bits s sig old new result = Takes old new result (bytes_or_none (state_signed_car digest bits s sig))

-- how many bytes that file has, as far as 64 bits go
abbrev pub signed_length : (List ℕ → List ℕ) → ℕ → State → List ℕ → Option ℕ
signed_length digest bits s sig = option_map (λ file. capped (length file)) (state_signed_car digest bits s sig)

-- these are the nodes of the key's path in the tree of a state's records
abbrev pub ArePathOf : {A : Type 0} → (List ℕ → List ℕ) → ℕ → State → List ℕ → List (Arc (List ℕ) A) → Type 0
ArePathOf digest bits s key nodes = map arc_value nodes ≡ path digest bits (pairs digest (records s)) key
