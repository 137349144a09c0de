-- The names of the faults of JSON, as standard error shows them (a choice of this project).
use Rattle.std.specs.Prelude.{ℕ, List, [], ◌∷◌, ◌++◌, codes}
use Rattle.record_json.specs.declared.fault.JsonFaultKind.{JsonFaultKind}
use Rattle.record_json.specs.declared.fault.JsonFaultKind.TheVariants as kinds

abbrev pub json_fault_name : JsonFaultKind → List ℕ
json_fault_name kinds.NotJson = codes "BadJson(NotJson)"
json_fault_name kinds.DoubledKey = codes "BadJson(DoubledKey)"
json_fault_name kinds.Float = codes "BadJson(Float)"
json_fault_name kinds.IntegerRange = codes "BadJson(IntegerRange)"
json_fault_name kinds.BadLink = codes "BadJson(BadLink)"
json_fault_name kinds.BadBytes = codes "BadJson(BadBytes)"
json_fault_name kinds.BadDollar = codes "BadJson(BadDollar)"
json_fault_name kinds.TooDeep = codes "BadJson(TooDeep)"
json_fault_name kinds.NotAMap = codes "BadJson(NotAMap)"
json_fault_name kinds.NoMemory = codes "BadJson(NoMemory)"

-- where in the text, if that isn't the whole of it
abbrev pub place_words : List ℕ → List ℕ
place_words [] = []
place_words (c ∷ path) = codes " at " ++ c ∷ path

-- the name, and where the fault is
abbrev pub json_fault_text : JsonFaultKind → List ℕ → List ℕ
json_fault_text kind path = json_fault_name kind ++ place_words path
