-- The names of refusals, as standard error and reports show them (a choice of this project): a fault inside a fault stands in
-- parentheses.
use Rattle.std.specs.Prelude.{ℕ, List, codes}
use Rattle.batches.specs.declared.fault.RepoFault.{RepoFault}
use Rattle.batches.specs.declared.fault.RepoFault.TheVariants as faults
use Rattle.record_rules.specs.Names.{bad_record_name}

abbrev pub refusal_name : {D A : Type 0} → RepoFault D A → List ℕ
refusal_name faults.BadKey = codes "BadKey"
refusal_name (faults.BadRecord fault) = bad_record_name fault
refusal_name faults.NotAMap = codes "NotAMap"
refusal_name faults.RecordSize = codes "RecordSize"
refusal_name faults.KeyExists = codes "KeyExists"
refusal_name faults.NoSuchKey = codes "NoSuchKey"
refusal_name faults.WritesFull = codes "WritesFull"
refusal_name (faults.Collision pair) = codes "Collision"
refusal_name faults.StoreFull = codes "StoreFull"
refusal_name faults.NoMemory = codes "NoMemory"
refusal_name faults.EmptyBatch = codes "EmptyBatch"
refusal_name faults.BadDid = codes "BadDid"
refusal_name faults.BadRev = codes "BadRev"
refusal_name faults.RevOrder = codes "RevOrder"
