-- What a host tells of a batch, and why it can't (the names and the order of the faults are a choice of this project).
use Rattle.std.specs.Prelude.{ℕ, suc, ◌^◌, List, [], ◌∷◌, length, nat_lt, nat_le, Option, Some, None, Result, Ok, Err}
use Rattle.spec.specs.Reading.{◌>>=◌, ensure}
use Rattle.spec.specs.Keys.{is_repository_key}
use Rattle.spec.specs.Blocks.{record_at}
use Rattle.change_laws.specs.Told.{KeyChange}
use Rattle.change_laws.specs.Given.{ChangeFault}
use Rattle.event_times.specs.Limits.{most_ops, most_record_bytes}
use Rattle.event_times.specs.Times.{is_time}
use Rattle.event_laws.specs.Ops.{ops_of}
use Rattle.event_laws.specs.Reading.{FormFault, BadOp, BadTime, TooManyOps, since_test}

-- what a message tells beside the batch: its number in the stream, when it is sent, the revision of the batch before, if there
-- was one, and the signature of the commit
pub record Told : Type 0 where
  pub seq : ℕ
  pub time : List ℕ
  pub since : Option (List ℕ)
  pub sig : List ℕ

-- Why a batch isn't told: there is none; the number is none of the stream; the message would have no lawful form, as its revision
-- isn't after the one before, its time is none, too many keys change, one that changes is no record's, or the file of the
-- commit, the nodes and the records is too long; another value stands under a key than is told after the change; a record is
-- too long. A place is that of an operation in the message, from 0.
pub data UntoldFault : Type 0 where
  NoBatch : UntoldFault
  BadSeq : UntoldFault
  OfForm : FormFault → UntoldFault
  NotShown : ChangeFault → UntoldFault
  RecordSize : ℕ → UntoldFault

abbrev pub of_form : {A : Type 0} → Result A FormFault → Result A UntoldFault
of_form (Ok x) = Ok x
of_form (Err f) = Err (OfForm f)

-- ---- what stands beside the batch

abbrev pub or_no_batch : {A : Type 0} → Option A → Result A UntoldFault
or_no_batch None = Err NoBatch
or_no_batch (Some x) = Ok x

-- of a batch with this revision
unfoldable pub told_test : Told → List ℕ → Result (Unit {0}) UntoldFault
told_test told rev = do
  counted ← ensure (nat_lt told.seq (2 ^ 63)) BadSeq
  later ← of_form (since_test told.since rev)
  ensure (is_time told.time) (OfForm BadTime)

-- ---- operations

-- each passes a test, where the first stands at a place
abbrev pub each_test : (ℕ → KeyChange → Result (Unit {0}) UntoldFault) → ℕ → List KeyChange → Result (Unit {0}) UntoldFault
each_test test place [] = Ok tt
each_test test place (c ∷ cs) = test place c >>= λ x. each_test test (suc place) cs

-- each key is a record's
abbrev pub path_test : ℕ → KeyChange → Result (Unit {0}) UntoldFault
path_test place c = ensure (is_repository_key c.key) (OfForm (BadOp place))

abbrev pub paths_test : ℕ → List KeyChange → Result (Unit {0}) UntoldFault
paths_test place cs = each_test path_test place cs

-- the operations of changes: an update that leaves the record that there was is left out
unfoldable pub told_ops : List KeyChange → Result (List KeyChange) UntoldFault
told_ops cs = do
  few ← ensure (nat_le (length (ops_of cs)) most_ops) (OfForm TooManyOps)
  paths ← paths_test 0 (ops_of cs)
  Ok (ops_of cs)

abbrev pub of_values : Result (Unit {0}) ChangeFault → Result (Unit {0}) UntoldFault
of_values (Ok x) = Ok tt
of_values (Err f) = Err (NotShown f)

-- ---- records

abbrev pub size_test : ℕ → List (List ℕ) → Result (Unit {0}) UntoldFault
size_test place [] = Ok tt
size_test place (b ∷ bs) = ensure (nat_le (length b) most_record_bytes) (RecordSize place)

-- the record that each operation leaves isn't too long
abbrev pub left_size : List (List ℕ × List ℕ) → ℕ → KeyChange → Result (Unit {0}) UntoldFault
left_size m place c = size_test place (record_at m c.key)

abbrev pub sizes_test : List (List ℕ × List ℕ) → ℕ → List KeyChange → Result (Unit {0}) UntoldFault
sizes_test m place cs = each_test (left_size m) place cs
