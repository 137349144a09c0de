-- Whether a message is true of a repository with a root: the operations undone on the tree with the commit's root lead to it.
-- What is a CAR file and what a signed commit, is defined in spec.
use Rattle.std.specs.Prelude.{ℕ, suc, Bool, true, false, List, [], ◌∷◌, length, map, nat_le, if◌then◌else◌, slice_index, Option, Some, None, Result, Ok, Err}
use Rattle.std.specs.Str.{bytes_eq}
use Rattle.std.specs.declared.cmp.Ordering.{Ordering}
use Rattle.std.specs.declared.cmp.Ordering.TheVariants.{Less, Equal, Greater}
use Rattle.spec.specs.Reading.{◌>>=◌, ensure}
use Rattle.spec.specs.CarReading.{Section, CarFault, read_car, are_named, block_with, blocks_of}
use Rattle.spec.specs.SignedCommits.{Commit, CommitFault, read_commit}
use Rattle.spec.specs.Writes.{WriteFault, record_test}
use Rattle.edit_laws.specs.Order.{if_equal, order}
use Rattle.change_laws.specs.Told.{KeyChange}
use Rattle.change_laws.specs.Given as given
use Rattle.change_laws.specs.Verdict.{change_verdict}
use Rattle.event_times.specs.Limits.{most_record_bytes}
use Rattle.event_laws.specs.Events.{Event}
use Rattle.event_laws.specs.Reading.{FormFault, read_event}

-- Why a message isn't taken (the names and the order of the faults are a choice of this project): it is none; two operations have
-- one path; another root was before; its blocks are no CAR file, or one whose root isn't the commit, or with a block that has
-- another CID, or without the commit; that is none, or another repository's, or of another revision; a record is missing, too
-- long, or none; the blocks don't show the operations. A place is that of an operation in the message.
pub data EventFault : Type 0 where
  OfForm : FormFault → EventFault
  DoubledPath : ℕ → EventFault
  OtherPrevious : EventFault
  OfCar : CarFault → EventFault
  NotTheRoot : EventFault
  Misnamed : EventFault
  CommitMissing : EventFault
  OfCommit : CommitFault → EventFault
  OtherDid : EventFault
  OtherRev : EventFault
  RecordMissing : ℕ → EventFault
  RecordSize : ℕ → EventFault
  BadRecord : ℕ → WriteFault → EventFault
  NotShown : given.ChangeFault → EventFault

-- what a message says that is true, with its commit and its blocks
pub record Checked : Type 0 where
  pub event : Event
  pub commit : Commit
  pub sections : List Section

-- ---- operations in the order of their keys, each with its place

abbrev pub Placed : Type 0
Placed = ℕ × KeyChange

abbrev pub placed_from : ℕ → List KeyChange → List Placed
placed_from place [] = []
placed_from place (c ∷ cs) = (place, c) ∷ placed_from (suc place) cs

-- into its place, behind those of its key
abbrev pub insert_at : Ordering → Placed → Placed → List Placed → List Placed → List Placed
insert_at Less c d ds more = d ∷ more
insert_at Equal c d ds more = d ∷ more
insert_at Greater c d ds more = c ∷ d ∷ ds

abbrev pub insert_op : Placed → List Placed → List Placed
insert_op c [] = c ∷ []
insert_op c (d ∷ ds) = insert_at (order d.1.key c.1.key) c d ds (insert_op c ds)

abbrev pub ordered : List Placed → List Placed → List Placed
ordered sorted [] = sorted
ordered sorted (c ∷ cs) = ordered (insert_op c sorted) cs

abbrev pub ordered_ops : List KeyChange → List KeyChange
ordered_ops cs = map (λ x. x.1) (ordered [] (placed_from 0 cs))

-- one of the keys is this one
abbrev pub is_seen : List (List ℕ) → List ℕ → Bool
is_seen [] key = false
is_seen (k ∷ ks) key = if_equal (order k key) true (is_seen ks key)

-- the first of the operations that has the key of one before it
abbrev pub doubled_after : List (List ℕ) → ℕ → List KeyChange → Option ℕ
doubled_after keys place [] = None
doubled_after keys place (c ∷ cs) =
    if is_seen keys c.key then Some place else doubled_after (c.key ∷ keys) (suc place) cs

abbrev pub unless_doubled : Option ℕ → Result (Unit {0}) EventFault
unless_doubled None = Ok tt
unless_doubled (Some place) = Err (DoubledPath place)

abbrev pub single_keys : List KeyChange → Result (Unit {0}) EventFault
single_keys cs = unless_doubled (doubled_after [] 0 cs)

-- the place in the message of the operation at a place in the order of the keys
abbrev pub place_of : List Placed → ℕ → ℕ
place_of cs i = slice_index (map (λ c. c.0) cs) i

-- ---- faults of the parts

abbrev pub of_form : {A : Type 0} → Result A FormFault → Result A EventFault
of_form (Ok x) = Ok x
of_form (Err f) = Err (OfForm f)

abbrev pub of_car : {A : Type 0} → Result A CarFault → Result A EventFault
of_car (Ok x) = Ok x
of_car (Err f) = Err (OfCar f)

abbrev pub of_commit : {A : Type 0} → Result A CommitFault → Result A EventFault
of_commit (Ok x) = Ok x
of_commit (Err f) = Err (OfCommit f)

abbrev pub or_missing : {A : Type 0} → EventFault → Option A → Result A EventFault
or_missing fault None = Err fault
or_missing fault (Some x) = Ok x

abbrev pub of_record : {A : Type 0} → ℕ → Result A WriteFault → Result A EventFault
of_record place (Ok x) = Ok x
of_record place (Err f) = Err (BadRecord place f)

-- a value is told by the place of its operation in the message
abbrev pub as_event_fault : List Placed → given.ChangeFault → EventFault
as_event_fault cs (given.OtherValue i) = NotShown (given.OtherValue (place_of cs i))
as_event_fault cs f = NotShown f

abbrev pub of_change : List Placed → Result (Unit {0}) given.ChangeFault → Result (Unit {0}) EventFault
of_change cs (Ok x) = Ok tt
of_change cs (Err f) = Err (as_event_fault cs f)

-- ---- records

-- the record that an operation leaves is given, and is a record that isn't too long
abbrev pub after_test : List Section → ℕ → Option (List ℕ) → Result (Unit {0}) EventFault
after_test ss place None = Ok tt
after_test ss place (Some c) = do
  b ← or_missing (RecordMissing place) (block_with c ss)
  size ← ensure (nat_le (length b) most_record_bytes) (RecordSize place)
  of_record place (record_test b)

-- each of them, where the first operation is at a place
abbrev pub records_test : List Section → ℕ → List KeyChange → Result (Unit {0}) EventFault
records_test ss place [] = Ok tt
records_test ss place (c ∷ cs) = after_test ss place c.after >>= λ x. records_test ss (suc place) cs

-- ---- the verdict

-- the sections of a message's file, whose root is this commit, each with the CID of its block
unfoldable pub sections_of : (List ℕ → List ℕ) → List ℕ → List ℕ → Result (List Section) EventFault
sections_of digest commit file = do
  car ← of_car (read_car file)
  root ← ensure (bytes_eq car.0 commit) NotTheRoot
  named ← ensure (are_named digest car.1) Misnamed
  Ok car.1

-- the commit of this repository and revision that has this CID
unfoldable pub commit_in : List Section → Event → Result Commit EventFault
commit_in ss e = do
  b ← or_missing CommitMissing (block_with e.commit ss)
  c ← of_commit (read_commit b)
  did ← ensure (bytes_eq c.did e.did) OtherDid
  rev ← ensure (bytes_eq c.rev e.rev) OtherRev
  Ok c

-- what a message says, where it is true of the repository that had this root
unfoldable pub commit_verdict : (List ℕ → List ℕ) → ℕ → List ℕ → List ℕ → Result Checked EventFault
commit_verdict digest bits previous message = do
  e ← of_form (read_event message)
  single ← single_keys e.ops
  same ← ensure (bytes_eq e.before previous) OtherPrevious
  ss ← sections_of digest e.commit e.blocks
  c ← commit_in ss e
  records ← records_test ss 0 e.ops
  shown ← of_change (ordered [] (placed_from 0 e.ops))
      (change_verdict digest bits previous c.root (blocks_of ss) (ordered_ops e.ops))
  Ok (record { event = e; commit = c; sections = ss })
