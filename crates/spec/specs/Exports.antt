-- A file as the export of a repository: what it is, and why it is none, in the order of the tests.
use Rattle.std.specs.Prelude.{◌≡◌, ℕ, suc, true, List, [], ◌∷◌, Option, Some, None, Result}
use Rattle.std.specs.Prelude.{Ok, Err}
use Rattle.std.specs.List.{AllByRecursion}
use Rattle.spec.specs.Reading.{◌>>=◌, ensure}
use Rattle.spec.specs.Cid.{cid}
use Rattle.spec.specs.Tree.{Pair}
use Rattle.spec.specs.Keys.{is_repository_key}
use Rattle.spec.specs.Writes.{WriteFault, BadKey, record_test}
use Rattle.spec.specs.Blocks.{ArePairs, root as root_of, pairs, record_blocks}
use Rattle.spec.specs.Sources.{HasNodes, HasBlocks}
use Rattle.spec.specs.CarReading.{CarFault, Section, IsSection, read_car, are_named, car_bytes}
use Rattle.spec.specs.CarReading.{block_with}
use Rattle.spec.specs.SignedCommits.{Commit, CommitFault, IsCommit, read_commit, signed_bytes}

-- what these sections give for a CID
abbrev pub given_by : List Section → List ℕ → Option (List ℕ)
given_by ss c = block_with c ss

-- ---- what an export is

-- The file has a section for each block of this repository, and maybe others, in any order and any
-- number of times. Its root is the signed commit, which names the root of the tree of the records.
pub record IsExport (digest : List ℕ → List ℕ) (bits : ℕ) (file : List ℕ) (c : Commit)
    (m : List (List ℕ × List ℕ)) : Type 0 where
  pub sections : List Section
  pub spelled : file ≡ car_bytes (cid digest (signed_bytes c)) sections
  pub lawful : AllByRecursion IsSection sections
  pub named : are_named digest sections ≡ true
  pub commit : IsCommit c
  pub has_commit : given_by sections (cid digest (signed_bytes c)) ≡ Some (signed_bytes c)
  pub pairs_are : ArePairs (pairs digest m)
  pub root_is : c.root ≡ root_of digest bits (pairs digest m)
  pub has_nodes : HasNodes digest bits (given_by sections) (pairs digest m)
  pub has_records : HasBlocks digest (given_by sections) (record_blocks m)
  pub keys : AllByRecursion (λ e. is_repository_key e.0 ≡ true) m
  pub records : AllByRecursion (λ e. record_test e.1 ≡ Ok tt) m

-- ---- why a file is none (the names and the order of the faults are a choice of this project)

-- why a record isn't taken: it isn't in the file; its key, its size, its spelling or its kind
pub data RecordFault : Type 0 where
  NoRecord : RecordFault
  OfTest : WriteFault → RecordFault

-- The file's form; a section whose CID isn't that of its block; the root isn't in the file; its
-- block is no commit; the nodes from the commit's root on aren't, all of them, those of the tree of
-- any pairs; the first record that isn't taken, by its place among the pairs.
pub data ExportFault : Type 0 where
  OfCar : CarFault → ExportFault
  Misnamed : ExportFault
  NoCommit : ExportFault
  OfCommit : CommitFault → ExportFault
  NotTheTree : ExportFault
  OfRecord : ℕ → RecordFault → ExportFault

abbrev pub of_car : {A : Type 0} → Result A CarFault → Result A ExportFault
of_car (Ok x) = Ok x
of_car (Err f) = Err (OfCar f)

abbrev pub of_commit : {A : Type 0} → Result A CommitFault → Result A ExportFault
of_commit (Ok x) = Ok x
of_commit (Err f) = Err (OfCommit f)

abbrev pub or_no_commit : Option (List ℕ) → Result (List ℕ) ExportFault
or_no_commit None = Err NoCommit
or_no_commit (Some b) = Ok b

-- the root and the sections of a file, each named by its block
abbrev pub named_file : (List ℕ → List ℕ) → List ℕ → Result (List ℕ × List Section) ExportFault
named_file digest file = do
  car ← of_car (read_car file)
  named ← ensure (are_named digest car.1) Misnamed
  Ok car

-- the commit that is the root
abbrev pub commit_with : List ℕ → List Section → Result Commit ExportFault
commit_with root ss = do
  block ← or_no_commit (block_with root ss)
  of_commit (read_commit block)

-- the sections of a file and its commit
unfoldable pub opened : (List ℕ → List ℕ) → List ℕ → Result (List Section × Commit) ExportFault
opened digest file = do
  car ← named_file digest file
  c ← commit_with car.0 car.1
  Ok (car.1, c)

-- these are the pairs of the tree with this root, and the sections have all of its nodes
pub record IsTree (digest : List ℕ → List ℕ) (bits : ℕ) (ss : List Section) (root : List ℕ)
    (es : List Pair) : Type 0 where
  pub pairs : ArePairs es
  pub root_is : root ≡ root_of digest bits es
  pub nodes : HasNodes digest bits (given_by ss) es

-- the record of a pair: under a lawful key, there, a map of DAG-CBOR within size
abbrev pub or_no_record : Option (List ℕ) → Result (List ℕ) RecordFault
or_no_record None = Err NoRecord
or_no_record (Some b) = Ok b

abbrev pub of_test : {A : Type 0} → Result A WriteFault → Result A RecordFault
of_test (Ok x) = Ok x
of_test (Err f) = Err (OfTest f)

abbrev pub record_for : List Section → Pair → Result (List ℕ) RecordFault
record_for ss e = do
  key_ok ← of_test (ensure (is_repository_key e.0) BadKey)
  b ← or_no_record (block_with e.1 ss)
  record_ok ← of_test (record_test b)
  Ok b

abbrev pub at_place : {A : Type 0} → ℕ → Result A RecordFault → Result A ExportFault
at_place place (Ok x) = Ok x
at_place place (Err f) = Err (OfRecord place f)

-- the record of each pair, or the first that isn't taken, where the first pair is at this place
abbrev pub records_from : List Section → ℕ → List Pair → Result (List (List ℕ)) ExportFault
records_from ss place [] = Ok []
records_from ss place (e ∷ es) = do
  r ← at_place place (record_for ss e)
  rs ← records_from ss (suc place) es
  Ok (r ∷ rs)

-- the key of each pair with its record
abbrev pub keyed : List Pair → List (List ℕ) → List (List ℕ × List ℕ)
keyed [] rs = []
keyed (e ∷ es) [] = []
keyed (e ∷ es) (r ∷ rs) = (e.0, r) ∷ keyed es rs

-- the file was opened, but no pairs have a tree under the commit's root of which the sections have
-- all nodes
pub record HasNoTree (digest : List ℕ → List ℕ) (bits : ℕ) (file : List ℕ) : Type 0 where
  pub sections : List Section
  pub commit : Commit
  pub opened_as : opened digest file ≡ Ok (sections, commit)
  pub no_tree : (es : List Pair) → IsTree digest bits sections commit.root es → ⊥

-- the tree is there, and one of its records isn't taken
pub record HasFaultyRecord (digest : List ℕ → List ℕ) (bits : ℕ) (file : List ℕ)
    (fault : ExportFault) : Type 0 where
  pub sections : List Section
  pub commit : Commit
  pub opened_as : opened digest file ≡ Ok (sections, commit)
  pub pairs : List Pair
  pub tree : IsTree digest bits sections commit.root pairs
  pub refused : records_from sections 0 pairs ≡ Err fault

-- the fault is the first one, in the order of the tests
abbrev pub IsFirstFault : (List ℕ → List ℕ) → ℕ → List ℕ → ExportFault → Type 0
IsFirstFault digest bits file (OfCar f) = opened digest file ≡ Err (OfCar f)
IsFirstFault digest bits file Misnamed = opened digest file ≡ Err Misnamed
IsFirstFault digest bits file NoCommit = opened digest file ≡ Err NoCommit
IsFirstFault digest bits file (OfCommit f) = opened digest file ≡ Err (OfCommit f)
IsFirstFault digest bits file NotTheTree = HasNoTree digest bits file
IsFirstFault digest bits file (OfRecord place f) =
    HasFaultyRecord digest bits file (OfRecord place f)
