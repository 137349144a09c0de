-- What is told of trees that a host keeps by itself.
use Rattle.std.specs.Prelude.{◌≡◌, ◌++◌, ℕ, List, [], ◌∷◌, Option, Some, None, Bool, true, false, nat_eq, length, map, if◌then◌else◌, Result, Ok, Err}
use Rattle.std.specs.Arc.{arc_value}
use Rattle.std.specs.declared.sync.Arc.{Arc}
use Rattle.std.specs.Global.{Global}
use Rattle.sha2.specs.Sha256.{sha256}
use Rattle.cid.specs.declared.digest.Sha256.{Sha256}
use Rattle.spec.specs.Tree.{Pair}
use Rattle.spec.specs.NodeFormat.{is_ascending}
use Rattle.spec.specs.Blocks.{IsClashFree, nodes, root as root_of}
use Rattle.spec.specs.Stamps.{Stamp}
use Rattle.spec.specs.Writes as writes
use Rattle.spec.specs.States.{BatchFault, after_batch, fresh, state_car, state_test}
use Rattle.batch_laws.specs.Batch.{Change}
use Rattle.edit.specs.Batches.{IsBatch, IsBatchRefusal, IsAnswered, IsLack}
use Rattle.key_changes.specs.Keyed.{are_changes}
use Rattle.edit.specs.declared.outcome.BatchEdit.{BatchEdit}
use Rattle.edit.specs.declared.outcome.EditFault.{EditFault}
use Rattle.edit.specs.declared.outcome.EditFault.TheVariants.{Missing, BadNode, TooDeep, NotTree, NoSuchKey, Clash, NoMemory}
use Rattle.lookups.specs.Maps.{first_of}
use Rattle.batches.specs.declared.fault.RepoFault.{RepoFault}
use Rattle.batches.specs.declared.fault.RepoFault.TheVariants as faults
use Rattle.buffers.specs.Answers.{IsHanded, blocks_bytes, cids_bytes, number_bytes, values_bytes}
use Rattle.buffers.specs.Framing.{cid_at, cid_or_none_at, cut, with_values}
use Rattle.tizulgech.specs.Known.{known_of}
use Rattle.tizulgech.specs.Numbers.{IsHandedOr255, is_other}

-- ---- listings

-- where there are parts, the pairs with their values
abbrev pub beside_parts : {V : Type 0} → (List ℕ → Option V) → Option (List (List ℕ)) → List ℕ
    → Option (List (List ℕ × V))
beside_parts value None values = None
beside_parts value (Some parts) values = with_values value parts values

-- the pairs of a listing: keys with where each ends, and a CID for each
abbrev pub listing : List ℕ → List ℕ → List ℕ → Option (List Pair)
listing keys ends cids = beside_parts cid_at (cut 0 ends keys) cids

-- 0, the root and the number of nodes; 253 where nodes clash; 255 for want of memory
pub record IsTreeOf (code : ℕ) (out : List ℕ) (count : ℕ) (es : List Pair) : Type 0 where
  pub root_is : code ≡ 0 → out ≡ root_of sha256 2 es
  pub count_is : code ≡ 0 → count ≡ length (nodes sha256 2 es)
  pub clash : code ≡ 253 → ¬ IsClashFree sha256 (nodes sha256 2 es)
  pub other : ¬ (code ≡ 0) → ¬ (code ≡ 253) → code ≡ 255

-- 3 for keys that don't ascend, or have no bytes or more than 1,024
abbrev pub IsTreeWhen : Bool → ℕ → List ℕ → ℕ → List Pair → Type 0
IsTreeWhen false code out count es = code ≡ 3
IsTreeWhen true code out count es = IsTreeOf code out count es

-- 252 for what is no listing
abbrev pub IsListed : ℕ → List ℕ → ℕ → Option (List Pair) → Type 0
IsListed code out count None = code ≡ 252
IsListed code out count (Some es) = IsTreeWhen (is_ascending es) code out count es

-- ---- edits

-- changes that a batch takes
abbrev pub taken : Option (List Change) → Option (List Change)
taken None = None
taken (Some cs) = if are_changes cs then Some cs else None

-- the changes of a listing in which 36 zeros stand for a key that goes, where a batch takes them
abbrev pub changes_in : List ℕ → List ℕ → List ℕ → Option (List Change)
changes_in keys ends values = taken (beside_parts cid_or_none_at (cut 0 ends keys) values)

-- how an edit is spelt: the root; the value that each key had, 36 zeros where it had none; how many CIDs go, and these; and
-- each new block with its CID and its length in front
abbrev pub edit_bytes : List ℕ → List (Option (List ℕ)) → List (List ℕ) → List (List ℕ) → List ℕ
edit_bytes root previous drop add =
    root ++ values_bytes previous ++ number_bytes (length drop) ++ cids_bytes drop ++ blocks_bytes sha256 add

-- the number of what a batch answers
abbrev pub IsEditTold : {D A : Type 0} → ℕ → List ℕ → List ℕ → List ℕ → ℕ → Result (BatchEdit D A) (EditFault D A) → Type 0
IsEditTold code missing before room size (Ok edit) =
    IsHandedOr255 code (edit_bytes edit.root edit.previous.items edit.drop.items (map arc_value edit.add.items)) before room size
IsEditTold code missing before room size (Err (Missing c)) = (code ≡ 2) × (missing ≡ c)
IsEditTold code missing before room size (Err (BadNode c)) = (code ≡ 30) × (missing ≡ c)
IsEditTold code missing before room size (Err TooDeep) = code ≡ 31
IsEditTold code missing before room size (Err NotTree) = code ≡ 35
IsEditTold code missing before room size (Err NoSuchKey) = code ≡ 24
IsEditTold code missing before room size (Err (Clash pair)) = code ≡ 253
IsEditTold code missing before room size (Err NoMemory) = code ≡ 255

-- what is told is what a batch of these changes answers over these nodes
pub record IsEditOver (code : ℕ) (missing before room : List ℕ) (size : ℕ) (given : List (List ℕ))
    (root : List ℕ) (cs : List Change) : Type 0 where
  pub nodes : List (Arc (List ℕ) Global)
  pub nodes_are : map arc_value nodes ≡ given
  pub result : Result (BatchEdit Sha256 Global) (EditFault Sha256 Global)
  pub edit : IsBatch sha256 2 (first_of sha256 nodes) root cs result
  pub fault : IsBatchRefusal sha256 2 (first_of sha256 nodes) root cs result
  pub answer : IsAnswered sha256 2 (first_of sha256 nodes) root cs result
  pub lack : IsLack sha256 2 (first_of sha256 nodes) root cs result
  pub told : IsEditTold code missing before room size result

-- the same of nodes of which the first are given with their CIDs; 252 where these are none, or more than the nodes
abbrev pub IsEditWhen : Option (List (List ℕ × List ℕ)) → ℕ → List ℕ → List ℕ → List ℕ → ℕ → List (List ℕ) → List ℕ → List Change → Type 0
IsEditWhen None code missing before room size given root cs = code ≡ 252
IsEditWhen (Some known) code missing before room size given root cs = IsEditOver code missing before room size given root cs

abbrev pub IsEditKnown : ℕ → List ℕ → List ℕ → List ℕ → ℕ → List (List ℕ) → List ℕ → List ℕ → List Change → Type 0
IsEditKnown code missing before room size given cids root cs =
    IsEditWhen (known_of given cids) code missing before room size given root cs

-- 252 for arguments that are none
abbrev pub IsEdited : ℕ → List ℕ → List ℕ → List ℕ → ℕ → Option (List (List ℕ)) → List ℕ → Option (List ℕ)
    → Option (List Change) → Type 0
IsEdited code missing before room size None cids root cs = code ≡ 252
IsEdited code missing before room size (Some given) cids None cs = code ≡ 252
IsEdited code missing before room size (Some given) cids (Some root) None = code ≡ 252
IsEdited code missing before room size (Some given) cids (Some root) (Some cs) =
    IsEditKnown code missing before room size given cids root cs

-- ---- files

-- a put of each key with the record at its place
abbrev pub puts : List (List ℕ) → List (List ℕ) → List writes.Write
puts [] records = []
puts (k ∷ ks) [] = []
puts (k ∷ ks) (r ∷ rs) = writes.Put k r ∷ puts ks rs

abbrev pub puts_in : Option (List (List ℕ)) → Option (List (List ℕ)) → Option (List writes.Write)
puts_in None records = None
puts_in (Some keys) None = None
puts_in (Some keys) (Some records) = if nat_eq (length keys) (length records) then Some (puts keys records) else None

-- the number of a fault of a batch: 253 for a clash, 254 for a full store, 255 for want of memory, and 32 for what a test finds
abbrev pub batch_number : {D A : Type 0} → RepoFault D A → ℕ
batch_number (faults.Collision pair) = 253
batch_number faults.StoreFull = 254
batch_number faults.NoMemory = 255
batch_number fault = 32

-- the test of these writes as the one batch of a repository
abbrev pub batch_tested : Stamp → List writes.Write → Result (Unit {0}) (ℕ × BatchFault)
batch_tested stamp ws = state_test (fresh 0 1048576) stamp ws

-- 0 and the file of a repository whose one batch has these writes; 32 where their test fails; 253 to 255 for what no test tells
pub record IsFileOf (code : ℕ) (before room : List ℕ) (size : ℕ) (stamp : Stamp) (ws : List writes.Write) : Type 0 where
  pub file : is_other code ≡ false → nat_eq code 32 ≡ false
      → IsHanded code (state_car sha256 2 (after_batch (fresh 0 1048576) stamp ws)) before room size
  pub passes : is_other code ≡ false → nat_eq code 32 ≡ false → batch_tested stamp ws ≡ Ok tt
  pub none : code ≡ 32 → batch_tested stamp ws ≡ Ok tt → ⊥

-- 252 for what is no listing
abbrev pub IsFiled : ℕ → List ℕ → List ℕ → ℕ → Stamp → Option (List writes.Write) → Type 0
IsFiled code before room size stamp None = code ≡ 252
IsFiled code before room size stamp (Some ws) = IsFileOf code before room size stamp ws
