-- A batch that is tested before a block of it is made.
use Rattle.std.specs.Prelude.{◌≡◌, ◌+◌, ◌++◌, ℕ, Bool, true, List, ◌∷◌, length, map as each}
use Rattle.std.specs.Prelude.{Option, option_map, is_some, Result, Ok}
use Rattle.std.specs.Borrow.{Bor}
use Rattle.std.specs.declared.sync.Arc.{Arc}
use Rattle.spec.specs.Reading.{◌>>=◌, ensure}
use Rattle.spec.specs.Tree.{Pair}
use Rattle.spec.specs.Blocks.{value_of}
use Rattle.spec.specs.Writes.{Write, Put, Create, Update, Delete, WriteFault, WritesFull}
use Rattle.spec.specs.Writes.{key_of, test_when, batch_test}
use Rattle.spec.specs.States.{State}
use Rattle.batch_laws.specs.Batch.{Change, at_key}
use Rattle.batch_laws.specs.Collecting.{there_after}
use Rattle.batch_laws.specs.Staged.{old_pairs}
use Rattle.lookups.specs.Trees.{HasTree}
use Rattle.counts.specs.declared.count.Count.{Count}
use Rattle.block.specs.Bytes.{shared_record}
use Rattle.kept.specs.Counts.{Counts, bytes_at}
use Rattle.batches.specs.Tests.{write_fault, IsTestFault}
use Rattle.batches.specs.Write as Code
use Rattle.batches.specs.declared.fault.RepoFault.{RepoFault}
use Rattle.repo.specs.Refusals.{next_test}
use Rattle.repo.specs.declared.changes.Collected.{Collected}

-- lent bytes, where there are any
abbrev pub lent : Option (Bor (List ℕ)) → Option (List ℕ)
lent o = option_map (λ bytes. bytes.now) o

-- the entries of a map as changes: each key, with the bytes of its record or none
abbrev pub changes_of : List (Bor (List ℕ) × Option (Bor (List ℕ))) → List Change
changes_of es = each (λ e. (e.0.now, lent e.1)) es

-- shared writes by their keys as changes: each key, with the record that its write leaves or none
abbrev pub shared_changes : {A : Type 0} → List (Bor (List ℕ) × Bor (Arc (Code.Write A) A))
    → List Change
shared_changes es = each (λ e. (e.0.now, shared_record e.1.now)) es

-- the changes that were collected
abbrev pub changes_in : {A : Type 0} → Collected A → List Change
changes_in c = shared_changes c.writes.entries

-- ---- the test of a write

-- whether a key is there after these changes of pairs
abbrev pub is_there : List Change → List Pair → List ℕ → Bool
is_there changes es key = there_after (at_key key changes) (is_some (value_of key es))

-- the test of a write after those whose changes of the pairs these are: whether there is room, and
-- then the write itself
abbrev pub test_after : Bool → List Change → List Pair → Write → Result (Unit {0}) WriteFault
test_after room changes es w = do
  ok ← ensure room WritesFull
  test_when (is_there changes es (key_of w)) w

-- by both presences of its key the write has the same test
abbrev pub HaveSameTest : Bool → Bool → Write → Type 0
HaveSameTest one other w = test_when one w ≡ test_when other w

-- ---- how often blocks are read for it

-- these changes name the key
abbrev pub is_named : List Change → List ℕ → Bool
is_named changes key = is_some (at_key key changes)

-- the test of a write after these changes needs no look-up: the changes name its key, or it is a put
abbrev pub is_known : List Change → Write → Bool
is_known changes (Put key bytes) = true
is_known changes (Create key bytes) = is_named changes key
is_known changes (Update key bytes) = is_named changes key
is_known changes (Delete key) = is_named changes key

-- then no block was read
abbrev pub IsUnread : List Change → Write → Count → Type 0
IsUnread changes w looked = is_known changes w ≡ true → looked.times ≡ 0

-- ---- the test of a batch

-- a batch is tested on a state: for so many writes there is room, and the tree of its records has
-- this root among these blocks
pub record IsTestStart (digest : List ℕ → List ℕ) (bits : ℕ) (s : State) (room : ℕ)
    (root : List ℕ) (m : Counts) : Type 0 where
  pub room_is : length s.accepted + room ≡ s.limit
  pub tree : HasTree digest bits (bytes_at m) root (old_pairs digest s)

-- for every such state
abbrev pub OnOldTree : (List ℕ → List ℕ) → ℕ → ℕ → List ℕ → Counts → (State → Type 0) → Type 0
OnOldTree digest bits room root m P = (s : State) → IsTestStart digest bits s room root m → P s

-- The writes before a place pass, and the one there has this fault: its test's, or a want of memory.
pub record IsFailedWrite {D A : Type 0} (s : State) (batch : List Write) (e : ℕ × RepoFault D A)
    : Type 0 where
  pub before : List Write
  pub here : Write
  pub after : List Write
  pub whole : batch ≡ before ++ here ∷ after
  pub place : length before ≡ e.0
  pub passed : batch_test s.limit s.accepted before ≡ Ok tt
  pub fault : IsTestFault write_fault (next_test s before here) e.1
