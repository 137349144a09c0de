-- The edit of a batch that passed its tests, and what is exchanged for it.
use Rattle.std.specs.Prelude.{◌≡◌, ◌≤◌, ⊤, ℕ, List, ◌++◌, map as each, length, take, Option, Ok}
use Rattle.std.specs.Arc.{arc_value}
use Rattle.spec.specs.Tree.{Pair}
use Rattle.spec.specs.Blocks.{IsClashIn, nodes}
use Rattle.spec.specs.Stamps as stamps
use Rattle.spec.specs.Writes.{Write}
use Rattle.spec.specs.States.{State, IsLawful, state_test, state_root, state_blocks, state_commit}
use Rattle.batch_laws.specs.Batch.{Change, changed}
use Rattle.batch_laws.specs.Collecting.{collected}
use Rattle.edit.specs.Batches.{IsBatchOf, nodes_read}
use Rattle.edit.specs.declared.outcome.BatchEdit.{BatchEdit}
use Rattle.kept.specs.Counts.{Counts}
use Rattle.kept.specs.Trees.{OfTree}
use Rattle.batches.specs.Values.{stamp_of}
use Rattle.batches.specs.declared.stamp.Stamp.{Stamp}
use Rattle.batches.specs.declared.fault.RepoFault.{RepoFault}
use Rattle.batches.specs.declared.fault.RepoFault.TheVariants as faults
use Rattle.repo.specs.Exchanging.{IsExchangeOf, nodes_read_for, values_before}
use Rattle.repo.specs.Keeping.{AreKept}
use Rattle.repo.specs.Tested.{changes_in}
use Rattle.repo.specs.declared.changes.Collected.{Collected}
use Rattle.repo.specs.declared.exchanges.Exchange.{Exchange}

-- there is a list of pairs whose tree has this root among these blocks
abbrev pub HasSomeTree : (List ℕ → List ℕ) → ℕ → Counts → List ℕ → Type 0
HasSomeTree digest bits m root = OfTree digest bits m root (λ es. ⊥) → ⊥

-- the edit that these changes make of the tree of these pairs
abbrev pub IsEditMade : {D A : Type 0} → (List ℕ → List ℕ) → ℕ → List Change → List Pair
    → BatchEdit D A → Type 0
IsEditMade digest bits cs es edit = IsBatchOf digest bits cs es edit.root
    (each arc_value edit.add.items) edit.drop.items edit.previous.items

-- and it has the nodes that they read
abbrev pub HasNodes : {D A : Type 0} → (List ℕ → List ℕ) → ℕ → List Change → List Pair
    → BatchEdit D A → Type 0
HasNodes digest bits cs es edit = each arc_value edit.read.items ≡ nodes_read digest bits cs es

-- it isn't made: two nodes of the tree before or after clash, or memory was wanted
abbrev pub IsEditRefusal : {D A : Type 0} → (List ℕ → List ℕ) → ℕ → List Change → List Pair
    → RepoFault D A → Type 0
IsEditRefusal digest bits cs es (faults.Collision pair) =
    IsClashIn digest (nodes digest bits es ++ nodes digest bits (changed cs es)) pair
IsEditRefusal digest bits cs es faults.NoMemory = ⊤
IsEditRefusal digest bits cs es fault = ⊥

-- ---- over a state

-- a batch that passed its tests on a state comes to these changes; the state's root, its last commit and its blocks are
-- these
pub record IsTestedOn {A : Type 0} (digest : List ℕ → List ℕ) (bits : ℕ) (s : State)
    (batch : List Write) (root : List ℕ) (commit : Option (List ℕ)) (stamp : Stamp A)
    (changes : Collected A) (m : Counts) : Type 0 where
  pub lawful : IsLawful s
  pub passes : state_test s (stamp_of stamp) batch ≡ Ok tt
  pub changes_are : changes_in changes ≡ collected batch
  pub root_is : root ≡ state_root digest bits s
  pub commit_is : commit ≡ state_commit digest bits s
  pub kept : AreKept digest (state_blocks digest bits s) m

-- for every such state and batch
abbrev pub OnTested : {A : Type 0} → (List ℕ → List ℕ) → ℕ → List ℕ → Option (List ℕ) → Stamp A
    → Collected A → Counts → (State → List Write → Type 0) → Type 0
OnTested digest bits root commit stamp changes m P = (s : State) (batch : List Write)
    → IsTestedOn digest bits s batch root commit stamp changes m → P s batch

-- what a batch on a state exchanges: nodes come first, and go first
pub record IsExchangeMade {D A : Type 0} (digest : List ℕ → List ℕ) (bits : ℕ) (s : State)
    (stamp : stamps.Stamp) (batch : List Write) (x : Exchange D A) : Type 0 where
  pub exchange : IsExchangeOf digest bits s stamp batch x.root x.commit
      (take x.nodes (each arc_value x.come.items)) (each arc_value x.come.items)
      (take x.gone x.go.items) x.go.items
  pub nodes_within : x.nodes ≤ length x.come.items
  pub gone_within : x.gone ≤ length x.go.items
  pub read_is : each arc_value x.read.items ≡ nodes_read_for digest bits s batch
  pub values_are : x.values.items ≡ values_before digest s batch
