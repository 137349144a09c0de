-- What a batch exchanges: which blocks come with it, and which go.
use Rattle.std.specs.Prelude.{◌≡◌, ℕ, List, [], ◌∷◌, ◌++◌, Ok, Option}
use Rattle.std.specs.List.{cons_option}
use Rattle.spec.specs.Cid.{cid}
use Rattle.spec.specs.Blocks.{nodes, root as root_of}
use Rattle.spec.specs.Writes.{Write}
use Rattle.spec.specs.Stamps.{Stamp}
use Rattle.spec.specs.Commits.{commit_bytes}
use Rattle.spec.specs.States.{State, state_test, state_commit}
use Rattle.edit_laws.specs.Changes.{AreChanges}
use Rattle.batch_laws.specs.Previous.{values}
use Rattle.batch_laws.specs.Collecting.{collected, with_cids}
use Rattle.batch_laws.specs.Uses.{present_values, records_come}
use Rattle.batch_laws.specs.Staged.{old_pairs, new_pairs}
use Rattle.edit.specs.Batches.{nodes_read}

-- the nodes of the state's tree that the edit for a batch reads, in the order in which it reads them
abbrev pub nodes_read_for : (List ℕ → List ℕ) → ℕ → State → List Write → List (List ℕ)
nodes_read_for digest bits s batch =
    nodes_read digest bits (with_cids digest (collected batch)) (old_pairs digest s)

-- the CIDs of the records that its keys had, in the order of the keys
abbrev pub values_before : (List ℕ → List ℕ) → State → List Write → List (Option (List ℕ))
values_before digest s batch = values (with_cids digest (collected batch)) (old_pairs digest s)

-- A batch on a state is taken, and one edit made its root and its changes. The nodes that the edit
-- adds, the records that the batch brings and its commit come. The nodes that the edit drops, the
-- records that changed keys had and the commit before go.
pub record IsExchangeOf (digest : List ℕ → List ℕ) (bits : ℕ) (s : State) (stamp : Stamp)
    (batch : List Write) (root commit : List ℕ) (add come drop go : List (List ℕ)) : Type 0 where
  pub passes : state_test s stamp batch ≡ Ok tt
  pub root_is : root ≡ root_of digest bits (new_pairs digest s batch)
  pub changes : AreChanges digest (nodes digest bits (old_pairs digest s))
      (nodes digest bits (new_pairs digest s batch)) (nodes_read_for digest bits s batch) add drop
  pub come_is : come ≡ (add ++ records_come (collected batch)) ++ commit_bytes stamp root ∷ []
  pub commit_is : commit ≡ cid digest (commit_bytes stamp root)
  pub go_is : go
      ≡ (drop ++ present_values (values_before digest s batch)) ++ cons_option (state_commit digest bits s) []
