-- A batch that passed its tests on a repository, and isn't accepted yet.
use Rattle.std.specs.Prelude.{◌≡◌, ◌↔◌, ◌≤◌, Contains, ℕ, List, [], ◌∷◌, map, Ok, Option}
use Rattle.spec.specs.Cid.{cid}
use Rattle.spec.specs.Blocks.{nodes, pairs, value_of}
use Rattle.spec.specs.Commits.{commit_bytes}
use Rattle.spec.specs.Stamps.{Stamp}
use Rattle.spec.specs.Writes.{Write}
use Rattle.spec.specs.States.{State, IsLawful, after_batch, records, state_root, state_test}
use Rattle.edit_laws.specs.Changes.{count}
use Rattle.batch_laws.specs.Batch.{Change}
use Rattle.batch_laws.specs.Collecting.{collected, with_cids}
use Rattle.change_laws.specs.Told.{KeyChange}
use Rattle.repo.specs.Edits.{IsExchangeMade}
use Rattle.repo.specs.Exchanging.{nodes_read_for}
use Rattle.repo.specs.declared.exchanges.Exchange.{Exchange}

-- the repository before, the stamp and the writes
pub record Prepared : Type 0 where
  pub before : State
  pub stamp : Stamp
  pub writes : List Write

abbrev pub prepared_of : State → Stamp → List Write → Prepared
prepared_of s stamp batch = record { before = s; stamp = stamp; writes = batch }

-- the repository after it
abbrev pub state_after : Prepared → State
state_after p = after_batch p.before p.stamp p.writes

-- the batch passes its tests, and both repositories are lawful
pub record IsPassed (p : Prepared) : Type 0 where
  pub lawful : IsLawful p.before
  pub passes : state_test p.before p.stamp p.writes ≡ Ok tt
  pub after_lawful : IsLawful (state_after p)

-- ---- what it tells

-- the pairs of the tree before, and of the tree after
abbrev pub pairs_before : (List ℕ → List ℕ) → Prepared → List (List ℕ × List ℕ)
pairs_before digest p = pairs digest (records p.before)

abbrev pub pairs_after : (List ℕ → List ℕ) → Prepared → List (List ℕ × List ℕ)
pairs_after digest p = pairs digest (records (state_after p))

-- what it changes in the pairs: each key with the CID of its record, or none
abbrev pub changes_for : (List ℕ → List ℕ) → Prepared → List Change
changes_for digest p = with_cids digest (collected p.writes)

-- a change with what its key had before
abbrev pub key_told : Change → Option (List ℕ) → KeyChange
key_told c before = record { key = c.0; before = before; after = c.1 }

-- the same of changes of these pairs
abbrev pub keys_told : List Change → List (List ℕ × List ℕ) → List KeyChange
keys_told cs es = map (λ c. key_told c (value_of c.0 es)) cs

-- each key that it changes, with the CIDs of its records before and after, in the order of the keys
abbrev pub keys_changed : (List ℕ → List ℕ) → Prepared → List KeyChange
keys_changed digest p = keys_told (changes_for digest p) (pairs_before digest p)

-- the bytes of its commit
abbrev pub commit_after : (List ℕ → List ℕ) → ℕ → Prepared → List ℕ
commit_after digest bits p = commit_bytes p.stamp (state_root digest bits (state_after p))

-- the nodes of the tree before that the edit reads
abbrev pub nodes_before : (List ℕ → List ℕ) → ℕ → Prepared → List (List ℕ)
nodes_before digest bits p = nodes_read_for digest bits p.before p.writes

-- Nodes that come: each is of the tree after and was not read, and each node of the tree after that
-- the tree before lacks is one of them; each once. Where no node stands twice in the tree after,
-- none of them is of the tree before.
pub record AreAdded (digest : List ℕ → List ℕ) (old new read add : List (List ℕ)) : Type 0 where
  pub fresh : (b : List ℕ) → Contains add b → Contains new b × ¬ Contains read b
  pub whole : (b : List ℕ) → Contains new b → ¬ Contains old b → Contains add b
  pub once : (c : List ℕ) → count c (map (cid digest) add) ≤ 1
  pub apart : ((b : List ℕ) → count b new ≤ 1) → (b : List ℕ) → Contains add b → ¬ Contains old b

abbrev pub AreNodesAdded : (List ℕ → List ℕ) → ℕ → Prepared → List (List ℕ) → Type 0
AreNodesAdded digest bits p add = AreAdded digest (nodes digest bits (pairs_before digest p))
    (nodes digest bits (pairs_after digest p)) (nodes_before digest bits p) add

-- CIDs of nodes that go: those of the nodes of the tree before that the tree after lacks; each once
pub record AreDropped (digest : List ℕ → List ℕ) (old new drop : List (List ℕ)) : Type 0 where
  pub whole : (c : List ℕ) → Contains drop c
      ↔ ((b : List ℕ) × Contains old b × (¬ Contains new b) × (cid digest b ≡ c))
  pub once : (c : List ℕ) → count c drop ≤ 1

abbrev pub AreNodesDropped : (List ℕ → List ℕ) → ℕ → Prepared → List (List ℕ) → Type 0
AreNodesDropped digest bits p drop = AreDropped digest (nodes digest bits (pairs_before digest p))
    (nodes digest bits (pairs_after digest p)) drop

-- ---- what the code has of it

-- changes with what their keys had before, one for each
abbrev pub keys_with : List Change → List (Option (List ℕ)) → List KeyChange
keys_with [] vs = []
keys_with (c ∷ cs) [] = []
keys_with (c ∷ cs) (v ∷ vs) = key_told c v ∷ keys_with cs vs

-- the root before, and what it exchanges
pub record IsPreparedBatch {D A : Type 0} (digest : List ℕ → List ℕ) (bits : ℕ) (p : Prepared)
    (previous : List ℕ) (x : Exchange D A) : Type 0 where
  pub lawful : IsLawful p.before
  pub previous_is : previous ≡ state_root digest bits p.before
  pub made : IsExchangeMade digest bits p.before p.stamp p.writes x
