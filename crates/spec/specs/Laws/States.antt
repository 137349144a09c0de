-- Repositories by their accepted writes and stamps: what depends on what, and which batches are
-- taken.
use Rattle.std.specs.Prelude.{◌≡◌, ◌↔◌, ◌<◌, ◌≤◌, ℕ, true, List, [], ◌∷◌, ◌++◌, length, None, Ok}
use Rattle.std.specs.Cmp.Lexicographic.{slice_cmp}
use Rattle.std.specs.Ordering.{nat_cmp, is_lt}
use Rattle.spec.specs.Cid.{cid}
use Rattle.spec.specs.NodeFormat.{node_spelling}
use Rattle.spec.specs.Blocks.{blocks}
use Rattle.spec.specs.Writes.{Write, batch_test}
use Rattle.spec.specs.Stamps.{Stamp, Stamped, stamp_test, last, rev_of, is_did, is_tid, are_stamps}
use Rattle.spec.specs.States.{State, fresh, after_batch, records, last_stamp, state_root}
use Rattle.spec.specs.States.{state_blocks, state_commit, state_car, IsLawful, state_test}
use Rattle.spec.specs.States.{of_writes}

-- before the first batch there is the node without entries alone, and no commit
abbrev pub FreshHasEmptyNode : Type 0
FreshHasEmptyNode = (digest : List ℕ → List ℕ) (bits me limit : ℕ) → let s = fresh me limit in
    (me < 1024 → 0 < limit → limit ≤ 1048576 → IsLawful s)
    × (state_root digest bits s ≡ cid digest (node_spelling None []))
    × (state_blocks digest bits s ≡ node_spelling None [] ∷ [])
    × (state_commit digest bits s ≡ None)

-- equal records give equal roots and equal blocks of the tree; where the last stamps are equal too,
-- all blocks are, and the commit and the export
abbrev pub EqualRecords : Type 0
EqualRecords = (digest : List ℕ → List ℕ) (bits : ℕ) (s t : State) → records s ≡ records t
    → (state_root digest bits s ≡ state_root digest bits t)
    × (blocks digest bits [] (records s) ≡ blocks digest bits [] (records t))
    × (last_stamp s ≡ last_stamp t
    → (state_blocks digest bits s ≡ state_blocks digest bits t)
    × (state_commit digest bits s ≡ state_commit digest bits t)
    × (state_car digest bits s ≡ state_car digest bits t))

-- what holds of a repository's stamps: each passes its own test, and revisions and lengths ascend
pub record Ascend (ss : List Stamped) : Type 0 where
  pub each : (before after : List Stamped) (s : Stamped) → ss ≡ before ++ s ∷ after
      → (is_did s.0.did ≡ true) × (is_tid s.0.rev ≡ true) × (0 < s.1)
  pub two : (before after : List Stamped) (s t : Stamped) → ss ≡ before ++ s ∷ t ∷ after
      → (is_lt (slice_cmp nat_cmp s.0.rev t.0.rev) ≡ true) × (s.1 < t.1)

-- and nothing else has to hold of them
abbrev pub StampsAscend : Type 0
StampsAscend = (ss : List Stamped) → (are_stamps ss ≡ true) ↔ Ascend ss

-- a batch with a write, under a stamp that passes, is tested by its writes
abbrev pub StampThenWrites : Type 0
StampThenWrites = (s : State) (stamp : Stamp) (batch : List Write) → 0 < length batch
    → stamp_test (rev_of (last s.stamps)) stamp ≡ Ok tt
    → state_test s stamp batch ≡ of_writes (batch_test s.limit s.accepted batch)

-- a lawful state and a batch that passes make a lawful state
abbrev pub BatchKeepsState : Type 0
BatchKeepsState = (s : State) (stamp : Stamp) (batch : List Write) → IsLawful s
    → state_test s stamp batch ≡ Ok tt → IsLawful (after_batch s stamp batch)
