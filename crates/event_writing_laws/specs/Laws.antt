-- What a host writes is taken.
use Rattle.std.specs.Prelude.{◌≡◌, ℕ, List, ◌++◌, map, Some, Ok}
use Rattle.spec.specs.Cid.{cid, IsDigest}
use Rattle.spec.specs.Tree.{Pair}
use Rattle.spec.specs.Blocks.{ArePairs, IsClashFree, firsts, nodes, pairs, root}
use Rattle.spec.specs.Stamps.{Stamp}
use Rattle.spec.specs.States.{State, IsLawful, last_stamp, records}
use Rattle.spec.specs.Laws.Cars.{section_of_block}
use Rattle.export_laws.specs.SignedCars.{signed_over}
use Rattle.batch_laws.specs.Batch.{AreKeyed}
use Rattle.change_laws.specs.Told.{KeyChange, undone, DifferBy}
use Rattle.event_laws.specs.Ops.{ops_of}
use Rattle.event_laws.specs.Events.{Event, event_bytes}
use Rattle.event_laws.specs.Verdict.{Checked, commit_verdict}
use Rattle.event_writing_laws.specs.Telling.{Told}
use Rattle.event_writing_laws.specs.Messages.{batch_event, commit_over, told_blocks}

-- the blocks of the message of a batch with this stamp that left these records
abbrev pub blocks_told : (List ℕ → List ℕ) → ℕ → List (List ℕ × List ℕ) → Stamp → List KeyChange → Told → List (List ℕ)
blocks_told digest bits m stamp cs told =
    told_blocks digest bits (commit_over digest bits stamp told.sig m) m (ops_of cs)

-- what its reader has of it: what it says, the commit, and the blocks, each CID where it comes first
abbrev pub checked_batch : (List ℕ → List ℕ) → ℕ → List (List ℕ × List ℕ) → Stamp → List KeyChange → Told → Event → Checked
checked_batch digest bits m stamp cs told e = record {
  event = e;
  commit = signed_over digest bits stamp told.sig m;
  sections = map (section_of_block digest) (firsts (cid digest) (blocks_told digest bits m stamp cs told));
}

-- A batch leads from some pairs to those of a repository: these are the pairs before, the changes tell what each of their keys
-- had and has, and no two of the tree's nodes and the message's blocks clash.
pub record IsBatchFrom (digest : List ℕ → List ℕ) (bits : ℕ) (s : State) (stamp : Stamp) (cs : List KeyChange) (told : Told)
    (old : List Pair) : Type 0 where
  pub stamped : last_stamp s ≡ Some stamp
  pub pairs_are : ArePairs old
  pub differ : DifferBy cs old (pairs digest (records s))
  pub free : IsClashFree digest (nodes digest bits (pairs digest (records s))
      ++ blocks_told digest bits (records s) stamp cs told)

-- What a host writes of a lawful repository's last batch is taken by whoever knows the root before, and read as what was written.
abbrev pub WrittenIsTaken : Type 0
WrittenIsTaken = (digest : List ℕ → List ℕ) (bits : ℕ) → IsDigest digest → (s : State) → IsLawful s
    → (stamp : Stamp) (cs : List KeyChange) → AreKeyed (undone cs) → (told : Told) (old : List Pair)
    → IsBatchFrom digest bits s stamp cs told old
    → (e : Event) → batch_event digest bits s (root digest bits old) cs told ≡ Ok e
    → commit_verdict digest bits (root digest bits old) (event_bytes e)
    ≡ Ok (checked_batch digest bits (records s) stamp cs told e)
