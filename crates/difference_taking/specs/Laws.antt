-- A true difference is refused by no test.
use Rattle.std.specs.Prelude.{◌≡◌, ℕ, ◌+◌, ◌<◌, ◌≤◌, List, length, Some, Ok}
use Rattle.std.specs.Cmp.Lexicographic.{slice_cmp}
use Rattle.std.specs.Ordering.{nat_cmp}
use Rattle.std.specs.FinMap.{find}
use Rattle.spec.specs.Cid.{cid as cid_of}
use Rattle.spec.specs.Blocks.{block_at, pairs}
use Rattle.spec.specs.Stamps.{Stamp, last, rev_of, stamp_test}
use Rattle.spec.specs.Writes.{Write}
use Rattle.spec.specs.States.{State, IsLawful, records, state_test}
use Rattle.change_laws.specs.Told.{KeyChange}
use Rattle.difference_laws.specs.Laws.{IsDifference}
use Rattle.difference_taking.specs.Writing.{batch_of}
use Rattle.difference_taking.specs.Taking.{had_in}

-- what is found among these by the CID of a repository's record is that record
abbrev pub HasNoOther : (List ℕ → List ℕ) → State → List (List ℕ) → Type 0
HasNoOther digest s given = (key b x : List ℕ) → find (slice_cmp nat_cmp) key (records s) ≡ Some b
    → block_at digest (cid_of digest b) given ≡ Some x → x ≡ b

-- where each of the changes has its record, their batch passes its tests under each stamp that passes its own, if there are any
-- changes and as much room
abbrev pub BatchPasses : (List ℕ → List ℕ) → State → State → List KeyChange → Type 0
BatchPasses digest old other cs = (given : List (List ℕ)) → HasNoOther digest other given
    → (batch : List Write) → batch_of digest given cs ≡ Ok batch
    → (stamp : Stamp) → stamp_test (rev_of (last old.stamps)) stamp ≡ Ok tt
    → 0 < length cs → length old.accepted + length cs ≤ old.limit → state_test old stamp batch ≡ Ok tt

-- the difference from one lawful repository to another is not stale, and its batch passes
abbrev pub TrueIsTaken : Type 0
TrueIsTaken = (digest : List ℕ → List ℕ) (old other : State) → IsLawful old → IsLawful other
    → (cs : List KeyChange) → IsDifference cs (pairs digest (records old)) (pairs digest (records other))
    → (had_in digest old cs ≡ Ok tt) × BatchPasses digest old other cs
