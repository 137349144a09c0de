-- What a close finds.
use Rattle.std.specs.Prelude.{◌≡◌, ℕ, ◌<◌, ◌≤◌, ◌++◌, List, length, map, All, Contains}
use Rattle.std.specs.Prelude.{slice_index, slice_index_or}
use Rattle.spec.specs.States.{State}
use Rattle.store.specs.Table.{Table}
use Rattle.notices.specs.Numbering.{of}
use Rattle.notices.specs.Views.{QueueId, FeedView}
use Rattle.closing.specs.Tally.{IsEven, IsMisnumbered, IsMiscounted}
use Rattle.ended.specs.Ending.{EndedView, account_of, kept_by, told_by}
use Rattle.closing.specs.declared.mismatch.Mismatch.{Mismatch}
use Rattle.closing.specs.declared.mismatch.Mismatch.TheVariants.{Numbers, Counts, Lists}

-- ---- what a writer has seen

-- the core at some place has fewer accepted writes than were seen there
abbrev pub IsShort : List State → List ℕ → Type 0
IsShort cores seen = (place : ℕ) × (place < length cores)
    × ((d : State) → length (slice_index_or cores place d).accepted < slice_index seen place)

-- none has
abbrev pub NoneShort : List State → List ℕ → Type 0
NoneShort cores seen = (place : ℕ) (d : State) → place < length cores
    → slice_index seen place ≤ length (slice_index_or cores place d).accepted

-- none has, for any of the writers
abbrev pub AreLong : List State → List EndedView → Type 0
AreLong cores ended = All (λ e. NoneShort cores e.seen) ended

-- some has, for one of them
abbrev pub IsTooShort : List State → List EndedView → Type 0
IsTooShort cores ended = (e : EndedView) × Contains ended e × IsShort cores e.seen

-- ---- the comparison

-- cores and tables agree, and no core has fewer accepted writes than a writer has seen there
pub record IsSettled (digest : List ℕ → List ℕ) (bits : ℕ) (cores : List State) (tables : List Table) (ended : List EndedView) : Type 0 where
  pub even : IsEven digest bits cores tables
  pub long : AreLong cores ended

-- in these cores and tables it is otherwise, and where
abbrev pub IsUneven : (List ℕ → List ℕ) → ℕ → List State → List Table → List EndedView → Mismatch
    → Type 0
IsUneven digest bits cores tables ended Numbers = IsMisnumbered cores
IsUneven digest bits cores tables ended Counts = IsMiscounted digest bits cores tables
IsUneven digest bits cores tables ended Lists = IsTooShort cores ended

-- ---- a host that has closed, and one that hasn't

pub record ClosedView : Type 0 where
  pub cores : List State
  pub tables : List Table
  pub feed : FeedView
  pub ended : List EndedView

pub record UnevenView : Type 0 where
  pub cores : List State
  pub tables : List Table
  pub ended : List EndedView
  pub mismatch : Mismatch

-- what was received of each writer, and then what it kept, is what it told
abbrev pub IsAllTold : FeedView → List EndedView → Type 0
IsAllTold feed ended = (writer : ℕ) → writer < feed.made
    → of writer feed.received ++ kept_by ended writer ≡ told_by ended writer

-- what a host that has closed knows of its fields: each writer's pass has joined the feed
pub record IsClosed (digest : List ℕ → List ℕ) (bits : ℕ) (queue_id : QueueId) (cores : List State) (tables : List Table) (feed : FeedView) (ended : List EndedView) : Type 0 where
  pub queue : feed.queue_id ≡ queue_id
  pub joined : feed.joined ≡ map account_of ended
  pub all : length ended ≡ feed.made
  pub settled : IsSettled digest bits cores tables ended
