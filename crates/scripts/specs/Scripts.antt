-- What all workers of a script did.
use Rattle.std.specs.Prelude.{◌≡◌, ◌<◌, ℕ, List, length, All, IfOk, slice_index_or, Result}
use Rattle.ended.specs.Ending.{EndedView, IsEndedAt}
use Rattle.host.specs.Views.{HostView, SeatView}
use Rattle.scripts.specs.Merging.{own_lines, own_answers}
use Rattle.scripts.specs.Working.{IsDone, IsWork}
use Rattle.scripts.specs.declared.script.Line.{Line}
use Rattle.scripts.specs.declared.script.Answer.{Answer}
use Rattle.scripts.specs.declared.running.Place.{Place}
use Rattle.scripts.specs.declared.working.Done.{Done}

-- For each seat: the answers at the places of its worker's lines are those of its writer's calls, in
-- turn, and the writer ended as they left it.
abbrev pub AreDone : {D : Type 0} → (List ℕ → List ℕ) → ℕ → HostView → List SeatView → List Line
    → List (Answer D) → List EndedView → Type 0
AreDone digest bits host seats lines given ended = (k : ℕ) (s : SeatView) (e : EndedView)
    → k < length seats
    → IsDone digest bits host (slice_index_or seats k s) (own_lines k lines)
    (own_answers k lines given) (slice_index_or ended k e)

-- each worker's number is its place
abbrev pub AreByPlace : List Place → Type 0
AreByPlace places = (k : ℕ) (p : Place) → k < length places
    → (slice_index_or places k p).worker ≡ k

-- each worker did its lines, where memory wasn't refused to it
abbrev pub AreEachDone : {D E : Type 0} → (List ℕ → List ℕ) → ℕ → HostView → List SeatView
    → List Line → List (Result (Done D) E) → Type 0
AreEachDone digest bits host seats lines all = (k : ℕ) (s : SeatView) (r : Result (Done _) _)
    → k < length seats
    → IfOk (slice_index_or all k r) (IsWork digest bits host (slice_index_or seats k s) k lines)

-- and its writer ended
abbrev pub AreEachEnded : {D E : Type 0} → HostView → List (Result (Done D) E) → Type 0
AreEachEnded host all =
    All (λ r. IfOk r (λ d. IsEndedAt host.queue.queue_id host.repos d.ended)) all
