-- What a contract sees of a host and of its writers.
use Rattle.std.specs.Prelude.{◌≡◌, ◌≤◌, ◌+◌, ℕ, List, [], length, map, replicate, slice_set, All}
use Rattle.boxcar.specs.Table.{Shelves}
use Rattle.notices.specs.declared.notice.Notice.{Notice}
use Rattle.notices.specs.Numbering.{NumberedFrom}
use Rattle.ended.specs.Ending.{EndedView}
use Rattle.notices.specs.Views.{QueueId, QueueView, PassView, SenderView, fresh_passes}

-- its queue, its published versions, how many repositories it has, and how many writes each may have
pub record HostView : Type 0 where
  pub queue : QueueView
  pub shelf : Shelves
  pub repos : ℕ
  pub limit : ℕ

-- a writer's pass, and for each repository the greatest number of accepted writes that was seen
pub record SeatView : Type 0 where
  pub pass : PassView
  pub seen : List ℕ

-- a writer: its host, how often the queue was full, modulo 2 ^ 64, its pass, the notices that it
-- keeps, and what it has seen
pub record WriterView : Type 0 where
  pub host : HostView
  pub refused : ℕ
  pub pass : PassView
  pub kept : List Notice
  pub seen : List ℕ

-- the seat is one of this host's
pub record IsSeatOf (h : HostView) (s : SeatView) : Type 0 where
  pub queue : s.pass.queue_id ≡ h.queue.queue_id
  pub places : length s.seen ≡ h.repos

-- nothing was sent by it, and nothing seen
abbrev pub fresh_seat : ℕ → PassView → SeatView
fresh_seat repos pass = record { pass = pass; seen = replicate repos 0 }

-- the seats of a host that was opened, each at the place of its writer's number
abbrev pub fresh_seats : QueueId → ℕ → ℕ → List SeatView
fresh_seats queue_id writers repos = map (fresh_seat repos) (fresh_passes queue_id writers)

-- the writer of a seat, before its first call
abbrev pub beginning : HostView → SeatView → WriterView
beginning host seat =
    record { host = host; refused = 0; pass = seat.pass; kept = []; seen = seat.seen }

-- the writer after so many accepted writes were seen in a repository
abbrev pub with_seen : WriterView → ℕ → ℕ → WriterView
with_seen w repo number = record w { seen = slice_set w.seen repo number }

-- what is left of a writer that ends
abbrev pub ended_of : WriterView → EndedView
ended_of w = record { pass = w.pass; kept = w.kept; seen = w.seen }

-- all kept notices are this writer's, and numbered after those that it sent
pub record IsOrderly (pass : PassView) (kept : List Notice) : Type 0 where
  pub own : All (λ n. n.writer ≡ pass.writer) kept
  pub numbered : NumberedFrom (length pass.sent + 1) kept

-- What a writer knows of its fields: its list of hosts has one; its pass is one of its host's queue;
-- its notices are in order, and last is the number of the last one; and it has a place for each
-- repository.
pub record IsWriting (host : HostView) (hosts : List HostView) (sender : SenderView)
    (kept : List Notice) (last : ℕ) (seen : List ℕ) : Type 0 where
  pub lent : 1 ≤ length hosts
  pub queue : sender.pass.queue_id ≡ host.queue.queue_id
  pub orderly : IsOrderly sender.pass kept
  pub last_is : last ≡ length sender.pass.sent + length kept
  pub room : sender.room ≡ host.queue.room
  pub places : length seen ≡ host.repos
