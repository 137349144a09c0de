-- Writers that have ended, and the feed that their passes join.
use Rattle.std.specs.Prelude.{◌≡◌, ℕ, ◌==◌, List, [], ◌∷◌, ◌++◌, length, map, if◌then◌else◌}
use Rattle.notices.specs.declared.notice.Notice.{Notice}
use Rattle.notices.specs.declared.rule.Account.{Account}
use Rattle.notices.specs.Rule.{account}
use Rattle.notices.specs.Views.{QueueId, PassView, FeedView}

-- a writer that has ended: its pass, the notices that it kept, and for each repository the greatest
-- number of accepted writes that it has seen there
pub record EndedView : Type 0 where
  pub pass : PassView
  pub kept : List Notice
  pub seen : List ℕ

-- the notices of a writer's accepted calls, in order: those that it sent, and those that it kept
abbrev pub notices_told : PassView → List Notice → List Notice
notices_told pass kept = pass.sent ++ kept

-- the writer is one at this queue, and has a number of accepted writes for each of so many repositories
pub record IsEndedAt (queue_id : QueueId) (repos : ℕ) (e : EndedView) : Type 0 where
  pub queue : e.pass.queue_id ≡ queue_id
  pub places : length e.seen ≡ repos

-- the account of the writer's pass
abbrev pub account_of : EndedView → Account
account_of e = account e.pass.writer e.pass.sent

-- the feed after it took in these passes
abbrev pub joined_all : FeedView → List EndedView → FeedView
joined_all f ended = record {
  queue_id = f.queue_id;
  made = f.made;
  received = f.received;
  joined = f.joined ++ map account_of ended;
}

-- ---- by the writer's number

-- what the writer of this number kept, nothing where none has it
abbrev pub kept_by : List EndedView → ℕ → List Notice
kept_by [] writer = []
kept_by (e ∷ es) writer = if e.pass.writer == writer then e.kept else kept_by es writer

-- what it told
abbrev pub told_by : List EndedView → ℕ → List Notice
told_by [] writer = []
told_by (e ∷ es) writer =
    if e.pass.writer == writer then notices_told e.pass e.kept else told_by es writer
