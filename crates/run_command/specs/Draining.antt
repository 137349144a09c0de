-- A closed host whose queue is emptied.
use Rattle.std.specs.Prelude.{◌≡◌, List, ◌++◌}
use Rattle.notices.specs.declared.notice.Notice.{Notice}
use Rattle.closing.specs.Settling.{ClosedView}

-- these notices were received, and all else is as before
pub record IsDrained (old : ClosedView) (left : List Notice) (new : ClosedView) : Type 0 where
  pub cores : new.cores ≡ old.cores
  pub ended : new.ended ≡ old.ended
  pub made : new.feed.made ≡ old.feed.made
  pub received : new.feed.received ≡ old.feed.received ++ left
