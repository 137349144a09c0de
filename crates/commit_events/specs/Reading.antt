-- A message's verdict but for its operations, whose truth is seen elsewhere: by who has the repository before it.
use Rattle.std.specs.Prelude.{ℕ, List, Result, Ok}
use Rattle.std.specs.Str.{bytes_eq}
use Rattle.spec.specs.Reading.{◌>>=◌, ensure}
use Rattle.event_laws.specs.Verdict.{Checked, EventFault, OtherPrevious, sections_of}
use Rattle.commit_events.specs.Steps.{single_event, told_commit}

-- what a message says of a repository that had this root, with its commit, its blocks, and a record for each operation that leaves
-- one
unfoldable pub told_message : (List ℕ → List ℕ) → List ℕ → List ℕ → Result Checked EventFault
told_message digest previous message = do
  e ← single_event message
  same ← ensure (bytes_eq e.before previous) OtherPrevious
  ss ← sections_of digest e.commit e.blocks
  c ← told_commit ss e
  Ok (record { event = e; commit = c; sections = ss })
