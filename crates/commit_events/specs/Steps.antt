-- A message's verdict in parts, and what it means.
use Rattle.std.specs.Prelude.{◌≡◌, ℕ, List, [], Result, Ok}
use Rattle.std.specs.Str.{bytes_eq}
use Rattle.spec.specs.Reading.{◌>>=◌, ensure}
use Rattle.spec.specs.Tree.{Pair}
use Rattle.spec.specs.Blocks.{ArePairs, ClashesWithNone, nodes, root}
use Rattle.spec.specs.CarReading.{Section, blocks_of}
use Rattle.spec.specs.SignedCommits.{Commit}
use Rattle.change_laws.specs.Told.{KeyChange}
use Rattle.change_laws.specs.Laws.{IsShown}
use Rattle.change_laws.specs.Verdict.{change_verdict}
use Rattle.event_laws.specs.Events.{Event}
use Rattle.event_laws.specs.Reading.{read_event}
use Rattle.event_laws.specs.Verdict.{Checked, EventFault, OtherPrevious, commit_in, of_change, of_form, ordered, ordered_ops, placed_from, records_test, sections_of, single_keys}

-- what a message says, of which no two operations have one key
unfoldable pub single_event : List ℕ → Result Event EventFault
single_event message = do
  e ← of_form (read_event message)
  single ← single_keys e.ops
  Ok e

-- the commit of which a message tells, whose records are there
unfoldable pub told_commit : List Section → Event → Result Commit EventFault
told_commit ss e = do
  c ← commit_in ss e
  records ← records_test ss 0 e.ops
  Ok c

-- the blocks show the operations between two roots
unfoldable pub shown_by : (List ℕ → List ℕ) → ℕ → List ℕ → List ℕ → List (List ℕ) → List KeyChange
    → Result (Unit {0}) EventFault
shown_by digest bits before after blocks ops =
    of_change (ordered [] (placed_from 0 ops)) (change_verdict digest bits before after blocks (ordered_ops ops))

-- the commit of which a message tells, where the blocks show its operations
unfoldable pub shown_commit : (List ℕ → List ℕ) → ℕ → List ℕ → List Section → Event → Result Commit EventFault
shown_commit digest bits previous ss e = do
  c ← told_commit ss e
  shown ← shown_by digest bits previous c.root (blocks_of ss) e.ops
  Ok c

-- all of it
unfoldable pub event_verdict : (List ℕ → List ℕ) → ℕ → List ℕ → List ℕ → Result Checked EventFault
event_verdict digest bits previous message = do
  e ← single_event message
  same ← ensure (bytes_eq e.before previous) OtherPrevious
  ss ← sections_of digest e.commit e.blocks
  c ← shown_commit digest bits previous ss e
  Ok (record { event = e; commit = c; sections = ss })

-- what is so of the pairs of each tree with the commit's root, where no node of it clashes with a block of the message
abbrev pub IsTrue : (List ℕ → List ℕ) → ℕ → List ℕ → Checked → Type 0
IsTrue digest bits previous x = (new : List Pair) → ArePairs new → x.commit.root ≡ root digest bits new
    → ClashesWithNone digest (nodes digest bits new) (blocks_of x.sections)
    → IsShown digest bits previous (ordered_ops x.event.ops) new
