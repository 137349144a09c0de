-- What comes of a script, and its text (the form of the text is a choice of this project).
use Rattle.std.specs.Prelude.{◌≡◌, ℕ, suc, List, [], ◌∷◌, ◌++◌, length, map, All, Option}
use Rattle.std.specs.List.{flat_map, range_with_len}
use Rattle.std.specs.List.Sorted.{IsStrictlySortedBy}
use Rattle.std.specs.Cmp.Lexicographic.{slice_cmp}
use Rattle.std.specs.Ordering.{nat_cmp}
use Rattle.spec.specs.States.{State, IsLawful}
use Rattle.store.specs.Table.{Table}
use Rattle.closing.specs.Tally.{count}
use Rattle.closing.specs.Counts.{count_in, positive}
use Rattle.closing.specs.Headline.{IsFromScratch, AreTallies}
use Rattle.ended.specs.Ending.{EndedView, told_by}
use Rattle.closing.specs.Settling.{IsSettled, IsUneven}
use Rattle.closing.specs.declared.mismatch.Mismatch.{Mismatch}
use Rattle.host.specs.Views.{HostView, fresh_seats}
use Rattle.scripts.specs.Scripts.{AreDone}
use Rattle.scripts.specs.declared.script.Line.{Line}
use Rattle.scripts.specs.declared.script.Answer.{Answer}
use Rattle.run_command.specs.Report.{answer_lines, repository_line, block_lines, notice_lines}
use Rattle.run_command.specs.declared.settings.Settings.{Settings}

-- ---- what is shown of a host that has closed

-- a repository: its accepted writes and stamps, and what is shown by them as its root, its last batch's
-- commit and its blocks
pub record ShownView : Type 0 where
  pub state : State
  pub root : List ℕ
  pub commit : Option (List ℕ)
  pub blocks : List (List ℕ)

-- The root, the commit and the blocks, and no others, are those of the Merkle search tree built from
-- scratch from the records that the accepted writes leave, with the commit of the last stamp.
pub record IsShown (digest : List ℕ → List ℕ) (r : ShownView) : Type 0 where
  pub lawful : IsLawful r.state
  pub from_scratch : IsFromScratch digest 2 r.state.accepted r.state.stamps r.root r.commit r.blocks

-- The headline, of a host that has closed with these repositories and these tables of blocks: each is
-- shown so, and the count of each CID is the number of repositories that have a block with it.
pub record IsHeadline (digest : List ℕ → List ℕ) (cores : List State) (tables : List Table)
    (shown : List ShownView) : Type 0 where
  pub states_are : map (λ r. r.state) shown ≡ cores
  pub from_scratch : All (IsShown digest) shown
  pub tallies : AreTallies digest 2 cores tables

-- a block's CID and its count
abbrev pub Counts : Type 0
Counts = List (List ℕ × ℕ)

-- each CID with a count above 0 in the tables, in ascending order, and its count
pub record AreCounts (tables : List Table) (counts : Counts) : Type 0 where
  pub ascending : IsStrictlySortedBy (slice_cmp nat_cmp) (map (λ e. e.0) counts)
  pub listed : (cid : List ℕ) → count_in counts cid ≡ positive (count tables cid)

-- ---- the text

abbrev pub shown_line : ℕ → ShownView → List ℕ
shown_line number r = repository_line number r.root (length r.state.accepted) r.commit

-- a line for each repository, of which the first has this number
abbrev pub shown_lines : ℕ → List ShownView → List ℕ
shown_lines number [] = []
shown_lines number (r ∷ rs) = shown_line number r ++ shown_lines (suc number) rs

-- what the writer of a number told
abbrev pub told_lines_of : List EndedView → ℕ → List ℕ
told_lines_of ended writer = notice_lines (told_by ended writer)

-- what each of so many writers told, by their numbers
abbrev pub told_lines : ℕ → List EndedView → List ℕ
told_lines writers ended = flat_map (told_lines_of ended) (range_with_len 0 writers)

abbrev pub numbers_of : List Line → List ℕ
numbers_of lines = map (λ l. l.number) lines

-- what was answered, the repositories, the blocks, and what was told
abbrev pub report_text : {D : Type 0} → Settings → List Line → List (Answer D) → List ShownView
    → Counts → List EndedView → List ℕ
report_text s lines given shown counts ended =
    answer_lines s.form (numbers_of lines) given ++ shown_lines 0 shown ++ block_lines counts
    ++ told_lines s.workers ended

-- ---- what comes of a script

-- The workers of a host that was opened with these settings did these lines, each its own in their
-- order, with these answers, and their writers ended so.
pub record AreWorked {D : Type 0} (digest : List ℕ → List ℕ) (s : Settings) (host : HostView)
    (lines : List Line) (given : List (Answer D)) (ended : List EndedView) : Type 0 where
  pub host_repos : host.repos ≡ s.repos
  -- how many notices the host's queue has room for
  pub host_room : host.queue.room ≡ s.queue
  -- the greatest number of writes that a repository may have
  pub host_limit : host.limit ≡ 1048576
  pub answered : length given ≡ length lines
  pub writers_are : length ended ≡ s.workers
  pub done : AreDone digest 2 host (fresh_seats host.queue.queue_id s.workers s.repos) lines given ended

-- The workers of such a host did the lines; then it closed, with these repositories and tables of
-- blocks, which agree with each other and with what the writers have seen.
pub record IsRun {D : Type 0} (digest : List ℕ → List ℕ) (s : Settings) (lines : List Line)
    (given : List (Answer D)) (cores : List State) (tables : List Table)
    (ended : List EndedView) : Type 0 where
  pub host : HostView
  pub worked : AreWorked digest s host lines given ended
  pub repos_are : length cores ≡ s.repos
  pub settled : IsSettled digest 2 cores tables ended

-- The workers of such a host did the lines; then there were repositories and tables of blocks that
-- don't agree with each other or with what the writers have seen, as this mismatch says.
pub record IsUnclosed (D : Type 0) (digest : List ℕ → List ℕ) (s : Settings)
    (lines : List Line) : Type 0 where
  pub host : HostView
  pub given : List (Answer D)
  pub ended : List EndedView
  pub worked : AreWorked digest s host lines given ended
  pub cores : List State
  pub tables : List Table
  pub mismatch : Mismatch
  pub uneven : IsUneven digest 2 cores tables ended mismatch

-- the text is that of a host with these settings that has closed, of which the headline holds
pub record IsTextOf {D : Type 0} (digest : List ℕ → List ℕ) (s : Settings) (lines : List Line)
    (given : List (Answer D)) (cores : List State) (tables : List Table) (ended : List EndedView)
    (text : List ℕ) : Type 0 where
  pub shown : List ShownView
  pub counts : Counts
  pub headline : IsHeadline digest cores tables shown
  pub counts_are : AreCounts tables counts
  pub text_is : text ≡ report_text s lines given shown counts ended

-- the text is the report of a run of these lines
pub record IsReport (D : Type 0) (digest : List ℕ → List ℕ) (s : Settings) (lines : List Line)
    (text : List ℕ) : Type 0 where
  pub given : List (Answer D)
  pub cores : List State
  pub tables : List Table
  pub ended : List EndedView
  pub run : IsRun digest s lines given cores tables ended
  pub text_of : IsTextOf digest s lines given cores tables ended text

-- a text grew by the lines of the repositories, as they are shown
pub record AddsShown (digest : List ℕ → List ℕ) (cores : List State) (tables : List Table)
    (old new : List ℕ) : Type 0 where
  pub shown : List ShownView
  pub headline : IsHeadline digest cores tables shown
  pub text_is : new ≡ old ++ shown_lines 0 shown

-- a text grew by the lines of the blocks' counts
pub record AddsCounts (tables : List Table) (old new : List ℕ) : Type 0 where
  pub counts : Counts
  pub counts_are : AreCounts tables counts
  pub text_is : new ≡ old ++ block_lines counts
