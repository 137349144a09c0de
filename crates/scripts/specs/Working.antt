-- What one worker did.
use Rattle.std.specs.Prelude.{◌≡◌, ℕ, List, [], ◌∷◌}
use Rattle.ended.specs.Ending.{EndedView}
use Rattle.host.specs.Views.{HostView, SeatView, WriterView, beginning, ended_of}
use Rattle.scripts.specs.Calls.{IsCall}
use Rattle.scripts.specs.Merging.{own_lines}
use Rattle.scripts.specs.declared.script.Line.{Line}
use Rattle.scripts.specs.declared.script.Answer.{Answer}
use Rattle.scripts.specs.declared.working.Done.{Done}

-- each of the lines is answered by its call, in turn, from the one writer to the other
abbrev pub IsRun : {D : Type 0} → (List ℕ → List ℕ) → ℕ → WriterView → List Line
    → List (Answer D) → WriterView → Type 0
IsRun digest bits old [] [] new = new ≡ old
IsRun digest bits old [] (a ∷ given) new = ⊥
IsRun digest bits old (l ∷ ls) [] new = ⊥
IsRun digest bits old (l ∷ ls) (a ∷ given) new = (next : WriterView)
    × IsCall digest bits old l.repo l.call a next × IsRun digest bits next ls given new

-- the writer of the seat did these lines with these answers, and ended
abbrev pub IsDone : {D : Type 0} → (List ℕ → List ℕ) → ℕ → HostView → SeatView → List Line
    → List (Answer D) → EndedView → Type 0
IsDone digest bits host seat lines given e = (last : WriterView)
    × IsRun digest bits (beginning host seat) lines given last × (e ≡ ended_of last)

-- the same of the lines of one worker
abbrev pub IsWork : {D : Type 0} → (List ℕ → List ℕ) → ℕ → HostView → SeatView → ℕ → List Line
    → Done D → Type 0
IsWork digest bits host seat worker lines d =
    IsDone digest bits host seat (own_lines worker lines) d.answers.items d.ended
