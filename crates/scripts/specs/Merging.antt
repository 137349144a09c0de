-- Which lines are whose, and which answers.
use Rattle.std.specs.Prelude.{◌≡◌, ◌<◌, ℕ, ◌==◌, List, [], ◌∷◌, length, filter, slice_index_or}
use Rattle.std.specs.Prelude.{if◌then◌else◌}
use Rattle.scripts.specs.declared.script.Line.{Line}

-- the lines of one worker
abbrev pub own_lines : ℕ → List Line → List Line
own_lines worker lines = filter (λ l. l.worker == worker) lines

-- the answers at the places of its lines
abbrev pub own_answers : {X : Type 0} → ℕ → List Line → List X → List X
own_answers worker [] xs = []
own_answers worker (l ∷ ls) [] = []
own_answers worker (l ∷ ls) (x ∷ xs) =
    if l.worker == worker then x ∷ own_answers worker ls xs else own_answers worker ls xs

-- each worker was answered as often as it has lines
abbrev pub AreEnough : {X : Type 0} → List Line → List (List X) → Type 0
AreEnough lines given = (worker : ℕ) (d : List _) → worker < length given
    → length (slice_index_or given worker d) ≡ length (own_lines worker lines)

-- at the places of each worker's lines stand its answers, in their order
abbrev pub AreOwn : {X : Type 0} → List Line → List X → List (List X) → Type 0
AreOwn lines xs given = (worker : ℕ) (d : List _) → worker < length given
    → own_answers worker lines xs ≡ slice_index_or given worker d
