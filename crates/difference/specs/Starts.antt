-- One of two trees as the laws see it.
use Rattle.std.specs.Prelude.{◌≡◌, ℕ, ◌+◌, List, length, Option, Some}
use Rattle.spec.specs.NodeFormat.{Shape}
use Rattle.difference_laws.specs.Lines as lines
use Rattle.difference_laws.specs.Lines.{side_at}
use Rattle.difference.specs.Sides.{IsBegun, line_of, rows_of, shapes_in, waiting}
use Rattle.difference.specs.declared.side.Side.{Side}
use Rattle.std.specs.declared.sync.Arc.{Arc}

abbrev pub side_in : {D A : Type 0} → Side D A → lines.Side
side_in s = record { left = s.left; line = line_of s.line; read = shapes_in s.read.items }

-- nothing of a tree is open, whose root is a node that is shown
abbrev pub IsStart : (List ℕ → Option Shape) → (List ℕ → ℕ) → List ℕ → lines.Side → Type 0
IsStart shows layer root side = (s : Shape) × ((shows root ≡ Some s) × (side ≡ side_at layer root s))

-- nothing but its root's block is read, or some nodes were opened
abbrev pub HasBegun : {D A : Type 0} → (List ℕ → Option (Arc (List ℕ) A)) → Side D A → Type 0
HasBegun gives s = IsBegun gives (rows_of s.line.rows.items) s.line.last s.top s.read.items

-- how many blocks were read for it
abbrev pub asked_by : {D A : Type 0} → Side D A → ℕ
asked_by s = waiting s.top + length s.read.items
