-- What given blocks show of changes between two roots: the changes undone in the tree after them lead to the root before
-- them. The nodes of the tree before are not read, nor those of the tree after in which nothing changes.
use Rattle.std.specs.Prelude.{ℕ, suc, Bool, true, false, List, [], ◌∷◌, Option, Some, None, Result, Ok, Err}
use Rattle.std.specs.Str.{bytes_eq}
use Rattle.spec.specs.Reading.{◌>>=◌, ensure}
use Rattle.spec.specs.Layer.{layer as layer_of_key}
use Rattle.spec.specs.NodeFormat.{Shape}
use Rattle.edit_laws.specs.Sources.{shown_by}
use Rattle.batch_laws.specs.Batch.{Change}
use Rattle.batch_laws.specs.Previous.{previous_top}
use Rattle.change_laws.specs.Told.{KeyChange, undone}
use Rattle.change_laws.specs.Given.{ChangeFault, OtherValue, OtherRoot, given_at, batch_given}

abbrev pub previous_of : (List ℕ → Option Shape) → (List ℕ → ℕ) → List Change → Option Shape → List (Option (List ℕ))
previous_of shows layer cs None = []
previous_of shows layer cs (Some s) = previous_top shows layer cs s

-- the values that the keys of changes have in the tree with a root, as a batch meets them in given blocks
abbrev pub values_given : (List ℕ → List ℕ) → ℕ → List (List ℕ) → List Change → List ℕ → List (Option (List ℕ))
values_given digest bits given cs root =
    let shows = shown_by (given_at digest given) in
    previous_of shows (layer_of_key digest bits) cs (shows root)

abbrev pub is_same : Option (List ℕ) → Option (List ℕ) → Bool
is_same None None = true
is_same None (Some y) = false
is_same (Some x) None = false
is_same (Some x) (Some y) = bytes_eq x y

-- each value is the one that is told, from a place on
abbrev pub are_told : ℕ → List (Option (List ℕ)) → List KeyChange → Result (Unit {0}) ChangeFault
are_told place [] [] = Ok tt
are_told place [] (c ∷ cs) = Err (OtherValue place)
are_told place (v ∷ vs) [] = Ok tt
are_told place (v ∷ vs) (c ∷ cs) = do
  same ← ensure (is_same v c.after) (OtherValue place)
  are_told (suc place) vs cs

-- Whether the tree with the root before becomes that with the root after by these changes, whose keys ascend. The faults of
-- reading come first, then those of values in the order of the changes, then that of the root.
unfoldable pub change_verdict : (List ℕ → List ℕ) → ℕ → List ℕ → List ℕ → List (List ℕ) → List KeyChange
    → Result (Unit {0}) ChangeFault
change_verdict digest bits before after given cs = do
  old ← batch_given digest bits given (undone cs) after
  told ← are_told 0 (values_given digest bits given (undone cs) after) cs
  ensure (bytes_eq old.0.0 before) OtherRoot
