-- The laws of changes and of the pairs that they leave.
use Rattle.std.specs.Prelude.{◌≡◌, ℕ, true, List, [], ◌∷◌, Some, None}
use Rattle.std.specs.Cmp.Lexicographic.{slice_cmp}
use Rattle.std.specs.Ordering.{nat_cmp}
use Rattle.std.specs.FinMap.{is_sorted}
use Rattle.spec.specs.Tree.{Pair}
use Rattle.spec.specs.Writes.{with_key, without_key}
use Rattle.edit_laws.specs.Pairs.{Ascending}
use Rattle.batch_laws.specs.Batch.{Change, changed, one_by_one, change_by, with_change, AreAscending}

-- changes at once do what they do one by one, where their keys ascend
abbrev pub ChangedOneByOne : Type 0
ChangedOneByOne = (cs : List Change) (es : List Pair) → AreAscending cs → changed cs es ≡ one_by_one cs es

-- one more change collected is one more change made
abbrev pub CollectedGoesOn : Type 0
CollectedGoesOn = (c : Change) (cs : List Change) (es : List Pair) → AreAscending cs → Ascending es
    → AreAscending (with_change c cs) × (changed (with_change c cs) es ≡ change_by c.0 c.1 (changed cs es))

-- one change is a write of its key
abbrev pub OneIsWrite : Type 0
OneIsWrite = (key value : List ℕ) (es : List Pair) → is_sorted (slice_cmp nat_cmp) es ≡ true
    → (changed ((key, Some value) ∷ []) es ≡ with_key es key value)
    × (changed ((key, None) ∷ []) es ≡ without_key es key)
