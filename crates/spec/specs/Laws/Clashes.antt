-- A test for clashes says exactly whether there is one.
use Rattle.std.specs.Prelude.{◌≡◌, ◌↔◌, Contains, ℕ, true, false, List, ◌++◌}
use Rattle.spec.specs.Blocks.{is_clash_free, IsClashFree, ClashesWithNone, IsClash}

-- the test passes exactly where no two blocks clash
abbrev pub TestTellsClashFree : Type 0
TestTellsClashFree = (digest : List ℕ → List ℕ) (bs : List (List ℕ)) → (is_clash_free digest bs ≡ true) ↔ IsClashFree digest bs

-- two of the blocks clash
pub record HasClash (digest : List ℕ → List ℕ) (bs : List (List ℕ)) : Type 0 where
  pub one : List ℕ
  pub other : List ℕ
  pub has_one : Contains bs one
  pub has_other : Contains bs other
  pub clash : IsClash digest one other

-- and fails exactly where two do
abbrev pub TestTellsClash : Type 0
TestTellsClash = (digest : List ℕ → List ℕ) (bs : List (List ℕ)) → (is_clash_free digest bs ≡ false) ↔ HasClash digest bs

-- two lists together are clash-free exactly where each is by itself and neither clashes with the other
abbrev pub TogetherClashFree : Type 0
TogetherClashFree = (digest : List ℕ → List ℕ) (xs ys : List (List ℕ)) → IsClashFree digest (xs ++ ys) ↔ (IsClashFree digest xs × IsClashFree digest ys × ClashesWithNone digest xs ys)
