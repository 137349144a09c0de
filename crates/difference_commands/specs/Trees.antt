-- The trees of two files.
use Rattle.std.specs.Prelude.{◌≡◌, ◌↔◌, ◌≤◌, ⊤, Contains, ℕ, Bool, List, ◌++◌, map, Option, option_map}
use Rattle.edit_laws.specs.Changes.{count}
use Rattle.std.specs.Arc.{arc_value}
use Rattle.std.specs.declared.sync.Arc.{Arc}
use Rattle.spec.specs.Cid.{cid}
use Rattle.spec.specs.Tree.{Pair}
use Rattle.spec.specs.Blocks.{ArePairs, IsClashFree, nodes, root}
use Rattle.scratch.specs.declared.tree.Built.{Built}
use Rattle.repository_check.specs.Given.{is_block}
use Rattle.difference_commands.specs.declared.trees.TreesFault.{TreesFault}
use Rattle.difference_commands.specs.declared.trees.TreesFault.TheVariants as errors

-- the tree of these pairs was built
pub record IsBuiltOf {D A : Type 0} (digest : List ℕ → List ℕ) (es : List Pair) (built : Built D A) : Type 0 where
  pub pairs : ArePairs es
  pub root_is : built.root ≡ root digest 2 es
  pub blocks_are : map arc_value built.blocks.items ≡ nodes digest 2 es

-- a source gives this block under its CID
abbrev pub is_given : {A : Type 0} → (List ℕ → List ℕ) → (List ℕ → Option (Arc (List ℕ) A)) → List ℕ → Bool
is_given digest gives b = is_block b (option_map arc_value (gives (cid digest b)))

-- two of these blocks have one CID, or memory was wanted
abbrev pub IsClashAmong : (List ℕ → List ℕ) → List (List ℕ) → TreesFault → Type 0
IsClashAmong digest blocks errors.Clash = ¬ IsClashFree digest blocks
IsClashAmong digest blocks errors.NoMemory = ⊤

-- two nodes of the trees of these pairs
abbrev pub IsClashBetween : (List ℕ → List ℕ) → List Pair → List Pair → TreesFault → Type 0
IsClashBetween digest es fs fault = IsClashAmong digest (nodes digest 2 es ++ nodes digest 2 fs) fault

-- just the nodes of the new tree that the old one lacks, each once
pub record AreComing (digest : List ℕ → List ℕ) (es fs : List Pair) (come : List (List ℕ)) : Type 0 where
  pub are : (b : List ℕ) → Contains come b ↔ (Contains (nodes digest 2 fs) b × ¬ Contains (nodes digest 2 es) b)
  pub once : (b : List ℕ) → count b come ≤ 1
