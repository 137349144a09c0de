-- The text that lists the tree of keys and CIDs given line by line (a choice of this project).
use Rattle.std.specs.Prelude.{ℕ, Bool, List, [], ◌∷◌, ◌++◌, fold, Result, Ok, Err}
use Rattle.std.specs.List.{list_any, flat_map, before_last, after_last}
use Rattle.std.specs.Cmp.Lexicographic.{slice_cmp}
use Rattle.std.specs.Ordering.{nat_cmp}
use Rattle.std.specs.FinMap.{put}
use Rattle.hex.specs.Hex.{encode_lower}
use Rattle.console.specs.Lines.{numbered_lines, is_space}
use Rattle.spec.specs.Reading.{◌>>=◌, ensure}
use Rattle.spec.specs.Tree.{Pair}
use Rattle.spec.specs.Cid.{CidFault, cid, text, cid_of_text}
use Rattle.spec.specs.NodeFormat.{is_key}
use Rattle.spec.specs.Keys.{is_repository_key}
use Rattle.spec.specs.Blocks.{firsts, is_clash_free, nodes, root}
use Rattle.tree_command.specs.declared.keys.Keys.{Keys}
use Rattle.tree_command.specs.declared.keys.Keys.TheVariants as keys
use Rattle.tree_command.specs.declared.options.TreeOptions.{TreeOptions}

-- ---- the input

-- what is wrong with a line
pub data LineFault : Type 0 where
  BadLine : LineFault
  BadKey : LineFault
  BadCid : LineFault

-- why there is no text: a line by its number, from 1, or two nodes with one CID
pub data TreeFault : Type 0 where
  Line : ℕ → LineFault → TreeFault
  Clash : TreeFault

abbrev pub or_bad_cid : Result (List ℕ) CidFault → Result (List ℕ) LineFault
or_bad_cid (Ok c) = Ok c
or_bad_cid (Err f) = Err BadCid

-- which keys a listing takes: any of 1 to 1,024 bytes, or those of a repository's records alone
abbrev pub is_taken : Keys → List ℕ → Bool
is_taken keys.Any key = is_key key
is_taken keys.Paths key = is_repository_key key

-- the key is all before the last space, and the CID's text all after it
unfoldable pub pair_of_line : Keys → List ℕ → Result Pair LineFault
pair_of_line taken l = do
  line_ok ← ensure (list_any is_space l) BadLine
  key_ok ← ensure (is_taken taken (before_last is_space l)) BadKey
  c ← or_bad_cid (cid_of_text (after_last is_space l))
  Ok (before_last is_space l, c)

abbrev pub at_line : ℕ → Result Pair LineFault → Result Pair TreeFault
at_line n (Ok e) = Ok e
at_line n (Err f) = Err (Line n f)

-- the pairs of numbered lines in their order, or the first faulty line
unfoldable pub pairs_of_lines : Keys → List (ℕ × List ℕ) → Result (List Pair) TreeFault
pairs_of_lines taken [] = Ok []
pairs_of_lines taken (l ∷ ls) = do
  e ← at_line l.0 (pair_of_line taken l.1)
  more ← pairs_of_lines taken ls
  Ok (e ∷ more)

-- ---- the map

-- the pairs put into a map one after another: of those with one key the last decides
abbrev pub last_of_each_key : List Pair → List Pair
last_of_each_key es = fold (λ m e. put (slice_cmp nat_cmp) e.0 e.1 m) [] es

-- the map from keys to CIDs that the lines of an input leave, or the first faulty line
unfoldable pub map_of_input : Keys → List ℕ → Result (List Pair) TreeFault
map_of_input taken input = do
  es ← pairs_of_lines taken (numbered_lines input)
  Ok (last_of_each_key es)

-- ---- the output

-- the line of a block: its CID's text and its bytes in hexadecimal
abbrev pub block_line : (List ℕ → List ℕ) → List ℕ → List ℕ
block_line digest b = text (cid digest b) ++ (32 ∷ encode_lower b) ++ (10 ∷ [])

-- the root and the nodes of a map's tree, where no two nodes have one CID and different bytes
abbrev pub tree_of_map : (List ℕ → List ℕ) → ℕ → List Pair → Result (List ℕ × List (List ℕ)) TreeFault
tree_of_map digest bits m = do
  clash_free ← ensure (is_clash_free digest (nodes digest bits m)) Clash
  Ok (root digest bits m, firsts (cid digest) (nodes digest bits m))

unfoldable pub tree_of_input : Keys → (List ℕ → List ℕ) → ℕ → List ℕ → Result (List ℕ × List (List ℕ)) TreeFault
tree_of_input taken digest bits input = do
  m ← map_of_input taken input
  tree_of_map digest bits m

-- the text of a tree: the root's CID, and then a line for each node
abbrev pub text_of_tree : (List ℕ → List ℕ) → List ℕ × List (List ℕ) → List ℕ
text_of_tree digest tree = text tree.0 ++ (10 ∷ []) ++ flat_map (block_line digest) tree.1

-- the text for an input, or why there is none
unfoldable pub tree_text : Keys → (List ℕ → List ℕ) → ℕ → List ℕ → Result (List ℕ) TreeFault
tree_text taken digest bits input = do
  tree ← tree_of_input taken digest bits input
  Ok (text_of_tree digest tree)

-- the text, or nothing where there is none
abbrev pub text_or_nothing : Result (List ℕ) TreeFault → List ℕ
text_or_nothing (Ok t) = t
text_or_nothing (Err f) = []

-- the text of what a listing is told
abbrev pub listing : (List ℕ → List ℕ) → TreeOptions → List ℕ → Result (List ℕ) TreeFault
listing digest options input = tree_text options.keys digest options.bits.number input
