-- What the blocks of a repository are.
use Rattle.std.specs.Prelude.{◌≡◌, ◌⊎◌, ◌↔◌, ◌+◌, ◌++◌, ◌<◌, ◌^◌, ℕ, true, Contains, List, length}
use Rattle.std.specs.Prelude.{Some, option_map, is_some}
use Rattle.std.specs.Cmp.Lexicographic.{slice_cmp}
use Rattle.std.specs.Ordering.{nat_cmp}
use Rattle.std.specs.FinMap.{find, is_sorted}
use Rattle.spec.specs.Cid.{IsDigest, cid}
use Rattle.spec.specs.Blocks.{ArePairs, IsClashFree, value_of, nodes, blocks, block_at, pairs}
use Rattle.spec.specs.Blocks.{record_blocks}
use Rattle.spec.specs.Writes.{Write, leaves, has_key, is_lawful_list}

-- the same blocks in another order: further ones, the nodes of the tree, the records
abbrev pub parts : (List ℕ → List ℕ) → ℕ → List (List ℕ) → List (List ℕ × List ℕ) → List (List ℕ)
parts digest bits further m = further ++ (nodes digest bits (pairs digest m) ++ record_blocks m)

-- what adds up over lists of blocks, as how often a CID is theirs
abbrev pub AddsUp : (List (List ℕ) → ℕ) → Type 0
AddsUp f = (xs ys : List (List ℕ)) → f (xs ++ ys) ≡ f xs + f ys

-- each block stands among a repository's as often as among these, so whatever adds up is the same
abbrev pub BlocksAreParts : Type 0
BlocksAreParts =
    (digest : List ℕ → List ℕ) (bits : ℕ) (further : List (List ℕ)) (m : List (List ℕ × List ℕ))
    → is_sorted (slice_cmp nat_cmp) m ≡ true → (f : List (List ℕ) → ℕ) → AddsUp f
    → f (blocks digest bits further m) ≡ f (parts digest bits further m)

-- so a block is a repository's exactly where it is a further one, a node or a record
abbrev pub BlocksAreTheseSets : Type 0
BlocksAreTheseSets =
    (digest : List ℕ → List ℕ) (bits : ℕ) (further : List (List ℕ)) (m : List (List ℕ × List ℕ))
    → is_sorted (slice_cmp nat_cmp) m ≡ true → (b : List ℕ)
    → Contains (blocks digest bits further m) b
    ↔ (Contains further b
    ⊎ (Contains (nodes digest bits (pairs digest m)) b ⊎ Contains (record_blocks m) b))

-- of blocks that don't clash, the one with a CID is found by it
abbrev pub BlockIsFound : Type 0
BlockIsFound =
    (digest : List ℕ → List ℕ) (bs : List (List ℕ)) → IsClashFree digest bs → (c b : List ℕ)
    → (block_at digest c bs ≡ Some b) ↔ (Contains bs b × (cid digest b ≡ c))

-- a key's value in the pairs is the CID of its record
abbrev pub ValueIsOfRecord : Type 0
ValueIsOfRecord = (digest : List ℕ → List ℕ) (m : List (List ℕ × List ℕ)) (key : List ℕ)
    → (value_of key (pairs digest m) ≡ option_map (cid digest) (find (slice_cmp nat_cmp) key m))
    × (has_key m key ≡ is_some (value_of key (pairs digest m)))

-- the records of fewer than 2 ^ 64 lawful writes have the pairs of a tree
abbrev pub LawfulHasPairs : Type 0
LawfulHasPairs = (digest : List ℕ → List ℕ) → IsDigest digest → (ws : List Write)
    → is_lawful_list ws ≡ true → length ws < 2 ^ 64 → ArePairs (pairs digest (leaves ws))
