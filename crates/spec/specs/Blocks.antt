-- The blocks of a tree and of a repository, each a list of bytes (AT Protocol repository v3).
use Rattle.std.specs.Prelude.{◌≡◌, ◌≢◌, Contains, ℕ, ◌<◌, ◌^◌, true, length, Bool, ◌||◌, not, List}
use Rattle.std.specs.Prelude.{[], ◌∷◌, ◌++◌, map, filter, take, Option, find as find_in}
use Rattle.std.specs.List.{list_all, cons_option, AllByRecursion}
use Rattle.std.specs.Str.{bytes_eq}
use Rattle.std.specs.Cmp.Lexicographic.{slice_cmp}
use Rattle.std.specs.Ordering.{nat_cmp, is_lt}
use Rattle.std.specs.FinMap.{find, is_sorted}
use Rattle.spec.specs.Cid.{cid, is_own_cid}
use Rattle.spec.specs.Layer.{layer}
use Rattle.spec.specs.Tree.{Pair, Node, Last, More, Part, Nothing, Sub, top}
use Rattle.spec.specs.NodeFormat.{is_key, node_bytes}

-- Each node with the blocks under it: from its first part on, what stands for each entry's record
-- and the blocks of the subtree after it (this order is a choice of this project). What stands for
-- a record is given by records.
abbrev mutual
  pub blocks_in : (List ℕ → List ℕ) → (List ℕ → List (List ℕ)) → Part → List (List ℕ)
  blocks_in digest records Nothing = []
  blocks_in digest records (Sub m) = node_bytes digest m ∷ blocks_under digest records m

  pub blocks_under : (List ℕ → List ℕ) → (List ℕ → List (List ℕ)) → Node → List (List ℕ)
  blocks_under digest records (Last p) = blocks_in digest records p
  blocks_under digest records (More p e r) =
      blocks_in digest records p ++ records e.0 ++ blocks_under digest records r

-- the elements whose mark comes first
abbrev pub firsts : (List ℕ → List ℕ) → List (List ℕ) → List (List ℕ)
firsts mark [] = []
firsts mark (b ∷ bs) = b ∷ filter (λ c. not (bytes_eq (mark b) (mark c))) (firsts mark bs)

-- no two different blocks have one CID, as a test and as a fact
abbrev pub is_clash_free : (List ℕ → List ℕ) → List (List ℕ) → Bool
is_clash_free digest bs =
    list_all (λ a. list_all (λ b. not (bytes_eq (cid digest a) (cid digest b)) || bytes_eq a b) bs) bs

abbrev pub IsClashFree : (List ℕ → List ℕ) → List (List ℕ) → Type 0
IsClashFree digest bs =
    (a b : List ℕ) → Contains bs a → Contains bs b → cid digest a ≡ cid digest b → a ≡ b

-- two blocks with one CID and different bytes
abbrev pub IsClash : (List ℕ → List ℕ) → List ℕ → List ℕ → Type 0
IsClash digest a b = (cid digest a ≡ cid digest b) × (a ≢ b)

-- two of the blocks, with one CID and different bytes
abbrev pub IsClashIn : (List ℕ → List ℕ) → List (List ℕ) → List ℕ × List ℕ → Type 0
IsClashIn digest blocks pair = Contains blocks pair.0 × Contains blocks pair.1 × IsClash digest pair.0 pair.1

-- No block of the one list clashes with one of the other. Within a list blocks may clash: what a
-- stranger gives needs no more than this.
abbrev pub ClashesWithNone : (List ℕ → List ℕ) → List (List ℕ) → List (List ℕ) → Type 0
ClashesWithNone digest xs ys =
    (a b : List ℕ) → Contains xs a → Contains ys b → cid digest a ≡ cid digest b → a ≡ b

-- the block with this CID, the first one of several
abbrev pub block_at : (List ℕ → List ℕ) → List ℕ → List (List ℕ) → Option (List ℕ)
block_at digest c bs = find_in (λ b. bytes_eq (cid digest b) c) bs

-- ---- of a list of pairs

-- pairs of a record map: keys of 1 to 1,024 bytes ascend strictly, and each value is a CID of the
-- host's form (the bounds are a choice of this project)
pub record ArePairs (es : List Pair) : Type 0 where
  pub sorted : is_sorted (slice_cmp nat_cmp) es ≡ true
  pub keys : AllByRecursion (λ e. is_key e.0 ≡ true) es
  pub values : AllByRecursion (λ e. is_own_cid e.1 ≡ true) es
  pub count : length es < 2 ^ 64

-- the value of a key
abbrev pub value_of : List ℕ → List Pair → Option (List ℕ)
value_of key es = find (slice_cmp nat_cmp) key es

-- the pair's key is this one or a greater one
abbrev pub is_from : List ℕ → Pair → Bool
is_from from e = not (is_lt (slice_cmp nat_cmp e.0 from))

-- the first so many pairs from a key on
abbrev pub listed : List ℕ → ℕ → List Pair → List Pair
listed from limit es = take limit (filter (is_from from) es)

-- no block for a record: a tree of pairs knows its records' CIDs alone
abbrev pub no_record : List ℕ → List (List ℕ)
no_record key = []

-- all nodes, from the top
abbrev pub nodes : (List ℕ → List ℕ) → ℕ → List Pair → List (List ℕ)
nodes digest bits es = blocks_in digest no_record (Sub (top (layer digest bits) es))

-- the CID of the top
abbrev pub root : (List ℕ → List ℕ) → ℕ → List Pair → List ℕ
root digest bits es = cid digest (node_bytes digest (top (layer digest bits) es))

-- ---- of a record map: keys in ascending order, each with its record's bytes

-- each key with its record's CID
abbrev pub pairs : (List ℕ → List ℕ) → List (List ℕ × List ℕ) → List Pair
pairs digest m = map (λ e. (e.0, cid digest e.1)) m

-- the record of a key, as a list of one block, or of none where there is no such key
abbrev pub record_at : List (List ℕ × List ℕ) → List ℕ → List (List ℕ)
record_at m key = cons_option (find (slice_cmp nat_cmp) key m) []

-- the records, without their keys
abbrev pub record_blocks : List (List ℕ × List ℕ) → List (List ℕ)
record_blocks m = map (λ e. e.1) m

-- nodes and records together, in the order of the export, after further blocks that belong to the
-- repository beside its tree and its records
abbrev pub blocks : (List ℕ → List ℕ) → ℕ → List (List ℕ) → List (List ℕ × List ℕ) → List (List ℕ)
blocks digest bits further m =
    further ++ blocks_in digest (record_at m) (Sub (top (layer digest bits) (pairs digest m)))

-- the root of the tree of a record map
abbrev pub repository_root : (List ℕ → List ℕ) → ℕ → List (List ℕ × List ℕ) → List ℕ
repository_root digest bits m = root digest bits (pairs digest m)
