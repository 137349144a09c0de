-- What an edit adds to a set of blocks and drops from it: lists without doubles.
use Rattle.std.specs.Prelude.{◌≡◌, ◌↔◌, ℕ, ◌+◌, ◌≤◌, Bool, not, List, [], ◌∷◌, map, filter, Contains}
use Rattle.std.specs.List.{list_any}
use Rattle.std.specs.Str.{bytes_eq}
use Rattle.std.specs.declared.cmp.Ordering.{Ordering}
use Rattle.std.specs.declared.cmp.Ordering.TheVariants.{Less, Equal, Greater}
use Rattle.spec.specs.Cid.{cid}
use Rattle.spec.specs.Tree.{Node}
use Rattle.spec.specs.Blocks.{firsts}
use Rattle.edit_laws.specs.Order.{order}

abbrev pub one_if_equal : Ordering → ℕ
one_if_equal Less = 0
one_if_equal Equal = 1
one_if_equal Greater = 0

-- how often a text stands in a list
abbrev pub count : List ℕ → List (List ℕ) → ℕ
count c [] = 0
count c (x ∷ xs) = one_if_equal (order x c) + count c xs

-- 1 for a node with this mark, as its CID or its bytes
abbrev pub marked : (Node → List ℕ) → List ℕ → Node → ℕ
marked mark c m = one_if_equal (order (mark m) c)

abbrev pub has_cid : List ℕ → List (List ℕ) → Bool
has_cid c cs = list_any (bytes_eq c) cs

-- of made blocks those whose CIDs were not read, each once
abbrev pub add_of : (List ℕ → List ℕ) → List (List ℕ) → List (List ℕ) → List (List ℕ)
add_of digest read made = firsts (cid digest) (filter (λ b. not (has_cid (cid digest b) (map (cid digest) read))) made)

-- of the CIDs of blocks that are used up those that are not made again
abbrev pub drop_of : (List ℕ → List ℕ) → List (List ℕ) → List (List ℕ) → List (List ℕ)
drop_of digest made gone = filter (λ c. not (has_cid c (map (cid digest) made))) (map (cid digest) gone)

-- an old set of blocks becomes a new one
pub record AreChanges (digest : List ℕ → List ℕ) (old new read add drop : List (List ℕ)) : Type 0 where
  -- what is added is new and was not read
  pub fresh : (b : List ℕ) → Contains add b → Contains new b × ¬ Contains read b
  -- each new block that isn't old is added
  pub whole : (b : List ℕ) → Contains new b → ¬ Contains old b → Contains add b
  pub once : (c : List ℕ) → count c (map (cid digest) add) ≤ 1
  -- dropped are the CIDs of the old blocks that aren't new
  pub dropped : (c : List ℕ)
      → Contains drop c ↔ ((b : List ℕ) × Contains old b × (¬ Contains new b) × (cid digest b ≡ c))
  pub drop_once : (c : List ℕ) → count c drop ≤ 1
  -- where no new block stands twice, no added block is an old one, also none that stays
  pub apart : ((b : List ℕ) → count b new ≤ 1) → (b : List ℕ) → Contains add b → ¬ Contains old b
