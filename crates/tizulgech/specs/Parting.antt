-- What is told of the parts of a tree, of a file and of a list.
use Rattle.std.specs.Prelude.{◌≡◌, ℕ, ◌+◌, ◌++◌, ◌||◌, Bool, true, false, List, [], ◌∷◌, Option, Some, None, Result, Ok, Err, length, nat_eq, nat_le}
use Rattle.std.specs.List.{flat_map}
use Rattle.spec.specs.Tree.{Pair}
use Rattle.spec.specs.NodeFormat.{Entry}
use Rattle.node.specs.Rows.{Row}
use Rattle.buffers.specs.Answers.{pair_bytes}
use Rattle.tizulgech.specs.Numbers.{IsHandedOr255}

-- ---- what stands below a node, in the order of a file

-- a record: 0 and its CID
abbrev pub record_link : List ℕ → List ℕ
record_link c = 0 ∷ c

-- a node, if there is one: 1 and its CID
abbrev pub node_link : Option (List ℕ) → List ℕ
node_link None = []
node_link (Some c) = 1 ∷ c

abbrev pub entry_links : Entry → List ℕ
entry_links e = record_link e.value ++ node_link e.tree

abbrev pub row_links : Row → List ℕ
row_links r = record_link r.value ++ node_link r.tree

abbrev pub links_bytes : Option (List ℕ) → List Entry → List ℕ
links_bytes left es = node_link left ++ flat_map entry_links es

-- 30 for bytes that are no node
abbrev pub AreLinks : {E : Type 0} → ℕ → Result (Option (List ℕ) × List Entry) E → List ℕ → List ℕ → ℕ → Type 0
AreLinks code (Err e) before room size = code ≡ 30
AreLinks code (Ok n) before room size = IsHandedOr255 code (links_bytes n.0 n.1) before room size

-- ---- a section of a file

-- 24 where there is no such block
abbrev pub IsHandedIfThere : ℕ → Option (List ℕ) → List ℕ → List ℕ → ℕ → Type 0
IsHandedIfThere code None before room size = nat_eq code 255 ≡ false → code ≡ 24
IsHandedIfThere code (Some bytes) before room size = IsHandedOr255 code bytes before room size

-- 252 for what is no CID
abbrev pub IsSectionOf : ℕ → (List ℕ → Option (List ℕ)) → Option (List ℕ) → List ℕ → List ℕ → ℕ → Type 0
IsSectionOf code sections None before room size = code ≡ 252
IsSectionOf code sections (Some c) before room size = IsHandedIfThere code (sections c) before room size

-- ---- a page of a list

abbrev pub first_then : Bool → Pair → List Pair → List Pair
first_then false p ps = []
first_then true p ps = p ∷ ps

-- as many pairs as there is room for behind so many bytes, and the first of all in any case
abbrev pub page_behind : ℕ → ℕ → List Pair → List Pair
page_behind room used [] = []
page_behind room used (p ∷ ps) =
    let next = used + length (pair_bytes p) in
    first_then (nat_eq used 0 || nat_le next room) p (page_behind room next ps)

abbrev pub page_of : ℕ → List Pair → List Pair
page_of room pairs = page_behind room 0 pairs
