-- What is told of two trees that a host keeps by itself: what they differ by, and which nodes are missing for that.
use Rattle.std.specs.Prelude.{◌≡◌, ℕ, ◌++◌, List, map, length, Option, Some, None, Result, Ok, Err}
use Rattle.std.specs.Arc.{arc_value}
use Rattle.std.specs.List.{flat_map}
use Rattle.std.specs.declared.sync.Arc.{Arc}
use Rattle.std.specs.Global.{Global}
use Rattle.sha2.specs.Sha256.{sha256}
use Rattle.cid.specs.declared.digest.Sha256.{Sha256}
use Rattle.change_laws.specs.Told.{KeyChange}
use Rattle.lookups.specs.Maps.{first_of}
use Rattle.difference.specs.Differences.{IsCompared, IsLack, IsNoFault, IsOpened}
use Rattle.difference.specs.Merged.{changes_told}
use Rattle.difference.specs.declared.outcome.Difference.{Difference}
use Rattle.difference.specs.declared.faults.DifferenceFault.{DifferenceFault}
use Rattle.difference.specs.declared.faults.DifferenceFault.TheVariants.{BlockMissing, BadNode, TooDeep, NotTree, NoMemory}
use Rattle.buffers.specs.Answers.{blocks_bytes, cids_bytes, number_bytes, part_bytes, value_bytes}
use Rattle.tizulgech.specs.Known.{known_of}
use Rattle.tizulgech.specs.Numbers.{IsHandedOr255}

-- ---- what two trees differ by

-- a key with its length in front, and what it has in both trees
abbrev pub change_bytes : KeyChange → List ℕ
change_bytes c = part_bytes c.key ++ value_bytes c.before ++ value_bytes c.after

-- how many keys differ, and these; how many nodes go, and their CIDs; and each node that comes, with its CID and its length in front
abbrev pub difference_bytes : List KeyChange → List (List ℕ) → List (List ℕ) → List ℕ
difference_bytes cs go come =
    number_bytes (length cs) ++ flat_map change_bytes cs ++ number_bytes (length go) ++ cids_bytes go ++ blocks_bytes sha256 come

abbrev pub IsDifferenceTold : {D A : Type 0} → ℕ → List ℕ → List ℕ → List ℕ → ℕ → Result (Difference D A) DifferenceFault → Type 0
IsDifferenceTold code missing before room size (Ok d) =
    IsHandedOr255 code (difference_bytes (changes_told d.changes.items) d.go.items (map arc_value d.come.items)) before room size
IsDifferenceTold code missing before room size (Err (BlockMissing c)) = (code ≡ 2) × (missing ≡ c)
IsDifferenceTold code missing before room size (Err (BadNode c)) = (code ≡ 30) × (missing ≡ c)
IsDifferenceTold code missing before room size (Err TooDeep) = code ≡ 31
IsDifferenceTold code missing before room size (Err NotTree) = code ≡ 35
IsDifferenceTold code missing before room size (Err NoMemory) = code ≡ 255

-- what is told is what both trees come to over these nodes
pub record IsDifferenceOver (code : ℕ) (missing before room : List ℕ) (size : ℕ) (given : List (List ℕ)) (old new : List ℕ) : Type 0 where
  pub nodes : List (Arc (List ℕ) Global)
  pub nodes_are : map arc_value nodes ≡ given
  pub result : Result (Difference Sha256 Global) DifferenceFault
  pub compared : IsCompared sha256 2 (first_of sha256 nodes) old new result
  pub opened : IsOpened sha256 2 (first_of sha256 nodes) old new result
  pub lack : IsLack sha256 2 (first_of sha256 nodes) old new result
  pub no_fault : IsNoFault sha256 2 (first_of sha256 nodes) old new result
  pub told : IsDifferenceTold code missing before room size result

-- of nodes of which the first are given with their CIDs; 252 where these are none, or more than the nodes
abbrev pub IsDifferenceWhen : Option (List (List ℕ × List ℕ)) → ℕ → List ℕ → List ℕ → List ℕ → ℕ → List (List ℕ) → List ℕ → List ℕ → Type 0
IsDifferenceWhen None code missing before room size given old new = code ≡ 252
IsDifferenceWhen (Some known) code missing before room size given old new = IsDifferenceOver code missing before room size given old new

abbrev pub IsDifferenceKnown : ℕ → List ℕ → List ℕ → List ℕ → ℕ → List (List ℕ) → List ℕ → List ℕ → List ℕ → Type 0
IsDifferenceKnown code missing before room size given cids old new =
    IsDifferenceWhen (known_of given cids) code missing before room size given old new

-- 252 for arguments that are none
abbrev pub IsDiffering : ℕ → List ℕ → List ℕ → List ℕ → ℕ → Option (List (List ℕ)) → List ℕ → Option (List ℕ) → Option (List ℕ) → Type 0
IsDiffering code missing before room size None cids old new = code ≡ 252
IsDiffering code missing before room size (Some given) cids None new = code ≡ 252
IsDiffering code missing before room size (Some given) cids (Some old) None = code ≡ 252
IsDiffering code missing before room size (Some given) cids (Some old) (Some new) =
    IsDifferenceKnown code missing before room size given cids old new
