-- What is told of two trees of which a host has some nodes: which it lacks of the first layer that isn't all there.
use Rattle.std.specs.Prelude.{◌≡◌, ◌≤◌, ℕ, List, [], map, Option, Some, None, Result, Ok, Err, IfOk, IfErr, Vec}
use Rattle.std.specs.Arc.{arc_value}
use Rattle.std.specs.declared.sync.Arc.{Arc}
use Rattle.std.specs.Global.{Global}
use Rattle.sha2.specs.Sha256.{sha256}
use Rattle.edit_laws.specs.Changes.{count}
use Rattle.lookups.specs.Maps.{first_of}
use Rattle.difference.specs.Differences.{OfTrees}
use Rattle.difference.specs.Missing.{IsMissing, IsMissingFault, IsMissingTold}
use Rattle.difference.specs.declared.faults.DifferenceFault.{DifferenceFault}
use Rattle.difference.specs.declared.faults.DifferenceFault.TheVariants.{BlockMissing, BadNode, TooDeep, NotTree, NoMemory}
use Rattle.buffers.specs.Answers.{cids_bytes}
use Rattle.tizulgech.specs.Known.{known_of}
use Rattle.tizulgech.specs.Numbers.{IsHandedOr255}

-- the CIDs, one after another; of a node that is none its CID
abbrev pub IsLackTold : {A : Type 0} → ℕ → List ℕ → List ℕ → List ℕ → ℕ → Result (Vec (List ℕ) A) DifferenceFault → Type 0
IsLackTold code bad before room size (Ok cids) = IsHandedOr255 code (cids_bytes cids.items) before room size
IsLackTold code bad before room size (Err (BlockMissing c)) = (code ≡ 2) × (bad ≡ c)
IsLackTold code bad before room size (Err (BadNode c)) = (code ≡ 30) × (bad ≡ c)
IsLackTold code bad before room size (Err TooDeep) = code ≡ 31
IsLackTold code bad before room size (Err NotTree) = code ≡ 35
IsLackTold code bad before room size (Err NoMemory) = code ≡ 255

-- what is told is what these nodes lack
pub record IsLackOver (code : ℕ) (bad before room : List ℕ) (size : ℕ) (given : List (List ℕ)) (old new : List ℕ) : Type 0 where
  pub nodes : List (Arc (List ℕ) Global)
  pub nodes_are : map arc_value nodes ≡ given
  pub result : Result (Vec (List ℕ) Global) DifferenceFault
  pub missing : IfOk result (λ cids. IsMissing sha256 2 (first_of sha256 nodes) old new cids.items)
  pub stops : IfOk result (λ cids. IsMissingTold sha256 2 (first_of sha256 nodes) old new cids.items)
  pub once : IfOk result (λ cids. (c : List ℕ) → count c cids.items ≤ 1)
  pub fault : IfErr result (IsMissingFault sha256 2 (first_of sha256 nodes) old new)
  pub nothing : OfTrees sha256 2 (first_of sha256 nodes) old new (λ es fs. IfOk result (λ cids. cids.items ≡ []))
  pub equal : old ≡ new → IfOk result (λ cids. cids.items ≡ [])
  pub told : IsLackTold code bad before room size result

-- of nodes of which the first are given with their CIDs; 252 where these are none, or more than the nodes
abbrev pub IsLackWhen : Option (List (List ℕ × List ℕ)) → ℕ → List ℕ → List ℕ → List ℕ → ℕ → List (List ℕ) → List ℕ → List ℕ → Type 0
IsLackWhen None code bad before room size given old new = code ≡ 252
IsLackWhen (Some known) code bad before room size given old new = IsLackOver code bad before room size given old new

abbrev pub IsLackKnown : ℕ → List ℕ → List ℕ → List ℕ → ℕ → List (List ℕ) → List ℕ → List ℕ → List ℕ → Type 0
IsLackKnown code bad before room size given cids old new =
    IsLackWhen (known_of given cids) code bad before room size given old new

-- 252 for arguments that are none
abbrev pub IsLacking : ℕ → List ℕ → List ℕ → List ℕ → ℕ → Option (List (List ℕ)) → List ℕ → Option (List ℕ) → Option (List ℕ) → Type 0
IsLacking code bad before room size None cids old new = code ≡ 252
IsLacking code bad before room size (Some given) cids None new = code ≡ 252
IsLacking code bad before room size (Some given) cids (Some old) None = code ≡ 252
IsLacking code bad before room size (Some given) cids (Some old) (Some new) =
    IsLackKnown code bad before room size given cids old new
