-- What is told of a step from a tree that a host keeps by itself, and of the nodes that show it.
use Rattle.std.specs.Prelude.{◌≡◌, ℕ, List, map, Option, Some, None, Result, Ok, Err, IfOk, IfErr}
use Rattle.std.specs.Arc.{arc_value}
use Rattle.std.specs.declared.sync.Arc.{Arc}
use Rattle.std.specs.Global.{Global}
use Rattle.sha2.specs.Sha256.{sha256}
use Rattle.cid.specs.declared.digest.Sha256.{Sha256}
use Rattle.batch_laws.specs.Batch.{Change}
use Rattle.lookups.specs.Maps.{first_of}
use Rattle.lookups.specs.Trees.{OfTree}
use Rattle.change_proofs.specs.StepProvings.{IsStepOf, IsStepOver, IsStepLack}
use Rattle.change_proofs.specs.Verdicts.{IsWant}
use Rattle.change_proofs.specs.declared.change_fault.ChangeFault.{ChangeFault}
use Rattle.change_proofs.specs.declared.change_fault.ChangeFault.TheVariants.{BlockMissing, BadNode, TooDeep, NotTree, OtherValue, OtherRoot, NoMemory}
use Rattle.change_proofs.specs.declared.change_proof.ChangeProof.{ChangeProof}
use Rattle.tizulgech.specs.Changing.{proof_bytes}
use Rattle.tizulgech.specs.Known.{known_of}
use Rattle.tizulgech.specs.Numbers.{IsHandedOr255}

-- the number of what is answered: of a node that is missing or none its CID is told
abbrev pub IsProofTold : {D A : Type 0} → ℕ → List ℕ → List ℕ → List ℕ → ℕ → Result (ChangeProof D A) ChangeFault → Type 0
IsProofTold code missing before room size (Ok proof) =
    IsHandedOr255 code (proof_bytes proof.after proof.changes.items (map arc_value proof.nodes.items)) before room size
IsProofTold code missing before room size (Err (BlockMissing c)) = (code ≡ 2) × (missing ≡ c)
IsProofTold code missing before room size (Err (BadNode c)) = (code ≡ 30) × (missing ≡ c)
IsProofTold code missing before room size (Err TooDeep) = code ≡ 31
IsProofTold code missing before room size (Err NotTree) = code ≡ 35
IsProofTold code missing before room size (Err (OtherValue place)) = code ≡ 33
IsProofTold code missing before room size (Err OtherRoot) = code ≡ 34
IsProofTold code missing before room size (Err NoMemory) = code ≡ 255

-- What is told is what doing these changes comes to over these nodes: of a tree of pairs whose nodes are there the root after, what
-- each key has before, and the nodes that are read, by which the step is shown; and over whatever nodes what they show.
pub record IsProofOver (code : ℕ) (missing before room : List ℕ) (size : ℕ) (given : List (List ℕ)) (root : List ℕ)
    (cs : List Change) : Type 0 where
  pub nodes : List (Arc (List ℕ) Global)
  pub nodes_are : map arc_value nodes ≡ given
  pub result : Result (ChangeProof Sha256 Global) ChangeFault
  pub proof : OfTree sha256 2 (first_of sha256 nodes) root (λ es. IfOk result
      (λ proof. IsStepOf sha256 2 cs es proof.after proof.changes.items (map arc_value proof.nodes.items)))
  pub want : OfTree sha256 2 (first_of sha256 nodes) root (λ es. IfErr result IsWant)
  pub over : IfOk result (λ proof. IsStepOver sha256 2 (first_of sha256 nodes) root cs proof.after proof.changes.items (map arc_value proof.nodes.items))
  pub lack : IfErr result (IsStepLack sha256 2 (first_of sha256 nodes) root cs)
  pub told : IsProofTold code missing before room size result

-- the same of nodes of which the first are given with their CIDs; 252 where these are none, or more than the nodes
abbrev pub IsProofWhen : Option (List (List ℕ × List ℕ)) → ℕ → List ℕ → List ℕ → List ℕ → ℕ → List (List ℕ) → List ℕ → List Change → Type 0
IsProofWhen None code missing before room size given root cs = code ≡ 252
IsProofWhen (Some known) code missing before room size given root cs = IsProofOver code missing before room size given root cs

abbrev pub IsProofKnown : ℕ → List ℕ → List ℕ → List ℕ → ℕ → List (List ℕ) → List ℕ → List ℕ → List Change → Type 0
IsProofKnown code missing before room size given cids root cs =
    IsProofWhen (known_of given cids) code missing before room size given root cs

-- 252 for arguments that are none
abbrev pub IsTreeProof : ℕ → List ℕ → List ℕ → List ℕ → ℕ → Option (List (List ℕ)) → List ℕ → Option (List ℕ)
    → Option (List Change) → Type 0
IsTreeProof code missing before room size None cids root cs = code ≡ 252
IsTreeProof code missing before room size (Some given) cids None cs = code ≡ 252
IsTreeProof code missing before room size (Some given) cids (Some root) None = code ≡ 252
IsTreeProof code missing before room size (Some given) cids (Some root) (Some cs) =
    IsProofKnown code missing before room size given cids root cs
