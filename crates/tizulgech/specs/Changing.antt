-- What is told of changes between two roots, in either direction, and of what shows a step from one to the next.
use Rattle.std.specs.Prelude.{◌≡◌, ◌++◌, ℕ, List, [], ◌∷◌, map, Option, Some, None, Result, Ok, Err, nat_eq, length, if◌then◌else◌}
use Rattle.sha2.specs.Sha256.{sha256}
use Rattle.spec.specs.Blocks.{pairs}
use Rattle.spec.specs.States.{State, records}
use Rattle.batch_laws.specs.Batch.{Change}
use Rattle.key_changes.specs.Keyed.{are_changes}
use Rattle.change_laws.specs.Told.{KeyChange, undone}
use Rattle.change_proofs.specs.StepProvings.{IsStepOf}
use Rattle.change_proofs.specs.Verdicts.{IsVerdict, IsRight, IsWhole, IsOfTree}
use Rattle.change_proofs.specs.StepVerdicts.{IsStepVerdict, IsStepRight, IsStepWhole, IsStepOfTree}
use Rattle.change_proofs.specs.declared.change_fault.ChangeFault.{ChangeFault}
use Rattle.change_proofs.specs.declared.change_fault.ChangeFault.TheVariants.{BlockMissing, BadNode, TooDeep, NotTree, OtherValue, OtherRoot, NoMemory}
use Rattle.buffers.specs.Answers.{IsHanded, parts_bytes, values_bytes}
use Rattle.buffers.specs.Framing.{cid_or_none_at, cut}
use Rattle.tizulgech.specs.Trees.{beside_parts}
use Rattle.tizulgech.specs.declared.verdicts.Direction.{Direction}
use Rattle.tizulgech.specs.declared.verdicts.Direction.TheVariants.{Forward, Back}

-- ---- changes as they are given: keys, the value of each before the changes, and after them

abbrev pub paired_changes : List Change → List Change → List KeyChange
paired_changes [] afters = []
paired_changes (b ∷ bs) [] = []
paired_changes (b ∷ bs) (a ∷ rest) = record { key = b.0; before = b.1; after = a.1 } ∷ paired_changes bs rest

abbrev pub told_of : Option (List Change) → Option (List Change) → Option (List KeyChange)
told_of None afters = None
told_of (Some bs) None = None
told_of (Some bs) (Some rest) = if nat_eq (length bs) (length rest) then Some (paired_changes bs rest) else None

abbrev pub both_told : Option (List (List ℕ)) → List ℕ → List ℕ → Option (List KeyChange)
both_told keys befores afters = told_of (beside_parts cid_or_none_at keys befores) (beside_parts cid_or_none_at keys afters)

-- where a verdict takes them
abbrev pub allowed : Option (List KeyChange) → Option (List KeyChange)
allowed None = None
allowed (Some cs) = if are_changes (undone cs) then Some cs else None

abbrev pub told_in : List ℕ → List ℕ → List ℕ → List ℕ → Option (List KeyChange)
told_in keys ends befores afters = allowed (both_told (cut 0 ends keys) befores afters)

-- ---- verdicts

-- the number of a verdict: of a node that is missing or none its CID is told, and of a key with another value the place of its change
abbrev pub IsVerdictTold : ℕ → List ℕ → ℕ → Result (Unit {0}) ChangeFault → Type 0
IsVerdictTold code missing place (Ok x) = code ≡ 0
IsVerdictTold code missing place (Err (BlockMissing c)) = (code ≡ 2) × (missing ≡ c)
IsVerdictTold code missing place (Err (BadNode c)) = (code ≡ 30) × (missing ≡ c)
IsVerdictTold code missing place (Err TooDeep) = code ≡ 31
IsVerdictTold code missing place (Err NotTree) = code ≡ 35
IsVerdictTold code missing place (Err (OtherValue at)) = (code ≡ 33) × (place ≡ at)
IsVerdictTold code missing place (Err OtherRoot) = code ≡ 34
IsVerdictTold code missing place (Err NoMemory) = code ≡ 255

-- What is said of changes between two roots, by some nodes. Forward, of the tree before: changes that are shown lead from the root
-- of pairs to that of these pairs with the changes done; true ones are shown where the nodes are given that doing them reads, but
-- for want of memory; and nothing is said against a node of a tree. Back, of the tree after: what is shown is right of all pairs
-- with the root after, and whole where the nodes are given that undoing reads, and nothing is said against a node of a tree.
abbrev pub IsAnswer : Direction → List (List ℕ) → List ℕ → List ℕ → List KeyChange → Result (Unit {0}) ChangeFault → Type 0
IsAnswer Forward nodes before after cs result = IsStepVerdict sha256 2 before after nodes cs result
    × IsStepRight sha256 2 before after nodes cs result × IsStepWhole sha256 2 before after nodes cs result
    × IsStepOfTree sha256 2 before after nodes cs result
IsAnswer Back nodes before after cs result = IsVerdict sha256 2 before after nodes cs result
    × IsRight sha256 2 before after nodes cs result × IsWhole sha256 2 before after nodes cs result
    × IsOfTree sha256 2 before after nodes cs result

-- the number tells what is said
pub record IsVerdictOver (direction : Direction) (code : ℕ) (missing : List ℕ) (place : ℕ) (nodes : List (List ℕ))
    (before after : List ℕ) (cs : List KeyChange) : Type 0 where
  pub result : Result (Unit {0}) ChangeFault
  pub said : IsAnswer direction nodes before after cs result
  pub told_is : IsVerdictTold code missing place result

-- 252 for arguments that are none
abbrev pub IsVerified : Direction → ℕ → List ℕ → ℕ → Option (List (List ℕ)) → Option (List ℕ) → Option (List ℕ)
    → Option (List KeyChange) → Type 0
IsVerified direction code missing place None before after cs = code ≡ 252
IsVerified direction code missing place (Some nodes) None after cs = code ≡ 252
IsVerified direction code missing place (Some nodes) (Some before) None cs = code ≡ 252
IsVerified direction code missing place (Some nodes) (Some before) (Some after) None = code ≡ 252
IsVerified direction code missing place (Some nodes) (Some before) (Some after) (Some cs) =
    IsVerdictOver direction code missing place nodes before after cs

-- ---- proofs of a repository

-- the value that each key had before its change, 36 zeros where it had none
abbrev pub befores_bytes : List KeyChange → List ℕ
befores_bytes cs = values_bytes (map (λ c. c.before) cs)

-- how a proof is spelt: the root after, these values, and each node with its length in front
abbrev pub proof_bytes : List ℕ → List KeyChange → List (List ℕ) → List ℕ
proof_bytes after told nodes = after ++ befores_bytes told ++ parts_bytes nodes

-- the bytes spell what these changes make of the repository's tree, and the nodes that show it
pub record IsStepSpelt (s : State) (cs : List Change) (bytes : List ℕ) : Type 0 where
  pub after : List ℕ
  pub told : List KeyChange
  pub nodes : List (List ℕ)
  pub step : IsStepOf sha256 2 cs (pairs sha256 (records s)) after told nodes
  pub bytes_are : bytes ≡ proof_bytes after told nodes

-- they are handed out
pub record IsStepProvenOf (code : ℕ) (before room : List ℕ) (size : ℕ) (s : State) (cs : List Change) : Type 0 where
  pub bytes : List ℕ
  pub spelt : IsStepSpelt s cs bytes
  pub handed : IsHanded code bytes before room size

-- 252 for what are no changes
abbrev pub IsStepProven : ℕ → List ℕ → List ℕ → ℕ → State → Option (List Change) → Type 0
IsStepProven code before room size s None = code ≡ 252
IsStepProven code before room size s (Some cs) = IsStepProvenOf code before room size s cs
