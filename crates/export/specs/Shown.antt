-- What given blocks show of a key under a root.
use Rattle.std.specs.Prelude.{◌≡◌, ℕ, List, Option, Result, Ok, true, IfOk, Contains}
use Rattle.spec.specs.Tree.{Pair}
use Rattle.spec.specs.NodeFormat.{is_key}
use Rattle.spec.specs.Blocks.{ArePairs, ClashesWithNone, value_of, nodes, root as root_of}
use Rattle.spec.specs.Proof.{path, verified}
use Rattle.spec.specs.Reading.{Gives}
use Rattle.export.specs.Faults.{proof_fault_of}
use Rattle.export.specs.declared.proof_fault.ProofFault.{ProofFault}

-- what is answered: the value of a key, or none, or a fault
abbrev pub Answer : Type 0
Answer = Result (Option (List ℕ)) ProofFault

-- it is the defined one
abbrev pub IsAnswer : (List ℕ → List ℕ) → ℕ → List ℕ → List (List ℕ) → List ℕ → Answer → Type 0
IsAnswer digest bits root given key answer =
    Gives (λ value. value) proof_fault_of answer (verified digest bits root given key)

-- the tree of these pairs has this root, and its nodes clash with none of the given blocks
pub record IsRootOf (digest : List ℕ → List ℕ) (bits : ℕ) (root : List ℕ) (given : List (List ℕ)) (es : List Pair) : Type 0 where
  pub pairs : ArePairs es
  pub root_is : root ≡ root_of digest bits es
  pub free : ClashesWithNone digest (nodes digest bits es) given

-- it is right of each list of pairs with this root
abbrev pub IsRight : (List ℕ → List ℕ) → ℕ → List ℕ → List (List ℕ) → List ℕ → Answer → Type 0
IsRight digest bits root given key answer =
    (es : List Pair) → IsRootOf digest bits root given es → IfOk answer (λ value. value_of key es ≡ value)

-- the path of a key is given
abbrev pub IsGiven : (List ℕ → List ℕ) → ℕ → List (List ℕ) → List ℕ → List Pair → Type 0
IsGiven digest bits given key es = (b : List ℕ) → Contains (path digest bits es key) b → Contains given b

-- where it is, the answer is the key's value in those pairs
abbrev pub IsWhole : (List ℕ → List ℕ) → ℕ → List ℕ → List (List ℕ) → List ℕ → Answer → Type 0
IsWhole digest bits root given key answer =
    (es : List Pair) → IsRootOf digest bits root given es → is_key key ≡ true → IsGiven digest bits given key es → answer ≡ Ok (value_of key es)
