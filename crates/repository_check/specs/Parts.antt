-- What the steps of a check leave to those after them.
use Rattle.std.specs.Prelude.{◌≡◌, ℕ, true, List, Some, IfSome}
use Rattle.std.specs.List.{AllByRecursion}
use Rattle.spec.specs.Tree.{Pair}
use Rattle.spec.specs.CarReading.{Section, IsSection, are_named, block_with, car_bytes}
use Rattle.spec.specs.SignedCommits.{Commit, IsCommit, signed_bytes}
use Rattle.spec.specs.Blocks.{root as root_of}
use Rattle.spec.specs.Sources.{HasNodes}
use Rattle.spec.specs.Exports.{ExportFault, NotTheTree, IsTree, given_by}
use Rattle.repository_check.specs.declared.fault.CheckFault.{CheckFault}
use Rattle.repository_check.specs.Views.{check_fault_of}

-- the file spells a root and sections, and each of these is named by its block
pub record IsNamedCar (digest : List ℕ → List ℕ) (file : List ℕ)
    (car : List ℕ × List Section) : Type 0 where
  pub spelled : file ≡ car_bytes car.0 car.1
  pub lawful : AllByRecursion IsSection car.1
  pub named : are_named digest car.1 ≡ true

-- the sections have the commit's bytes under this CID
pub record IsCommitAt (root : List ℕ) (ss : List Section) (c : Commit) : Type 0 where
  pub found : block_with root ss ≡ Some (signed_bytes c)
  pub lawful : IsCommit c

-- the tree of these pairs has this root, and the sections have all of its nodes
pub record IsRebuilt (digest : List ℕ → List ℕ) (bits : ℕ) (ss : List Section) (root : List ℕ)
    (es : List Pair) : Type 0 where
  pub root_is : root ≡ root_of digest bits es
  pub nodes : HasNodes digest bits (given_by ss) es

-- where there is a tree with this root, these are its pairs
abbrev pub AreListed : (List ℕ → List ℕ) → ℕ → List Section → List ℕ → List Pair → Type 0
AreListed digest bits ss root listed = (es : List Pair) → IsTree digest bits ss root es → listed ≡ es

-- there is no tree with this root, and this fault says so
pub record NoTree (digest : List ℕ → List ℕ) (bits : ℕ) (ss : List Section) (root : List ℕ)
    (f : ExportFault) : Type 0 where
  pub is : f ≡ NotTheTree
  pub none : (es : List Pair) → IsTree digest bits ss root es → ⊥

-- the fault is right; of a want of memory nothing is said
abbrev pub IsTreeFault : (List ℕ → List ℕ) → ℕ → List Section → List ℕ → CheckFault
    → Type 0
IsTreeFault digest bits ss root e = IfSome (check_fault_of e) (NoTree digest bits ss root)
