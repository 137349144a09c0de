-- Changes that are true are shown where the nodes are given that undoing reads.
use Rattle.std.proofs.Common.{◌≡◌, ℕ, List, sym, subst, ◌∙◌, Result, Ok, Err}
use Rattle.std.specs.Prelude.{Contains}
use Rattle.spec.specs.Cid.{IsDigest}
use Rattle.spec.specs.Tree.{Pair}
use Rattle.spec.specs.Blocks.{ArePairs, ClashesWithNone, IsClashFree, nodes, root as root_of}
use Rattle.batch_laws.specs.Batch.{AreKeyed}
use Rattle.change_laws.specs.Told.{KeyChange, undone, DifferBy}
use Rattle.change_laws.specs.Given.{BlockMissing as HasBlockMissing, BadNode as HasBadNode, TooDeep as HasTooDeep, NotTree as HasNotTree}
use Rattle.change_laws.specs.Verdict.{change_verdict}
use Rattle.change_laws.specs.Laws.{change_path, node_cids}
use Rattle.change_laws.proofs.Unblamed.{tree-only_missing}
use Rattle.change_laws.proofs.Showing.{verdict-complete}
use Rattle.change_proofs.specs.Verdicts.{IsVerdict, IsWhole, IsWant, IsOfTree, IsOfATree}
use Rattle.change_proofs.specs.declared.change_fault.ChangeFault.{ChangeFault}
use Rattle.change_proofs.specs.declared.change_fault.ChangeFault.TheVariants.{BlockMissing, BadNode, TooDeep, NotTree, OtherValue, OtherRoot, NoMemory}

ok-err : {X Y : Type 0} (x : X) (y : Y) → ◌≡◌ {A = Result X Y} (Ok x) (Err y) → ⊥
ok-err x y h = cc

module _ (digest : List ℕ → List ℕ) (bits : ℕ) (fits : IsDigest digest) (given : List (List ℕ)) (cs : List KeyChange)
    (keyed : AreKeyed (undone cs)) where
  module _ (old new : List Pair) (are_old : ArePairs old) (are_new : ArePairs new)
      (free : ClashesWithNone digest (nodes digest bits new) given) (differ : DifferBy cs old new)
      (has : (b : List ℕ) → Contains (change_path digest bits cs new) b → Contains given b) where
    abbrev root_after : List ℕ
    root_after = root_of digest bits new

    is-shown : change_verdict digest bits (root_of digest bits old) root_after given cs ≡ Ok tt
    is-shown = verdict-complete digest bits fits old new are_old are_new given free cs keyed differ has

    wants : (fault : ChangeFault)
        → IsVerdict digest bits (root_of digest bits old) root_after given cs (Err fault) → IsWant fault
    wants (BlockMissing c) h = ok-err tt _ (sym is-shown ∙ h.1)
    wants (BadNode c) h = ok-err tt _ (sym is-shown ∙ h.1)
    wants TooDeep h = ok-err tt _ (sym is-shown ∙ h)
    wants NotTree h = ok-err tt _ (sym is-shown ∙ h)
    wants (OtherValue place) h = ok-err tt _ (sym is-shown ∙ h)
    wants OtherRoot h = ok-err tt _ (sym is-shown ∙ h)
    wants NoMemory h = tt

  pub verdict-whole : (before after : List ℕ) (result : Result (Unit {0}) ChangeFault)
      → IsVerdict digest bits before after given cs result → IsWhole digest bits before after given cs result
  verdict-whole before after (Ok x) h old new are_old are_new before_is after_is free differ has = tt
  verdict-whole before after (Err fault) h old new are_old are_new before_is after_is free differ has =
      wants old new are_old are_new free differ has fault
      (subst (λ a. IsVerdict digest bits (root_of digest bits old) a given cs (Err fault)) after_is
      (subst (λ b. IsVerdict digest bits b after given cs (Err fault)) before_is h))

-- ---- of a tree

module _ (digest : List ℕ → List ℕ) (bits : ℕ) (fits : IsDigest digest) (given : List (List ℕ)) (cs : List KeyChange)
    (keyed : AreKeyed (undone cs)) where
  of-tree : (before : List ℕ) (new : List Pair) → ArePairs new → IsClashFree digest (nodes digest bits new)
      → ClashesWithNone digest (nodes digest bits new) given → (fault : ChangeFault)
      → IsVerdict digest bits before (root_of digest bits new) given cs (Err fault)
      → IsOfATree (node_cids digest bits new) fault
  of-tree before new are own_free free (BlockMissing c) h =
      tree-only_missing digest bits fits new are own_free given free before cs keyed (HasBlockMissing c) h.1
  of-tree before new are own_free free (BadNode c) h =
      tree-only_missing digest bits fits new are own_free given free before cs keyed (HasBadNode c) h.1
  of-tree before new are own_free free TooDeep h =
      tree-only_missing digest bits fits new are own_free given free before cs keyed HasTooDeep h
  of-tree before new are own_free free NotTree h =
      tree-only_missing digest bits fits new are own_free given free before cs keyed HasNotTree h
  of-tree before new are own_free free (OtherValue place) h = tt
  of-tree before new are own_free free OtherRoot h = tt
  of-tree before new are own_free free NoMemory h = tt

  pub verdict-tree : (before after : List ℕ) (result : Result (Unit {0}) ChangeFault)
      → IsVerdict digest bits before after given cs result → IsOfTree digest bits before after given cs result
  verdict-tree before after (Ok x) h new are after_is own_free free = tt
  verdict-tree before after (Err fault) h new are after_is own_free free =
      of-tree before new are own_free free fault
      (subst (λ a. IsVerdict digest bits before a given cs (Err fault)) after_is h)
