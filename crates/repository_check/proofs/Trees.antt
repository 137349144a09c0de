-- When the tree of some pairs is a file's.
use Rattle.std.proofs.Common.{Vec, ◌≡◌, ℕ, zero, suc, ◌<◌, ◌≤◌, ◌^◌, Bool, true, false, ◌&&◌, List, [], ◌∷◌, length, get_or, Option, refl, sym, ap, subst, ◌∙◌, arith}
use Rattle.std.specs.declared.option.Option.TheVariants.{Some, None}
use Rattle.std.specs.List.{list_all, AllByRecursion}
use Rattle.std.specs.Str.{bytes_eq}
use Rattle.std.specs.Cmp.Lexicographic.{slice_cmp}
use Rattle.std.specs.Ordering.{nat_cmp}
use Rattle.std.specs.FinMap.{is_sorted}
use Rattle.std.proofs.lemmas.List.{length-map}
use Rattle.std.proofs.lemmas.List.Elements.{All-contains_itself}
use Rattle.std.proofs.lemmas.List.Sums.{AllPass-from_list_all, list_all-from_AllPass}
use Rattle.std.proofs.lemmas.Slice.Eq.{bytes_eq-Decides}
use Rattle.spec.specs.Cid.{cid, is_own_cid}
use Rattle.spec.specs.Tree.{Pair}
use Rattle.spec.specs.NodeFormat.{is_key, is_ascending}
use Rattle.spec.specs.Blocks.{ArePairs, IsClashIn, nodes, root as root_of}
use Rattle.spec.specs.Sources.{HasBlocks}
use Rattle.spec.specs.CarReading.{Section, block_with}
use Rattle.spec.specs.Exports.{IsTree, given_by}
use Rattle.spec.proofs.BlockLaws.{All-Contains}
use Rattle.spec.proofs.Bools.{both, and}
use Rattle.edit_laws.proofs.OverSource.{free-source}
use Rattle.scratch.specs.Faults.{IsFaultOf}
use Rattle.scratch.specs.declared.fault.ScratchFault.{ScratchFault}
use Rattle.scratch.specs.declared.fault.ScratchFault.TheVariants.{Clash}
use Rattle.repository_check.specs.Parts.{IsRebuilt}
use Rattle.repository_check.specs.Views.{pairs_of}
use Rattle.repository_check.specs.Given.{is_block, is_given}

-- ---- blocks that a file has

block-is : (b : List ℕ) (o : Option (List ℕ)) → is_block b o ≡ true → o ≡ Some b
block-is b None h = absurd cc
block-is b (Some given) h = ap (λ (x : List ℕ). Some x) ((bytes_eq-Decides given b).0 h)

is-block : (b : List ℕ) (o : Option (List ℕ)) → o ≡ Some b → is_block b o ≡ true
is-block b o e = ap (is_block b) e ∙ (bytes_eq-Decides b b).1 refl

pub all-given : (digest : List ℕ → List ℕ) (ss : List Section) (bs : List (List ℕ)) → list_all (is_given digest ss) bs ≡ true
    → HasBlocks digest (given_by ss) bs
all-given digest ss bs h b c =
    block-is b (block_with (cid digest b) ss)
    (All-Contains (λ x. is_given digest ss x ≡ true) bs b (AllPass-from_list_all (is_given digest ss) bs h) c)

pub given-all : (digest : List ℕ → List ℕ) (ss : List Section) (bs : List (List ℕ)) → HasBlocks digest (given_by ss) bs
    → list_all (is_given digest ss) bs ≡ true
given-all digest ss bs has =
    list_all-from_AllPass (is_given digest ss) bs
    (λ i d h. let b : List ℕ = get_or bs i d in is-block b (block_with (cid digest b) ss) (has b (All-contains_itself bs i d h)))

-- ---- a tree that was built anew

module _ (digest : List ℕ → List ℕ) (bits : ℕ) (ss : List Section) (root : List ℕ) (es : List Pair) where
  rebuilt : (built : List ℕ) (blocks : List (List ℕ)) → built ≡ root_of digest bits es → blocks ≡ nodes digest bits es
      → (bytes_eq built root && list_all (is_given digest ss) blocks) ≡ true → IsRebuilt digest bits ss root es
  rebuilt built blocks root_is blocks_are h =
      let p = both (bytes_eq built root) (list_all (is_given digest ss) blocks) h in
      record {
        root_is = sym ((bytes_eq-Decides built root).0 p.0) ∙ root_is;
        nodes = all-given digest ss (nodes digest bits es) (ap (list_all (is_given digest ss)) (sym blocks_are) ∙ p.1);
      }

  is-rebuilt : (built : List ℕ) (blocks : List (List ℕ)) → built ≡ root_of digest bits es → blocks ≡ nodes digest bits es
      → IsRebuilt digest bits ss root es → (bytes_eq built root && list_all (is_given digest ss) blocks) ≡ true
  is-rebuilt built blocks root_is blocks_are r =
      and (bytes_eq built root) (list_all (is_given digest ss) blocks) ((bytes_eq-Decides built root).1 (root_is ∙ sym r.root_is))
      (ap (list_all (is_given digest ss)) blocks_are ∙ given-all digest ss (nodes digest bits es) r.nodes)

  -- the root is compared, and each block looked up
  pub compared : (built : List ℕ) (blocks : List (List ℕ)) (t : Bool) → built ≡ root_of digest bits es → blocks ≡ nodes digest bits es
      → t ≡ (bytes_eq built root && list_all (is_given digest ss) blocks)
      → (t ≡ true → IsRebuilt digest bits ss root es) × (IsRebuilt digest bits ss root es → t ≡ true)
  compared built blocks t root_is blocks_are is =
      (λ h. rebuilt built blocks root_is blocks_are (sym is ∙ h), λ r. is ∙ is-rebuilt built blocks root_is blocks_are r)

  -- one CID gives one block, so the nodes of a file's tree don't clash
  none-clash : (pair : List ℕ × List ℕ) → IsClashIn digest (nodes digest bits es) pair → IsRebuilt digest bits ss root es → ⊥
  none-clash pair clash r =
      clash.2.1 (free-source digest bits (given_by ss) es r.nodes pair.0 pair.1 clash.0 clash.1 clash.2.0)

  pub clashed : {D A : Type 0} (fault : ScratchFault D A) (pair : List ℕ × List ℕ) → fault ≡ Clash pair
      → IsFaultOf digest (nodes digest bits es) fault
      → (false ≡ true → IsRebuilt digest bits ss root es) × (IsRebuilt digest bits ss root es → false ≡ true)
  clashed fault pair is shown =
      let clash = subst (IsFaultOf digest (nodes digest bits es)) is shown in
      (λ h. absurd cc, λ r. absurd (none-clash pair clash r))

-- ---- pairs that ascend

keys-all : (es : List Pair) → AllByRecursion (λ e. is_key e.0 ≡ true) es → list_all (λ e. is_key e.0) es ≡ true
keys-all [] h = refl
keys-all (e ∷ es) h = and (is_key e.0) (list_all (λ x. is_key x.0) es) h.0 (keys-all es h.1)

all-keys : (es : List Pair) → list_all (λ e. is_key e.0) es ≡ true → AllByRecursion (λ e. is_key e.0 ≡ true) es
all-keys [] h = tt
all-keys (e ∷ es) h = let p = both (is_key e.0) (list_all (λ x. is_key x.0) es) h in (p.0, all-keys es p.1)

pub pairs-ascend : (es : List Pair) → ArePairs es → is_ascending es ≡ true
pairs-ascend es are = and (is_sorted (slice_cmp nat_cmp) es) (list_all (λ e. is_key e.0) es) are.sorted (keys-all es are.keys)

-- the keys of pairs that ascend
pub record Ascend (es : List Pair) : Type 0 where
  pub sorted : is_sorted (slice_cmp nat_cmp) es ≡ true
  pub keys : AllByRecursion (λ e. is_key e.0 ≡ true) es

pub ascending-pairs : (es : List Pair) → is_ascending es ≡ true → Ascend es
ascending-pairs es h =
    let p = both (is_sorted (slice_cmp nat_cmp) es) (list_all (λ e. is_key e.0) es) h in
    record { sorted = p.0; keys = all-keys es p.1 }

-- ---- CIDs of the host's form

own-from : {A : Type 0} (ps : List (Vec ℕ A × List ℕ))
    → ((k : ℕ) → k < length ps → (d : Vec ℕ A × List ℕ) → is_own_cid (get_or ps k d).1 ≡ true)
    → AllByRecursion (λ e. is_own_cid e.1 ≡ true) (pairs_of ps)
own-from [] h = tt
own-from (p ∷ ps) h = (h zero (omega arith) p, own-from ps (λ k lt d. h (suc k) (omega arith) d))

pub own-each : {A : Type 0} (ps : List (Vec ℕ A × List ℕ)) (n : ℕ) → length ps ≤ n
    → ((k : ℕ) → k < n → (d : Vec ℕ A × List ℕ) → is_own_cid (get_or ps k d).1 ≡ true)
    → AllByRecursion (λ e. is_own_cid e.1 ≡ true) (pairs_of ps)
own-each ps n end h = own-from ps (λ k lt d. h k (omega arith) d)

-- ---- the tree that was found

pub is-tree : {A : Type 0} (digest : List ℕ → List ℕ) (bits : ℕ) (ss : List Section) (root : List ℕ) (ps : List (Vec ℕ A × List ℕ))
    → Ascend (pairs_of ps) → AllByRecursion (λ e. is_own_cid e.1 ≡ true) (pairs_of ps) → length ps < 2 ^ 63
    → IsRebuilt digest bits ss root (pairs_of ps) → IsTree digest bits ss root (pairs_of ps)
is-tree digest bits ss root ps up own few r =
    let count : length (pairs_of ps) ≡ length ps = length-map ps (λ (p : Vec ℕ _ × List ℕ). (p.0.items, p.1)) in
    record {
      pairs = record { sorted = up.sorted; keys = up.keys; values = own; count = omega arith };
      root_is = r.root_is;
      nodes = r.nodes;
    }
