-- What changes at once do to the blocks of a repository and to how often they are used.
use Rattle.std.specs.Prelude.{◌≡◌, ◌+◌, ℕ, true, Contains, List, map, Option}
use Rattle.std.specs.Cmp.Lexicographic.{slice_cmp}
use Rattle.std.specs.Ordering.{nat_cmp}
use Rattle.std.specs.FinMap.{is_sorted}
use Rattle.spec.specs.Cid.{IsDigest}
use Rattle.spec.specs.Tree.{Pair}
use Rattle.spec.specs.Blocks.{ArePairs, nodes, blocks, pairs, record_blocks}
use Rattle.edit_laws.specs.Changes.{count, AreChanges}
use Rattle.spec.specs.Sources.{HasBlocks}
use Rattle.edit_laws.specs.Sources.{Extends}
use Rattle.edit_laws.specs.Uses.{uses}
use Rattle.batch_laws.specs.Batch.{Change, changed, AreAscending}
use Rattle.batch_laws.specs.Previous.{values}
use Rattle.batch_laws.specs.Collecting.{with_cids}
use Rattle.batch_laws.specs.Uses.{present_values, records_come, cids_gone}

-- the values of changed pairs, with the old ones of the changed keys, are the values of the pairs
-- with those that the changes bring: each as often
abbrev pub ValuesBalance : Type 0
ValuesBalance = (cs : List Change) (es : List Pair) → AreAscending cs
    → is_sorted (slice_cmp nat_cmp) es ≡ true → (mark : List ℕ → List ℕ) (c : List ℕ)
    → count c (map mark (record_blocks (changed cs es))) + count c (map mark (present_values (values cs es)))
    ≡ count c (map mark (record_blocks es)) + count c (map mark (records_come cs))

-- changes at once of a repository whose blocks a source has: another source has what the first one
-- has, what the edit adds, and the records that come
pub record IsRewritten (digest : List ℕ → List ℕ) (bits : ℕ) (further : List (List ℕ))
    (m : List (List ℕ × List ℕ)) (cs : List Change) (gives more : List ℕ → Option (List ℕ))
    (read add drop : List (List ℕ)) : Type 0 where
  pub before : HasBlocks digest gives (blocks digest bits further m)
  pub sorted : is_sorted (slice_cmp nat_cmp) m ≡ true
  pub ascending : AreAscending cs
  pub old_pairs : ArePairs (pairs digest m)
  pub new_pairs : ArePairs (pairs digest (changed cs m))
  pub changes : AreChanges digest (nodes digest bits (pairs digest m))
      (nodes digest bits (pairs digest (changed cs m))) read add drop
  pub extends : Extends gives more
  pub has_add : HasBlocks digest more add
  pub has_records : HasBlocks digest more (records_come cs)

-- Then it has the blocks after the changes. Their uses are those before, without one of each node
-- that is dropped and of each record that a changed key had, and with one of each node that is
-- added and of each record that comes.
pub record HasRewritten (digest : List ℕ → List ℕ) (bits : ℕ) (further : List (List ℕ))
    (m : List (List ℕ × List ℕ)) (cs : List Change) (more : List ℕ → Option (List ℕ))
    (add drop : List (List ℕ)) : Type 0 where
  pub after : HasBlocks digest more (blocks digest bits further (changed cs m))
  pub balance : (c : List ℕ) → uses digest c (blocks digest bits further (changed cs m))
      + (count c drop + count c (cids_gone digest cs m))
      ≡ uses digest c (blocks digest bits further m)
      + (uses digest c add + uses digest c (records_come cs))

-- so changes at once exchange uses, CID by CID
abbrev pub ChangesKeepUses : Type 0
ChangesKeepUses = (digest : List ℕ → List ℕ) (bits : ℕ) → IsDigest digest
    → (further : List (List ℕ)) (m : List (List ℕ × List ℕ)) (cs : List Change)
    (gives more : List ℕ → Option (List ℕ)) (read add drop : List (List ℕ))
    → IsRewritten digest bits further m cs gives more read add drop
    → HasRewritten digest bits further m cs more add drop

-- the values that the keys of changes had are the same with CIDs in place of the records
abbrev pub ValuesAreByKeys : Type 0
ValuesAreByKeys = (digest : List ℕ → List ℕ) (cs : List Change) (es : List Pair)
    → values (with_cids digest cs) es ≡ values cs es

-- each record that comes is one of the records after the changes
abbrev pub RecordsCome : Type 0
RecordsCome = (cs : List Change) (m : List (List ℕ × List ℕ)) → AreAscending cs
    → is_sorted (slice_cmp nat_cmp) m ≡ true
    → (b : List ℕ) → Contains (records_come cs) b → Contains (record_blocks (changed cs m)) b
