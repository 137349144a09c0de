-- The laws of the changes that the writes of a batch come to.
use Rattle.std.specs.Prelude.{◌≡◌, ℕ, true, List, [], ◌∷◌, ◌++◌, is_some, Ok}
use Rattle.std.specs.Cmp.Lexicographic.{slice_cmp}
use Rattle.std.specs.Ordering.{nat_cmp}
use Rattle.std.specs.FinMap.{find, is_sorted, put}
use Rattle.spec.specs.Cid.{IsDigest}
use Rattle.spec.specs.NodeFormat.{is_key}
use Rattle.spec.specs.Blocks.{pairs, value_of}
use Rattle.spec.specs.Writes.{Write, key_of, has_key, test_when, write_test, batch_test}
use Rattle.batch_laws.specs.Batch.{Change, at_key, changed, with_change, AreAscending, AreKeyed}
use Rattle.batch_laws.specs.Batch.{HaveOwnCids}
use Rattle.batch_laws.specs.Collecting.{after_writes, change_of, collected, with_cid, with_cids}
use Rattle.batch_laws.specs.Collecting.{value_after, there_after, HaveKeys}

-- what writes leave one after another their changes leave at once, of the records and of the pairs
-- of their tree
pub record AreCollected (digest : List ℕ → List ℕ) (m : List (List ℕ × List ℕ)) (ws : List Write)
    : Type 0 where
  pub ascending : AreAscending (collected ws)
  pub records_are : after_writes m ws ≡ changed (collected ws) m
  pub pairs_are : pairs digest (after_writes m ws)
      ≡ changed (with_cids digest (collected ws)) (pairs digest m)

-- so it is of records in order
abbrev pub WritesAreCollected : Type 0
WritesAreCollected = (digest : List ℕ → List ℕ) (m : List (List ℕ × List ℕ)) (ws : List Write)
    → is_sorted (slice_cmp nat_cmp) m ≡ true → AreCollected digest m ws

-- changes of records are the same changes of their pairs with CIDs in place of the records
abbrev pub PairsAreChanged : Type 0
PairsAreChanged = (digest : List ℕ → List ℕ) (cs : List Change) (m : List (List ℕ × List ℕ))
    → AreAscending cs → AreAscending (with_cids digest cs)
    × (pairs digest (changed cs m) ≡ changed (with_cids digest cs) (pairs digest m))

-- what stands under a key after some writes is what their changes say of it, and where they don't
-- name the key what stood there before: the record, its CID, and whether there is one
pub record IsKnown (digest : List ℕ → List ℕ) (m : List (List ℕ × List ℕ)) (ws : List Write)
    (key : List ℕ) : Type 0 where
  pub record_is : find (slice_cmp nat_cmp) key (after_writes m ws)
      ≡ value_after (at_key key (collected ws)) (find (slice_cmp nat_cmp) key m)
  pub value_is : value_of key (pairs digest (after_writes m ws))
      ≡ value_after (at_key key (with_cids digest (collected ws))) (value_of key (pairs digest m))
  pub there : has_key (after_writes m ws) key
      ≡ there_after (at_key key (collected ws)) (is_some (value_of key (pairs digest m)))
  pub there_by_cids : has_key (after_writes m ws) key ≡ there_after
      (at_key key (with_cids digest (collected ws))) (is_some (value_of key (pairs digest m)))

-- so it is of each key
abbrev pub KeyIsKnown : Type 0
KeyIsKnown = (digest : List ℕ → List ℕ) (m : List (List ℕ × List ℕ)) (ws : List Write)
    (key : List ℕ) → is_sorted (slice_cmp nat_cmp) m ≡ true → IsKnown digest m ws key

-- so a write is tested by the changes so far and one look-up among the pairs before the batch
abbrev pub TestIsByChanges : Type 0
TestIsByChanges = (digest : List ℕ → List ℕ) (m : List (List ℕ × List ℕ)) (ws : List Write)
    (w : Write) → is_sorted (slice_cmp nat_cmp) m ≡ true
    → write_test (after_writes m ws) w
    ≡ test_when (there_after (at_key (key_of w) (with_cids digest (collected ws)))
    (is_some (value_of (key_of w) (pairs digest m)))) w

-- the value of a key after changes at once
abbrev pub ValueIsChanged : Type 0
ValueIsChanged = (key : List ℕ) (cs : List Change) (es : List (List ℕ × List ℕ)) → AreAscending cs
    → is_sorted (slice_cmp nat_cmp) es ≡ true
    → value_of key (changed cs es) ≡ value_after (at_key key cs) (value_of key es)

-- with one more write its change is collected too, and with CIDs in place of records it is the same
abbrev pub OneMoreCollected : Type 0
OneMoreCollected = (digest : List ℕ → List ℕ) (ws : List Write) (w : Write)
    → (collected (ws ++ w ∷ []) ≡ with_change (change_of w) (collected ws))
    × (with_cids digest (collected (ws ++ w ∷ []))
    ≡ with_change (with_cid digest (change_of w)) (with_cids digest (collected ws)))

-- changes are the entries of a map by key: in order, each key's change under the key, and one more
-- change put as an entry
abbrev pub ChangesAreEntries : Type 0
ChangesAreEntries = (c : Change) (cs : List Change) (key : List ℕ)
    → (AreAscending cs → is_sorted (slice_cmp nat_cmp) cs ≡ true)
    × (at_key key cs ≡ find (slice_cmp nat_cmp) key cs)
    × (with_change c cs ≡ put (slice_cmp nat_cmp) c.0 c.1 cs)

-- the changes of writes that name keys are such as an edit takes
abbrev pub CollectedAreKeyed : Type 0
CollectedAreKeyed = (digest : List ℕ → List ℕ) → IsDigest digest → (ws : List Write) → HaveKeys ws
    → AreKeyed (with_cids digest (collected ws)) × HaveOwnCids (with_cids digest (collected ws))

-- with one more change of a key they still are
abbrev pub OneMoreKeyed : Type 0
OneMoreKeyed = (c : Change) (cs : List Change) → is_key c.0 ≡ true → AreKeyed cs
    → AreKeyed (with_change c cs)

-- each write of a batch that passes names a key
abbrev pub PassedHaveKeys : Type 0
PassedHaveKeys = (limit : ℕ) (accepted batch : List Write)
    → batch_test limit accepted batch ≡ Ok tt → HaveKeys batch
