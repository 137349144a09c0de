-- The records that writes leave, and which batches of writes are taken.
use Rattle.std.specs.Prelude.{◌≡◌, ◌↔◌, ℕ, true, List, [], ◌∷◌, ◌++◌, length, None, Ok, Err}
use Rattle.std.specs.Prelude.{is_some}
use Rattle.std.specs.Cmp.Lexicographic.{slice_cmp}
use Rattle.std.specs.Ordering.{nat_cmp}
use Rattle.std.specs.FinMap.{find, is_sorted}
use Rattle.spec.specs.Blocks.{blocks, repository_root, value_of, pairs}
use Rattle.spec.specs.Writes.{Write, WriteFault, leaves, key_of, after_write, last_record}
use Rattle.spec.specs.Writes.{test_when, write_test, limited_test, batch_test, is_lawful_list}

-- the record of a key is what the last write that names the key says
abbrev pub LastWriteDecides : Type 0
LastWriteDecides =
    (ws : List Write) (key : List ℕ) → find (slice_cmp nat_cmp) key (leaves ws)
    ≡ last_record key None ws

-- the records that writes leave stand in ascending order of keys
abbrev pub KeysAscend : Type 0
KeysAscend = (ws : List Write) → is_sorted (slice_cmp nat_cmp) (leaves ws) ≡ true

-- writes whose last words on each key agree leave one root and one list of blocks, whatever their
-- order
abbrev pub OrderIsNoMatter : Type 0
OrderIsNoMatter =
    (digest : List ℕ → List ℕ) (bits : ℕ) (further : List (List ℕ)) (ws vs : List Write)
    → ((key : List ℕ) → last_record key None ws ≡ last_record key None vs)
    → (leaves ws ≡ leaves vs)
    × (repository_root digest bits (leaves ws) ≡ repository_root digest bits (leaves vs))
    × (blocks digest bits further (leaves ws) ≡ blocks digest bits further (leaves vs))

-- each write of a lawful list passes on the records that the writes before it leave
abbrev pub LawfulIsEachOnThoseBefore : Type 0
LawfulIsEachOnThoseBefore =
    (ws : List Write) → (is_lawful_list ws ≡ true)
    ↔ ((before after : List Write) (w : Write) → ws ≡ before ++ w ∷ after
    → write_test (leaves before) w ≡ Ok tt)

-- each write of a batch passes on the records that the accepted writes and those before it leave
abbrev pub EachPasses : ℕ → List Write → List Write → Type 0
EachPasses limit accepted batch =
    (before after : List Write) (w : Write) → batch ≡ before ++ w ∷ after
    → limited_test limit (length (accepted ++ before)) (leaves (accepted ++ before)) w ≡ Ok tt

-- a batch is taken exactly where each of its writes passes
abbrev pub BatchPasses : Type 0
BatchPasses =
    (limit : ℕ) (accepted batch : List Write) → (batch_test limit accepted batch ≡ Ok tt)
    ↔ EachPasses limit accepted batch

-- write i is the first that doesn't pass, and this is its fault
pub record IsFirstRefused (limit : ℕ) (accepted batch : List Write) (i : ℕ) (fault : WriteFault) : Type 0 where
  pub before : List Write
  pub refused : Write
  pub after : List Write
  pub whole : batch ≡ before ++ refused ∷ after
  pub number : length before ≡ i
  pub passed : EachPasses limit accepted before
  pub fails : limited_test limit (length (accepted ++ before)) (leaves (accepted ++ before)) refused
      ≡ Err fault

-- a batch is refused at its first write that doesn't pass, with that write's fault
abbrev pub BatchFails : Type 0
BatchFails =
    (limit : ℕ) (accepted batch : List Write) (i : ℕ) (fault : WriteFault)
    → (batch_test limit accepted batch ≡ Err (i, fault))
    ↔ IsFirstRefused limit accepted batch i fault

-- a lawful list and a batch that is taken are together a lawful list
abbrev pub BatchKeepsLawful : Type 0
BatchKeepsLawful =
    (limit : ℕ) (accepted batch : List Write) → is_lawful_list accepted ≡ true
    → batch_test limit accepted batch ≡ Ok tt → is_lawful_list (accepted ++ batch) ≡ true

-- ---- one more write

-- it changes the records that those before it leave
abbrev pub LeavesGoOn : Type 0
LeavesGoOn = (ws : List Write) (w : Write) → leaves (ws ++ w ∷ []) ≡ after_write (leaves ws) w

-- it is tested by whether its key has a value in the pairs of the tree
abbrev pub TestIsByValue : Type 0
TestIsByValue = (digest : List ℕ → List ℕ) (m : List (List ℕ × List ℕ)) (w : Write)
    → write_test m w ≡ test_when (is_some (value_of (key_of w) (pairs digest m))) w

-- where it passes after writes that pass, all of them do
abbrev pub BatchGoesOn : Type 0
BatchGoesOn = (limit : ℕ) (accepted before : List Write) (w : Write)
    → batch_test limit accepted before ≡ Ok tt
    → limited_test limit (length (accepted ++ before)) (leaves (accepted ++ before)) w ≡ Ok tt
    → batch_test limit accepted (before ++ w ∷ []) ≡ Ok tt

-- where it doesn't, the batch is refused there, whatever follows
abbrev pub BatchEnds : Type 0
BatchEnds = (limit : ℕ) (accepted before after : List Write) (w : Write) (fault : WriteFault)
    → batch_test limit accepted before ≡ Ok tt
    → limited_test limit (length (accepted ++ before)) (leaves (accepted ++ before)) w ≡ Err fault
    → batch_test limit accepted (before ++ w ∷ after) ≡ Err (length before, fault)
