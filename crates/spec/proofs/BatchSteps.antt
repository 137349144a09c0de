-- Batches, with one more write at their end.
use Rattle.std.proofs.Common.{◌≡◌, ℕ, ◌+◌, ◌<◌, ◌≤◌, Bool, true, false, List, [], ◌∷◌, ◌++◌, length}
use Rattle.std.proofs.Common.{refl, sym, ap, subst, ◌∙◌, arith, Ok, Result, fold}
use Rattle.std.specs.Prelude.{nat_lt}
use Rattle.std.proofs.lemmas.List.{length-append}
use Rattle.std.proofs.lemmas.Bool.{ltb-true}
use Rattle.spec.specs.Reading.{◌>>=◌, ensure}
use Rattle.spec.specs.Writes.{Write, WriteFault, WritesFull, leaves, write_test, test_when, key_of, after_write}
use Rattle.spec.specs.Writes.{limited_test, at_number, batch_test_from}
use Rattle.spec.specs.Laws.Writes.{LeavesGoOn, TestIsByValue, BatchGoesOn, BatchEnds}
use Rattle.spec.proofs.Taking.{bind_ok}
use Rattle.spec.proofs.BatchLaws.{fold-append, EachPasses-from_test, test-from_IsFirstRefused}
use Rattle.spec.proofs.RecordPairs.{value-record}

abbrev Records : Type 0
Records = List (List ℕ × List ℕ)

pub leaves-go_on : LeavesGoOn
leaves-go_on ws w = fold-append [] ws (w ∷ [])

pub test-by_value : TestIsByValue
test-by_value digest m w = ap (λ t. test_when t w) (value-record digest m (key_of w)).1

pub batch-ends : BatchEnds
batch-ends limit accepted before after w fault h k =
    test-from_IsFirstRefused limit accepted (before ++ w ∷ after) (length before) fault
    (record { before = before; refused = w; after = after; whole = refl; number = refl; passed = EachPasses-from_test limit accepted before h; fails = k })

-- the test of a write as the last one of a batch
abbrev LastPasses : ℕ → ℕ → ℕ → Records → Write → Type 0
LastPasses number limit count m w = batch_test_from number limit count m (w ∷ []) ≡ Ok tt

recounted : (limit a b c d : ℕ) (m : Records) (w : Write) → a ≡ b → c ≡ d → LastPasses a limit c m w → LastPasses b limit d m w
recounted limit a b c d m w e f h = subst (λ (n : ℕ). LastPasses n limit d m w) e (subst (λ (n : ℕ). LastPasses a limit n m w) f h)

goes_on-from : (number limit count : ℕ) (m : Records) (before : List Write) (w : Write) → batch_test_from number limit count m before ≡ Ok tt
    → LastPasses (number + length before) limit (count + length before) (fold after_write m before) w → batch_test_from number limit count m (before ++ w ∷ []) ≡ Ok tt
goes_on-from number limit count m [] w h k = recounted limit (number + 0) number (count + 0) count m w (omega arith) (omega arith) k
goes_on-from number limit count m (x ∷ before) w h k =
    let p = bind_ok (at_number number (limited_test limit count m x)) (λ ok. batch_test_from (number + 1) limit (count + 1) (after_write m x) before) tt h in
    ap (λ (r : Result (Unit {0}) (ℕ × WriteFault)). r >>= λ ok. batch_test_from (number + 1) limit (count + 1) (after_write m x) (before ++ w ∷ [])) p.1
    ∙ goes_on-from (number + 1) limit (count + 1) (after_write m x) before w p.2
    (recounted limit (number + length (x ∷ before)) (number + 1 + length before) (count + length (x ∷ before)) (count + 1 + length before) (fold after_write (after_write m x) before) w
    (omega arith) (omega arith) k)

last-passes : (number limit count : ℕ) (m : Records) (w : Write) → limited_test limit count m w ≡ Ok tt → LastPasses number limit count m w
last-passes number limit count m w h = ap (λ (r : Result (Unit {0}) WriteFault). at_number number r >>= λ (ok : Unit {0}). Ok tt) h

pub batch-goes_on : BatchGoesOn
batch-goes_on limit accepted before w h k =
    goes_on-from 0 limit (length accepted) (leaves accepted) before w h
    (last-passes (0 + length before) limit (length accepted + length before) (fold after_write (leaves accepted) before) w
    (ap (λ (m : Records). limited_test limit (length accepted + length before) m w) (sym (fold-append [] accepted before))
    ∙ ap (λ (n : ℕ). limited_test limit n (leaves (accepted ++ before)) w) (sym (length-append accepted before)) ∙ k))

-- ---- a batch that passes fits the limit

room-case : (limit count : ℕ) (m : Records) (w : Write) (number : ℕ) (u : Unit {0}) → at_number number (limited_test limit count m w) ≡ Ok u → count < limit
room-case limit count m w number u h = ltb-true count limit (by_room (nat_lt count limit) (write_test m w) h)
  where
    by_room : (t : Bool) (r : Result (Unit {0}) WriteFault) → at_number number (ensure t WritesFull >>= λ (ok : Unit {0}). r) ≡ Ok u → t ≡ true
    by_room true r e = refl
    by_room false r e = absurd cc

pub room-from : (number limit count : ℕ) (m : Records) (batch : List Write) → batch_test_from number limit count m batch ≡ Ok tt → count ≤ limit → count + length batch ≤ limit
room-from number limit count m [] h l = omega arith
room-from number limit count m (w ∷ ws) h l =
    let p = bind_ok (at_number number (limited_test limit count m w)) (λ ok. batch_test_from (number + 1) limit (count + 1) (after_write m w) ws) tt h in
    let k = room-case limit count m w number p.0 p.1 in
    let i = room-from (number + 1) limit (count + 1) (after_write m w) ws p.2 (omega arith) in
    omega arith
