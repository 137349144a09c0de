-- The batch of a true difference passes its tests.
use Rattle.std.proofs.Common.{◌≡◌, ◌≢◌, ℕ, suc, ◌+◌, ◌<◌, ◌≤◌, Bool, true, T, List, [], ◌∷◌, length, refl, sym, ap, subst, ◌∙◌, arith, Option, Some, None, Result, Ok}
use Rattle.std.specs.Prelude.{is_some, option_map}
use Rattle.std.specs.List.{AllByRecursion}
use Rattle.std.specs.Cmp.Lexicographic.{slice_cmp}
use Rattle.std.specs.Ordering.{nat_cmp}
use Rattle.std.specs.FinMap.{find, is_sorted}
use Rattle.std.proofs.lemmas.Bool.{lt-ltb}
use Rattle.spec.specs.Reading.{◌>>=◌}
use Rattle.spec.specs.Cid.{cid}
use Rattle.spec.specs.Keys.{is_repository_key}
use Rattle.spec.specs.Blocks.{block_at, pairs, value_of}
use Rattle.spec.specs.Stamps.{Stamp, StampFault, last, rev_of, stamp_test}
use Rattle.spec.specs.Writes.{Write, WriteFault, Put, Delete, after_write, at_number, batch_test, batch_test_from, has_key, key_of, limited_test, record_of, record_test, test_when, write_test}
use Rattle.spec.specs.States.{State, IsLawful, at_first, of_writes, records, state_test}
use Rattle.spec.proofs.Bools.{from_T}
use Rattle.spec.proofs.RecordPairs.{value-record}
use Rattle.spec.proofs.WriteLaws.{is_sorted-after_write, is_sorted-leaves}
use Rattle.edit_laws.specs.Order.{if_equal}
use Rattle.edit_laws.proofs.Orders.{turned as order-turned}
use Rattle.edit_laws.proofs.RecordMaps.{ascending-sorted}
use Rattle.batch_laws.specs.Batch.{AreAscending, IsLater}
use Rattle.batch_laws.proofs.RecordChanges.{ascending-pairs}
use Rattle.batch_laws.proofs.WritesAtOnce.{find-change}
use Rattle.change_laws.specs.Told.{KeyChange, undone}
use Rattle.difference_taking.specs.Writing.{batch_of, write_for, write_to, writes_from}
use Rattle.difference_taking.specs.Laws.{HasNoOther, TrueIsTaken}
use Rattle.difference_taking.proofs.Good.{IsGood, good-left}
use Rattle.difference_taking.proofs.Leading.{first-of, one-write, writes-it}
use Rattle.difference_taking.proofs.Having.{all-had}

abbrev Records : Type 0
Records = List (List ℕ × List ℕ)

-- ---- a write

-- its key is lawful, and so is its record, if it has one
abbrev IsGoodWrite : Write → Type 0
IsGoodWrite w = (is_repository_key (key_of w) ≡ true) × ((b : List ℕ) → record_of w ≡ Some b → record_test b ≡ Ok tt)

put-case : (key : List ℕ) (there : Bool) (o : Option (List ℕ)) (w : Write) → option_map (λ bytes. Put key bytes) o ≡ Some w → IsGoodWrite w
    → test_when there w ≡ Ok tt
put-case key there None w h good = absurd cc
put-case key there (Some b) w h good =
    let is : Put key b ≡ w = cc in
    let g = subst IsGoodWrite (sym is) good in
    subst (λ (v : Write). test_when there v ≡ Ok tt) is (rw (g.0, g.1 b refl) refl)

write-passes : (found : List ℕ → Option (List ℕ)) (key : List ℕ) (after : Option (List ℕ)) (there : Bool) (w : Write)
    → write_to found key after ≡ Some w → IsGoodWrite w → (after ≡ None → there ≡ true) → test_when there w ≡ Ok tt
write-passes found key None there w h good some =
    let is : Delete key ≡ w = cc in
    let g = subst IsGoodWrite (sym is) good in
    subst (λ (v : Write). test_when there v ≡ Ok tt) is (rw (g.0, some refl) refl)
write-passes found key (Some c) there w h good some = put-case key there (found c) w h good

limited-passes : (limit count : ℕ) (m : Records) (w : Write) → count < limit → write_test m w ≡ Ok tt → limited_test limit count m w ≡ Ok tt
limited-passes limit count m w room h = rw (lt-ltb count limit room) h

-- ---- one after the other

module _ (digest : List ℕ → List ℕ) (given : List (List ℕ)) where
  -- what a change writes is good
  abbrev IsFine : KeyChange → Type 0
  IsFine c = (w : Write) → write_for digest given c ≡ Some w → IsGoodWrite w

  abbrev HasBefore : Records → KeyChange → Type 0
  HasBefore m c = value_of c.key (pairs digest m) ≡ c.before

  -- a key that goes is there
  there-case : (o : Option (List ℕ)) (key : List ℕ) (m : Records) (after : Option (List ℕ)) → value_of key (pairs digest m) ≡ o
      → o ≢ after → after ≡ None → has_key m key ≡ true
  there-case o key m after e real none =
      (value-record digest m key).1 ∙ ap is_some e ∙ some-of o (λ q. real (q ∙ sym none))
    where
      some-of : (p : Option (List ℕ)) → p ≢ None → is_some p ≡ true
      some-of None n = absurd (n refl)
      some-of (Some x) n = refl

  -- later keys have what they had
  later-have : (c : KeyChange) (w : Write) (m : Records) (cs : List KeyChange) → write_for digest given c ≡ Some w
      → T (is_sorted (slice_cmp nat_cmp) m) → AllByRecursion (IsLater c.key) (undone cs) → AllByRecursion (HasBefore m) cs
      → AllByRecursion (HasBefore (after_write m w)) cs
  later-have c w m [] e sorted a h = tt
  later-have c w m (d ∷ cs) e sorted a h = (
    ap (value_of d.key) (one-write digest c w m (writes-it digest given c.key c.before c.after w e) sorted)
        ∙ find-change d.key c.key c.after (pairs digest m) (ascending-pairs digest m (ascending-sorted m (from_T _ sorted)))
        ∙ ap (λ o. if_equal o c.after (value_of d.key (pairs digest m))) (order-turned d.key c.key a.0)
        ∙ h.0,
    later-have c w m cs e sorted a.1 h.1,
  )

  passes-from : (limit number count place : ℕ) (m : Records) (cs : List KeyChange) (ws : List Write) → writes_from digest given place cs ≡ Ok ws
      → AreAscending (undone cs) → T (is_sorted (slice_cmp nat_cmp) m) → AllByRecursion (HasBefore m) cs
      → AllByRecursion (λ c. c.before ≢ c.after) cs → AllByRecursion IsFine cs → count + length cs ≤ limit
      → batch_test_from number limit count m ws ≡ Ok tt
  passes-from limit number count place m [] ws h a sorted had real fine room =
      let none : [] ≡ ws = cc in sym (ap (batch_test_from number limit count m) none)
  passes-from limit number count place m (c ∷ cs) ws h a sorted had real fine room =
      let f = first-of place (write_for digest given c) (writes_from digest given (suc place) cs) ws h in
      let w = f.first in
      let is = writes-it digest given c.key c.before c.after w f.first_is in
      let there = λ (none : c.after ≡ None). there-case c.before c.key m c.after had.0 real.0 none in
      let one : write_test m w ≡ Ok tt =
      ap (λ (k : List ℕ). test_when (has_key m k) w) is.key
      ∙ write-passes (λ x. block_at digest x given) c.key c.after (has_key m c.key) w f.first_is (fine.0 w f.first_is) there in
      let next = passes-from limit (number + 1) (count + 1) (suc place) (after_write m w) cs f.others f.others_are a.1
      (is_sorted-after_write m w sorted) (later-have c w m cs f.first_is sorted a.0 had.1) real.1 fine.1 (omega arith) in
      sym (ap (batch_test_from number limit count m) f.whole)
      ∙ ap (λ (r : Result (Unit {0}) WriteFault). at_number number r
      >>= λ (ok : Unit {0}). batch_test_from (number + 1) limit (count + 1) (after_write m w) f.others)
      (limited-passes limit count m w (omega arith) one)
      ∙ next

  -- ---- of a true difference

  module _ (old other : State) (lawful : IsLawful old) (is : IsLawful other) (none_other : HasNoOther digest other given) where
    -- a key with a value has a record of this CID, and both are lawful
    record Found (s : State) (key x : List ℕ) : Type 0 where
      bytes : List ℕ
      here : find (slice_cmp nat_cmp) key (records s) ≡ Some bytes
      named : cid digest bytes ≡ x
      good : IsGood key bytes

    found-case : (s : State) (key x : List ℕ) (o : Option (List ℕ)) → IsLawful s → find (slice_cmp nat_cmp) key (records s) ≡ o
        → option_map (cid digest) o ≡ Some x → Found s key x
    found-case s key x None l e h = absurd cc
    found-case s key x (Some b) l e h = record { bytes = b; here = e; named = cc; good = good-left s.accepted key b l.writes e }

    found-at : (s : State) (key x : List ℕ) → IsLawful s → value_of key (pairs digest (records s)) ≡ Some x → Found s key x
    found-at s key x l h =
        found-case s key x (find (slice_cmp nat_cmp) key (records s)) l refl (sym (value-record digest (records s) key).0 ∙ h)

    good-put : (key x : List ℕ) (o : Option (List ℕ)) (w : Write) → Found other key x → block_at digest x given ≡ o
        → option_map (λ bytes. Put key bytes) o ≡ Some w → IsGoodWrite w
    good-put key x None w f e h = absurd cc
    good-put key x (Some b) w f e h =
        let put : Put key b ≡ w = cc in
        let same = none_other key f.bytes b f.here (ap (λ (c : List ℕ). block_at digest c given) f.named ∙ e) in
        let lawful_b : record_test b ≡ Ok tt = subst (λ (y : List ℕ). record_test y ≡ Ok tt) (sym same) f.good.1 in
        subst IsGoodWrite put (f.good.0, λ y q. (let is_y : b ≡ y = cc in subst (λ (z : List ℕ). record_test z ≡ Ok tt) is_y lawful_b))

    good-delete : (key x : List ℕ) (w : Write) → Found old key x → Delete key ≡ w → IsGoodWrite w
    good-delete key x w f e = subst IsGoodWrite e (f.good.0, λ y q. absurd cc)

    fine-case : (key : List ℕ) (before after : Option (List ℕ)) → value_of key (pairs digest (records old)) ≡ before
        → value_of key (pairs digest (records other)) ≡ after → before ≢ after → (w : Write)
        → write_to (λ c. block_at digest c given) key after ≡ Some w → IsGoodWrite w
    fine-case key None None had has real w h = absurd (real refl)
    fine-case key (Some x) None had has real w h = let e : Delete key ≡ w = cc in good-delete key x w (found-at old key x lawful had) e
    fine-case key before (Some x) had has real w h = good-put key x (block_at digest x given) w (found-at other key x is has) refl h

    fine-all : (cs : List KeyChange) → AllByRecursion (λ c. value_of c.key (pairs digest (records old)) ≡ c.before) cs
        → AllByRecursion (λ c. value_of c.key (pairs digest (records other)) ≡ c.after) cs
        → AllByRecursion (λ c. c.before ≢ c.after) cs → AllByRecursion IsFine cs
    fine-all [] had has real = tt
    fine-all (c ∷ cs) had has real =
        (λ w h. fine-case c.key c.before c.after had.0 has.0 real.0 w h, fine-all cs had.1 has.1 real.1)

-- ---- the whole batch

state-passes : (s : State) (stamp : Stamp) (w : Write) (ws : List Write) → stamp_test (rev_of (last s.stamps)) stamp ≡ Ok tt
    → batch_test s.limit s.accepted (w ∷ ws) ≡ Ok tt → state_test s stamp (w ∷ ws) ≡ Ok tt
state-passes s stamp w ws h k =
    ap (λ (r : Result (Unit {0}) StampFault). at_first r >>= λ (ok : Unit {0}). of_writes (batch_test s.limit s.accepted (w ∷ ws))) h
    ∙ ap of_writes k

some-passes : (digest : List ℕ → List ℕ) (given : List (List ℕ)) (s : State) (stamp : Stamp) (cs : List KeyChange) (batch : List Write)
    → batch_of digest given cs ≡ Ok batch → 0 < length cs → stamp_test (rev_of (last s.stamps)) stamp ≡ Ok tt
    → batch_test s.limit s.accepted batch ≡ Ok tt → state_test s stamp batch ≡ Ok tt
some-passes digest given s stamp [] batch h some ok k = absurd (omega arith)
some-passes digest given s stamp (c ∷ cs) batch h some ok k =
    let f = first-of 0 (write_for digest given c) (writes_from digest given 1 cs) batch h in
    subst (λ (ws : List Write). state_test s stamp ws ≡ Ok tt) f.whole
    (state-passes s stamp f.first f.others ok (subst (λ (ws : List Write). batch_test s.limit s.accepted ws ≡ Ok tt) (sym f.whole) k))

pub true-taken : TrueIsTaken
true-taken digest old other lawful is cs d = (
  all-had (pairs digest (records old)) 0 cs d.differ.before,
  λ given none_other batch h stamp ok some room.
      some-passes digest given old stamp cs batch h some ok
      (passes-from digest given old.limit 0 (length old.accepted) 0 (records old) cs batch h d.ascending (is_sorted-leaves old.accepted)
      d.differ.before d.real (fine-all digest given old other lawful is none_other cs d.differ.before d.differ.after d.real) room),
)
