-- States: fresh ones, equal ones, and those after a batch.
use Rattle.std.proofs.Common.{◌≡◌, ℕ, suc, ◌<◌, true, List, [], ◌∷◌, ◌++◌, length, refl, ap, subst, ◌∙◌}
use Rattle.std.proofs.Common.{arith, Option, None, Ok, Err, Result}
use Rattle.std.specs.Prelude.{codes}
use Rattle.std.proofs.lemmas.List.{length-append}
use Rattle.std.proofs.lemmas.Bool.{lt-ltb}
use Rattle.spec.specs.Reading.{◌>>=◌}
use Rattle.spec.specs.Head.{head}
use Rattle.spec.specs.Blocks.{blocks, repository_root}
use Rattle.spec.specs.Writes.{WriteFault, leaves, batch_test, passes}
use Rattle.spec.specs.Stamps.{Stamp, Stamped, StampFault, last, rev_of, length_after, stamp_test}
use Rattle.spec.specs.Commits.{commit_bytes, committed_blocks, commit_cid, committed_car}
use Rattle.spec.specs.States.{BatchFault, records, last_stamp, at_first, of_writes}
use Rattle.spec.specs.Laws.Commits.{CommitIsMap}
use Rattle.spec.specs.Laws.States.{FreshHasEmptyNode, EqualRecords, StampThenWrites, BatchKeepsState}
use Rattle.spec.proofs.Taking.{bind_ok}
use Rattle.spec.proofs.BatchLaws.{lawful-after_batch}
use Rattle.spec.proofs.BatchSteps.{room-from}
use Rattle.spec.proofs.StampLaws.{last_or, last-is, last-push, stamps-push}

pub commit-map : CommitIsMap
unfolding commit_bytes
commit-map stamp root fits =
    let e : suc (length root) ≡ 37 = omega arith in
    ap (λ (n : ℕ). (0xa5 ∷ 0x63 ∷ codes "did") ++ ((head 3 (length stamp.did) ++ stamp.did) ++ ((0x63 ∷ codes "rev") ++ ((head 3 (length stamp.rev) ++ stamp.rev)
    ++ ((0x64 ∷ codes "data") ++ (0xd8 ∷ 0x2a ∷ ((head 2 n ++ (0 ∷ root)) ++ ((0x64 ∷ codes "prev") ++ (0xf6 ∷ 0x67 ∷ codes "version") ++ (0x03 ∷ []))))))))) e

pub fresh-state : FreshHasEmptyNode
fresh-state digest bits me limit = (
  λ a b c. record { me_fits = a; some_room = b; limit_fits = c; writes = refl; within_limit = omega arith; stamps = refl; last_is_whole = refl },
  refl,
  refl,
  refl,
)

-- ---- what a last stamp and a record map determine

abbrev Records : Type 0
Records = List (List ℕ × List ℕ)

same : {A : Type 0} (f : Option Stamp → Records → A) (o p : Option Stamp) (m n : Records) → o ≡ p → m ≡ n → f o m ≡ f p n
same f o p m n e h = ap (λ x. f x m) e ∙ ap (f p) h

pub equal-records : EqualRecords
equal-records digest bits s t e = (
  ap (repository_root digest bits) e,
  ap (blocks digest bits []) e,
  λ h. (
    same (committed_blocks digest bits) (last_stamp s) (last_stamp t) (records s) (records t) h e,
    same (λ o m. commit_cid digest o (repository_root digest bits m)) (last_stamp s) (last_stamp t) (records s) (records t) h e,
    same (committed_car digest bits) (last_stamp s) (last_stamp t) (records s) (records t) h e,
  ),
)

-- ---- a stamp and writes

after_first : (r : Result (Unit {0}) StampFault) (s : Result (Unit {0}) (ℕ × BatchFault)) → r ≡ Ok tt → (at_first r >>= λ (ok : Unit {0}). s) ≡ s
after_first (Ok u) s e = refl
after_first (Err f) s e = absurd cc

pub stamp-then_writes : StampThenWrites
stamp-then_writes s stamp [] some h = absurd (omega arith)
stamp-then_writes s stamp (w ∷ ws) some h =
    after_first (stamp_test (rev_of (last s.stamps)) stamp) (of_writes (batch_test s.limit s.accepted (w ∷ ws))) h

-- ---- lawful states

first-passed : (r : Result (Unit {0}) StampFault) (u : Unit {0}) → at_first r ≡ Ok u → passes r ≡ true
first-passed (Ok v) u e = refl
first-passed (Err f) u e = absurd cc

writes-passed : (r : Result (Unit {0}) (ℕ × WriteFault)) → of_writes r ≡ Ok tt → r ≡ Ok tt
writes-passed (Ok u) e = refl
writes-passed (Err f) e = absurd cc

pub batch-keeps_state : BatchKeepsState
batch-keeps_state s stamp [] is h = absurd cc
batch-keeps_state s stamp (w ∷ ws) is h =
    let p = bind_ok (at_first (stamp_test (rev_of (last s.stamps)) stamp)) (λ ok. of_writes (batch_test s.limit s.accepted (w ∷ ws))) tt h in
    let passed = writes-passed (batch_test s.limit s.accepted (w ∷ ws)) p.2 in
    let n = length (s.accepted ++ w ∷ ws) in
    let l = length-append s.accepted (w ∷ ws) in
    let before = last-is s.stamps in
    let whole = is.last_is_whole in
    let more : length_after (last_or None s.stamps) < n = subst (λ (x : Option Stamped). length_after x < n) before (omega arith) in
    record {
      me_fits = is.me_fits;
      some_room = is.some_room;
      limit_fits = is.limit_fits;
      writes = lawful-after_batch s.limit s.accepted (w ∷ ws) is.writes passed;
      within_limit = let r = room-from 0 s.limit (length s.accepted) (leaves s.accepted) (w ∷ ws) passed is.within_limit in omega arith;
      stamps = stamps-push None s.stamps (stamp, n) is.stamps
          (subst (λ (x : Option Stamped). passes (stamp_test (rev_of x) stamp) ≡ true) before (first-passed (stamp_test (rev_of (last s.stamps)) stamp) p.0 p.1))
          (lt-ltb (length_after (last_or None s.stamps)) n more);
      last_is_whole = ap length_after (last-push s.stamps (stamp, n));
    }
