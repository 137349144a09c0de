use Rattle.std.proofs.Common.{◌≡◌, ◌+◌, ◌∙◌, List, length, sym, ap, subst, arith}
use Rattle.std.proofs.lemmas.List.{length-map}
use Rattle.std.proofs.lemmas.Result.{err_from_is_err_and}
use Rattle.spec.specs.Stamps.{last, rev_of}
use Rattle.spec.specs.States.{State}
use Rattle.spec.specs.Writes.{Write}
use Rattle.batch_laws.specs.Staged.{old_pairs}
use Rattle.batches.specs.Values.{write_of, writes_of, shared_writes, stamp_of, stamps_of}
use Rattle.repo.specs.Cores.{IsCore}
use Rattle.repo.specs.Tested.{IsFailedWrite}
use Rattle.repo.proofs.FailedWrites.{failed-write}
use Rattle.repo.proofs.Keeping.{core-tested, core-tree}
use Rattle.repo.proofs.Preparing.{as-many, changes-keyed, exchange-unmade, tested-on}
use Rattle.repo.proofs.Stamping.{not-zero, stamp-refused}
use Rattle.repo.proofs.cores.Core.tested.Goals as goal

pub returns-in-Err-clause-fault : goal.returns-in-Err-clause-fault
returns-in-Err-clause-fault g c = λ full.
    let s = c.args.self.now in
    let batch = writes_of c.args.writes.now in
    let rev = c.last_rev.ensures ∙ ap (λ xs. rev_of (last (stamps_of xs))) c.deref.ensures.value ∙ ap (λ (x : State). rev_of (last x.stamps)) c.self.view_is in
    let n = length-map c.args.writes.now write_of in
    let h = not-zero (length c.args.writes.now) (sym c.is_empty.ensures ∙ c.if-is_empty.false) in
    stamp-refused g.D.Digest.digest_of g.row.B s (stamp_of c.args.stamp.now) batch _ full full c.in-Err.fault rev (omega (arith, n, h)) c.in-Err.ensures.fault

pub returns-in_err-changes-clause-fault : goal.returns-in_err-changes-clause-fault
returns-in_err-changes-clause-fault g c =
    let dig = g.D.Digest.digest_of in
    let old = c.self.inside in
    let s = c.args.self.now in
    let batch = writes_of c.args.writes.now in
    let is = subst (λ (x : State). IsCore dig g.row.B x old.root old.commit old.kept) c.self.view_is c.self.invariant in
    let start = core-tested dig g.row.B s old.root old.commit old.kept is g.met.D.Digest.digest_len c.room_for-room.result
    (subst (λ (x : State). length x.accepted + c.room_for-room.result ≡ x.limit) c.self.view_is
    (ap (λ xs. length (shared_writes xs) + c.room_for-room.result) (sym c.deref-2.ensures.value) ∙ c.room_for-room.ensures)) in
    let rev = c.last_rev.ensures ∙ ap (λ xs. rev_of (last (stamps_of xs))) c.deref.ensures.value ∙ ap (λ (x : State). rev_of (last x.stamps)) c.self.view_is in
    let same = ap (λ xs. shared_writes xs) c.as_slice-shared.ensures.value ∙ c.in-Ok-copies_of.ensures.writes in
    let p = err_from_is_err_and c.from_residual.result c.from_residual.ensures.1 in
    let r = c.in_err-changes.field-0.0 in
    rw (p.1, p.2) (λ full. failed-write dig g.row.B s (stamp_of c.args.stamp.now) batch _ full full r rev c.in-Ok.ensures.passed
    (subst (λ (ws : List Write). IsFailedWrite s ws r) same (c.in_err-changes.ensures.fault s start)))

pub exchange_of-made-requires-clause-tree : goal.exchange_of-made-requires-clause-tree
exchange_of-made-requires-clause-tree g c =
    let dig = g.D.Digest.digest_of in
    let old = c.self.inside in
    let s = c.args.self.now in
    let is = subst (λ (x : State). IsCore dig g.row.B x old.root old.commit old.kept) c.self.view_is c.self.invariant in
    λ none. none (old_pairs dig s) (core-tree dig g.row.B s old.root old.commit old.kept is g.met.D.Digest.digest_len)

pub exchange_of-made-requires-clause-changes : goal.exchange_of-made-requires-clause-changes
exchange_of-made-requires-clause-changes g c =
    let dig = g.D.Digest.digest_of in
    let old = c.self.inside in
    let s = c.args.self.now in
    let batch = writes_of c.args.writes.now in
    let is = subst (λ (x : State). IsCore dig g.row.B x old.root old.commit old.kept) c.self.view_is c.self.invariant in
    let start = core-tested dig g.row.B s old.root old.commit old.kept is g.met.D.Digest.digest_len c.room_for-room.result
    (subst (λ (x : State). length x.accepted + c.room_for-room.result ≡ x.limit) c.self.view_is
    (ap (λ xs. length (shared_writes xs) + c.room_for-room.result) (sym c.deref-2.ensures.value) ∙ c.room_for-room.ensures)) in
    let rev = c.last_rev.ensures ∙ ap (λ xs. rev_of (last (stamps_of xs))) c.deref.ensures.value ∙ ap (λ (x : State). rev_of (last x.stamps)) c.self.view_is in
    let n = length-map c.args.writes.now write_of in
    let h = not-zero (length c.args.writes.now) (sym c.is_empty.ensures ∙ c.if-is_empty.false) in
    let same = ap (λ xs. shared_writes xs) c.as_slice-shared.ensures.value ∙ c.in-Ok-copies_of.ensures.writes in
    changes-keyed dig g.row.B s old.root old.commit old.kept is c.args.stamp.now _ rev c.in-Ok.ensures.passed c.as_slice-shared.result.now batch same (omega (arith, n, h))
    (c.in_ok-changes.ensures.passed s start) c.in_ok-changes.changes c.in_ok-changes.ensures.changes g.met.D.Digest.digest_len

pub exchange_of-made-requires-clause-some : goal.exchange_of-made-requires-clause-some
exchange_of-made-requires-clause-some g c =
    let n = length-map c.args.writes.now write_of in
    let h = not-zero (length c.args.writes.now) (sym c.is_empty.ensures ∙ c.if-is_empty.false) in
    let same = ap (λ xs. shared_writes xs) c.as_slice-shared.ensures.value ∙ c.in-Ok-copies_of.ensures.writes in
    let m = as-many c.as_slice-shared.result.now (writes_of c.args.writes.now) same in
    omega (arith, n, h, m)

pub returns-in-Err-made-clause-fault : goal.returns-in-Err-made-clause-fault
returns-in-Err-made-clause-fault g c =
    let dig = g.D.Digest.digest_of in
    let old = c.self.inside in
    let s = c.args.self.now in
    let batch = writes_of c.args.writes.now in
    let is = subst (λ (x : State). IsCore dig g.row.B x old.root old.commit old.kept) c.self.view_is c.self.invariant in
    let start = core-tested dig g.row.B s old.root old.commit old.kept is g.met.D.Digest.digest_len c.room_for-room.result
    (subst (λ (x : State). length x.accepted + c.room_for-room.result ≡ x.limit) c.self.view_is
    (ap (λ xs. length (shared_writes xs) + c.room_for-room.result) (sym c.deref-2.ensures.value) ∙ c.room_for-room.ensures)) in
    let rev = c.last_rev.ensures ∙ ap (λ xs. rev_of (last (stamps_of xs))) c.deref.ensures.value ∙ ap (λ (x : State). rev_of (last x.stamps)) c.self.view_is in
    let n = length-map c.args.writes.now write_of in
    let h = not-zero (length c.args.writes.now) (sym c.is_empty.ensures ∙ c.if-is_empty.false) in
    let same = ap (λ xs. shared_writes xs) c.as_slice-shared.ensures.value ∙ c.in-Ok-copies_of.ensures.writes in
    let tree = core-tree dig g.row.B s old.root old.commit old.kept is g.met.D.Digest.digest_len in
    exchange-unmade dig g.row.B s old.root old.commit old.kept is c.args.stamp.now _ rev c.in-Ok.ensures.passed c.as_slice-shared.result.now batch same (omega (arith, n, h))
    (c.in_ok-changes.ensures.passed s start) c.in_ok-changes.changes c.in_ok-changes.ensures.changes
    c.in-Err-made.refusal (c.in-Err-made.ensures.fault (old_pairs dig s) tree) c.in-Err-made.ensures.place

pub returns-in-Ok-made-clause-exchange : goal.returns-in-Ok-made-clause-exchange
returns-in-Ok-made-clause-exchange g c =
    let dig = g.D.Digest.digest_of in
    let old = c.self.inside in
    let s = c.args.self.now in
    let batch = writes_of c.args.writes.now in
    let is = subst (λ (x : State). IsCore dig g.row.B x old.root old.commit old.kept) c.self.view_is c.self.invariant in
    let start = core-tested dig g.row.B s old.root old.commit old.kept is g.met.D.Digest.digest_len c.room_for-room.result
    (subst (λ (x : State). length x.accepted + c.room_for-room.result ≡ x.limit) c.self.view_is
    (ap (λ xs. length (shared_writes xs) + c.room_for-room.result) (sym c.deref-2.ensures.value) ∙ c.room_for-room.ensures)) in
    let rev = c.last_rev.ensures ∙ ap (λ xs. rev_of (last (stamps_of xs))) c.deref.ensures.value ∙ ap (λ (x : State). rev_of (last x.stamps)) c.self.view_is in
    let n = length-map c.args.writes.now write_of in
    let h = not-zero (length c.args.writes.now) (sym c.is_empty.ensures ∙ c.if-is_empty.false) in
    let same = ap (λ xs. shared_writes xs) c.as_slice-shared.ensures.value ∙ c.in-Ok-copies_of.ensures.writes in
    c.in-Ok-made.ensures.exchange s batch
    (tested-on dig g.row.B s old.root old.commit old.kept is c.args.stamp.now _ rev c.in-Ok.ensures.passed c.as_slice-shared.result.now batch same (omega (arith, n, h))
    (c.in_ok-changes.ensures.passed s start) c.in_ok-changes.changes c.in_ok-changes.ensures.changes)
