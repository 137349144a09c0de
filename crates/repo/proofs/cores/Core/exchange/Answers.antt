use Rattle.std.proofs.Common.{suc, cond, ◌-◌, ◌++◌, ◌∷◌, [], ◌∙◌, ℕ, List, length, map, refl, sym, ap, subst, arith}
use Rattle.std.specs.Arc.{arc_value}
use Rattle.std.proofs.lemmas.List.{length-map}
use Rattle.spec.specs.States.{State, after_batch}
use Rattle.kept.specs.Counts.{Keeping, exchanged}
use Rattle.kept.proofs.Entering.{kept_stays}
use Rattle.batches.specs.Values.{write_of, shared_writes, stamp_of, stamps_of}
use Rattle.repo.specs.Cores.{IsCore}
use Rattle.repo.specs.Fulls.{is_full}
use Rattle.repo.specs.Views.{state_view}
use Rattle.repo.specs.Wants.{placed}
use Rattle.batches.specs.declared.fault.RepoFault.{RepoFault}
use Rattle.repo.proofs.Applying.{asked, room-refused, store-refused, taken}
use Rattle.repo.proofs.Entering.{core_entered}
use Rattle.repo.proofs.Exchanging.{has-passed}
use Rattle.repo.proofs.Growing.{state-after, state-same, applied-after}
use Rattle.repo.proofs.Keeping.{core-same}
use Rattle.repo.proofs.Preparing.{as-many}
use Rattle.repo.proofs.cores.Core.exchange.Goals as goal

pub overflow_sub-last : goal.overflow_sub-last
overflow_sub-last g c =
    let copies = c.args.batch.copies in
    let batch = shared_writes copies.writes.items in
    let some = (has-passed c.args.self.now (stamp_of copies.stamp) batch c.requires.made.exchange.passes).some in
    let n = as-many copies.writes.items batch refl in
    omega (arith, some, n, copies.writes.ok.0)

pub returns-in_default-clause-fault : goal.returns-in_default-clause-fault
returns-in_default-clause-fault g c =
    let copies = c.args.batch.copies in
    let x = c.args.batch.exchange in
    room-refused g.D.Digest.digest_of g.row.B c.args.self.now (stamp_of copies.stamp) (shared_writes copies.writes.items) x.root x.commit _ _ _ _
    c.requires.made.exchange _ _ (g.S.BlockStore.fulls c.args.store.now)

pub returns-in_default-clause-entered : goal.returns-in_default-clause-entered
returns-in_default-clause-entered g c =
    let dig = g.D.Digest.digest_of in
    let old = c.self.inside in
    let s = state_view old.kept.me old.limit old.accepted.items old.stamps.items in
    let room = c.make_room.ensures in
    core_entered dig g.row.B g.S.BlockStore c.args.self.now s _ old.root old.root old.commit old.commit old.kept old.kept
    c.args.store.now c.args.store.now c.self.view_is refl c.self.invariant refl
    (core-same dig g.row.B s _ old.root old.commit old.kept old.kept c.self.invariant refl
    (state-same old.kept.me old.kept.me old.limit old.accepted.items c.make_room.new.accepted.items old.stamps.items c.make_room.new.stamps.items refl room.same_writes room.same_stamps))
    (kept_stays dig g.S.BlockStore old.kept c.args.store.now)

pub returns-in-Err-clause-fault : goal.returns-in-Err-clause-fault
returns-in-Err-clause-fault g c =
    let copies = c.args.batch.copies in
    let batch = shared_writes copies.writes.items in
    let x = c.args.batch.exchange in
    let full = g.S.BlockStore.fulls c.args.store.now in
    let last = g.S.BlockStore.fulls c.exchange.new.store in
    store-refused g.D.Digest.digest_of g.row.B c.args.self.now (stamp_of copies.stamp) batch x.root x.commit _ (map arc_value x.come.items) _ x.go.items
    c.requires.made.exchange full last (length copies.writes.items) c.in-Err.fault c.from.result _
    (sym (as-many copies.writes.items batch refl)) c.in-Err.ensures.fault c.from.ensures c.in-Err.ensures.fulls
    (c.placed.ensures ∙ ap (λ (n : ℕ). placed (n - 1) c.from.result) (c.len-last.ensures ∙ copies.writes.ok.0))

pub returns-in-Err-clause-counted : goal.returns-in-Err-clause-counted
returns-in-Err-clause-counted g c =
    let full = g.S.BlockStore.fulls c.args.store.now in
    asked full (g.S.BlockStore.fulls c.exchange.new.store) c.in-Err.fault c.from.result c.from.ensures c.in-Err.ensures.fulls
    ∙ ap (λ (e : ℕ × RepoFault g.row.D.Denot g.row.A.Denot). cond (is_full e.1) (suc full) full) (sym c.placed.ensures)

pub returns-in-Err-clause-entered : goal.returns-in-Err-clause-entered
returns-in-Err-clause-entered g c =
    let dig = g.D.Digest.digest_of in
    let old = c.self.inside in
    let s = state_view old.kept.me old.limit old.accepted.items old.stamps.items in
    let room = c.make_room.ensures in
    let same = c.in-Err.ensures.unchanged in
    core_entered dig g.row.B g.S.BlockStore c.args.self.now s _ old.root old.root old.commit old.commit old.kept c.exchange.new.self
    c.args.store.now c.exchange.new.store c.self.view_is refl c.self.invariant refl
    (core-same dig g.row.B s _ old.root old.commit old.kept c.exchange.new.self c.self.invariant same
    (state-same old.kept.me c.exchange.new.self.me old.limit old.accepted.items c.make_room.new.accepted.items old.stamps.items c.make_room.new.stamps.items (ap (λ (k : Keeping). k.me) same) room.same_writes room.same_stamps))
    c.in-Err.ensures.entered

pub invariant_of-self-2 : goal.invariant_of-self-2
invariant_of-self-2 g c =
    let dig = g.D.Digest.digest_of in
    let old = c.self.inside in
    let s = c.args.self.now in
    let is = subst (λ (t : State). IsCore dig g.row.B t old.root old.commit old.kept) c.self.view_is c.self.invariant in
    let copies = c.args.batch.copies in
    let stamp = stamp_of copies.stamp in
    let batch = shared_writes copies.writes.items in
    let x = c.args.batch.exchange in
    let come = map arc_value x.come.items in
    let done = c.in-Ok-exchange.ensures in
    let room = c.make_room.ensures in
    let grown = c.grow-number.ensures in
    let now = c.grow-number.new in
    let after = state-after old.kept.me c.exchange.new.self.me old.limit old.accepted.items now.accepted.items old.stamps.items now.stamps.items batch batch stamp stamp
    (ap (λ (k : Keeping). k.me) done.exchanged)
    (grown.writes ∙ ap (λ xs. shared_writes xs ++ shared_writes copies.writes.items) room.same_writes) refl
    (grown.stamps ∙ ap (λ xs. stamps_of xs ++ (stamp_of copies.stamp, length now.accepted.items) ∷ []) room.same_stamps) refl in
    (taken dig g.row.B s old.root old.commit old.kept is g.met.D.Digest.digest_len _ c.exchange.new.self stamp batch x.root x.commit _ come _ x.go.items c.requires.made.exchange
    (done.exchanged ∙ ap (λ (cs : List (List ℕ)). exchanged dig old.kept come cs) c.deref.ensures.value) done.no_other done.clash_free
    (after ∙ ap (λ (t : State). after_batch t stamp batch) c.self.view_is)).core

pub returns : goal.returns
returns g c =
    let dig = g.D.Digest.digest_of in
    let old = c.self.inside in
    let s = c.args.self.now in
    let is = subst (λ (t : State). IsCore dig g.row.B t old.root old.commit old.kept) c.self.view_is c.self.invariant in
    let copies = c.args.batch.copies in
    let stamp = stamp_of copies.stamp in
    let batch = shared_writes copies.writes.items in
    let x = c.args.batch.exchange in
    let come = map arc_value x.come.items in
    let done = c.in-Ok-exchange.ensures in
    let room = c.make_room.ensures in
    let grown = c.grow-number.ensures in
    let now = c.grow-number.new in
    let after = state-after old.kept.me c.exchange.new.self.me old.limit old.accepted.items now.accepted.items old.stamps.items now.stamps.items batch batch stamp stamp
    (ap (λ (k : Keeping). k.me) done.exchanged)
    (grown.writes ∙ ap (λ xs. shared_writes xs ++ shared_writes copies.writes.items) room.same_writes) refl
    (grown.stamps ∙ ap (λ xs. stamps_of xs ++ (stamp_of copies.stamp, length now.accepted.items) ∷ []) room.same_stamps) refl in
    let took = taken dig g.row.B s old.root old.commit old.kept is g.met.D.Digest.digest_len _ c.exchange.new.self stamp batch x.root x.commit _ come _ x.go.items c.requires.made.exchange
    (done.exchanged ∙ ap (λ (cs : List (List ℕ)). exchanged dig old.kept come cs) c.deref.ensures.value) done.no_other done.clash_free
    (after ∙ ap (λ (t : State). after_batch t stamp batch) c.self.view_is) in
    record {
      lawful = is.lawful;
      still_lawful = took.core.lawful;
      accepted = took.state;
      applied = applied-after dig g.row.B s _ stamp batch c.grow-number.result x.root old.root x.commit c.exchange.new.self.uses took.state took.staged is.root_is
          (grown.number ∙ sym (length-map now.accepted.items (λ w. write_of (arc_value w))));
      unchanged = tt;
      fault = tt;
      counted = done.fulls;
      entered = core_entered dig g.row.B g.S.BlockStore s s _ old.root x.root old.commit _ old.kept c.exchange.new.self
          c.args.store.now c.exchange.new.store refl (ap (λ (t : State). t.me) c.self.view_is) is refl took.core done.entered;
    }
