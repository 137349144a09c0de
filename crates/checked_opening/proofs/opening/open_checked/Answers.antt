use Rattle.std.proofs.Common.{◌≤◌, ◌∙◌, ap, arith, length, rules}
use Rattle.std.proofs.lemmas.List.{length-map}
use Rattle.spec.specs.States.{records, state_root}
use Rattle.batches.specs.Values.{stamp_of, writes_of}
use Rattle.signed_commits.specs.Views.{commit_of}
use Rattle.repository_check.specs.Views.{keyed_record, records_of}
use Rattle.checked_opening.proofs.Opened.{records-opened, root-opened}
use Rattle.checked_opening.proofs.Steps.{created, entered-after, is-after, is-passed, is-refused, left-after}
use Rattle.checked_opening.proofs.opening.open_checked.Goals as goal

pub apply_some-requires : goal.apply_some-requires
apply_some-requires g c =
    let r = c.args.repository.now in
    let count = length-map r.records.items keyed_record in
    let lent = ap length c.deref.ensures.value in
    let room : length (records_of r) ≤ c.args.limit = omega (arith, c.len.ensures, c.deref.ensures.len, lent, count, c.if-len-limit.false) in (
      search rules,
      (
        c.requires.store,
        is-passed g.D.Digest.digest_of g.row.B c.args.me c.args.limit (commit_of r.commit) (records_of r) c.in_ok-core.core (stamp_of c.in_ok-stamp.stamp) (writes_of c.deref-2.result.now)
            c.in_ok-core.ensures.fresh c.in_ok-stamp.ensures (created r.records.items c.deref.result.now c.in_ok-writes.writes.items c.deref-2.result.now c.deref.ensures.value c.deref-2.ensures.value c.in_ok-writes.ensures) c.requires.openable room,
      ),
    )

pub returns-in-Ok-clause-opened : goal.returns-in-Ok-clause-opened
returns-in-Ok-clause-opened g c =
    let r = c.args.repository.now in
    (c.in-Ok.ensures.after ∙ is-after c.args.me c.args.limit (commit_of r.commit) (records_of r) c.in_ok-core.core (stamp_of c.in_ok-stamp.stamp) (writes_of c.deref-2.result.now)
    c.in_ok-core.ensures.fresh c.in_ok-stamp.ensures (created r.records.items c.deref.result.now c.in_ok-writes.writes.items c.deref-2.result.now c.deref.ensures.value c.deref-2.ensures.value c.in_ok-writes.ensures))

pub returns-in-Ok-clause-records : goal.returns-in-Ok-clause-records
returns-in-Ok-clause-records g c =
    let r = c.args.repository.now in
    ap records (c.in-Ok.ensures.after ∙ is-after c.args.me c.args.limit (commit_of r.commit) (records_of r) c.in_ok-core.core (stamp_of c.in_ok-stamp.stamp) (writes_of c.deref-2.result.now)
    c.in_ok-core.ensures.fresh c.in_ok-stamp.ensures (created r.records.items c.deref.result.now c.in_ok-writes.writes.items c.deref-2.result.now c.deref.ensures.value c.deref-2.ensures.value c.in_ok-writes.ensures))
    ∙ records-opened g.D.Digest.digest_of g.row.B c.args.me c.args.limit (commit_of r.commit) (records_of r) c.requires.openable

pub returns-in-Ok-clause-root : goal.returns-in-Ok-clause-root
returns-in-Ok-clause-root g c =
    let r = c.args.repository.now in
    ap (state_root g.D.Digest.digest_of g.row.B) (c.in-Ok.ensures.after ∙ is-after c.args.me c.args.limit (commit_of r.commit) (records_of r) c.in_ok-core.core (stamp_of c.in_ok-stamp.stamp) (writes_of c.deref-2.result.now)
    c.in_ok-core.ensures.fresh c.in_ok-stamp.ensures (created r.records.items c.deref.result.now c.in_ok-writes.writes.items c.deref-2.result.now c.deref.ensures.value c.deref-2.ensures.value c.in_ok-writes.ensures))
    ∙ root-opened g.D.Digest.digest_of g.row.B c.args.me c.args.limit (commit_of r.commit) (records_of r) c.requires.openable

pub returns-in-Ok-clause-entered : goal.returns-in-Ok-clause-entered
returns-in-Ok-clause-entered g c =
    entered-after g.D.Digest.digest_of g.S.BlockStore g.row.B c.args.me c.args.limit c.in_ok-core.core c.apply_some.new.core c.args.store.now c.open.new.store c.apply_some.new.store
    c.in_ok-core.ensures.fresh c.in_ok-core.ensures.entered c.in-Ok.ensures.entered

pub returns-clause-fault : goal.returns-clause-fault
returns-clause-fault g c =
    let r = c.args.repository.now in
    is-refused g.D.Digest.digest_of g.row.B c.args.me c.args.limit (commit_of r.commit) (records_of r) c.in_ok-core.core (stamp_of c.in_ok-stamp.stamp) (writes_of c.deref-2.result.now)
    (g.S.BlockStore.fulls c.args.store.now) (g.S.BlockStore.fulls c.open.new.store) (g.S.BlockStore.fulls c.apply_some.new.store) (g.S.BlockStore.fulls c.end.new.store) c.in-Err.fault
    c.in_ok-core.ensures.fresh c.in_ok-stamp.ensures (created r.records.items c.deref.result.now c.in_ok-writes.writes.items c.deref-2.result.now c.deref.ensures.value c.deref-2.ensures.value c.in_ok-writes.ensures)
    c.in_ok-core.ensures.counted c.end.ensures.fulls c.in-Err.ensures.fault

pub returns-clause-left : goal.returns-clause-left
returns-clause-left g c =
    left-after g.D.Digest.digest_of g.S.BlockStore g.row.B c.args.me c.args.limit c.in_ok-core.core c.apply_some.new.core c.args.store.now c.open.new.store c.apply_some.new.store c.end.new.store
    c.in_ok-core.ensures.fresh c.in-Err.ensures.unchanged c.in_ok-core.ensures.entered c.in-Err.ensures.entered c.end.ensures.entered
