use Rattle.std.proofs.Common.{sym, ◌∙◌}
use Rattle.batches.specs.Values.{stamp_of}
use Rattle.checked_opening.proofs.Steps.{after-none, after-some, some-refused}
use Rattle.checked_opening.proofs.opening.apply_some.Goals as goal

pub returns-then-is_empty-clause-after : goal.returns-then-is_empty-clause-after
returns-then-is_empty-clause-after g c =
    after-none c.args.core.now (stamp_of c.args.stamp.now) c.args.writes.now (sym c.is_empty.ensures ∙ c.if-is_empty.true)

pub returns-in-Ok-clause-after : goal.returns-in-Ok-clause-after
returns-in-Ok-clause-after g c =
    after-some c.args.core.now c.apply.new.self (stamp_of c.args.stamp.now) c.args.writes.now (sym c.is_empty.ensures ∙ c.if-is_empty.false) c.in-Ok.ensures.accepted

pub returns-in-Err-clause-fault : goal.returns-in-Err-clause-fault
returns-in-Err-clause-fault g c =
    some-refused g.D.Digest.digest_of g.row.B c.args.core.now (stamp_of c.args.stamp.now) c.args.writes.now
    (g.S.BlockStore.fulls c.args.store.now) (g.S.BlockStore.fulls c.apply.new.store) (c.in-Err.field-0-0, c.in-Err.fault)
    (sym c.is_empty.ensures ∙ c.if-is_empty.false) c.requires.passes c.in-Err.ensures.fault
