use Rattle.std.proofs.Common.{sym, ◌∙◌}
use Rattle.rows.specs.Drafts.{pair_of}
use Rattle.rows.proofs.Runs.{never-next, opened-pair}
use Rattle.rows.proofs.writer.OpenNode.after.Goals as goal

pub returns-then-not-is_next-clause-fault : goal.returns-then-not-is_next-clause-fault
returns-then-not-is_next-clause-fault g c s has =
    let was = c.args.closed in
    never-next was.left was.entries (pair_of c.args.key.now c.args.value) s (sym c.is_next.ensures ∙ c.if-not-is_next.true) has

pub invariant_of-result : goal.invariant_of-result
invariant_of-result g c =
    (opened-pair c.args.closed c.entry.new.self (pair_of c.args.key.now c.args.value) c.in_ok-entry.ensures.ok
    c.requires.keys (sym c.is_next.ensures ∙ c.if-not-is_next.false)).begun

pub returns-clause-ok : goal.returns-clause-ok
returns-clause-ok g c =
    (opened-pair c.args.closed c.entry.new.self (pair_of c.args.key.now c.args.value) c.in_ok-entry.ensures.ok
    c.requires.keys (sym c.is_next.ensures ∙ c.if-not-is_next.false)).rows_is
