use Rattle.std.proofs.Common.{◌≤◌, ◌<◌, ◌++◌, ℕ, length, ap, sym, subst, ◌∙◌, arith}
use Rattle.node.specs.Contents.{Contents}
use Rattle.node.specs.Search.{gap_at}
use Rattle.rows.specs.Begun.{IsBegun}
use Rattle.rows.specs.Entries.{rows_between}
use Rattle.rows.specs.OldNodes.{linked}
use Rattle.rows.proofs.Runs.{opened-run}
use Rattle.rows.proofs.writer.OpenNode.copied.Goals as goal

pub copy-requires-clause-order : goal.copy-requires-clause-order
copy-requires-clause-order g c = omega (arith, c.requires.order, c.passed.ensures.passed)

pub copy-requires-clause-within : goal.copy-requires-clause-within
copy-requires-clause-within g c =
    subst (λ (m : Contents). c.passed.result ≤ length m.entries) c.requires.same c.passed.ensures.within

pub invariant_of-result : goal.invariant_of-result
invariant_of-result g c =
    let start = c.args.start.now in
    let end = c.args.end.now in
    let more : start.passed < c.passed.result = omega (arith, c.requires.order, c.passed.ensures.passed) in
    let within = subst (λ (m : Contents). c.passed.result ≤ length m.entries) c.requires.same c.passed.ensures.within in
    let behind = c.link.ensures ∙ ap (λ (m : Contents). gap_at end.passed m.left m.entries) c.requires.same
    ∙ ap (λ (n : ℕ). gap_at n start.node.left start.node.entries) (sym c.passed.ensures.passed) in
    subst (λ l. IsBegun c.copy.new.self l) (sym behind)
    (opened-run c.args.closed c.copy.new.self start.node start.passed c.passed.result more within c.requires.link
    c.in_ok-copy.ensures.ok c.requires.keys c.requires.ascending c.requires.follows).begun

pub returns : goal.returns
returns g c =
    let start = c.args.start.now in
    let more : start.passed < c.passed.result = omega (arith, c.requires.order, c.passed.ensures.passed) in
    let within = subst (λ (m : Contents). c.passed.result ≤ length m.entries) c.requires.same c.passed.ensures.within in
    (opened-run c.args.closed c.copy.new.self start.node start.passed c.passed.result more within c.requires.link
    c.in_ok-copy.ensures.ok c.requires.keys c.requires.ascending c.requires.follows).rows_is
    ∙ ap (λ (n : ℕ). linked c.args.closed.left c.args.closed.entries ++ rows_between start.passed n start.node) c.passed.ensures.passed
