use Rattle.std.proofs.Common.{[], ◌++◌, ap, ◌∙◌}
use Rattle.rows.specs.Entries.{key_behind, rows_between}
use Rattle.rows.specs.Written.{rows_in}
use Rattle.rows.proofs.Drafting.{Links}
use Rattle.rows.proofs.ReadingOn.{run-of}
use Rattle.rows.proofs.writer.Writer.run.Goals as goal

pub with_run-requires-clause-order : goal.with_run-requires-clause-order
with_run-requires-clause-order g c =
    let gaps = c.run_to.result in
    (run-of gaps.0.now gaps.1.now c.args.to c.args.rows.now c.run_to.ensures c.requires.order c.requires.within
    (λ e. c.if-passed-to.false (c.passed.ensures.passed ∙ e))).order

pub with_run-requires-clause-follows : goal.with_run-requires-clause-follows
with_run-requires-clause-follows g c =
    let gaps = c.run_to.result in
    ap (λ r. key_behind [] (rows_in r)) c.replace-rows.ensures.value ∙ ap (key_behind []) c.self.view_is ∙ c.requires.follows
    ∙ (run-of gaps.0.now gaps.1.now c.args.to c.args.rows.now c.run_to.ensures c.requires.order c.requires.within
    (λ e. c.if-passed-to.false (c.passed.ensures.passed ∙ e))).key

pub returns : goal.returns
returns g c =
    let gaps = c.run_to.result in
    let run = run-of gaps.0.now gaps.1.now c.args.to c.args.rows.now c.run_to.ensures c.requires.order c.requires.within
    (λ e. c.if-passed-to.false (c.passed.ensures.passed ∙ e)) in
    c.in_ok-self-inside.ensures
    ∙ ap (λ (xs : Links). xs ++ rows_between gaps.0.now.passed gaps.1.now.passed gaps.0.now.node)
    (ap rows_in c.replace-rows.ensures.value ∙ c.self.view_is)
    ∙ ap (λ (ys : Links). c.args.self.now ++ ys) run.rows
