use Rattle.std.proofs.Common.{◌≡◌, ◌++◌, [], ap, sym, ◌∙◌}
use Rattle.std.proofs.lemmas.Result.{IfOk-weaker}
use Rattle.rows.specs.OldNodes.{linked}
use Rattle.rows.specs.Entries.{key_behind, rows_between}
use Rattle.rows.proofs.Drafting.{Links}
use Rattle.rows.proofs.Runs.{key-linked}
use Rattle.rows.proofs.writer.OpenNode.run.Goals as goal

pub copied-requires-clause-follows : goal.copied-requires-clause-follows
copied-requires-clause-follows g c =
    let w = c.in_ok-closed.field-0 in
    sym (key-linked [] w.left w.entries) ∙ ap (key_behind []) c.in_ok-closed.ensures.rows ∙ c.requires.follows

pub copied-requires-clause-link : goal.copied-requires-clause-link
copied-requires-clause-link g c = c.in_ok-closed.ensures.link ∙ c.to_cid.ensures ∙ c.link.ensures

pub returns : goal.returns
returns g c =
    let start = c.args.start.now in
    let run = rows_between start.passed c.args.end.now.passed start.node in
    let w = c.in_ok-closed.field-0 in
    IfOk-weaker c.copied.result (λ node. node ≡ linked w.left w.entries ++ run) (λ node. node ≡ c.args.self ++ run)
    (λ node is. is ∙ ap (λ (xs : Links). xs ++ run) c.in_ok-closed.ensures.rows) c.copied.ensures
