use Rattle.std.proofs.Common.{◌≡◌, ◌++◌, [], length, ap, sym, ◌∙◌}
use Rattle.std.proofs.lemmas.Result.{IfOk-weaker}
use Rattle.node.specs.Contents.{Contents, last_key}
use Rattle.node.specs.Search.{gap_at}
use Rattle.rows.specs.Entries.{rows_between}
use Rattle.rows.specs.OldNodes.{linked}
use Rattle.rows.proofs.writer.OpenNode.of.Goals as goal

pub copied-requires-clause-follows : goal.copied-requires-clause-follows
copied-requires-clause-follows g c = ap (λ (w : Contents). last_key [] w.entries) c.in_ok-begin.ensures ∙ sym c.requires.first

pub copied-requires-clause-link : goal.copied-requires-clause-link
copied-requires-clause-link g c =
    ap (λ (w : Contents). gap_at (length w.entries) w.left w.entries) c.in_ok-begin.ensures ∙ c.to_cid.ensures ∙ c.link.ensures

pub returns : goal.returns
returns g c =
    let start = c.args.start.now in
    let run = rows_between start.passed c.args.end.now.passed start.node in
    let begun = c.in_ok-begin.field-0 in
    IfOk-weaker c.copied.result (λ node. node ≡ linked begun.left begun.entries ++ run) (λ node. node ≡ run)
    (λ node is. is ∙ ap (λ (w : Contents). linked w.left w.entries ++ run) c.in_ok-begin.ensures) c.copied.ensures
