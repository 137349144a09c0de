use Rattle.std.proofs.Common.{◌∙◌}
use Rattle.std.proofs.lemmas.Result.{err_from_is_err_and}
use Rattle.spec.specs.NodeFormat.{read_node}
use Rattle.node.specs.Rows.{shown_node}
use Rattle.node.proofs.Faults.{failing}
use Rattle.node.proofs.ReadAgain.{read-ok}
use Rattle.node.proofs.RowLaws.{read_node-shown_node}
use Rattle.node.proofs.view.NodeView.parse.Goals as goal

pub returns-in_err-node : goal.returns-in_err-node
returns-in_err-node c =
    let p = err_from_is_err_and c.from_residual.result c.from_residual.ensures.1 in
    let bytes = c.args.bytes.now in
    rw (p.1, p.2) (failing c.in_err-node.field-0.0 (shown_node bytes) (read_node bytes) c.in_err-node.ensures.read (λ f e. read_node-shown_node bytes ∙ e))

pub of_tested-requires : goal.of_tested-requires
of_tested-requires c =
    read-ok (read_node c.args.bytes.now) _ (read_node-shown_node c.args.bytes.now ∙ c.in_ok-node.ensures.read)

pub returns : goal.returns
returns c = c.of_tested.ensures
