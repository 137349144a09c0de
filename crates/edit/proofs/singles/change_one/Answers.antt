use Rattle.std.specs.Prelude.{IfOk}
use Rattle.std.proofs.Common.{[], ◌∷◌, subst}
use Rattle.edit.specs.Batches.{answer_of}
use Rattle.edit.specs.States.{log_in}
use Rattle.edit.specs.Tops.{IsEnded}
use Rattle.edit.proofs.singles.change_one.Goals as goal

pub returns-clause-changed : goal.returns-clause-changed
returns-clause-changed g c =
    subst (λ change. IfOk c.change_tree.result (λ n. IsEnded
    (answer_of g.D.Digest.digest_of g.row.B (g.S.Source.gives c.args.src.now) (change ∷ []) c.args.root)
    n.root n.gone (log_in n.edge))) c.of.ensures c.change_tree.ensures.changed
