use Rattle.std.proofs.Common.{ap, sym, ◌∙◌}
use Rattle.spec.specs.NodeFormat.{LastLink}
use Rattle.rows.specs.Drafts.{onto}
use Rattle.rows.specs.Written.{rows_in}
use Rattle.rows.proofs.Drafting.{Links, without-pairs}
use Rattle.rows.proofs.writer.Writer.finish.Goals as goal

pub invariant_of-result : goal.invariant_of-result
invariant_of-result g c =
    (without-pairs _ _ _ c.is_none.result c.in_ok-begin-in-Nothing.ensures c.in_ok-finish-in-Nothing.ensures.grammar
    c.in_ok-finish-in-Nothing.ensures.bytes c.is_none.ensures).0

pub returns-in_ok-finish-in-Nothing-clause-ok : goal.returns-in_ok-finish-in-Nothing-clause-ok
returns-in_ok-finish-in-Nothing-clause-ok g c =
    (without-pairs _ _ _ c.is_none.result c.in_ok-begin-in-Nothing.ensures c.in_ok-finish-in-Nothing.ensures.grammar
    c.in_ok-finish-in-Nothing.ensures.bytes c.is_none.ensures).1
    ∙ ap (λ (xs : Links). onto xs (LastLink c.args.last)) (sym (ap rows_in c.in-Nothing.is) ∙ c.self.view_is)

pub returns-in_ok-finish-in-Open-clause-ok : goal.returns-in_ok-finish-in-Open-clause-ok
returns-in_ok-finish-in-Open-clause-ok g c =
    c.in_ok-finish-in-Open.ensures
    ∙ ap (λ (xs : Links). onto xs (LastLink c.args.last)) (sym (ap rows_in c.in-Open.is) ∙ c.self.view_is)
