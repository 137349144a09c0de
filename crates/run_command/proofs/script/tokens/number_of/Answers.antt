use Rattle.std.proofs.Common.{sym, ◌∙◌}
use Rattle.std.specs.Prelude.{Some}
use Rattle.std.proofs.lemmas.List.{at_drop_all}
use Rattle.run_command.specs.Script.{number_after}
use Rattle.run_command.proofs.Digits.{digits-next, digits-none, digits-done}
use Rattle.run_command.proofs.script.tokens.number_of.Goals as goal

pub returns-in_err-number : goal.returns-in_err-number
returns-in_err-number c =
    c.from_residual.ensures
    ∙ sym (c.loop-c.invariant ∙ digits-none c.args.word.now c.loop-c.c-index c.loop-c.number c.loop-c-test.true c.in_err-number.ensures)

pub loop-c-preserved : goal.loop-c-preserved
loop-c-preserved c =
    c.loop-c.invariant ∙ digits-next c.args.word.now c.loop-c.c-index c.loop-c.number c.in_ok-number.number c.loop-c-test.true c.in_ok-number.ensures

pub returns : goal.returns
returns c = sym (
    c.loop-c.invariant
    ∙ at_drop_all (number_after (Some c.loop-c.number)) c.args.word.now c.loop-c.c-index c.loop-c-test.false
    ∙ digits-done c.loop-c.number
    )
