use Rattle.std.proofs.Common.{rules, sym, ap, ◌∙◌}
use Rattle.repository_commands.specs.Puts.{given_from}
use Rattle.repository_commands.specs.Views.{given_of}
use Rattle.repository_commands.proofs.Putting.{going_on, onto, onto_done, onto_put, onto_stop, ok_read}
use Rattle.repository_commands.proofs.puts.puts_of_input.Goals as goal

pub loop-number-preserved : goal.loop-number-preserved
loop-number-preserved g c = (
  tt,
  tt,
  c.loop-number.invariant.2
      ∙ ap (λ ls. onto (given_of c.loop-number.puts) (given_from c.args.form ls)) c.in-Some.ensures.steps
      ∙ onto_put c.args.form c.in-Some.number c.in-Some.line.now (given_of c.loop-number.puts) c.next.new.self _ (given_of c.take.new.self) c.in_ok-is_put.is_put
      c.in_ok-is_put.ensures.taken c.in_ok-put_of_line.ensures (c.in_ok-is_put.ensures.going_on ∙ ok_read _) c.if-not-is_put.false,
  going_on (given_of c.loop-number.puts) (given_of c.take.new.self) c.in-Some.number _ c.in_ok-is_put.is_put
      c.in_ok-is_put.ensures.taken (c.in_ok-is_put.ensures.going_on ∙ ok_read _) c.if-not-is_put.false c.loop-number.invariant.3,
)

pub returns-then-not-is_put : goal.returns-then-not-is_put
returns-then-not-is_put g c = sym (
    c.loop-number.invariant.2
    ∙ ap (λ ls. onto (given_of c.loop-number.puts) (given_from c.args.form ls)) c.in-Some.ensures.steps
    ∙ onto_stop c.args.form c.in-Some.number c.in-Some.line.now (given_of c.loop-number.puts) c.next.new.self _ (given_of c.take.new.self) c.in_ok-is_put.is_put
    c.in_ok-is_put.ensures.taken c.in_ok-put_of_line.ensures (c.in_ok-is_put.ensures.going_on ∙ ok_read _) c.if-not-is_put.true
    )

pub returns : goal.returns
returns g c = sym (
    c.loop-number.invariant.2
    ∙ ap (λ ls. onto (given_of c.loop-number.puts) (given_from c.args.form ls)) c.in-None.ensures.steps.0
    ∙ onto_done c.args.form (given_of c.loop-number.puts) c.loop-number.invariant.3
    )

pub loop-number-init : goal.loop-number-init
loop-number-init g c = search rules
