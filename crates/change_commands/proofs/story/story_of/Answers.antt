use Rattle.std.proofs.Common.{rules, ◌+◌, length, sym, ap, ◌∙◌, arith}
use Rattle.change_commands.specs.Stories.{story_from}
use Rattle.change_commands.specs.Views.{story_of}
use Rattle.change_commands.proofs.Telling.{story_empty, story_on, story_stop, story_done}
use Rattle.change_commands.proofs.story.story_of.Goals as goal

pub loop-line-preserved-then-is_empty : goal.loop-line-preserved-then-is_empty
loop-line-preserved-then-is_empty c = (
  search rules,
  search rules,
  record {
    reading = c.loop-line.invariant.2.reading
        ∙ ap (λ ls. story_from c.args.form (story_of c.loop-line.story) (c.loop-line.number + 1) ls) c.in-Some.ensures.steps
        ∙ story_empty c.args.form (story_of c.loop-line.story) (c.loop-line.number + 1) c.in-Some.line.now c.next.new.self (sym c.is_empty.ensures ∙ c.if-is_empty.true);
    bound = omega (arith, ap length c.in-Some.ensures.steps, c.loop-line.invariant.2.bound);
  },
)

pub loop-line-preserved : goal.loop-line-preserved
loop-line-preserved c = (
  search rules,
  search rules,
  record {
    reading = c.loop-line.invariant.2.reading
        ∙ ap (λ ls. story_from c.args.form (story_of c.loop-line.story) (c.loop-line.number + 1) ls) c.in-Some.ensures.steps
        ∙ story_on c.args.form (story_of c.loop-line.story) (story_of c.take.new.self) (c.loop-line.number + 1) c.in-Some.line.now c.next.new.self (sym c.is_empty.ensures ∙ c.if-is_empty.false)
        c.in_ok-is_write.ensures.taken (search rules);
    bound = omega (arith, ap length c.in-Some.ensures.steps, c.loop-line.invariant.2.bound);
  },
)

pub returns-then-not-is_write : goal.returns-then-not-is_write
returns-then-not-is_write c = sym (
    c.loop-line.invariant.2.reading
    ∙ ap (λ ls. story_from c.args.form (story_of c.loop-line.story) (c.loop-line.number + 1) ls) c.in-Some.ensures.steps
    ∙ story_stop c.args.form (story_of c.loop-line.story) (story_of c.take.new.self) (c.loop-line.number + 1) c.in-Some.line.now c.next.new.self (sym c.is_empty.ensures ∙ c.if-is_empty.false)
    c.in_ok-is_write.ensures.taken (search rules)
    )

pub returns : goal.returns
returns c = sym (
    c.loop-line.invariant.2.reading
    ∙ ap (λ ls. story_from c.args.form (story_of c.loop-line.story) (c.loop-line.number + 1) ls) c.in-None.ensures.steps.0
    ∙ story_done c.args.form (story_of c.loop-line.story) (c.loop-line.number + 1)
    )

pub loop-line-init : goal.loop-line-init
loop-line-init c = search rules
