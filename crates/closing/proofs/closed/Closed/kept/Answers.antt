use Rattle.std.proofs.Common.{◌≤◌, length, sym, ap, ◌∙◌, arith}
use Rattle.std.proofs.lemmas.List.{drop_all}
use Rattle.ended.specs.Ending.{kept_by}
use Rattle.closing.specs.Settling.{ClosedView}
use Rattle.closing.proofs.Closings.{kept_found, kept_further}
use Rattle.closing.proofs.closed.Closed.kept.Goals as goal

pub returns-then-writer : goal.returns-then-writer
returns-then-writer g c =
    c.kept.ensures
    ∙ kept_found c.deref-settled-items.result.now c.loop-settled.settled-index c.settled-item.result c.args.writer c.loop-settled-test.true c.settled-item.is c.writer.result c.writer.ensures c.if-writer.true
    ∙ c.loop-settled.invariant
    ∙ ap (λ es. kept_by es c.args.writer) c.deref-settled-items.ensures.value
    ∙ ap (λ (v : ClosedView). kept_by v.ended c.args.writer) c.self.view_is

pub loop-settled-preserved : goal.loop-settled-preserved
loop-settled-preserved g c =
    kept_further c.deref-settled-items.result.now c.loop-settled.settled-index c.settled-item.result c.args.writer c.loop-settled-test.true c.settled-item.is c.writer.result c.writer.ensures c.if-writer.false
    ∙ c.loop-settled.invariant

pub returns : goal.returns
returns g c =
    let past : length c.deref-settled-items.result.now ≤ c.loop-settled.settled-index = let test = c.loop-settled-test.false in omega arith in
    sym (ap (λ es. kept_by es c.args.writer) (drop_all c.loop-settled.settled-index c.deref-settled-items.result.now past))
    ∙ c.loop-settled.invariant
    ∙ ap (λ es. kept_by es c.args.writer) c.deref-settled-items.ensures.value
    ∙ ap (λ (v : ClosedView). kept_by v.ended c.args.writer) c.self.view_is
