use Rattle.std.proofs.Common.{◌≡◌, ◌+◌, sym, ◌∙◌, subst, arith}
use Rattle.host.specs.Views.{beginning}
use Rattle.scripts.proofs.Runs.{IsRunTo, answered}
use Rattle.scripts.proofs.working.work.Goals as goal

pub loop-line-preserved : goal.loop-line-preserved
loop-line-preserved g c =
    let i = c.loop-line.invariant in
    let l = c.line-item.result in
    let start = beginning c.args.host.now c.args.seat in
    let new = c.do_line-answer.new.writer in
    let same : l.worker ≡ c.args.worker = omega arith in record {
      host = c.do_line-answer.ensures.host ∙ i.host;
      run = subst (λ xs. IsRunTo g.D.Digest.digest_of g.row.B start c.args.worker c.args.lines.now (c.loop-line.line-index + 1) xs new) (sym c.in_ok-push_back.ensures.items)
          (answered g.D.Digest.digest_of g.row.B start c.loop-line.writer new c.args.worker c.args.lines.now c.loop-line.line-index c.loop-line.answers.items l c.do_line-answer.result
          i.run (omega arith) c.line-item.is same c.do_line-answer.ensures.call);
    }
