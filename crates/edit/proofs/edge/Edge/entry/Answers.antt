use Rattle.std.proofs.Common.{rules}
use Rattle.std.proofs.lemmas.Result.{err_from_is_err_and}
use Rattle.lookups.specs.Steps.{nodes_given}
use Rattle.rows.specs.Drafts.{pair_of}
use Rattle.batch_laws.specs.Batch.{entry}
use Rattle.edit.specs.States.{edge_in, log_in}
use Rattle.edit.proofs.Halting.{pairs-memory}
use Rattle.edit.proofs.edge.Edge.entry.Goals as goal

pub returns-in_err-push-clause-step : goal.returns-in_err-push-clause-step
returns-in_err-push-clause-step g c =
    let p = err_from_is_err_and c.from_residual.result c.from_residual.ensures.1 in
    let gives = g.S.Source.gives c.args.src.now in
    rw (p.1, p.2)
    (record {
      done = tt;
      counted = tt;
      same = search rules;
      stopped = (pairs-memory gives g.D.Digest.digest_of (nodes_given gives) (g.S.Source.reads c.args.src.now, c.args.self.now.left)
          (λ k. c.args.depth)
          (entry c.args.at (pair_of c.args.key.now c.args.value)) (edge_in c.args.self.now) (log_in c.args.self.now));
      halted = search rules;
    })

pub returns-in_default-clause-step : goal.returns-in_default-clause-step
returns-in_default-clause-step g c = record {
  done = search rules;
  counted = search rules;
  same = search rules;
  stopped = search rules;
  halted = search rules;
}

pub returns-clause-step : goal.returns-clause-step
returns-clause-step g c = record {
  done = search rules;
  counted = search rules;
  same = search rules;
  stopped = search rules;
  halted = search rules;
}
