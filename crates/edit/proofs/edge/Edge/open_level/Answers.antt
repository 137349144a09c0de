use Rattle.std.proofs.lemmas.Result.{err_from_is_err_and}
use Rattle.std.proofs.Common.{◌++◌, subst, rules}
use Rattle.lookups.specs.Steps.{nodes_given}
use Rattle.rows.specs.Drafts.{IsFaultOfAll}
use Rattle.batch_laws.specs.Links.{rows_in_shape}
use Rattle.edit.specs.States.{log_in}
use Rattle.edit.proofs.Refusing.{open-refused}
use Rattle.edit.proofs.edge.Edge.open_level.Goals as goal

pub returns-in_err-self : goal.returns-in_err-self
returns-in_err-self g c =
    let p = err_from_is_err_and c.from_residual-in_err-self.result c.from_residual-in_err-self.ensures.1 in
    let gives = g.S.Source.gives c.args.src.now in
    let f = c.in_err-self.field-0.0 in
    rw (p.1, p.2)
    (record {
      opened = tt;
      counted = tt;
      same = search rules;
      stopped = (open-refused gives g.D.Digest.digest_of (nodes_given gives) (g.S.Source.reads c.args.src.now, c.args.self.now.left)
          (g.S.Source.reads c.rows.new.src, c.rows.new.self.left) c.in-Some.cid c.args.self.now.rest (log_in c.args.self.now)
          (log_in c.rows.new.self)
          c.in_ok-rows.rows.rest f c.in-Some.is c.in_ok-rows.ensures.shown c.in_ok-rows.ensures.counted
          (subst (λ (xs : _). IsFaultOfAll (xs ++ rows_in_shape c.in_ok-rows.rows.rest) f) c.new-level-2.ensures c.in_err-self.ensures.fault));
      still = search rules;
      halted = search rules;
    })
