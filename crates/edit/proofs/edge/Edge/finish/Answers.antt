use Rattle.std.proofs.Common.{◌≡◌, ◌-◌, ◌++◌, ◌∷◌, [], None, ap, ◌∙◌, arith, rules}
use Rattle.spec.specs.NodeFormat.{LastLink, shape_cid}
use Rattle.lookups.specs.Steps.{nodes_given}
use Rattle.batch_laws.specs.Links.{onto_links, topping}
use Rattle.edit.specs.Edges.{highest_of}
use Rattle.edit.specs.States.{edge_in, log_in, shapes_in}
use Rattle.edit.proofs.Making.{shapes-count}
use Rattle.edit.proofs.Topping.{topped-all, empty-top, pruned-top, ended}
use Rattle.std.proofs.lemmas.Result.{err_from_is_err_and}
use Rattle.edit.proofs.Ending.{top-stopped, top-memory, empty-stopped, pruned-stopped}
use Rattle.edit.proofs.Halts.{top-halted}
use Rattle.edit.proofs.edge.Edge.finish.Goals as goal

pub returns-then-depth-len : goal.returns-then-depth-len
returns-then-depth-len g c =
    let digest = g.D.Digest.digest_of in
    let shows = nodes_given (g.S.Source.gives c.args.src.now) in
    let old = c.args.self.now in
    let now = c.close_top.new.self in
    let depth : c.highest-depth.result ≡ highest_of old.levels.items = c.highest-depth.ensures.depth ∙ ap highest_of c.deref.ensures.value in
    let n = shapes-count now.read.items in
    record {
      done = ended (topping digest shows c.args.layers (edge_in old) (log_in old)) c.in_ok-root.root 0 c.len-then-depth-len.result (log_in now)
          (topped-all digest shows c.args.layers c.highest-depth.result old.levels.items old.rest (log_in old) (log_in now)
          c.in_ok-root.root depth (omega (arith, c.if-depth-len.true, c.len.ensures)) c.in_ok-root.ensures.topped)
          (omega (arith, n, c.len-then-depth-len.ensures));
      counted = search rules;
      same = search rules;
      stopped = tt;
      halted = tt;
    }

pub returns-in_default : goal.returns-in_default
returns-in_default g c =
    let digest = g.D.Digest.digest_of in
    let shows = nodes_given (g.S.Source.gives c.args.src.now) in
    let old = c.args.self.now in
    let made = shapes_in c.close_top-in_default.new.made.items in
    let depth : c.highest-depth.result ≡ highest_of old.levels.items = c.highest-depth.ensures.depth ∙ ap highest_of c.deref.ensures.value in
    let n = shapes-count old.read.items in
    let root = c.in_ok-root-2.ensures.root ∙ ap (λ rows. shape_cid digest (onto_links rows (LastLink None))) c.new.ensures in
    let last = c.in_ok-root-2.ensures.made
    ∙ ap (λ rows. shapes_in old.made.items ++ (onto_links rows (LastLink None) ∷ [])) c.new.ensures in
    record {
      done = ended (topping digest shows c.args.layers (edge_in old) (log_in old)) c.in_ok-root-2.root 0 c.len-in_default.result
          (record { read = shapes_in old.read.items; made = made })
          (empty-top digest shows c.args.layers c.highest-depth.result old.levels.items old.rest (log_in old) c.in_ok-root-2.root made
          depth (omega (arith, c.if-depth-len.false, c.len.ensures)) c.in_default.is root last)
          (omega (arith, n, c.len-in_default.ensures));
      counted = search rules;
      same = search rules;
      stopped = tt;
      halted = tt;
    }

pub returns : goal.returns
returns g c =
    let digest = g.D.Digest.digest_of in
    let shows = nodes_given (g.S.Source.gives c.args.src.now) in
    let old = c.args.self.now in
    let now = c.prune.new.self in
    let depth : c.highest-depth.result ≡ highest_of old.levels.items = c.highest-depth.ensures.depth ∙ ap highest_of c.deref.ensures.value in
    let n = shapes-count now.read.items in
    record {
      done = ended (topping digest shows c.args.layers (edge_in old) (log_in old)) c.in_ok-root-3.root 1 (c.len-2.result - 1) (log_in now)
          (pruned-top digest shows c.args.layers c.highest-depth.result old.levels.items old.rest c.in-Some.cid (log_in old) (log_in now)
          c.in_ok-root-3.root 1 depth (omega (arith, c.if-depth-len.false, c.len.ensures)) c.in-Some.is c.in_ok-root-3.ensures.done)
          (omega (arith, n, c.len-2.ensures));
      counted = search rules;
      same = search rules;
      stopped = tt;
      halted = tt;
    }

pub returns-in_err-root : goal.returns-in_err-root
returns-in_err-root g c =
    let p = err_from_is_err_and c.from_residual.result c.from_residual.ensures.1 in
    let gives = g.S.Source.gives c.args.src.now in
    let old = c.args.self.now in
    let depth : c.highest-depth.result ≡ highest_of old.levels.items = c.highest-depth.ensures.depth ∙ ap highest_of c.deref.ensures.value in
    rw (p.1, p.2)
    (record {
      done = tt;
      counted = tt;
      same = search rules;
      stopped = (top-stopped gives g.D.Digest.digest_of (nodes_given gives) (g.S.Source.reads c.args.src.now, c.args.self.now.left)
          c.args.layers
          c.highest-depth.result old.levels.items old.rest (log_in old) c.in_err-root.field-0.0 depth
          (omega (arith, c.if-depth-len.true, c.len.ensures)) c.in_err-root.ensures.fault);
      halted = search rules;
    })

pub returns-in_err-alloc : goal.returns-in_err-alloc
returns-in_err-alloc g c =
    let p = err_from_is_err_and c.from_residual-in_err-alloc.result c.from_residual-in_err-alloc.ensures.1 in
    let gives = g.S.Source.gives c.args.src.now in
    let old = c.args.self.now in
    rw (p.1, p.2)
    (record {
      done = tt;
      counted = tt;
      same = search rules;
      stopped = (top-memory gives g.D.Digest.digest_of (nodes_given gives) (g.S.Source.reads c.args.src.now, c.args.self.now.left)
          c.args.layers (edge_in old)
          (log_in old));
      halted = search rules;
    })

pub returns-in_err-root-2 : goal.returns-in_err-root-2
returns-in_err-root-2 g c =
    let p = err_from_is_err_and c.from_residual-in_err-root-2.result c.from_residual-in_err-root-2.ensures.1 in
    let gives = g.S.Source.gives c.args.src.now in
    let old = c.args.self.now in
    rw (p.1, p.2)
    (record {
      done = tt;
      counted = tt;
      same = search rules;
      stopped = (empty-stopped gives g.D.Digest.digest_of (nodes_given gives) (g.S.Source.reads c.args.src.now, c.args.self.now.left)
          c.args.layers (edge_in old)
          (log_in old) c.new.result c.in_err-root-2.field-0.0 c.new.ensures c.in_err-root-2.ensures.fault);
      halted = search rules;
    })

pub returns-in_err-root-3 : goal.returns-in_err-root-3
returns-in_err-root-3 g c =
    let p = err_from_is_err_and c.from_residual-in_err-root-3.result c.from_residual-in_err-root-3.ensures.1 in
    let gives = g.S.Source.gives c.args.src.now in
    let old = c.args.self.now in
    let depth : c.highest-depth.result ≡ highest_of old.levels.items = c.highest-depth.ensures.depth ∙ ap highest_of c.deref.ensures.value in
    rw (p.1, p.2)
    (record {
      done = tt;
      counted = tt;
      same = search rules;
      stopped = (pruned-stopped gives g.D.Digest.digest_of (nodes_given gives) (g.S.Source.reads c.args.src.now, c.args.self.now.left)
          (g.S.Source.reads c.prune.new.src) c.args.layers c.highest-depth.result old.levels.items old.rest c.in-Some.cid (log_in old)
          c.in_err-root-3.field-0.0 depth (omega (arith, c.if-depth-len.false, c.len.ensures)) c.in-Some.is
          c.in_err-root-3.ensures.stopped);
      halted = (top-halted g.D.Digest.digest_of (nodes_given (g.S.Source.gives c.args.src.now)) old c.prune.new.self c.args.layers
          c.highest-depth.result c.in-Some.cid c.in_err-root-3.field-0.0 depth (omega (arith, c.if-depth-len.false, c.len.ensures))
          c.in-Some.is c.in_err-root-3.ensures.halted);
    })
