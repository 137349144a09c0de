use Rattle.std.proofs.Common.{ℕ, refl, subst, ◌∙◌}
use Rattle.export.specs.Outs.{Fails}
use Rattle.export.proofs.Leaving.{stops-first, stops-second, takes-last}
use Rattle.export.proofs.whole.write_three.Goals as goal

pub returns-in_err-write_whole-clause-taken : goal.returns-in_err-write_whole-clause-taken
returns-in_err-write_whole-clause-taken g c =
    stops-first (g.W.Out.taken c.args.out.now) c.args.first.now c.args.second.now c.args.third.now _ refl
    (g.W.Out.taken c.write_whole.new.out) c.from_residual.result c.from_residual.ensures.0 c.in_err-write_whole.ensures.taken

pub returns-in_err-write_whole-2-clause-taken : goal.returns-in_err-write_whole-2-clause-taken
returns-in_err-write_whole-2-clause-taken g c =
    stops-second (g.W.Out.taken c.args.out.now) c.args.first.now c.args.second.now c.args.third.now _ refl
    (g.W.Out.taken c.write_whole.new.out) (g.W.Out.taken c.write_whole-2.new.out) c.from_residual-in_err-write_whole-2.result
    c.in_ok-write_whole.ensures.taken c.from_residual-in_err-write_whole-2.ensures.0 c.in_err-write_whole-2.ensures.taken

pub returns-clause-taken : goal.returns-clause-taken
returns-clause-taken g c =
    takes-last (g.W.Out.taken c.args.out.now) c.args.first.now c.args.second.now c.args.third.now _ refl
    (g.W.Out.taken c.write_whole.new.out) (g.W.Out.taken c.write_whole-2.new.out) (g.W.Out.taken c.write_whole-3.new.out) c.write_whole-3.result
    c.in_ok-write_whole.ensures.taken c.in_ok-write_whole-2.ensures.taken c.write_whole-3.ensures.taken

pub returns-clause-failures : goal.returns-clause-failures
returns-clause-failures g c =
    subst (λ (n : ℕ). Fails n (g.W.Out.failures c.write_whole-3.new.out) c.write_whole-3.result)
    (c.in_ok-write_whole-2.ensures.failures ∙ c.in_ok-write_whole.ensures.failures) c.write_whole-3.ensures.failures
