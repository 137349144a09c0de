use Rattle.std.proofs.Common.{sym, subst, ◌∙◌}
use Rattle.tree_command.specs.Outcomes.{IsOutcome}
use Rattle.tree_command.specs.TreeText.{tree_text}
use Rattle.tree_command.proofs.options.tree_text_with.Goals as goal

pub returns-in-1 : goal.returns-in-1
returns-in-1 g c = subst (λ n. IsOutcome (tree_text c.args.options.keys g.D.Digest.digest_of n) (g.R.Read.remaining c.args.input.now)
    (g.R.Read.remaining c.tree_text.new.input) (g.W.Write.contents c.args.out.now) (g.W.Write.contents c.tree_text.new.out) c.tree_text.result)
    (sym c.in-1.is ∙ c.number.ensures) c.tree_text.ensures

pub returns-in-2 : goal.returns-in-2
returns-in-2 g c = subst (λ n. IsOutcome (tree_text c.args.options.keys g.D.Digest.digest_of n) (g.R.Read.remaining c.args.input.now)
    (g.R.Read.remaining c.tree_text-in-2.new.input) (g.W.Write.contents c.args.out.now) (g.W.Write.contents c.tree_text-in-2.new.out) c.tree_text-in-2.result)
    (sym c.in-2.is ∙ c.number.ensures) c.tree_text-in-2.ensures

pub returns-in-3 : goal.returns-in-3
returns-in-3 g c = subst (λ n. IsOutcome (tree_text c.args.options.keys g.D.Digest.digest_of n) (g.R.Read.remaining c.args.input.now)
    (g.R.Read.remaining c.tree_text-in-3.new.input) (g.W.Write.contents c.args.out.now) (g.W.Write.contents c.tree_text-in-3.new.out) c.tree_text-in-3.result)
    (sym c.in-3.is ∙ c.number.ensures) c.tree_text-in-3.ensures

pub returns-in-4 : goal.returns-in-4
returns-in-4 g c = subst (λ n. IsOutcome (tree_text c.args.options.keys g.D.Digest.digest_of n) (g.R.Read.remaining c.args.input.now)
    (g.R.Read.remaining c.tree_text-in-4.new.input) (g.W.Write.contents c.args.out.now) (g.W.Write.contents c.tree_text-in-4.new.out) c.tree_text-in-4.result)
    (sym c.in-4.is ∙ c.number.ensures) c.tree_text-in-4.ensures

pub returns-in-5 : goal.returns-in-5
returns-in-5 g c = subst (λ n. IsOutcome (tree_text c.args.options.keys g.D.Digest.digest_of n) (g.R.Read.remaining c.args.input.now)
    (g.R.Read.remaining c.tree_text-in-5.new.input) (g.W.Write.contents c.args.out.now) (g.W.Write.contents c.tree_text-in-5.new.out) c.tree_text-in-5.result)
    (sym c.in-5.is ∙ c.number.ensures) c.tree_text-in-5.ensures

pub returns-in-6 : goal.returns-in-6
returns-in-6 g c = subst (λ n. IsOutcome (tree_text c.args.options.keys g.D.Digest.digest_of n) (g.R.Read.remaining c.args.input.now)
    (g.R.Read.remaining c.tree_text-in-6.new.input) (g.W.Write.contents c.args.out.now) (g.W.Write.contents c.tree_text-in-6.new.out) c.tree_text-in-6.result)
    (sym c.in-6.is ∙ c.number.ensures) c.tree_text-in-6.ensures

pub returns-in-7 : goal.returns-in-7
returns-in-7 g c = subst (λ n. IsOutcome (tree_text c.args.options.keys g.D.Digest.digest_of n) (g.R.Read.remaining c.args.input.now)
    (g.R.Read.remaining c.tree_text-in-7.new.input) (g.W.Write.contents c.args.out.now) (g.W.Write.contents c.tree_text-in-7.new.out) c.tree_text-in-7.result)
    (sym c.in-7.is ∙ c.number.ensures) c.tree_text-in-7.ensures
