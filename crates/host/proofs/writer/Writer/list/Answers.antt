use Rattle.std.proofs.Common.{rules, ◌∙◌, ◌<◌, ◌≤◌, arith, ap, subst}
use Rattle.lookups.specs.Walks.{pairs_given}
use Rattle.host.specs.Seeing.{IsListed}
use Rattle.host.specs.Views.{WriterView, with_seen}
use Rattle.host.specs.Seeing.{Wanted}
use Rattle.host.proofs.Wanting.{wanted_is}
use Rattle.host.proofs.writer.Writer.list.Goals as goal

pub repos-requires : goal.repos-requires
repos-requires g c = c.element.ensures.fits

pub pairs-requires : goal.pairs-requires
pairs-requires g c = (c.element.ensures.fits, search rules)

pub returns-in-Ok-clause-found : goal.returns-in-Ok-clause-found
returns-in-Ok-clause-found g c =
    let n = c.in-Ok.number in
    let same = wanted_is c.args.self.now c.self.inside.host.now c.self.inside.seen.items c.args.repo c.index.result.now (search rules) (search rules) (search rules) c.index.ensures in (
      n,
      subst (λ (w : Wanted). IsListed g.D.Digest.digest_of w c.args.from.now c.args.limit n (pairs_given c.in-Ok.pairs.items)) same c.in-Ok.ensures,
      ap (λ (w : WriterView). with_seen w c.args.repo n) c.self.view_is,
    )

pub returns-then-repo-repos-clause-fault : goal.returns-then-repo-repos-clause-fault
returns-then-repo-repos-clause-fault g c = subst (λ n. n ≤ c.args.repo) (c.repos.ensures.repos ∙ ap (λ (w : WriterView). w.host.repos) c.self.view_is) c.if-repo-repos.true

pub returns-in-Ok-clause-missing : goal.returns-in-Ok-clause-missing
returns-in-Ok-clause-missing g c h =
    let less : c.args.repo < c.args.self.now.host.repos = subst (λ n. c.args.repo < n) (c.repos.ensures.repos ∙ ap (λ (w : WriterView). w.host.repos) c.self.view_is) c.if-repo-repos.false in
    absurd (omega (arith, h, less))

pub returns-in-Err-clause-fault : goal.returns-in-Err-clause-fault
returns-in-Err-clause-fault g c = subst (λ n. c.args.repo < n) (c.repos.ensures.repos ∙ ap (λ (w : WriterView). w.host.repos) c.self.view_is) c.if-repo-repos.false

pub returns-in-Err-clause-missing : goal.returns-in-Err-clause-missing
returns-in-Err-clause-missing g c h =
    let less : c.args.repo < c.args.self.now.host.repos = subst (λ n. c.args.repo < n) (c.repos.ensures.repos ∙ ap (λ (w : WriterView). w.host.repos) c.self.view_is) c.if-repo-repos.false in
    absurd (omega (arith, h, less))
