use Rattle.std.proofs.Common.{rules, subst, sym, ap, ◌∙◌, ◌<◌, ◌≤◌, arith}
use Rattle.host.specs.Seeing.{wanted_of}
use Rattle.host.specs.Views.{WriterView, with_seen}
use Rattle.host.specs.Versions.{IsVersion, IsOfState}
use Rattle.host.specs.Seeing.{Wanted}
use Rattle.host.proofs.Wanting.{wanted_is}
use Rattle.host.proofs.writer.Writer.publish.Goals as goal

pub repos-requires : goal.repos-requires
repos-requires g c = c.element.ensures.fits

pub version_from-requires : goal.version_from-requires
version_from-requires g c = (c.element.ensures.fits, search rules)

pub publish-requires : goal.publish-requires
publish-requires g c = (c.element.ensures.fits, search rules)

pub returns-in-Ok-publish-clause-lawful : goal.returns-in-Ok-publish-clause-lawful
returns-in-Ok-publish-clause-lawful g c =
    subst (IsVersion g.D.Digest.digest_of g.row.B) (sym c.in-Ok-publish.ensures.value) c.in-Ok.ensures.lawful

pub returns-in-Ok-publish-clause-state : goal.returns-in-Ok-publish-clause-state
returns-in-Ok-publish-clause-state g c =
    let value = c.in-Ok-publish.receipt.value in
    let same = wanted_is c.args.self.now c.self.inside.host.now c.self.inside.seen.items c.args.repo c.index.result.now (search rules) (search rules) (search rules) c.index.ensures in
    let here = subst (IsOfState g.D.Digest.digest_of g.row.B (wanted_of c.self.inside.host.now c.args.repo c.index.result.now)) (sym c.in-Ok-publish.ensures.value) c.in-Ok.ensures.state in
    subst (λ (w : Wanted). IsOfState g.D.Digest.digest_of g.row.B w value) same here

pub returns-then-repo-repos-clause-fault : goal.returns-then-repo-repos-clause-fault
returns-then-repo-repos-clause-fault g c = subst (λ n. n ≤ c.args.repo) (c.repos.ensures.repos ∙ ap (λ (w : WriterView). w.host.repos) c.self.view_is) c.if-repo-repos.true

pub returns-in_default-clause-fault : goal.returns-in_default-clause-fault
returns-in_default-clause-fault g c = subst (λ n. c.args.repo < n) (c.repos.ensures.repos ∙ ap (λ (w : WriterView). w.host.repos) c.self.view_is) c.if-repo-repos.false

pub returns-in_default-clause-missing : goal.returns-in_default-clause-missing
returns-in_default-clause-missing g c h =
    let less : c.args.repo < c.args.self.now.host.repos = subst (λ n. c.args.repo < n) (c.repos.ensures.repos ∙ ap (λ (w : WriterView). w.host.repos) c.self.view_is) c.if-repo-repos.false in
    absurd (omega (arith, h, less))

pub returns-in-Ok-publish-clause-seen : goal.returns-in-Ok-publish-clause-seen
returns-in-Ok-publish-clause-seen g c =
    ap (λ (w : WriterView). with_seen w c.args.repo c.in-Ok.version.number) c.self.view_is
    ∙ (λ i. with_seen c.args.self.now c.args.repo (sym c.in-Ok-publish.ensures.value i).number)

pub returns-in-Ok-publish-clause-missing : goal.returns-in-Ok-publish-clause-missing
returns-in-Ok-publish-clause-missing g c h =
    let less : c.args.repo < c.args.self.now.host.repos = subst (λ n. c.args.repo < n) (c.repos.ensures.repos ∙ ap (λ (w : WriterView). w.host.repos) c.self.view_is) c.if-repo-repos.false in
    absurd (omega (arith, h, less))

pub returns-clause-fault : goal.returns-clause-fault
returns-clause-fault g c = subst (λ n. c.args.repo < n) (c.repos.ensures.repos ∙ ap (λ (w : WriterView). w.host.repos) c.self.view_is) c.if-repo-repos.false

pub returns-clause-missing : goal.returns-clause-missing
returns-clause-missing g c h =
    let less : c.args.repo < c.args.self.now.host.repos = subst (λ n. c.args.repo < n) (c.repos.ensures.repos ∙ ap (λ (w : WriterView). w.host.repos) c.self.view_is) c.if-repo-repos.false in
    absurd (omega (arith, h, less))
