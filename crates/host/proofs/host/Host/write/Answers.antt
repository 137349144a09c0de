use Rattle.std.proofs.Common.{◌≡◌, ap, refl, subst}
use denote.Param.{layout, param, number}
use Rattle.repo.specs.contracts.repository.Repository as repository
use Rattle.fitting.proofs.Sizes.{core_fits}
use Rattle.host.specs.Seeing.{IsSeen, Wanted, wanted_of}
use Rattle.host.specs.Views.{HostView}
use Rattle.host.proofs.host.Host.write.Goals as goal

pub is_wanted-requires : goal.is_wanted-requires
is_wanted-requires g c =
    core_fits (layout (repository.the_row (param 0 g.row.D) (number g.row.B) (param 2 g.row.A) g.D.Digest g.A.Allocator)) c.element-repository.ensures.fits

pub returns-then-is_wanted : goal.returns-then-is_wanted
returns-then-is_wanted g c =
    let limit = ap (λ (h : HostView). h.limit) c.self.view_is in
    let wanted : record { repo = c.args.repo; limit = c.self.inside.limit; seen = c.args.seen } ≡ wanted_of c.args.self.now c.args.repo c.args.seen = λ i. record { repo = c.args.repo; limit = limit i; seen = c.args.seen } in
    let met = subst (λ (w : Wanted). IsSeen w c.deref-in-loop.result.now) wanted (c.if-is_wanted.ensures.0 refl) in
    subst (IsSeen (wanted_of c.args.self.now c.args.repo c.args.seen)) c.deref-in-loop.ensures met
