use Rattle.std.proofs.Common.{rules, ◌<◌, arith, length, sym, subst, IfOk, IfErr}
use Rattle.host.specs.Views.{WriterView}
use Rattle.host.specs.Rooting.{IsTaken, IsUntaken}
use Rattle.host.specs.Seeing.{Wanted}
use Rattle.host.proofs.Wanting.{wanted_is}
use Rattle.host.proofs.writer.Writer.taken.Goals as goal

pub apply-requires : goal.apply-requires
apply-requires g c = (c.element.ensures.fits, subst (λ (w : WriterView). c.args.repo < w.host.repos) (sym c.self.view_is) c.requires)

pub returns-clause-accepted : goal.returns-clause-accepted
returns-clause-accepted g c =
    let here : c.args.repo < c.self.inside.host.now.repos = subst (λ (w : WriterView). c.args.repo < w.host.repos) (sym c.self.view_is) c.requires in
    let places = c.self.invariant.places in
    let place : c.args.repo < length c.self.inside.seen.items = omega (arith, here, places) in
    let same = wanted_is c.args.self.now c.self.inside.host.now c.self.inside.seen.items c.args.repo c.index.result.now (search rules) (search rules) place c.index.ensures in
    subst (λ (w : Wanted). IfOk c.apply.result (IsTaken g.D.Digest.digest_of g.row.B w c.args.root c.args.stamp.now c.args.writes.now)) same c.apply.ensures.accepted

pub returns-clause-refused : goal.returns-clause-refused
returns-clause-refused g c =
    let here : c.args.repo < c.self.inside.host.now.repos = subst (λ (w : WriterView). c.args.repo < w.host.repos) (sym c.self.view_is) c.requires in
    let places = c.self.invariant.places in
    let place : c.args.repo < length c.self.inside.seen.items = omega (arith, here, places) in
    let same = wanted_is c.args.self.now c.self.inside.host.now c.self.inside.seen.items c.args.repo c.index.result.now (search rules) (search rules) place c.index.ensures in
    subst (λ (w : Wanted). IfErr c.apply.result (IsUntaken g.D.Digest.digest_of g.row.B w c.args.root c.args.stamp.now c.args.writes.now)) same c.apply.ensures.refused

pub index-requires : goal.index-requires
index-requires g c =
    let here : c.args.repo < c.self.inside.host.now.repos = subst (λ (w : WriterView). c.args.repo < w.host.repos) (sym c.self.view_is) c.requires in
    let places = c.self.invariant.places in
    let place : c.args.repo < length c.self.inside.seen.items = omega (arith, here, places) in
    search (place, rules)
