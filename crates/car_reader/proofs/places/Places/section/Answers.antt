use Rattle.std.proofs.Common.{◌≡◌, ◌∙◌, ap, arith}
use Rattle.std.specs.declared.option.Option.TheVariants.{Some}
use Rattle.std.specs.HashMap.{get}
use Rattle.spec.specs.CarReading.{section_with}
use Rattle.cid.specs.CidRef.{bytes_of}
use Rattle.car_reader.specs.Maps.{is_same}
use Rattle.car_reader.specs.Views.{sections_of}
use Rattle.std.proofs.lemmas.Grind.{common_steps}
use Rattle.car_reader.proofs.Mapping.{section-first, looked-up}
use Rattle.car_reader.proofs.places.Places.section.Goals as goal

pub returns-in_err-place : goal.returns-in_err-place
returns-in_err-place g c =
    let p = c.self.invariant.placed c.from.result in
    let f = section-first (bytes_of c.from.result) c.self.inside.sections.now in
    let lent = c.from.ensures in
    let v = c.self.view_is in
    grind (arith, common_steps, p, f, v, lent)

pub returns : goal.returns
returns g c =
    let ss = c.self.inside.sections.now in
    let n = c.in_ok-place.field-0.now in
    let q = bytes_of c.from.result in
    let got : get is_same c.self.inside.places c.from.result ≡ Some n = (let v = c.in_ok-place.ensures.value in cc) in
    let seen : sections_of ss ≡ c.args.self.now = (let v = c.self.view_is in cc) in
    looked-up ss n q (get is_same c.self.inside.places c.from.result) c.get-2.result c.args.self.now c.get-2.ensures.lookup.0 c.get-2.ensures.lookup.1
    (c.self.invariant.placed c.from.result) got seen
    ∙ ap (λ q. section_with q c.args.self.now) c.from.ensures
