use Rattle.std.proofs.Common.{◌≡◌, subst}
use Rattle.std.specs.Prelude.{IfOk, option_map}
use Rattle.sha2.specs.Sha256.{sha256}
use Rattle.spec.specs.Car.{section}
use Rattle.spec.specs.States.{State}
use Rattle.repo.specs.Readings.{state_block}
use Rattle.tizulgech.proofs.sections.section_bytes.Goals as goal

pub returns : goal.returns
returns c = subst (λ (s : State). IfOk c.car_section.result (λ found. option_map (λ bytes. bytes.items) found ≡ option_map (section sha256) (state_block sha256 2 s c.args.cid.now))) c.core.ensures c.car_section.ensures
