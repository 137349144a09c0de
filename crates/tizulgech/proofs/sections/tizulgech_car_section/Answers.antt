use Rattle.std.specs.Prelude.{option_map}
use Rattle.sha2.specs.Sha256.{sha256}
use Rattle.spec.specs.Car.{section}
use Rattle.repo.specs.Readings.{state_block}
use Rattle.buffers.specs.Framing.{cid_at}
use Rattle.owned_repo.specs.Owning.{Owned}
use Rattle.tizulgech.specs.Parting.{IsSectionOf}
use Rattle.tizulgech.proofs.Shown.{shown}
use Rattle.tizulgech.proofs.sections.tizulgech_car_section.Goals as goal

pub returns-clause-section : goal.returns-clause-section
returns-clause-section c = shown (λ (o : Owned). IsSectionOf c.section_in-code.result (λ d. option_map (section sha256) (state_block sha256 2 o.state d)) (cid_at c.args.cid.now) c.args.out.now c.section_in-code.new.out c.section_in-code.new.size)
    _ c.in-Some.repo.value c.deref.result.now c.in-Some.ensures.taken c.deref.ensures c.section_in-code.ensures.answer
