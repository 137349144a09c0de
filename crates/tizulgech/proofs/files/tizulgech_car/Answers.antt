use Rattle.sha2.specs.Sha256.{sha256}
use Rattle.spec.specs.States.{state_car}
use Rattle.owned_repo.specs.Owning.{Owned}
use Rattle.tizulgech.specs.Numbers.{IsHandedOr255}
use Rattle.tizulgech.proofs.Shown.{shown}
use Rattle.tizulgech.proofs.files.tizulgech_car.Goals as goal

pub returns-clause-car : goal.returns-clause-car
returns-clause-car c = shown (λ (o : Owned). IsHandedOr255 c.car_handed-code.result (state_car sha256 2 o.state) c.args.out.now c.car_handed-code.new.out c.car_handed-code.new.size)
    _ c.in-Some.repo.value c.deref.result.now c.in-Some.ensures.taken c.deref.ensures c.car_handed-code.ensures.answer
