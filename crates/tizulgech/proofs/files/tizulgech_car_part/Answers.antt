use Rattle.sha2.specs.Sha256.{sha256}
use Rattle.std.specs.Prelude.{length}
use Rattle.spec.specs.States.{state_car}
use Rattle.export.specs.Windows.{part_of}
use Rattle.tizulgech.specs.Numbers.{IsHandedOr255}
use Rattle.owned_repo.specs.Owning.{Owned}
use Rattle.tizulgech.proofs.Shown.{shown}
use Rattle.tizulgech.proofs.files.tizulgech_car_part.Goals as goal

pub returns-clause-part : goal.returns-clause-part
returns-clause-part c = shown (λ (o : Owned). IsHandedOr255 c.car_part_told-code.result (part_of c.args.from (length c.args.out.now) (state_car sha256 2 o.state)) c.args.out.now c.car_part_told-code.new.out c.car_part_told-code.new.size)
    _ c.in-Some.repo.value c.deref.result.now c.in-Some.ensures.taken c.deref.ensures c.car_part_told-code.ensures.answer
