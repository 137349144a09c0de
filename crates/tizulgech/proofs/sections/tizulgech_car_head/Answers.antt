use Rattle.sha2.specs.Sha256.{sha256}
use Rattle.spec.specs.Car.{header}
use Rattle.spec.specs.Commits.{car_root}
use Rattle.spec.specs.States.{state_commit, state_root}
use Rattle.owned_repo.specs.Owning.{Owned}
use Rattle.tizulgech.specs.Numbers.{IsHandedOr255}
use Rattle.tizulgech.proofs.Shown.{shown}
use Rattle.tizulgech.proofs.sections.tizulgech_car_head.Goals as goal

pub returns-clause-head : goal.returns-clause-head
returns-clause-head c = shown (λ (o : Owned). IsHandedOr255 c.head_told-code.result (header (car_root (state_commit sha256 2 o.state) (state_root sha256 2 o.state))) c.args.out.now c.head_told-code.new.out c.head_told-code.new.size)
    _ c.in-Some.repo.value c.deref.result.now c.in-Some.ensures.taken c.deref.ensures c.head_told-code.ensures.answer
