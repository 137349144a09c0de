use Rattle.std.proofs.Common.{◌≡◌, subst}
use Rattle.std.specs.Prelude.{IfOk}
use Rattle.sha2.specs.Sha256.{sha256}
use Rattle.spec.specs.Car.{header}
use Rattle.spec.specs.Commits.{car_root}
use Rattle.spec.specs.States.{State, state_commit, state_root}
use Rattle.tizulgech.proofs.sections.head_bytes.Goals as goal

pub returns : goal.returns
returns c = subst (λ (s : State). IfOk c.car_head.result (λ head. head.items ≡ header (car_root (state_commit sha256 2 s) (state_root sha256 2 s)))) c.core.ensures c.car_head.ensures
