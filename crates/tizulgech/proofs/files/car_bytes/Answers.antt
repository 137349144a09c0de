use Rattle.std.proofs.Common.{◌∙◌, ◌++◌, ap}
use Rattle.sha2.specs.Sha256.{sha256}
use Rattle.spec.specs.States.{State, state_car}
use Rattle.export.specs.Outs.{Filling}
use Rattle.tizulgech.proofs.files.car_bytes.Goals as goal

pub returns-in-Ok : goal.returns-in-Ok
returns-in-Ok c = c.into_bytes.ensures ∙ c.in-Ok.ensures.taken ∙ ap (λ (f : Filling). f.taken ++ state_car sha256 2 c.core.result.now) c.new-file.ensures ∙ ap (λ (s : State). state_car sha256 2 s) c.core.ensures
