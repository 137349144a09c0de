use Rattle.std.proofs.Common.{◌∙◌, ap}
use Rattle.sha2.specs.Sha256.{sha256}
use Rattle.spec.specs.States.{State}
use Rattle.export.specs.Exports.{car_length}
use Rattle.tizulgech.proofs.files.car_length_told.Goals as goal

pub returns-in-Ok-clause-length : goal.returns-in-Ok-clause-length
returns-in-Ok-clause-length c _ = c.in-Ok.ensures ∙ ap (λ (s : State). car_length sha256 2 s) c.core.ensures
