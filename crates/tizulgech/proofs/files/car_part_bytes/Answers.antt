use Rattle.std.proofs.Common.{◌≡◌, subst}
use Rattle.std.specs.Prelude.{IfOk}
use Rattle.sha2.specs.Sha256.{sha256}
use Rattle.spec.specs.States.{State, state_car}
use Rattle.export.specs.Windows.{part_of}
use Rattle.tizulgech.proofs.files.car_part_bytes.Goals as goal

pub returns : goal.returns
returns c = subst (λ (s : State). IfOk c.car_part.result (λ part. part.items ≡ part_of c.args.from c.args.room (state_car sha256 2 s))) c.core.ensures c.car_part.ensures
