use Rattle.std.proofs.Common.{rules}
use Rattle.car_reader.specs.Views.{car_of}
use Rattle.repository_check.proofs.Spelled.{named-car}
use Rattle.repository_check.proofs.opening.named_car.Goals as goal

pub returns-in-Ok-clause-spelled : goal.returns-in-Ok-clause-spelled
returns-in-Ok-clause-spelled g c =
    named-car g.D.Digest.digest_of c.args.file.now (car_of c.in-Ok.car) c.in_ok-are_named-in-Ok.field-0 c.are_bytes.ensures.bytes
    c.in-Ok.ensures (search rules) (search rules)
