use Rattle.spec.proofs.BatchLaws.{each-lawful, lawful-each}
use Rattle.spec.proofs.laws.writes.lawful_is_each_on_those_before.Goals as goal

pub returns : goal.returns
returns c = λ ws. (each-lawful ws, lawful-each ws)
