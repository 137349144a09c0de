use Rattle.spec.proofs.NodeValues.{header-spelling}
use Rattle.spec.proofs.laws.cars.header_is_dag_cbor.Goals as goal

pub returns : goal.returns
returns c = header-spelling
