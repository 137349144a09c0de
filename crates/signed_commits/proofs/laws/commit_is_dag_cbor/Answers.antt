use Rattle.signed_commits.proofs.Values.{commit-is_dag_cbor}
use Rattle.signed_commits.proofs.laws.commit_is_dag_cbor.Goals as goal

pub returns : goal.returns
returns c = commit-is_dag_cbor
