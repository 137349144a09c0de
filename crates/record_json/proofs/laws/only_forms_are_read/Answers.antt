use Rattle.record_json.proofs.Formed.{read-form, read-map}
use Rattle.record_json.proofs.laws.only_forms_are_read.Goals as goal

pub returns : goal.returns
returns c = λ s v e. (read-form s v e, read-map s v e)
