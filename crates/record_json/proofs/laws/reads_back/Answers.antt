use Rattle.record_json.proofs.ReadsBack.{value_of_json-json_of}
use Rattle.record_json.proofs.laws.reads_back.Goals as goal

pub returns : goal.returns
returns c = value_of_json-json_of
