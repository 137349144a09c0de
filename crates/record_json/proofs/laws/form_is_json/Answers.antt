use Rattle.record_json.proofs.Trees.{document-json_of}
use Rattle.record_json.proofs.laws.form_is_json.Goals as goal

pub returns : goal.returns
returns c = document-json_of
