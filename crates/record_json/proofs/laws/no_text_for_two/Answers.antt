use Rattle.record_json.proofs.ReadsBack.{no_text_for_two}
use Rattle.record_json.proofs.laws.no_text_for_two.Goals as goal

pub returns : goal.returns
returns c = no_text_for_two
