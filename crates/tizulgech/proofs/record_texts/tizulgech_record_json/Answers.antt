use Rattle.tizulgech.proofs.Texts.{no_value}
use Rattle.tizulgech.proofs.record_texts.tizulgech_record_json.Goals as goal

pub returns-in-Err-clause-json : goal.returns-in-Err-clause-json
returns-in-Err-clause-json c p = no_value c.in-Err.fault _ _ _ _ _ c.in-Err.ensures.read c.fault_of_record.ensures p
