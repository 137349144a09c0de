use Rattle.std.proofs.Common.{◌∙◌}
use Rattle.std.specs.Prelude.{string_bytes}
use Rattle.tizulgech.proofs.Texts.{no_record, record_read}
use Rattle.tizulgech.proofs.record_texts.tizulgech_json_record.Goals as goal

pub returns-in-Ok-clause-read : goal.returns-in-Ok-clause-read
returns-in-Ok-clause-read c p =
    let is = c.in-Ok.ensures in record_read is.0 _ c.deref.result.now _ _ _ _ is.1 (c.deref.ensures.value ∙ is.2) c.hand.ensures.handed

pub returns-in-Err-clause-read : goal.returns-in-Err-clause-read
returns-in-Err-clause-read c p =
    no_record c.in-Err.fault.kind (string_bytes c.in-Err.fault.path) _ _ _ _ _ c.in-Err.ensures c.tell_fault.ensures.number p (c.tell_fault.ensures.told p)
