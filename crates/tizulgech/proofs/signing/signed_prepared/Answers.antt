use Rattle.event_writing.specs.Views.{told_of}
use Rattle.tizulgech.proofs.SignedBatches.{prepared_cause, prepared_fault}
use Rattle.tizulgech.proofs.signing.signed_prepared.Goals as goal

pub returns-in-Err-clause-answer : goal.returns-in-Err-clause-answer
returns-in-Err-clause-answer c =
    prepared_fault c.tell_signing.result c.tell_signing.new.place c.args.out.now c.args.out.now c.args.size.now c.args.prepared
    (told_of c.args.told.now) c.in-Err.fault c.in-Err.ensures.fault c.tell_signing.ensures.told

pub returns-in-Err-clause-cause : goal.returns-in-Err-clause-cause
returns-in-Err-clause-cause c =
    prepared_cause c.tell_signing.result c.tell_signing.new.place c.args.out.now c.args.out.now c.args.size.now c.args.prepared
    (told_of c.args.told.now) c.in-Err.fault c.in-Err.ensures.fault c.tell_signing.ensures.told c.tell_signing.ensures.plain
