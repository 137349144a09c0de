use Rattle.std.proofs.Common.{refl}
use Rattle.sha2.specs.Sha256.{sha256}
use Rattle.signed_commits.specs.Views.{commit_of}
use Rattle.repository_check.specs.Views.{records_of}
use Rattle.checked_opening.proofs.Openable.{export-openable}
use Rattle.tizulgech.proofs.Checking.{no_export, place_kept}
use Rattle.tizulgech.proofs.FromFiles.{file_cause, file_not, file_other, file_some}
use Rattle.tizulgech.proofs.opening_files.tizulgech_open_car.Goals as goal

pub open_found-requires-clause-openable : goal.open_found-requires-clause-openable
open_found-requires-clause-openable c =
    export-openable sha256 2 c.args.file.now (commit_of c.in-Ok.found.commit) (records_of c.in-Ok.found) c.in-Ok.ensures.export

pub returns-in-Ok-clause-opened : goal.returns-in-Ok-clause-opened
returns-in-Ok-clause-opened c e = record {
  commit = commit_of c.in-Ok.found.commit;
  found = records_of c.in-Ok.found;
  export = c.in-Ok.ensures.export;
  repo_is = c.open_found.ensures.opened e;
}

pub returns-in-Ok-clause-many : goal.returns-in-Ok-clause-many
returns-in-Ok-clause-many c e = record {
  commit = commit_of c.in-Ok.found.commit;
  found = records_of c.in-Ok.found;
  export = c.in-Ok.ensures.export;
  many = c.open_found.ensures.many e;
}

pub returns-in-Err-clause-opened : goal.returns-in-Err-clause-opened
returns-in-Err-clause-opened c e = absurd (file_not c.in-Err.fault _ 0 c.tell_check.ensures.number refl e)

pub returns-in-Err-clause-many : goal.returns-in-Err-clause-many
returns-in-Err-clause-many c e = absurd (file_not c.in-Err.fault _ 25 c.tell_check.ensures.number refl e)

pub returns-in-Err-clause-fault : goal.returns-in-Err-clause-fault
returns-in-Err-clause-fault c is =
    no_export _ _ c.args.place.now _ c.in-Err.fault c.in-Err.ensures.fault c.tell_check.ensures.number c.tell_check.ensures.place (file_some _ is)

pub returns-in-Err-clause-other : goal.returns-in-Err-clause-other
returns-in-Err-clause-other c _ _ _ _ _ differs = file_other c.in-Err.fault _ c.tell_check.ensures.number differs

pub returns-in-Err-clause-place : goal.returns-in-Err-clause-place
returns-in-Err-clause-place c n = place_kept c.in-Err.fault _ _ _ c.tell_check.ensures.number c.tell_check.ensures.place n

pub returns-in-Err-clause-cause : goal.returns-in-Err-clause-cause
returns-in-Err-clause-cause c = file_cause c.in-Err.fault _ c.tell_check.ensures.number
