use Rattle.std.proofs.Common.{◌≡◌, length, rules}
use Rattle.signed_commits.specs.Views.{commit_of}
use Rattle.tizulgech.proofs.Checking.{export_checked, fault_checked, no_export, place_kept}
use Rattle.tizulgech.proofs.checked_files.tizulgech_check_car.Goals as goal

pub returns-in-Ok-clause-checked : goal.returns-in-Ok-clause-checked
returns-in-Ok-clause-checked c p =
    let many : c.len.result ≡ length c.in-Ok.found.records.items = search rules in
    export_checked _ _ _ _ _ _ (commit_of c.in-Ok.found.commit) c.in-Ok.found.records.items c.len.result c.in-Ok.ensures.export many
    c.export_told.ensures.told p

pub returns-in-Err-clause-checked : goal.returns-in-Err-clause-checked
returns-in-Err-clause-checked c p =
    fault_checked _ _ c.args.place.now _ _ _ _ (no_export _ _ c.args.place.now _ c.in-Err.fault c.in-Err.ensures.fault c.tell_check.ensures.number
    c.tell_check.ensures.place p)

pub returns-in-Err-clause-place : goal.returns-in-Err-clause-place
returns-in-Err-clause-place c n = place_kept c.in-Err.fault _ _ _ c.tell_check.ensures.number c.tell_check.ensures.place n
