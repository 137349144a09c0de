use Rattle.signed_commits.specs.Views.{commit_of}
use Rattle.spec.specs.States.{fresh}
use Rattle.repository_check.specs.Views.{records_of}
use Rattle.checked_opening.specs.Opening.{creates, stamp_in}
use Rattle.tizulgech.proofs.FromFiles.{opened_cause, opened_many}
use Rattle.tizulgech.proofs.opening_files.open_found.Goals as goal

pub returns-clause-many : goal.returns-clause-many
returns-clause-many c e =
    opened_many c.code_of_opened.result (fresh 0 c.args.limit) (stamp_in (commit_of c.args.found.now.commit)) (records_of c.args.found.now) _ _
    c.in-Err.fault c.code_of_opened.ensures.number c.in-Err.ensures.fault e

pub returns-clause-cause : goal.returns-clause-cause
returns-clause-cause c =
    opened_cause c.code_of_opened.result (fresh 0 c.args.limit) (stamp_in (commit_of c.args.found.now.commit)) (creates (records_of c.args.found.now)) _ _
    c.in-Err.fault c.code_of_opened.ensures.number c.in-Err.ensures.fault c.in-Err.ensures.full
