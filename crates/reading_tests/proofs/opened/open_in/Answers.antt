use Rattle.sha2.specs.Sha256.{sha256}
use Rattle.signed_commits.specs.Views.{commit_of}
use Rattle.repository_check.specs.Views.{records_of}
use Rattle.checked_opening.proofs.Openable.{export-openable}
use Rattle.reading_tests.proofs.opened.open_in.Goals as goal

pub open_found-requires-clause-openable : goal.open_found-requires-clause-openable
open_found-requires-clause-openable c =
    export-openable sha256 2 c.args.file.now (commit_of c.in-Ok.found.commit) (records_of c.in-Ok.found) c.in-Ok.ensures.export
