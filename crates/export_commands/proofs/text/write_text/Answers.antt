use Rattle.signed_commits.specs.Views.{commit_of}
use Rattle.repository_check.specs.Views.{records_of}
use Rattle.export_commands.proofs.Endings.{outcome-of-told}
use Rattle.export_commands.proofs.text.write_text.Goals as goal

pub returns-in-Ok : goal.returns-in-Ok
returns-in-Ok g c =
    let found = c.in-Ok.found in
    outcome-of-told g.D.Digest.digest_of c.args.command c.args.file.now (commit_of found.commit) (records_of found) c.in-Ok.ensures.export
    (g.W.Write.contents c.args.out.now) (g.W.Write.contents c.write_told.new.out) c.write_told.result c.write_told.ensures
