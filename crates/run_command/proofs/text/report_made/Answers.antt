use Rattle.run_command.proofs.Ending.{reported, unreported}
use Rattle.run_command.proofs.text.report_made.Goals as goal

pub returns-clause-report : goal.returns-clause-report
returns-clause-report g c =
    reported g.row.D.Denot g.D.Digest.digest_of c.args.settings.now c.args.did.now (g.R.Read.remaining c.args.input.now) c.in_ok-lines.lines.items c.deref.result.now
    c.in_ok-check_did.ensures.lawful c.in_ok-lines.ensures.script c.deref.ensures.value c.report_of_lines.result c.report_of_lines.ensures.report

pub returns-clause-fault : goal.returns-clause-fault
returns-clause-fault g c =
    unreported g.row.D.Denot g.D.Digest.digest_of c.args.settings.now c.args.did.now (g.R.Read.remaining c.args.input.now) c.in_ok-lines.lines.items c.deref.result.now
    c.in_ok-check_did.ensures.lawful c.in_ok-lines.ensures.script c.deref.ensures.value c.report_of_lines.result c.report_of_lines.ensures.uneven c.report_of_lines.ensures.kind
