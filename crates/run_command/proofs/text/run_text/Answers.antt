use Rattle.run_command.proofs.Ending.{ended}
use Rattle.run_command.proofs.text.run_text.Goals as goal

pub returns-clause-outcome : goal.returns-clause-outcome
returns-clause-outcome g c =
    ended g.row.D.Denot g.D.Digest.digest_of c.args.settings.now c.args.did.now (g.R.Read.remaining c.args.input.now) (g.W.Write.contents c.args.out.now) (g.W.Write.contents c.write_made.new.out)
    c.report_made-made.result c.write_made.result c.report_made-made.ensures.report c.report_made-made.ensures.fault c.write_made.ensures
