use Rattle.run_command.proofs.Ending.{exited}
use Rattle.run_command.proofs.running.run.Goals as goal

pub returns-clause-status : goal.returns-clause-status
returns-clause-status g c =
    exited g.row.D.Denot g.D.Digest.digest_of c.args.command.settings c.args.command.did.now c.as_bytes.result.now (g.R.Read.remaining c.args.input.now) (g.W.Write.contents c.args.out.now) _ _ c.run_text-ended.result c.status_of.result
    c.as_bytes.ensures.value c.run_text-ended.ensures.outcome c.status_of.ensures.status
