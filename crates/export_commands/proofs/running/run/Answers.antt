use Rattle.export_commands.proofs.Endings.{done-status, failed-status}
use Rattle.export_commands.proofs.running.run.Goals as goal

pub returns-in-Ok-clause-status : goal.returns-in-Ok-clause-status
returns-in-Ok-clause-status g c =
    done-status g.D.Digest.digest_of c.args.command (g.R.Read.remaining c.args.input.now) (g.R.Read.remaining c.export_text.new.input)
    (g.W.Write.contents c.args.out.now) (g.W.Write.contents c.export_text.new.out) (g.W.Write.contents c.done.new.out) c.done.result
    c.in-Ok.ensures c.done.ensures.kept c.done.ensures.status

pub returns-in-Err-clause-status : goal.returns-in-Err-clause-status
returns-in-Err-clause-status g c =
    failed-status g.D.Digest.digest_of c.args.command (g.R.Read.remaining c.args.input.now) (g.R.Read.remaining c.export_text.new.input)
    (g.W.Write.contents c.args.out.now) (g.W.Write.contents c.export_text.new.out) c.in-Err.fault c.failed.result c.in-Err.ensures c.failed.ensures
