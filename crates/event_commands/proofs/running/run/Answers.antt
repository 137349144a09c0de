use Rattle.event_commands.proofs.Endings.{early_status, faulty_of}
use Rattle.event_commands.specs.Commands.{reasons_of, texts_of}
use Rattle.event_commands.proofs.running.run.Goals as goal

pub returns-clause-faulty : goal.returns-clause-faulty
returns-clause-faulty g c =
    let digest = g.D.Digest.digest_of in
    faulty_of (texts_of digest c.args.command) (reasons_of digest c.args.command) (g.R.Read.remaining c.args.input.now) (g.W.Write.contents c.args.out.now)
    (g.W.Write.contents c.write_text-ended.new.out) c.write_text-ended.result c.status_of.result
    c.write_text-ended.ensures.outcome c.write_text-ended.ensures.reason c.status_of.ensures.told c.status_of.ensures.done

pub returns-clause-told : goal.returns-clause-told
returns-clause-told g c faulty = early_status c.write_text-ended.result c.status_of.result (c.write_text-ended.ensures.told faulty) c.status_of.ensures.told
