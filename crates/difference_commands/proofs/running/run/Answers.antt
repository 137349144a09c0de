use Rattle.std.specs.Prelude.{option_map}
use Rattle.difference_commands.proofs.Endings.{fault_status, finish_saved, finish_status}
use Rattle.difference_commands.proofs.running.run.Goals as goal

pub returns-in-Ok-clause-status : goal.returns-in-Ok-clause-status
returns-in-Ok-clause-status g c =
    finish_status g.D.Digest.digest_of c.args.command (g.R.Read.remaining c.args.old.now) (g.S.Read.remaining c.args.new.now)
    (g.W.Write.contents c.args.out.now) (g.W.Write.contents c.finish.new.out)
    c.in-Ok.told.lines.items (option_map (λ bytes. bytes.items) c.in-Ok.told.slice) c.finish.result
    c.in-Ok.ensures.texts c.finish.ensures.ended

pub returns-in-Ok-clause-saved : goal.returns-in-Ok-clause-saved
returns-in-Ok-clause-saved g c zero =
    finish_saved g.D.Digest.digest_of c.args.command (g.R.Read.remaining c.args.old.now) (g.S.Read.remaining c.args.new.now)
    c.in-Ok.told.lines.items (option_map (λ bytes. bytes.items) c.in-Ok.told.slice)
    (option_map (λ name. name.now) c.args.blocks) (g.F.Files.saved c.args.files.now)
    c.in-Ok.ensures.texts (c.finish.ensures.saved zero)

pub returns-in-Err-clause-status : goal.returns-in-Err-clause-status
returns-in-Err-clause-status g c =
    fault_status g.D.Digest.digest_of c.args.command (g.R.Read.remaining c.args.old.now) (g.S.Read.remaining c.args.new.now)
    (g.W.Write.contents c.args.out.now) c.in-Err.fault c.failed.result c.in-Err.ensures.fault c.failed.ensures
