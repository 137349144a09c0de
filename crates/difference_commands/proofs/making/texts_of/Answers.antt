use Rattle.difference_commands.specs.Files.{said_pairs, said_records}
use Rattle.difference_commands.specs.Forms.{form_of}
use Rattle.difference_commands.proofs.Ascents.{says-ascending}
use Rattle.difference_commands.proofs.making.texts_of.Goals as goal

pub texts_between-requires-clause-before : goal.texts_between-requires-clause-before
texts_between-requires-clause-before g c =
    let digest = g.D.Digest.digest_of in
    says-ascending digest c.args.command (form_of c.args.command.form c.args.old.now) c.args.old.now
    (said_pairs digest c.in-Ok.contents) (said_records c.in-Ok.contents) c.in-Ok.ensures.contents.says

pub texts_between-requires-clause-after : goal.texts_between-requires-clause-after
texts_between-requires-clause-after g c =
    let digest = g.D.Digest.digest_of in
    says-ascending digest c.args.command (form_of c.args.command.form c.args.new.now) c.args.new.now
    (said_pairs digest c.in-Ok-contents_of.contents) (said_records c.in-Ok-contents_of.contents) c.in-Ok-contents_of.ensures.contents.says
