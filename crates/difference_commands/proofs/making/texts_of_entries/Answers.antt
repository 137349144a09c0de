use Rattle.std.specs.Prelude.{option_map}
use Rattle.difference_commands.specs.Files.{said_commit}
use Rattle.difference_commands.specs.Views.{pairs_in}
use Rattle.difference_commands.proofs.Made.{handed-on, of-compared}
use Rattle.difference_commands.proofs.making.texts_of_entries.Goals as goal

pub returns-in_err-compared-clause-fault : goal.returns-in_err-compared-clause-fault
returns-in_err-compared-clause-fault g c =
    handed-on g.D.Digest.digest_of (pairs_in c.args.old.now) (pairs_in c.args.new.now)
    c.in_err-compared.field-0.0 c.from_residual.result c.from_residual.ensures.1 c.in_err-compared.ensures.fault

pub returns-clause-texts : goal.returns-clause-texts
returns-clause-texts g c =
    of-compared g.D.Digest.digest_of c.args.command (said_commit c.args.after.now) c.args.old.now c.args.new.now
    c.in_ok-compared.compared c.in_ok-compared.ensures.difference c.in_ok-compared.ensures.root
    c.in_ok-told_of.field-0.lines.items (option_map (λ bytes. bytes.items) c.in_ok-told_of.field-0.slice)
    c.in_ok-told_of.ensures.lines c.in_ok-told_of.ensures.slice
