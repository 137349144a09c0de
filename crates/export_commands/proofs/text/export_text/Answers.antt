use Rattle.std.proofs.Common.{subst}
use Rattle.export_commands.specs.Outcomes.{IsOutcomeOf}
use Rattle.export_commands.proofs.Endings.{outcome-of-file}
use Rattle.export_commands.proofs.text.export_text.Goals as goal

pub returns-in-Ok : goal.returns-in-Ok
returns-in-Ok g c =
    let o = g.W.Write.contents c.args.out.now in
    let o1 = g.W.Write.contents c.write_text.new.out in
    let digest = g.D.Digest.digest_of in
    outcome-of-file digest c.args.command (g.R.Read.remaining c.args.input.now) (g.R.Read.remaining c.read_all.new.input) o o1 c.in-Ok.file.items c.write_text.result
    c.in-Ok.ensures.bytes c.in-Ok.ensures.end
    (subst (λ file. IsOutcomeOf digest c.args.command file o o1 c.write_text.result) c.deref.ensures.value c.write_text.ensures)
