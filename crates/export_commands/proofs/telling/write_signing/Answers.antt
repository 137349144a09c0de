use Rattle.std.proofs.Common.{◌++◌, ap, subst, ◌∙◌}
use Rattle.std.specs.Prelude.{Ok}
use Rattle.hex.specs.Hex.{encode_lower}
use Rattle.export_commands.specs.Outcomes.{IsTold}
use Rattle.export_commands.specs.Texts.{ended}
use Rattle.export_commands.proofs.Told.{told-unwritten}
use Rattle.export_commands.proofs.telling.write_signing.Goals as goal

pub returns-in_err-write_signed-in-Ok : goal.returns-in_err-write_signed-in-Ok
returns-in_err-write_signed-in-Ok g c =
    let o = g.W.Write.contents c.args.out.now in
    let o1 = g.W.Write.contents c.write_signed.new.out in
    let signature = ended (encode_lower c.args.commit.now.sig.now) in
    subst (λ text. IsTold text o o1 c.from_residual.result) (ap (λ b. Ok (ended (encode_lower b) ++ signature)) (c.deref.ensures.value ∙ c.in-Ok.ensures))
    (told-unwritten (Ok (ended (encode_lower c.deref.result.now) ++ signature)) o o1 c.from_residual.result _ c.from_residual.ensures.1 c.in_err-write_signed-in-Ok.ensures)
