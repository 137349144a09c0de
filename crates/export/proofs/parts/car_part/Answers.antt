use Rattle.std.proofs.Common.{◌≡◌, ◌∙◌, ◌++◌, List, ℕ, ap, subst}
use Rattle.std.specs.Prelude.{IfOk}
use Rattle.spec.specs.States.{state_car}
use Rattle.export.specs.Windows.{Windowed, part_of}
use Rattle.export.proofs.parts.car_part.Goals as goal

pub returns-in-Ok : goal.returns-in-Ok
returns-in-Ok g c =
    let file : List ℕ = state_car g.D.Digest.digest_of g.row.B c.args.core.now in
    let is : c.car.new.out.taken ≡ file = c.in-Ok.ensures.taken ∙ ap (λ (w : Windowed). w.taken ++ file) c.new-window.ensures in
    subst (λ (bytes : List ℕ). IfOk c.part_in.result (λ part. part.items ≡ part_of c.args.from c.args.room bytes)) is c.part_in.ensures
