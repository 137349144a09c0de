use Rattle.std.proofs.Common.{◌≡◌, map}
use Rattle.std.proofs.lemmas.Result.{IfOk-weaker}
use Rattle.std.specs.Arc.{arc_value}
use Rattle.tizulgech.specs.Changing.{proof_bytes, IsStepSpelt}
use Rattle.tizulgech.proofs.Telling.{step_spelt}
use Rattle.tizulgech.proofs.changes.proof_bytes.Goals as goal

pub returns : goal.returns
returns c =
    let p = c.in_ok-proof.proof in
    let nodes = map arc_value p.nodes.items in
    IfOk-weaker c.spell_proof.result (λ bytes. bytes.items ≡ proof_bytes p.after p.changes.items nodes) (λ bytes. IsStepSpelt c.args.repo.now.state c.args.changes.now bytes.items)
    (λ bytes is. step_spelt c.args.repo.now.state c.core.result.now c.args.changes.now p.after p.changes.items nodes bytes.items c.core.ensures c.in_ok-proof.ensures is)
    c.spell_proof.ensures
