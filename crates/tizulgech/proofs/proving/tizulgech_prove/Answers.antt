use Rattle.sha2.specs.Sha256.{sha256}
use Rattle.spec.specs.Blocks.{pairs}
use Rattle.spec.specs.Proof.{path}
use Rattle.spec.specs.States.{records}
use Rattle.buffers.specs.Answers.{parts_bytes}
use Rattle.owned_repo.specs.Owning.{Owned}
use Rattle.tizulgech.specs.Numbers.{IsHandedOr255}
use Rattle.tizulgech.proofs.Shown.{shown}
use Rattle.tizulgech.proofs.proving.tizulgech_prove.Goals as goal

pub returns-clause-proof : goal.returns-clause-proof
returns-clause-proof c = shown (λ (o : Owned). IsHandedOr255 c.proof_told-code.result (parts_bytes (path sha256 2 (pairs sha256 (records o.state)) c.args.key.now)) c.args.out.now c.proof_told-code.new.out c.proof_told-code.new.size)
    _ c.in-Some.repo.value c.deref.result.now c.in-Some.ensures.taken c.deref.ensures c.proof_told-code.ensures.answer
