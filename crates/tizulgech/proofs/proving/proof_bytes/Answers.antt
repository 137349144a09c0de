use Rattle.std.proofs.Common.{◌≡◌, ◌∙◌, ℕ, List, map, ap, subst}
use Rattle.std.specs.Prelude.{IfOk}
use Rattle.std.specs.Arc.{arc_value}
use Rattle.sha2.specs.Sha256.{sha256}
use Rattle.spec.specs.Blocks.{pairs}
use Rattle.spec.specs.Proof.{path}
use Rattle.spec.specs.States.{State, records}
use Rattle.buffers.specs.Answers.{parts_bytes}
use Rattle.tizulgech.proofs.proving.proof_bytes.Goals as goal

pub returns : goal.returns
returns c =
    let is : map arc_value c.deref.result.now ≡ path sha256 2 (pairs sha256 (records c.args.repo.now.state)) c.args.key.now =
    ap (map arc_value) c.deref.ensures.value ∙ c.in_ok-nodes.ensures
    ∙ ap (λ (s : State). path sha256 2 (pairs sha256 (records s)) c.args.key.now) c.core.ensures in
    subst (λ (parts : List (List ℕ)). IfOk c.spell_blocks.result (λ bytes. bytes.items ≡ parts_bytes parts)) is c.spell_blocks.ensures
