use Rattle.std.proofs.Common.{◌∙◌, map, ap}
use Rattle.std.specs.Arc.{arc_value}
use Rattle.buffers.specs.Answers.{parts_bytes}
use Rattle.tizulgech.proofs.Telling.{spelt}
use Rattle.tizulgech.proofs.inversions.proven_bytes.Goals as goal

pub returns-in-Ok-clause-proof : goal.returns-in-Ok-clause-proof
returns-in-Ok-clause-proof c =
    spelt c.args.repo.now.state c.core.result.now c.args.changes.now (map arc_value c.in_ok-nodes.nodes.items) c.in-Ok.bytes.items c.core.ensures c.in_ok-nodes.ensures.proof
    (c.in-Ok.ensures ∙ ap parts_bytes (ap (map arc_value) c.deref.ensures.value))
