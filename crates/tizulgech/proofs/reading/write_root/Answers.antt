use Rattle.std.proofs.Common.{◌∙◌, ap}
use Rattle.sha2.specs.Sha256.{sha256}
use Rattle.spec.specs.States.{state_root}
use Rattle.tizulgech.proofs.reading.write_root.Goals as goal

pub returns : goal.returns
returns c = c.copy_from_slice.ensures.after ∙ c.as_bytes.ensures.bytes ∙ c.root.ensures.value ∙ ap (state_root sha256 2) c.core.ensures
