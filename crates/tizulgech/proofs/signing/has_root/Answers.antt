use Rattle.std.proofs.Common.{◌∙◌, ℕ, List, ap}
use Rattle.std.specs.Str.{bytes_eq}
use Rattle.sha2.specs.Sha256.{sha256}
use Rattle.spec.specs.States.{State, state_root}
use Rattle.tizulgech.proofs.signing.has_root.Goals as goal

pub returns : goal.returns
returns c = c.eq.ensures ∙ ap (λ (x : List ℕ). bytes_eq x c.args.root.now)
    (c.root.ensures.value ∙ ap (λ (s : State). state_root sha256 2 s) c.core.ensures)
