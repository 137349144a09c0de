use Rattle.std.proofs.Common.{◌∙◌, ap, Some, List, ℕ}
use Rattle.repo.proofs.Growing.{last-rev}
use Rattle.repo.proofs.cores.last_rev.Goals as goal

pub returns-in-Some : goal.returns-in-Some
returns-in-Some g c = ap (λ (x : List ℕ). Some x) c.deref.ensures.value ∙ last-rev c.args.stamps.now c.in-Some.field-0.now c.in-Some.ensures.value
