use Rattle.std.proofs.Common.{ap, ◌∙◌}
use Rattle.lookups.specs.Walks.{stacked}
use Rattle.lookups.proofs.Walking.{stacked-push}
use Rattle.lookups.proofs.walks.put_on.Goals as goal

pub returns-in_ok-push : goal.returns-in_ok-push
returns-in_ok-push g c =
    rw c.in-Some.is (λ link. ap stacked c.in_ok-push.ensures.items ∙ stacked-push c.args.stack.now.items (record { value = c.in-Some.value; rest = c.args.rest }))
