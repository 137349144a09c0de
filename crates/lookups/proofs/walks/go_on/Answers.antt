use Rattle.std.proofs.Common.{sym, ap, ◌∙◌}
use Rattle.edit_laws.specs.Sources.{later_shape}
use Rattle.lookups.specs.Walks.{stacked}
use Rattle.lookups.proofs.Walking.{rest-at}
use Rattle.lookups.proofs.walks.go_on.Goals as goal

pub returns-clause-stack : goal.returns-clause-stack
returns-clause-stack g c =
    c.in_ok-put_on.ensures _
    ∙ sym (ap (λ s. later_shape s (stacked c.args.stack.now.items)) (rest-at c.args.rest c.next-value.new.self c.next-value.result c.next-value.ensures.some c.next-value.ensures.none))
