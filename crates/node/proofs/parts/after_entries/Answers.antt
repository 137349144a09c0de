use Rattle.node.proofs.RowLaws.{after_entries-found}
use Rattle.node.proofs.parts.after_entries.Goals as goal

pub returns-in-Some-clause-all : goal.returns-in-Some-clause-all
returns-in-Some-clause-all c = after_entries-found c.args.count c.args.bytes.now c.in_ok-rest.field-0 c.in-Some.rest c.in-Some.is c.in_ok-rest.ensures.read
