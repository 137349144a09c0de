use Rattle.std.proofs.Common.{rules}
use Rattle.node.proofs.RowLaws.{after_entries-found}
use Rattle.node.proofs.parts.after_entries_of_many_parts.Goals as goal

pub returns-clause-all : goal.returns-clause-all
returns-clause-all c = after_entries-found c.args.count c.args.bytes.now c.in_ok-rest.field-0 c.in-Some.rest c.in-Some.is c.in_ok-rest.ensures.read

pub unreachable-requires : goal.unreachable-requires
unreachable-requires c = search rules
