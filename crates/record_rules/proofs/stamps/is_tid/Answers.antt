use Rattle.std.proofs.Common.{rules}
use Rattle.record_rules.proofs.stamps.is_tid.Goals as goal

pub returns-then-are_all_of : goal.returns-then-are_all_of
returns-then-are_all_of c = search rules
