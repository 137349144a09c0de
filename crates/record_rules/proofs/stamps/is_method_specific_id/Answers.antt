use Rattle.std.proofs.Common.{rules}
use Rattle.record_rules.proofs.stamps.is_method_specific_id.Goals as goal

pub returns-then-are_id_letters : goal.returns-then-are_id_letters
returns-then-are_id_letters c = search rules
