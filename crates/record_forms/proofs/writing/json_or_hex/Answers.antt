use Rattle.std.proofs.Common.{rules}
use Rattle.record_forms.proofs.writing.json_or_hex.Goals as goal

pub returns-in-None : goal.returns-in-None
returns-in-None g c = search rules
