use Rattle.std.proofs.Common.{rules}
use Rattle.record_forms.proofs.writing.word_of_record.Goals as goal

pub returns-in-Json : goal.returns-in-Json
returns-in-Json g c = search rules
