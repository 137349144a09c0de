use Rattle.record_json.proofs.LinkTexts.{link_of_text-text}
use Rattle.record_json.proofs.laws.link_text_reads_back.Goals as goal

pub returns : goal.returns
returns c = λ cid fits first. link_of_text-text cid fits first
