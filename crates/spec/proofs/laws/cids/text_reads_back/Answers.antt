use Rattle.spec.proofs.CidTexts.{cid_of_text-text}
use Rattle.spec.proofs.laws.cids.text_reads_back.Goals as goal

pub returns : goal.returns
returns c = cid_of_text-text
