use Rattle.spec.proofs.CidTexts.{cid_of_text_takes}
use Rattle.spec.proofs.laws.cids.only_texts_are_read.Goals as goal

pub returns : goal.returns
returns c = cid_of_text_takes
