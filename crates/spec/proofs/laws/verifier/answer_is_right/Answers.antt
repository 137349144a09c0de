use Rattle.spec.proofs.VerifyLaws.{verifier-sound}
use Rattle.spec.proofs.laws.verifier.answer_is_right.Goals as goal

pub returns : goal.returns
returns c = verifier-sound
