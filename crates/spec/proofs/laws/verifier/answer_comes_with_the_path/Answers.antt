use Rattle.spec.proofs.VerifyLaws.{verifier-complete, path-verifies}
use Rattle.spec.proofs.laws.verifier.answer_comes_with_the_path.Goals as goal

pub returns-clause-complete : goal.returns-clause-complete
returns-clause-complete c = verifier-complete

pub returns-clause-alone : goal.returns-clause-alone
returns-clause-alone c = path-verifies
