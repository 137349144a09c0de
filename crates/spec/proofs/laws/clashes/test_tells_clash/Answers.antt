use Rattle.spec.proofs.BlockLaws.{HasClash-from_test, test-from_HasClash}
use Rattle.spec.proofs.laws.clashes.test_tells_clash.Goals as goal

pub returns : goal.returns
returns c = λ digest bs. (HasClash-from_test digest bs, test-from_HasClash digest bs)
