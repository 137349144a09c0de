use Rattle.spec.proofs.BlockLaws.{IsClashFree-from_test, test-from_IsClashFree}
use Rattle.spec.proofs.laws.clashes.test_tells_clash_free.Goals as goal

pub returns : goal.returns
returns c = λ digest bs. (IsClashFree-from_test digest bs, test-from_IsClashFree digest bs)
