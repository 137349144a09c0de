use Rattle.spec.proofs.LinkCids.{versions-from_test, test-from_versions}
use Rattle.spec.proofs.laws.cids.links_hold_cids.Goals as goal

pub returns : goal.returns
returns c = λ bytes fits. (versions-from_test bytes fits, test-from_versions bytes)
