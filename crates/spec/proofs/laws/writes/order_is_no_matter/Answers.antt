use Rattle.std.proofs.Common.{ap}
use Rattle.spec.specs.Blocks.{blocks, repository_root}
use Rattle.spec.proofs.WriteLaws.{same_leaves}
use Rattle.spec.proofs.laws.writes.order_is_no_matter.Goals as goal

pub returns : goal.returns
returns c = λ digest bits further ws vs same. let e = same_leaves ws vs same in (e, ap (repository_root digest bits) e, ap (blocks digest bits further) e)
