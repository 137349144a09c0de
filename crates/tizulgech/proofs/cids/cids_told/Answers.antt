use Rattle.std.proofs.Common.{rules}
use Rattle.tizulgech.proofs.Knowing.{cids_small}
use Rattle.tizulgech.proofs.cids.cids_told.Goals as goal

pub returns-then-wanted-out-clause-answer : goal.returns-then-wanted-out-clause-answer
returns-then-wanted-out-clause-answer c _ = cids_small (λ block. block.now) c.args.blocks.now c.args.out.now c.in-Some.wanted (search rules) c.if-wanted-out.true
