use Rattle.std.proofs.Common.{ap}
use Rattle.event_writing_laws.specs.Telling.{of_values}
use Rattle.event_writing.proofs.LeftFile.{values-fail}
use Rattle.event_writing.proofs.left.shown.Goals as goal

pub returns-in-Ok-clause-told : goal.returns-in-Ok-clause-told
returns-in-Ok-clause-told g c = λ es has. ap of_values (c.in-Ok.ensures.proof es has).told

pub returns-in-Ok-clause-nodes : goal.returns-in-Ok-clause-nodes
returns-in-Ok-clause-nodes g c = λ es has. (c.in-Ok.ensures.proof es has).nodes_are

pub returns-in-Err-clause-told : goal.returns-in-Err-clause-told
returns-in-Err-clause-told g c = λ es has.
    values-fail es c.args.ops.now c.in-Err.fault c.untold.result c.untold.ensures (c.in-Err.ensures.fault es has)
