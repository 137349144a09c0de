use Rattle.std.proofs.Common.{is_some, ap, ◌∙◌}
use Rattle.spec.specs.Blocks.{value_of}
use Rattle.batch_laws.specs.Batch.{at_key}
use Rattle.repo.specs.Tested.{changes_in}
use Rattle.repo.proofs.TestedWrites.{said, unsaid, unnamed}
use Rattle.repo.proofs.write_tests.there_after.Goals as goal

pub returns-in-Some-clause-there : goal.returns-in-Some-clause-there
returns-in-Some-clause-there g c = λ es tree.
    said (at_key c.args.key.now (changes_in c.args.changes.now)) c.in-Some.there (is_some (value_of c.args.key.now es)) c.in-Some.ensures

pub returns-in-None-clause-there : goal.returns-in-None-clause-there
returns-in-None-clause-there g c = λ es tree.
    c.is_some.ensures ∙ ap is_some (c.value_at-found.ensures.value es tree)
    ∙ unsaid (at_key c.args.key.now (changes_in c.args.changes.now)) (is_some (value_of c.args.key.now es)) c.in-None.ensures

pub returns-in-None-clause-unread : goal.returns-in-None-clause-unread
returns-in-None-clause-unread g c = λ named. unnamed (at_key c.args.key.now (changes_in c.args.changes.now)) _ c.in-None.ensures named
