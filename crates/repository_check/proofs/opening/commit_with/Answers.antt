use Rattle.signed_commits.specs.Views.{commit_of}
use Rattle.repository_check.proofs.Spelled.{commit-at}
use Rattle.repository_check.proofs.opening.commit_with.Goals as goal

pub returns-in-Ok-clause-spelled : goal.returns-in-Ok-clause-spelled
returns-in-Ok-clause-spelled g c =
    commit-at c.args.root.now c.args.places.now c.in-Some.block.now (commit_of c.in-Ok.commit) c.in-Some.ensures
    c.are_bytes.ensures.bytes c.are_bytes.ensures.short c.in-Ok.ensures
