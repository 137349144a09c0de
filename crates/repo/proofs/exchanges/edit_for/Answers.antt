use Rattle.std.proofs.Common.{List, ◌∙◌, subst, rules, arith}
use Rattle.std.proofs.lemmas.Grind.{common_steps}
use Rattle.batch_laws.specs.Batch.{Change}
use Rattle.batch_laws.specs.Collecting.{with_cids}
use Rattle.repo.specs.Edits.{HasNodes, IsEditMade}
use Rattle.repo.specs.Tested.{changes_in}
use Rattle.repo.proofs.Edits.{edit-clash}
use Rattle.repo.proofs.exchanges.edit_for.Goals as goal

pub returns-in-Ok-clause-edit : goal.returns-in-Ok-clause-edit
returns-in-Ok-clause-edit g c = λ es tree.
    subst (λ (cs : List Change). IsEditMade g.D.Digest.digest_of g.row.B cs es c.in-Ok.edit) (c.deref.ensures.value ∙ c.in_ok-changes.ensures)
    (c.in-Ok.ensures.edit es tree)

pub returns-in-Ok-clause-nodes : goal.returns-in-Ok-clause-nodes
returns-in-Ok-clause-nodes g c = λ es tree.
    subst (λ (cs : List Change). HasNodes g.D.Digest.digest_of g.row.B cs es c.in-Ok.edit) (c.deref.ensures.value ∙ c.in_ok-changes.ensures)
    (c.in-Ok.ensures.nodes es tree)

pub returns-in-Err-Clash-clause-fault : goal.returns-in-Err-Clash-clause-fault
returns-in-Err-Clash-clause-fault g c = λ es tree.
    edit-clash g.D.Digest.digest_of g.row.B es _ (with_cids g.D.Digest.digest_of (changes_in c.args.changes.now)) c.in-Err-Clash.field-0 c.in-Err-Clash.pair
    (c.deref.ensures.value ∙ c.in_ok-changes.ensures) c.in-Err-Clash.field-0-is (c.in-Err-Clash.ensures.fault es tree)

pub unreachable-requires : goal.unreachable-requires
unreachable-requires g c = c.requires.tree (λ es tree. let r = c.in-Err-Missing.ensures.fault es tree in first_of (search rules, grind (arith, common_steps)))
