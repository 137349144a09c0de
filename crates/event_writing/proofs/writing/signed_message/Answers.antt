use Rattle.std.proofs.Common.{List, ℕ, ap, subst, ◌∙◌}
use Rattle.spec.specs.Reading.{Gives}
use Rattle.spec.specs.SignedCommits.{signed_bytes}
use Rattle.export_laws.specs.SignedCars.{signed_commit}
use Rattle.batches.specs.Values.{stamp_of}
use Rattle.event_writing.specs.Views.{told_of, untold_fault_of}
use Rattle.event_writing.specs.Steps.{message_with}
use Rattle.event_writing.proofs.writing.signed_message.Goals as goal

pub returns : goal.returns
returns g c =
    let stamp = stamp_of c.args.stamp.now in
    let told = told_of c.args.told.now in
    λ m has. subst (λ (b : List ℕ). Gives (λ x. x.items) untold_fault_of c.message_with.result
    (message_with g.D.Digest.digest_of g.row.B m stamp b c.args.before.now c.args.ops.now told))
    (c.in_ok-commit.ensures ∙ ap (λ (r : List ℕ). signed_bytes (signed_commit stamp r told.sig)) has.tree.root_is)
    (c.message_with.ensures m has)
