use Rattle.std.proofs.Common.{◌≡◌, ℕ, List, true, rules, sym, ap, ◌∙◌}
use Rattle.std.specs.Str.{bytes_eq}
use Rattle.spec.specs.Blocks.{pairs, root as root_of}
use Rattle.spec.specs.States.{records}
use Rattle.batch_laws.specs.Batch.{Change, changed}
use Rattle.key_changes.specs.Keyed.{are_changes}
use Rattle.change_proofs.proofs.Keys.{taken-done}
use Rattle.event_following.proofs.leading.lead_to.Goals as goal

pub prove_change-requires : goal.prove_change-requires
prove_change-requires g c =
    let keyed : are_changes c.deref.result.now ≡ true =
    ap are_changes (c.deref.ensures.value ∙ c.in_ok-done.ensures) ∙ sym (taken-done c.args.changes.now) ∙ c.requires.changes in
    (search rules, (c.requires.least, keyed))

pub returns : goal.returns
returns g c =
    let digest = g.D.Digest.digest_of in
    let es = pairs digest (records c.args.core.now) in
    c.eq.ensures
    ∙ ap (λ (r : List ℕ). bytes_eq r c.args.root.now)
    (c.in_ok-proof.ensures.after_is
    ∙ ap (λ (us : List Change). root_of digest g.row.B (changed us es)) (c.deref.ensures.value ∙ c.in_ok-done.ensures))
