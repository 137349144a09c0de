use Rattle.std.proofs.Common.{◌≡◌, true, rules, sym, ap, subst, ◌∙◌}
use Rattle.key_changes.specs.Keyed.{are_changes}
use Rattle.change_laws.specs.Told.{undone}
use Rattle.core_differences.specs.Spans.{IsShownBy}
use Rattle.core_differences.proofs.span.nodes_of.Goals as goal

pub prove_inversion-requires : goal.prove_inversion-requires
prove_inversion-requires g c =
    let keyed : are_changes (undone c.deref-2.result.now) ≡ true =
    ap (λ cs. are_changes (undone cs)) (c.deref-2.ensures.value ∙ sym c.deref.ensures.value) ∙ sym c.are_key_changes.ensures
    ∙ c.if-not-are_key_changes.false in
    (search rules, (c.requires.least, keyed))

pub returns-in-Ok-clause-nodes : goal.returns-in-Ok-clause-nodes
returns-in-Ok-clause-nodes g c =
    subst (λ cs. IsShownBy g.D.Digest.digest_of g.row.B c.args.core.now cs c.in-Ok.nodes.items)
    (c.deref-2.ensures.value ∙ c.in_ok-told.ensures) c.in-Ok.ensures.shows
