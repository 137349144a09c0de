use Rattle.std.proofs.Common.{ℕ, List, ap, ◌∙◌, sym, subst}
use Rattle.std.specs.Prelude.{Ok, Err}
use Rattle.change_laws.specs.Told.{KeyChange}
use Rattle.repository_commands.specs.Views.{blocks_of}
use Rattle.change_commands.specs.Directions.{IsAnswer}
use Rattle.change_commands.specs.Texts.{unshown_as, IsUnshownBy}
use Rattle.change_commands.specs.Views.{told_of}
use Rattle.change_commands.proofs.Shown.{unshown-is}
use Rattle.change_commands.proofs.verifying.answer_of.Goals as goal

pub returns-in-Err-clause-unshown : goal.returns-in-Err-clause-unshown
returns-in-Err-clause-unshown g c =
    let digest = g.D.Digest.digest_of in
    let direction = c.args.direction in
    let t = told_of c.args.told.now in
    let f = c.in-Err.fault in
    let carried : (Is : List (List ℕ) → List KeyChange → Type 0) → Is (blocks_of c.deref.result.now) c.deref-2.result.now → Is t.blocks t.changes =
    λ Is h. subst (λ bs. Is bs t.changes) (ap blocks_of c.deref.ensures.value) (subst (Is (blocks_of c.deref.result.now)) c.deref-2.ensures.value h) in
    subst (IsUnshownBy digest direction (Ok t)) (sym (c.unshown.ensures ∙ ap (λ ns. unshown_as ns f) c.deref-in-Err.ensures.value))
    (unshown-is digest direction t _ _ f (carried (λ bs cs. IsAnswer digest direction t.before t.after bs cs (Err f)) c.in-Err.ensures.answer))
