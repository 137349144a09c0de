use Rattle.std.proofs.Common.{◌≡◌, subst, sym, ◌∙◌}
use Rattle.std.specs.Prelude.{Ok}
use Rattle.spec.specs.Reading.{Fails, Gives}
use Rattle.console.specs.Lines.{lines}
use Rattle.repository_commands.specs.Faults.{text_fault_of}
use Rattle.console.proofs.Known.{for_known}
use Rattle.repository_commands.proofs.Making.{made_by_fault, made_by_input, made_of}
use Rattle.change_commands.specs.Told.{told_in}
use Rattle.change_commands.specs.Texts.{verify_change_text}
use Rattle.change_commands.specs.Views.{roots_of, told_of}
use Rattle.change_commands.proofs.Rooting.{answered, others, unrooted, untold}
use Rattle.change_commands.proofs.Shown.{unshown-passed, unshown-told}
use Rattle.change_commands.proofs.verifying.verdict_made.Goals as goal

pub returns-in_err-roots-clause-made : goal.returns-in_err-roots-clause-made
returns-in_err-roots-clause-made g c =
    let digest = g.D.Digest.digest_of in
    let direction = c.args.direction in
    let before = c.args.before.now in
    let after = c.args.after.now in
    let f = c.in_err-roots.field-0.0 in
    made_by_fault (λ v. v.items) (verify_change_text digest direction before after) (g.R.Read.remaining c.args.input.now) c.from_residual.result f c.from_residual.ensures.1
    (unrooted digest direction before after (text_fault_of f) c.in_err-roots.ensures.roots)

pub returns-in_err-roots-clause-unshown : goal.returns-in_err-roots-clause-unshown
returns-in_err-roots-clause-unshown g c =
    unshown-passed g.D.Digest.digest_of c.args.direction (g.R.Read.remaining c.args.input.now) c.from_residual.result c.in_err-roots.field-0.0 c.from_residual.ensures.1 c.in_err-roots.ensures.refused

pub returns-in_err-told-clause-made : goal.returns-in_err-told-clause-made
returns-in_err-told-clause-made g c =
    let digest = g.D.Digest.digest_of in
    let direction = c.args.direction in
    let before = c.args.before.now in
    let after = c.args.after.now in
    let read = g.R.Read.remaining c.args.input.now in
    let f = c.in_err-told.field-0.0 in
    made_by_input (λ v. v.items) (verify_change_text digest direction before after) read c.from_residual-in_err-told.result f c.from_residual-in_err-told.ensures.1
    (for_known _ _ read (λ xs e. untold digest direction before after (roots_of c.in_ok-roots.roots) c.in_ok-roots.ensures.roots xs (text_fault_of f)
    (subst (λ s. Fails (text_fault_of f) (told_in (lines s))) (c.deref.ensures.value ∙ e) c.in_err-told.ensures.told)) c.in_ok-text.ensures.bytes)

pub returns-in_err-told-clause-unshown : goal.returns-in_err-told-clause-unshown
returns-in_err-told-clause-unshown g c =
    unshown-passed g.D.Digest.digest_of c.args.direction (g.R.Read.remaining c.args.input.now) c.from_residual-in_err-told.result c.in_err-told.field-0.0 c.from_residual-in_err-told.ensures.1
    c.in_err-told.ensures.refused

pub returns-in_err-check_roots-clause-made : goal.returns-in_err-check_roots-clause-made
returns-in_err-check_roots-clause-made g c =
    let digest = g.D.Digest.digest_of in
    let direction = c.args.direction in
    let before = c.args.before.now in
    let after = c.args.after.now in
    let read = g.R.Read.remaining c.args.input.now in
    let f = c.in_err-check_roots.field-0.0 in
    let t = told_of c.in_ok-told.told in
    made_by_input (λ v. v.items) (verify_change_text digest direction before after) read c.from_residual-in_err-check_roots.result f c.from_residual-in_err-check_roots.ensures.1
    (for_known _ _ read (λ xs e. others digest direction before after (roots_of c.in_ok-roots.roots) c.in_ok-roots.ensures.roots xs t
    (subst (λ s. told_in (lines s) ≡ Ok t) (c.deref.ensures.value ∙ e) c.in_ok-told.ensures.told) (text_fault_of f) c.in_err-check_roots.ensures.check) c.in_ok-text.ensures.bytes)

pub returns-in_err-check_roots-clause-unshown : goal.returns-in_err-check_roots-clause-unshown
returns-in_err-check_roots-clause-unshown g c =
    unshown-passed g.D.Digest.digest_of c.args.direction (g.R.Read.remaining c.args.input.now) c.from_residual-in_err-check_roots.result c.in_err-check_roots.field-0.0
    c.from_residual-in_err-check_roots.ensures.1 c.in_err-check_roots.ensures.refused

pub returns-clause-made : goal.returns-clause-made
returns-clause-made g c =
    let digest = g.D.Digest.digest_of in
    let direction = c.args.direction in
    let before = c.args.before.now in
    let after = c.args.after.now in
    let t = told_of c.in_ok-told.told in
    made_of (λ v. v.items) (verify_change_text digest direction before after) (g.R.Read.remaining c.args.input.now) c.answer_of.result (λ xs. c.in_ok-text.text.items ≡ xs) c.in_ok-text.ensures.bytes
    (λ xs e. subst (Gives (λ v. v.items) text_fault_of c.answer_of.result)
    (sym (answered digest direction before after (roots_of c.in_ok-roots.roots) c.in_ok-roots.ensures.roots xs t
    (subst (λ s. told_in (lines s) ≡ Ok t) (c.deref.ensures.value ∙ e) c.in_ok-told.ensures.told) c.in_ok-check_roots.ensures.check))
    c.answer_of.ensures.line)

pub returns-clause-unshown : goal.returns-clause-unshown
returns-clause-unshown g c =
    let t = told_of c.in_ok-told.told in
    let read = g.R.Read.remaining c.args.input.now in
    unshown-told g.D.Digest.digest_of c.args.direction read c.answer_of.result t
    (for_known _ _ read (λ xs e. subst (λ s. told_in (lines s) ≡ Ok t) (c.deref.ensures.value ∙ e) c.in_ok-told.ensures.told) c.in_ok-text.ensures.bytes)
    c.answer_of.ensures.unshown
