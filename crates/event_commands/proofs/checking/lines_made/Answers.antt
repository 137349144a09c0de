use Rattle.std.proofs.Common.{◌≡◌, ◌∙◌, sym, subst}
use Rattle.spec.specs.Reading.{Gives}
use Rattle.event_commands.specs.Faults.{message_fault_of}
use Rattle.event_commands.specs.Texts.{check_event_text}
use Rattle.event_commands.proofs.Making.{made_by_fault, made_of, rooted, uncounted}
use Rattle.event_commands.proofs.checking.lines_made.Goals as goal

pub returns-in_err-root-clause-made : goal.returns-in_err-root-clause-made
returns-in_err-root-clause-made g c =
    let digest = g.D.Digest.digest_of in
    let word = c.args.previous.now in
    let f = c.in_err-root.field-0.0 in
    made_by_fault (λ v. v.items) (check_event_text digest c.args.form word) (g.R.Read.remaining c.args.input.now) c.from_residual.result f c.from_residual.ensures.1
    (uncounted digest c.args.form word (message_fault_of f) c.in_err-root.ensures.root)

pub returns-clause-made : goal.returns-clause-made
returns-clause-made g c =
    let digest = g.D.Digest.digest_of in
    let word = c.args.previous.now in
    made_of (λ v. v.items) (check_event_text digest c.args.form word) (g.R.Read.remaining c.args.input.now) c.lines_of.result (λ xs. c.in_ok-stream.stream.items ≡ xs) c.in_ok-stream.ensures.bytes
    (λ xs e. subst (Gives (λ v. v.items) message_fault_of c.lines_of.result)
    (sym (rooted digest c.args.form word c.in_ok-root.root c.deref.result.now xs c.in_ok-root.ensures.root (c.deref.ensures.value ∙ e))) c.lines_of.ensures.lines)
