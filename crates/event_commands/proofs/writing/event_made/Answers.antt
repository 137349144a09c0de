use Rattle.std.proofs.Common.{◌≡◌, ◌∙◌, Ok, ap, sym, subst}
use Rattle.spec.specs.Reading.{Gives}
use Rattle.change_commands.specs.Stories.{story_in}
use Rattle.change_commands.specs.Views.{story_of}
use Rattle.event_commands.specs.Faults.{message_fault_of}
use Rattle.event_commands.specs.Texts.{event_text}
use Rattle.event_commands.specs.Views.{words_of}
use Rattle.event_commands.proofs.Refusals.{untold_of_no_line, untold_of_story}
use Rattle.event_commands.proofs.Making.{made_by_fault, made_of, signed, unsigned}
use Rattle.event_commands.proofs.writing.event_made.Goals as goal

pub returns-in_err-sig-clause-made : goal.returns-in_err-sig-clause-made
returns-in_err-sig-clause-made g c =
    let digest = g.D.Digest.digest_of in
    let w = words_of c.args.words.now in
    let f = c.in_err-sig.field-0.0 in
    made_by_fault (λ v. v.items) (event_text digest c.args.subject c.args.form w) (g.R.Read.remaining c.args.input.now) c.from_residual.result f c.from_residual.ensures.1
    (unsigned digest c.args.subject c.args.form w (message_fault_of f) c.in_err-sig.ensures.check)

pub returns-clause-made : goal.returns-clause-made
returns-clause-made g c =
    let digest = g.D.Digest.digest_of in
    let w = words_of c.args.words.now in
    let story = story_of c.in_ok-story.story in
    made_of (λ v. v.items) (event_text digest c.args.subject c.args.form w) (g.R.Read.remaining c.args.input.now) c.event_of_story.result (λ xs. story ≡ story_in c.args.form xs) c.in_ok-story.ensures
    (λ xs e. subst (Gives (λ v. v.items) message_fault_of c.event_of_story.result)
    (sym (signed digest c.args.subject c.args.form w c.deref.result.now story xs (c.in_ok-sig.ensures.check ∙ ap (λ s. Ok s) (sym c.deref.ensures.value)) e)) c.event_of_story.ensures.message)

pub returns-in_err-sig-clause-refused : goal.returns-in_err-sig-clause-refused
returns-in_err-sig-clause-refused g c =
    untold_of_no_line g.D.Digest.digest_of c.args.form (words_of c.args.words.now) (g.R.Read.remaining c.args.input.now) c.from_residual.result c.in_err-sig.field-0.0
    c.from_residual.ensures.1 c.in_err-sig.ensures.lineless

pub returns-clause-refused : goal.returns-clause-refused
returns-clause-refused g c =
    untold_of_story g.D.Digest.digest_of c.args.form (words_of c.args.words.now) (g.R.Read.remaining c.args.input.now) (story_of c.in_ok-story.story) c.event_of_story.result
    c.in_ok-story.ensures c.event_of_story.ensures.refused
