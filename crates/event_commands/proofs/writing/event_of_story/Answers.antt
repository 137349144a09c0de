use Rattle.std.proofs.Common.{◌≡◌, sym, subst}
use Rattle.spec.specs.Reading.{Gives}
use Rattle.repository_commands.proofs.Making.{passed}
use Rattle.change_commands.specs.Views.{story_of}
use Rattle.event_commands.specs.Faults.{message_fault_of}
use Rattle.event_commands.specs.Texts.{event_of_story}
use Rattle.event_commands.specs.Views.{words_of}
use Rattle.event_commands.proofs.Batches.{ordered, unordered}
use Rattle.event_commands.proofs.Refusals.{all_never}
use Rattle.event_commands.proofs.writing.event_of_story.Goals as goal

pub returns-in_err-test_order-clause-message : goal.returns-in_err-test_order-clause-message
returns-in_err-test_order-clause-message g c =
    let digest = g.D.Digest.digest_of in
    let w = words_of c.args.words.now in
    let story = story_of c.args.story in
    let f = c.in_err-test_order.field-0 in
    passed (λ r. Gives (λ bytes. bytes.items) message_fault_of r (event_of_story digest c.args.subject w c.args.sig.now story))
    c.from_residual.result f.0 c.from_residual.ensures.1
    (unordered digest c.args.subject w c.args.sig.now story (message_fault_of f.0) c.in_err-test_order.ensures.order)

pub returns-in_err-test_order-clause-refused : goal.returns-in_err-test_order-clause-refused
returns-in_err-test_order-clause-refused g c =
    all_never g.D.Digest.digest_of (words_of c.args.words.now) (story_of c.args.story) c.from_residual.result c.in_err-test_order.field-0.0
    c.from_residual.ensures.1 c.in_err-test_order.ensures.lineless

pub returns-clause-message : goal.returns-clause-message
returns-clause-message g c =
    subst (Gives (λ bytes. bytes.items) message_fault_of c.event_in_order.result)
    (sym (ordered g.D.Digest.digest_of c.args.subject (words_of c.args.words.now) c.args.sig.now (story_of c.args.story)
    c.in_ok-test_order.field-0 c.in_ok-test_order.ensures.order))
    c.event_in_order.ensures.message
