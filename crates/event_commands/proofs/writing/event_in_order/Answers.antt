use Rattle.std.proofs.Common.{◌≡◌, ◌∙◌, ℕ, List, ap, sym, subst, arith}
use Rattle.spec.specs.Reading.{Gives}
use Rattle.spec.specs.Stamps.{Stamp}
use Rattle.batches.specs.Values.{stamp_of}
use Rattle.repository_commands.specs.Commands.{stamp_of_words}
use Rattle.repository_commands.specs.Faults.{text_fault_of}
use Rattle.change_commands.specs.Stories.{Story}
use Rattle.change_commands.specs.Views.{story_of}
use Rattle.event_commands.specs.Faults.{message_fault_of}
use Rattle.event_commands.specs.Texts.{Words, event_on, rev_of_records, stamp_of_records, with_signature}
use Rattle.event_commands.specs.Views.{words_of}
use Rattle.event_commands.specs.declared.fault.MessageFault.TheVariants as errors
use Rattle.event_commands.proofs.Refusals.{all_further, refused_after, refused_before}
use Rattle.event_commands.proofs.Batches.{story_fails, story_told}
use Rattle.event_commands.proofs.writing.event_in_order.Goals as goal

of_records : (w : Words) (story : Story) (stamp : Stamp) (rev : List ℕ) → stamp ≡ stamp_of_words w.did rev → rev ≡ rev_of_records w story.batch.writes
    → stamp ≡ stamp_of_records w story.batch.writes
of_records w story stamp rev e is = e ∙ ap (stamp_of_words w.did) is

pub returns-in-Ok-clause-message : goal.returns-in-Ok-clause-message
returns-in-Ok-clause-message g c =
    let digest = g.D.Digest.digest_of in
    let w = words_of c.args.words.now in
    let story = story_of c.args.story in
    let stamp = stamp_of c.in_ok-first.first in
    subst (Gives (λ bytes. bytes.items) message_fault_of c.event_on-event.result)
    (sym (story_told digest c.args.subject w c.args.sig.now story stamp
    (of_records w story stamp c.rev_of_records.result.now c.in_ok-first.ensures c.rev_of_records.ensures) c.in-Ok.core c.in-Ok.ensures.state))
    (subst (λ own. Gives (λ bytes. bytes.items) message_fault_of c.event_on-event.result (event_on digest c.args.subject c.in-Ok.core own story.batch (with_signature w c.args.sig.now))) c.in_ok-stamp.ensures
    (subst (λ told. Gives (λ bytes. bytes.items) message_fault_of c.event_on-event.result (event_on digest c.args.subject c.in-Ok.core (stamp_of c.in_ok-stamp.stamp) story.batch told)) c.told_in-told.ensures
    c.event_on-event.ensures.message))

pub returns-clause-message : goal.returns-clause-message
returns-clause-message g c =
    let w = words_of c.args.words.now in
    let story = story_of c.args.story in
    let stamp = stamp_of c.in_ok-first.first in
    story_fails g.D.Digest.digest_of c.args.subject w c.args.sig.now story stamp
    (of_records w story stamp c.rev_of_records.result.now c.in_ok-first.ensures c.rev_of_records.ensures)
    (text_fault_of c.in-Err.fault) c.in-Err.ensures.state

pub returns-in-Ok-clause-refused : goal.returns-in-Ok-clause-refused
returns-in-Ok-clause-refused g c =
    let digest = g.D.Digest.digest_of in
    let w = words_of c.args.words.now in
    let story = story_of c.args.story in
    let stamp = stamp_of c.in_ok-first.first in
    refused_after digest w story c.in-Ok.core stamp (stamp_of c.in_ok-stamp.stamp) c.event_on-event.result
    (of_records w story stamp c.rev_of_records.result.now c.in_ok-first.ensures c.rev_of_records.ensures)
    c.in_ok-stamp.ensures c.in-Ok.ensures.state
    (all_further digest c.in-Ok.core (stamp_of c.in_ok-stamp.stamp) story.batch (c.event_on-event.new.store.full (omega arith)) c.event_on-event.result
    c.event_on-event.ensures.refused)

pub returns-clause-refused : goal.returns-clause-refused
returns-clause-refused g c =
    let w = words_of c.args.words.now in
    let story = story_of c.args.story in
    let stamp = stamp_of c.in_ok-first.first in
    refused_before g.D.Digest.digest_of w story stamp
    (of_records w story stamp c.rev_of_records.result.now c.in_ok-first.ensures c.rev_of_records.ensures)
    (c.filled.new.store.full (omega arith)) (errors.Text c.in-Err.fault) c.in-Err.ensures.refused
