use Rattle.std.proofs.Common.{arith, sym, subst}
use Rattle.spec.specs.Reading.{Gives}
use Rattle.batches.specs.Values.{stamp_of}
use Rattle.change_commands.specs.Texts.{second_stamp, text_of_story}
use Rattle.repository_commands.specs.Faults.{text_fault_of}
use Rattle.repository_commands.specs.Texts.{no_writes}
use Rattle.change_commands.specs.Views.{story_of}
use Rattle.change_commands.proofs.BatchTexts.{fails-on, refused-after, refused-before, story-fails, story-text}
use Rattle.repository_commands.proofs.Repositories.{further_all, passed_further}
use Rattle.change_commands.proofs.proving.change_of_story.Goals as goal

pub returns-in_err-core-clause-text : goal.returns-in_err-core-clause-text
returns-in_err-core-clause-text g c =
    let digest = g.D.Digest.digest_of in
    let direction = c.args.direction in
    let story = story_of c.args.story in
    let f = c.in_err-core.field-0.0 in
    fails-on (λ bytes. bytes.items) (text_of_story digest direction story) c.from_residual-in_err-core.result f c.from_residual-in_err-core.ensures.1
    (story-fails digest direction story (stamp_of c.in_ok-stamp.stamp) c.in_ok-stamp.ensures (text_fault_of f) c.in_err-core.ensures.state)

pub returns-in_err-core-clause-refused : goal.returns-in_err-core-clause-refused
returns-in_err-core-clause-refused g c =
    let digest = g.D.Digest.digest_of in
    let story = story_of c.args.story in
    let stamp = stamp_of c.in_ok-stamp.stamp in
    refused-before digest story stamp c.in_ok-stamp.ensures c.from_residual-in_err-core.result
    (passed_further digest no_writes stamp story.before (c.filled.new.store.full (omega arith))
    c.from_residual-in_err-core.result c.in_err-core.field-0.0 c.from_residual-in_err-core.ensures.1 c.in_err-core.ensures.refused)

pub returns-clause-text : goal.returns-clause-text
returns-clause-text g c =
    let digest = g.D.Digest.digest_of in
    let direction = c.args.direction in
    let story = story_of c.args.story in
    subst (Gives (λ bytes. bytes.items) text_fault_of c.change_of_batch-text.result)
    (sym (story-text digest direction story (stamp_of c.in_ok-stamp.stamp) c.in_ok-stamp.ensures c.in_ok-core.core c.in_ok-core.ensures.state))
    c.change_of_batch-text.ensures.text

pub returns-clause-refused : goal.returns-clause-refused
returns-clause-refused g c =
    let digest = g.D.Digest.digest_of in
    let story = story_of c.args.story in
    refused-after digest story (stamp_of c.in_ok-stamp.stamp) c.in_ok-stamp.ensures c.in_ok-core.core c.change_of_batch-text.result c.in_ok-core.ensures.state
    (further_all digest c.in_ok-core.core second_stamp story.batch (c.change_of_batch-text.new.store.full (omega arith)) c.change_of_batch-text.result
    c.change_of_batch-text.ensures.refused)
