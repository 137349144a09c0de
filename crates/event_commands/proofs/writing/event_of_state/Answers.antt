use Rattle.std.proofs.Common.{◌≡◌, sym, subst}
use Rattle.spec.specs.Reading.{Gives}
use Rattle.batches.specs.Values.{stamp_of}
use Rattle.event_writing.specs.Syncing.{sync_told_of}
use Rattle.event_writing.specs.Views.{told_of}
use Rattle.event_writing_laws.specs.Syncs.{sync_message}
use Rattle.repository_commands.specs.Faults.{text_fault_of}
use Rattle.repository_commands.specs.Views.{given_of}
use Rattle.event_commands.specs.Faults.{message_fault_of}
use Rattle.event_commands.proofs.Batches.{state_fails, state_told}
use Rattle.event_commands.proofs.Refusals.{all_lineless}
use Rattle.event_commands.proofs.writing.event_of_state.Goals as goal

pub returns-in-Ok-clause-message : goal.returns-in-Ok-clause-message
returns-in-Ok-clause-message g c =
    let digest = g.D.Digest.digest_of in
    let t = c.apply_puts.new.core in
    let beside = sync_told_of c.beside.result in
    subst (Gives (λ bytes. bytes.items) message_fault_of c.message_or.result)
    (sym (state_told digest c.args.core.now (stamp_of c.args.stamp.now) (given_of c.args.batch.now) (told_of c.args.told.now) t
    c.in-Ok.ensures.state beside c.beside.ensures))
    (c.message_or.ensures.message (sync_message digest 2 t beside) c.sync_event.ensures)

pub returns-in-Ok-clause-refused : goal.returns-in-Ok-clause-refused
returns-in-Ok-clause-refused g c =
    all_lineless g.D.Digest.digest_of c.args.core.now (stamp_of c.args.stamp.now) (given_of c.args.batch.now) _ c.message_or.result c.message_or.ensures.lineless

pub returns-in-Err-clause-message : goal.returns-in-Err-clause-message
returns-in-Err-clause-message g c =
    state_fails g.D.Digest.digest_of c.args.core.now (stamp_of c.args.stamp.now) (given_of c.args.batch.now) (told_of c.args.told.now)
    (text_fault_of c.in-Err.fault) c.in-Err.ensures.state

pub returns-in-Err-clause-refused : goal.returns-in-Err-clause-refused
returns-in-Err-clause-refused g c = c.in-Err.ensures.refused
