use Rattle.std.proofs.Common.{◌≡◌, ap, subst}
use Rattle.spec.specs.Reading.{Gives}
use Rattle.event_writing.specs.Views.{untold_fault_of}
use Rattle.event_commands.specs.Texts.{of_batch}
use Rattle.event_commands.proofs.Batches.{batch_has}
use Rattle.event_commands.proofs.writing.message_or.Goals as goal

pub returns-in-Ok-clause-message : goal.returns-in-Ok-clause-message
returns-in-Ok-clause-message g c read h =
    ap of_batch (subst (λ m. Gives (λ bytes. bytes.items) untold_fault_of m read) c.in-Ok.is h)

pub returns-in-Err-clause-message : goal.returns-in-Err-clause-message
returns-in-Err-clause-message g c read h =
    batch_has (untold_fault_of c.in-Err.fault) read (subst (λ m. Gives (λ bytes. bytes.items) untold_fault_of m read) c.in-Err.is h)
