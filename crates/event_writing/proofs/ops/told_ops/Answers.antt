use Rattle.std.proofs.Common.{◌≡◌, List, true, sym, subst}
use Rattle.key_changes.specs.Keyed.{are_changes}
use Rattle.key_changes.proofs.Ascending.{are-keyed, keyed-changes}
use Rattle.change_laws.specs.Told.{KeyChange, undone}
use Rattle.event_laws.specs.Ops.{ops_of}
use Rattle.event_writing_laws.proofs.Kept.{keyed-kept}
use Rattle.event_writing.proofs.ops.told_ops.Goals as goal

pub returns-clause-changes : goal.returns-clause-changes
returns-clause-changes g c =
    let cs = c.args.changes.now in
    subst (λ (xs : List KeyChange). are_changes (undone xs) ≡ true) (sym c.in_ok-ops.ensures)
    (keyed-changes (undone (ops_of cs)) (keyed-kept cs (are-keyed (undone cs) c.requires)))
