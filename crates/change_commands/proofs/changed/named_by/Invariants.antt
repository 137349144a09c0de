use Rattle.std.proofs.Common.{◌≡◌, take}
use Rattle.batch_laws.specs.Collecting.{collected}
use Rattle.batches.specs.Values.{writes_of}
use Rattle.repo.specs.Tested.{changes_of}
use Rattle.change_commands.proofs.changed.named_by.Given as goal

abbrev pub invariant-loop-write : goal.invariant-loop-write
invariant-loop-write l = changes_of l.named.entries ≡ collected (writes_of (take l.write-index l.writes))
