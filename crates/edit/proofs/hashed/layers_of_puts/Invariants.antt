use Rattle.std.proofs.Common.{◌≡◌, take}
use Rattle.spec.specs.Layer.{layer}
use Rattle.batch_laws.specs.Counts.{put_layers}
use Rattle.edit.proofs.hashed.layers_of_puts.Given as goal

abbrev pub invariant-loop-change : goal.invariant-loop-change
invariant-loop-change g l = l.most ≡ put_layers (layer g.D.Digest.digest_of g.row.B) (take l.change-index l.changes)
