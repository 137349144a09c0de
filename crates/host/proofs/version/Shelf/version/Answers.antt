use Rattle.std.proofs.Common.{subst, sym}
use Rattle.host.specs.Versions.{IsVersion}
use Rattle.host.proofs.version.Shelf.version.Goals as goal

pub returns-clause-lawful : goal.returns-clause-lawful
returns-clause-lawful g c = subst (IsVersion g.D.Digest.digest_of g.row.B) (sym c.value.ensures) c.receipt.invariant
