use Rattle.std.proofs.Common.{subst}
use Rattle.closing.specs.Settling.{UnevenView, IsUneven}
use Rattle.closing.proofs.closed.Uneven.mismatch.Goals as goal

pub returns-clause-uneven : goal.returns-clause-uneven
returns-clause-uneven g c =
    subst (λ (v : UnevenView). IsUneven g.D.Digest.digest_of g.row.B v.cores v.tables v.ended c.self.inside.mismatch) c.self.view_is c.self.invariant
