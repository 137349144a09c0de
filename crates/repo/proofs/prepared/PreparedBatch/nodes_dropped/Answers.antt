use Rattle.std.proofs.Common.{subst, sym, take}
use Rattle.repo.specs.Prepared.{AreNodesDropped, Prepared, IsPreparedBatch}
use Rattle.repo.proofs.Telling.{dropped, is-passed}
use Rattle.repo.proofs.prepared.PreparedBatch.nodes_dropped.Goals as goal

pub returns-clause-value : goal.returns-clause-value
returns-clause-value g c =
    let p = c.args.self.now in
    let x = c.self.inside.exchange in
    let is = subst (λ (q : Prepared). IsPreparedBatch g.D.Digest.digest_of g.row.B q c.self.inside.previous x) c.self.view_is c.self.invariant in
    subst (λ xs. AreNodesDropped g.D.Digest.digest_of g.row.B p (take x.gone xs)) (sym c.deref.ensures.value)
    (dropped g.D.Digest.digest_of g.row.B p c.self.inside.previous x is)

pub returns-clause-passed : goal.returns-clause-passed
returns-clause-passed g c =
    let p = c.args.self.now in
    let x = c.self.inside.exchange in
    let is = subst (λ (q : Prepared). IsPreparedBatch g.D.Digest.digest_of g.row.B q c.self.inside.previous x) c.self.view_is c.self.invariant in
    is-passed g.D.Digest.digest_of g.row.B p c.self.inside.previous x is
