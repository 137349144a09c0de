use Rattle.std.proofs.Common.{subst, sym, map, take}
use Rattle.std.specs.Arc.{arc_value}
use Rattle.std.proofs.lemmas.List.{take-map}
use Rattle.repo.specs.Prepared.{AreNodesAdded, Prepared, IsPreparedBatch}
use Rattle.repo.proofs.Telling.{added, is-passed}
use Rattle.repo.proofs.prepared.PreparedBatch.nodes_added.Goals as goal

pub returns-clause-value : goal.returns-clause-value
returns-clause-value g c =
    let p = c.args.self.now in
    let x = c.self.inside.exchange in
    let is = subst (λ (q : Prepared). IsPreparedBatch g.D.Digest.digest_of g.row.B q c.self.inside.previous x) c.self.view_is c.self.invariant in
    subst (λ xs. AreNodesAdded g.D.Digest.digest_of g.row.B p (map arc_value (take x.nodes xs))) (sym c.deref.ensures.value)
    (subst (AreNodesAdded g.D.Digest.digest_of g.row.B p) (take-map arc_value x.nodes x.come.items)
    (added g.D.Digest.digest_of g.row.B p c.self.inside.previous x is))

pub returns-clause-passed : goal.returns-clause-passed
returns-clause-passed g c =
    let p = c.args.self.now in
    let x = c.self.inside.exchange in
    let is = subst (λ (q : Prepared). IsPreparedBatch g.D.Digest.digest_of g.row.B q c.self.inside.previous x) c.self.view_is c.self.invariant in
    is-passed g.D.Digest.digest_of g.row.B p c.self.inside.previous x is
