use Rattle.std.proofs.Common.{ap, subst, ◌∙◌, map}
use Rattle.std.specs.Arc.{arc_value}
use Rattle.repo.specs.Prepared.{Prepared, IsPreparedBatch}
use Rattle.repo.proofs.Telling.{is-passed}
use Rattle.repo.proofs.prepared.PreparedBatch.nodes_read.Goals as goal

pub returns-clause-value : goal.returns-clause-value
returns-clause-value g c =
    let p = c.args.self.now in
    let x = c.self.inside.exchange in
    let is = subst (λ (q : Prepared). IsPreparedBatch g.D.Digest.digest_of g.row.B q c.self.inside.previous x) c.self.view_is c.self.invariant in
    ap (map arc_value) c.deref.ensures.value ∙ is.made.read_is

pub returns-clause-passed : goal.returns-clause-passed
returns-clause-passed g c =
    let p = c.args.self.now in
    let x = c.self.inside.exchange in
    let is = subst (λ (q : Prepared). IsPreparedBatch g.D.Digest.digest_of g.row.B q c.self.inside.previous x) c.self.view_is c.self.invariant in
    is-passed g.D.Digest.digest_of g.row.B p c.self.inside.previous x is
