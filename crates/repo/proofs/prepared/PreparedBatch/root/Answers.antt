use Rattle.std.proofs.Common.{subst}
use Rattle.repo.specs.Prepared.{Prepared, IsPreparedBatch}
use Rattle.repo.proofs.Telling.{is-passed, root-is}
use Rattle.repo.proofs.prepared.PreparedBatch.root.Goals as goal

pub returns-clause-value : goal.returns-clause-value
returns-clause-value g c =
    let p = c.args.self.now in
    let x = c.self.inside.exchange in
    let is = subst (λ (q : Prepared). IsPreparedBatch g.D.Digest.digest_of g.row.B q c.self.inside.previous x) c.self.view_is c.self.invariant in
    root-is g.D.Digest.digest_of g.row.B p c.self.inside.previous x is

pub returns-clause-changed : goal.returns-clause-changed
returns-clause-changed g c =
    let p = c.args.self.now in
    let x = c.self.inside.exchange in
    let is = subst (λ (q : Prepared). IsPreparedBatch g.D.Digest.digest_of g.row.B q c.self.inside.previous x) c.self.view_is c.self.invariant in
    is.made.exchange.root_is

pub returns-clause-passed : goal.returns-clause-passed
returns-clause-passed g c =
    let p = c.args.self.now in
    let x = c.self.inside.exchange in
    let is = subst (λ (q : Prepared). IsPreparedBatch g.D.Digest.digest_of g.row.B q c.self.inside.previous x) c.self.view_is c.self.invariant in
    is-passed g.D.Digest.digest_of g.row.B p c.self.inside.previous x is
