use Rattle.std.proofs.Common.{◌-◌, ℕ, ap, get_or, subst, arith, ◌∙◌}
use Rattle.repo.specs.Prepared.{Prepared, IsPreparedBatch}
use Rattle.repo.proofs.Telling.{commit-last, is-passed, some-come}
use Rattle.repo.proofs.prepared.PreparedBatch.commit_block.Goals as goal

pub index-requires : goal.index-requires
index-requires g c =
    let p = c.args.self.now in
    let x = c.self.inside.exchange in
    let is = subst (λ (q : Prepared). IsPreparedBatch g.D.Digest.digest_of g.row.B q c.self.inside.previous x) c.self.view_is c.self.invariant in
    let some = some-come g.D.Digest.digest_of g.row.B p c.self.inside.previous x is in
    omega (arith, some, c.len.ensures, x.come.ok.0)

pub returns-clause-value : goal.returns-clause-value
returns-clause-value g c =
    let p = c.args.self.now in
    let x = c.self.inside.exchange in
    let is = subst (λ (q : Prepared). IsPreparedBatch g.D.Digest.digest_of g.row.B q c.self.inside.previous x) c.self.view_is c.self.invariant in
    commit-last g.D.Digest.digest_of g.row.B p c.self.inside.previous x is c.index.result.now
    (c.index.ensures ∙ ap (λ (n : ℕ). get_or x.come.items (n - 1) c.index.result.now) (c.len.ensures ∙ x.come.ok.0))

pub returns-clause-passed : goal.returns-clause-passed
returns-clause-passed g c =
    let p = c.args.self.now in
    let x = c.self.inside.exchange in
    let is = subst (λ (q : Prepared). IsPreparedBatch g.D.Digest.digest_of g.row.B q c.self.inside.previous x) c.self.view_is c.self.invariant in
    is-passed g.D.Digest.digest_of g.row.B p c.self.inside.previous x is
