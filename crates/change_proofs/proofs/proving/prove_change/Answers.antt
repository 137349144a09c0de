use Rattle.std.proofs.Common.{List, ℕ, subst, sym}
use Rattle.spec.specs.Blocks.{pairs}
use Rattle.spec.specs.States.{records}
use Rattle.lookups.specs.Trees.{HasTree}
use Rattle.repo.specs.Readings.{bytes_lent}
use Rattle.change_proofs.proofs.proving.prove_change.Goals as goal

pub returns-in-Ok : goal.returns-in-Ok
returns-in-Ok g c =
    let digest = g.D.Digest.digest_of in
    let es = pairs digest (records c.args.core.now) in
    c.in-Ok.ensures.proof es
    (subst (λ (root : List ℕ). HasTree digest g.row.B (bytes_lent c.lender-lender.result.blocks.now) root es)
    (sym c.root-root.ensures.value) c.lender-lender.ensures.tree)
