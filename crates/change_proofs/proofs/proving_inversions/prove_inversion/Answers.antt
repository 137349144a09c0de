use Rattle.std.proofs.Common.{List, ℕ, map, subst, sym}
use Rattle.std.specs.Arc.{arc_value}
use Rattle.spec.specs.Blocks.{pairs}
use Rattle.spec.specs.States.{records}
use Rattle.lookups.specs.Trees.{HasTree}
use Rattle.repo.specs.Readings.{bytes_lent}
use Rattle.key_changes.proofs.Ascending.{are-keyed}
use Rattle.change_laws.specs.Told.{undone}
use Rattle.change_proofs.proofs.ReadNodes.{nodes-show, told-fault}
use Rattle.change_proofs.proofs.proving_inversions.prove_inversion.Goals as goal

pub returns-in-Ok-clause-proof : goal.returns-in-Ok-clause-proof
returns-in-Ok-clause-proof g c =
    let digest = g.D.Digest.digest_of in
    let es = pairs digest (records c.args.core.now) in
    c.in-Ok.ensures.proof es
    (subst (λ (root : List ℕ). HasTree digest g.row.B (bytes_lent c.lender-lender.result.blocks.now) root es)
    (sym c.root-root.ensures.value) c.lender-lender.ensures.tree)

pub returns-in-Ok-clause-shows : goal.returns-in-Ok-clause-shows
returns-in-Ok-clause-shows g c =
    let digest = g.D.Digest.digest_of in
    let es = pairs digest (records c.args.core.now) in
    let has = c.lender-lender.ensures.tree in
    let here = c.in-Ok.ensures.proof es
    (subst (λ (root : List ℕ). HasTree digest g.row.B (bytes_lent c.lender-lender.result.blocks.now) root es)
    (sym c.root-root.ensures.value) has) in
    nodes-show digest g.row.B g.met.D.Digest.digest_len c.args.changes.now es has.pairs
    (are-keyed (undone c.args.changes.now) c.requires.changes) (map arc_value c.in-Ok.nodes.items) here

pub returns-in-Err-clause-fault : goal.returns-in-Err-clause-fault
returns-in-Err-clause-fault g c =
    let digest = g.D.Digest.digest_of in
    let es = pairs digest (records c.args.core.now) in
    told-fault digest c.args.core.now c.args.changes.now c.in-Err.fault c.proving_fault.result c.proving_fault.ensures
    (c.in-Err.ensures.fault es
    (subst (λ (root : List ℕ). HasTree digest g.row.B (bytes_lent c.lender-lender.result.blocks.now) root es)
    (sym c.root-root.ensures.value) c.lender-lender.ensures.tree))
