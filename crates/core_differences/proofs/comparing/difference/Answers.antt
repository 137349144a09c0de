use Rattle.std.proofs.Common.{◌≡◌, List, ℕ, Option, sym, ap₂, ◌∙◌}
use Rattle.std.specs.declared.sync.Arc.{Arc}
use Rattle.spec.specs.Blocks.{pairs}
use Rattle.spec.specs.States.{records}
use Rattle.core_differences.specs.Lent.{lent_by}
use Rattle.core_differences.proofs.Lending.{new-tree, old-tree}
use Rattle.core_differences.proofs.comparing.difference.Goals as goal

pub returns-clause-difference : goal.returns-clause-difference
returns-clause-difference g c apart =
    let digest = g.D.Digest.digest_of in
    let old = c.lender-earlier in
    let new = c.lender-later in
    let gives : ◌≡◌ {A = List ℕ → Option (Arc (List ℕ) g.row.A.Denot)} (lent_by digest c.new-blocks.result.first.blocks.now c.new-blocks.result.second.blocks.now)
    (lent_by digest new.result.blocks.now old.result.blocks.now)
    = ap₂ (λ x y. lent_by digest x.blocks.now y.blocks.now) c.new-blocks.ensures.first c.new-blocks.ensures.second in
    c.difference.ensures.compared (pairs digest (records c.args.old.now)) (pairs digest (records c.args.new.now))
    (old-tree digest g.row.B c.args.old.now c.args.new.now old.result.blocks.now new.result.blocks.now old.ensures.blocks old.ensures.uses
    new.ensures.blocks new.ensures.uses apart _ gives old.ensures.tree c.root-before.result c.root-before.ensures.value)
    (new-tree digest g.row.B c.args.old.now c.args.new.now old.result.blocks.now new.result.blocks.now old.ensures.blocks old.ensures.uses
    new.ensures.blocks new.ensures.uses _ gives new.ensures.tree c.root-after.result c.root-after.ensures.value)

pub returns-clause-fault : goal.returns-clause-fault
returns-clause-fault g c apart =
    let digest = g.D.Digest.digest_of in
    let old = c.lender-earlier in
    let new = c.lender-later in
    let gives : ◌≡◌ {A = List ℕ → Option (Arc (List ℕ) g.row.A.Denot)} (lent_by digest c.new-blocks.result.first.blocks.now c.new-blocks.result.second.blocks.now)
    (lent_by digest new.result.blocks.now old.result.blocks.now)
    = ap₂ (λ x y. lent_by digest x.blocks.now y.blocks.now) c.new-blocks.ensures.first c.new-blocks.ensures.second in
    c.difference.ensures.no_fault (pairs digest (records c.args.old.now)) (pairs digest (records c.args.new.now))
    (old-tree digest g.row.B c.args.old.now c.args.new.now old.result.blocks.now new.result.blocks.now old.ensures.blocks old.ensures.uses
    new.ensures.blocks new.ensures.uses apart _ gives old.ensures.tree c.root-before.result c.root-before.ensures.value)
    (new-tree digest g.row.B c.args.old.now c.args.new.now old.result.blocks.now new.result.blocks.now old.ensures.blocks old.ensures.uses
    new.ensures.blocks new.ensures.uses _ gives new.ensures.tree c.root-after.result c.root-after.ensures.value)

pub returns-clause-equal : goal.returns-clause-equal
returns-clause-equal g c e = c.difference.ensures.equal (c.root-before.ensures.value ∙ e ∙ sym c.root-after.ensures.value)
