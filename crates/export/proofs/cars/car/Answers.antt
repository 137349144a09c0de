use Rattle.std.proofs.Common.{◌≡◌, List, ℕ, length, sym, ap, subst, ◌∙◌, rules}
use Rattle.std.specs.Prelude.{IfOk}
use Rattle.spec.specs.Blocks.{pairs}
use Rattle.spec.specs.States.{records, state_blocks, state_root}
use Rattle.export.specs.Founds.{bytes_in, may_repeat}
use Rattle.export.specs.Once.{capped, AreSingle}
use Rattle.export.specs.Outs.{Takes}
use Rattle.export.specs.Walks.{blocks_met, car_met}
use Rattle.export.proofs.Counted.{found-blocks, found-marked, found-tree}
use Rattle.export.proofs.Exported.{car-met, single-met}
use Rattle.export.proofs.cars.car.Goals as goal

pub returns-clause-taken : goal.returns-clause-taken
returns-clause-taken g c =
    let digest = g.D.Digest.digest_of in
    let m = c.lender-lender.result.blocks.now in
    let s = c.args.core.now in
    let is = ap (λ (n : ℕ). car_met digest (bytes_in m) n c.commit-commit.result c.root-root.result) c.layers-most.ensures
    ∙ car-met digest (bytes_in m) g.row.B g.met.D.Digest.digest_len s
    (found-blocks m digest (state_blocks digest g.row.B s) c.lender-lender.ensures.blocks)
    (found-tree m digest g.row.B (state_root digest g.row.B s) (pairs digest (records s)) c.lender-lender.ensures.tree)
    c.commit-commit.result c.root-root.result c.commit-commit.ensures.value c.root-root.ensures.value in
    subst (λ (file : List ℕ). Takes (g.W.Out.taken c.args.out.now) (g.W.Out.taken c.write_car.new.out) c.write_car.result file) is c.write_car.ensures.taken

pub returns-clause-length : goal.returns-clause-length
returns-clause-length g c =
    let digest = g.D.Digest.digest_of in
    let m = c.lender-lender.result.blocks.now in
    let s = c.args.core.now in
    let is = ap (λ (n : ℕ). car_met digest (bytes_in m) n c.commit-commit.result c.root-root.result) c.layers-most.ensures
    ∙ car-met digest (bytes_in m) g.row.B g.met.D.Digest.digest_len s
    (found-blocks m digest (state_blocks digest g.row.B s) c.lender-lender.ensures.blocks)
    (found-tree m digest g.row.B (state_root digest g.row.B s) (pairs digest (records s)) c.lender-lender.ensures.tree)
    c.commit-commit.result c.root-root.result c.commit-commit.ensures.value c.root-root.ensures.value in
    subst (λ (file : List ℕ). IfOk c.write_car.result (λ count. count ≡ capped (length file))) is c.write_car.ensures.length

pub write_car-requires : goal.write_car-requires
write_car-requires g c =
    let digest = g.D.Digest.digest_of in
    let m = c.lender-lender.result.blocks.now in
    let s = c.args.core.now in (
      search rules,
      (
        subst (λ (n : ℕ). AreSingle digest (may_repeat digest g.row.B s) (blocks_met (bytes_in m) n c.commit-commit.result c.root-root.result)) (sym c.layers-most.ensures)
            (single-met digest (bytes_in m) g.row.B g.met.D.Digest.digest_len s
            (found-blocks m digest (state_blocks digest g.row.B s) c.lender-lender.ensures.blocks)
            (found-tree m digest g.row.B (state_root digest g.row.B s) (pairs digest (records s)) c.lender-lender.ensures.tree)
            c.commit-commit.result c.root-root.result c.commit-commit.ensures.value c.root-root.ensures.value),
        found-marked m digest g.row.B s c.lender-lender.ensures.uses,
      ),
    )
