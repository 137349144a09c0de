use Rattle.std.proofs.Common.{[], arith, ◌∙◌}
use Rattle.node.proofs.KeyParts.{last_part, before-last}
use Rattle.node.proofs.key_before.count_before.Goals as goal

pub loop-count-preserved : goal.loop-count-preserved
loop-count-preserved c =
    let l = c.loop-count in
    let parts = c.args.parts.now in
    let is = last_part parts l.count _ c.requires.are (omega arith) l.invariant.fits in
    let begins = c.if-place-parts.true in
    record {
      fits = omega (arith, l.invariant.fits);
      same = before-last c.args.place parts l.count _ is begins ∙ l.invariant.same;
      within = omega (arith, begins, is.within);
    }

pub returns-else-place-parts-clause-before : goal.returns-else-place-parts-clause-before
returns-else-place-parts-clause-before c =
    let l = c.loop-count in
    let parts = c.args.parts.now in
    let is = last_part parts l.count (record { prefix = 0; suffix = record { ref_ptr = (0, 0); now = [] } }) c.requires.are (omega arith) l.invariant.fits in
    omega (arith, is.begins, c.if-place-parts.false)
