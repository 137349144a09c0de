use Rattle.std.proofs.Common.{◌∙◌, false, true}
use Rattle.lookups.specs.Maps.{first_of}
use Rattle.difference_commands.proofs.Giving.{asked-more}
use Rattle.difference_commands.proofs.trees.gives_all.Goals as goal

pub returns-then-not-gives-clause-all : goal.returns-then-not-gives-clause-all
returns-then-not-gives-clause-all g c =
    let digest = g.D.Digest.digest_of in
    asked-more digest (first_of digest c.loop-block.source.blocks) (first_of digest c.args.source.now.blocks) c.args.blocks.now c.loop-block.block-index
    c.block-item.result c.deref.result.now c.gives.result false _ c.loop-block.invariant.same c.loop-block-test.true c.block-item.is c.deref.ensures
    c.gives.ensures.given c.if-not-gives.true c.loop-block.invariant.so_far

pub loop-block-preserved : goal.loop-block-preserved
loop-block-preserved g c = record {
  so_far = let digest = g.D.Digest.digest_of in
      asked-more digest (first_of digest c.loop-block.source.blocks) (first_of digest c.args.source.now.blocks) c.args.blocks.now c.loop-block.block-index
      c.block-item.result c.deref.result.now c.gives.result true _ c.loop-block.invariant.same c.loop-block-test.true c.block-item.is c.deref.ensures
      c.gives.ensures.given c.if-not-gives.false c.loop-block.invariant.so_far;
  same = c.gives.ensures.same ∙ c.loop-block.invariant.same;
}
