use Rattle.std.proofs.Common.{◌≡◌, drop, map}
use Rattle.std.specs.List.{list_all}
use Rattle.std.specs.Arc.{arc_value}
use Rattle.lookups.specs.Maps.{first_of}
use Rattle.difference_commands.specs.Trees.{is_given}
use Rattle.difference_commands.proofs.trees.gives_all.Given as goal

-- all are given if those to come are
abbrev pub invariant-loop-block : goal.invariant-loop-block
invariant-loop-block g l = record {
  so_far : list_all (is_given g.D.Digest.digest_of (first_of g.D.Digest.digest_of l.initial.source.blocks)) (map arc_value (drop l.block-index l.blocks))
      ≡ list_all (is_given g.D.Digest.digest_of (first_of g.D.Digest.digest_of l.initial.source.blocks)) (map arc_value l.blocks);
  same : first_of g.D.Digest.digest_of l.source.blocks ≡ first_of g.D.Digest.digest_of l.initial.source.blocks;
}
