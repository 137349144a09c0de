use Rattle.std.proofs.Common.{◌≡◌, drop, map}
use Rattle.std.specs.List.{list_all}
use Rattle.std.specs.Arc.{arc_value}
use Rattle.repository_check.specs.Given.{is_given}
use Rattle.repository_check.proofs.tree.are_given.Given as goal

-- all are given if those to come are
abbrev pub invariant-loop-block : goal.invariant-loop-block
invariant-loop-block g l =
    list_all (is_given g.D.Digest.digest_of l.places) (map arc_value (drop l.block-index l.blocks))
    ≡ list_all (is_given g.D.Digest.digest_of l.places) (map arc_value l.blocks)
