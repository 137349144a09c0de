use Rattle.std.proofs.Common.{◌≡◌, map, take}
use Rattle.spec.specs.Cid.{cid}
use Rattle.spec.specs.NodeFormat.{shape_bytes}
use Rattle.difference.specs.Sides.{shapes_in}
use Rattle.difference.proofs.comparing.cids.Given as goal

abbrev pub invariant-loop-node : goal.invariant-loop-node
invariant-loop-node g l =
    l.cids.items ≡ map (cid g.D.Digest.digest_of) (map shape_bytes (shapes_in (take l.node-index l.blocks)))
