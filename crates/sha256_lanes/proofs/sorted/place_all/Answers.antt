use Rattle.std.proofs.Common.{length}
use Rattle.sha256_lanes.specs.Digests.{digests_of}
use Rattle.sha256_lanes.proofs.PlaceLemmas.{four_more}
use Rattle.sha256_lanes.proofs.sorted.place_all.Goals as goal

pub fours-preserved : goal.fours-preserved
fours-preserved g c =
    four_more (digests_of g.T.AsSlice.items c.args.messages.now) c.fours.digests c.place_four.new.digests _ (length c.args.messages.now)
    c.fours.rest.now c.in-len4-up.len_at_least c.place_four.ensures c.fours.invariant.0 c.fours.invariant.1
