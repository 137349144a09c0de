use Rattle.std.proofs.Common.{refl, sym, arith}
use Rattle.sha2.proofs.Schedule256.{rounds_first}
use Rattle.sha256_lanes.specs.Lanes.{words}
use Rattle.sha256_lanes.proofs.LaneLemmas.{slice_index-words}
use Rattle.sha256_lanes.proofs.compression.first_step.Goals as goal

pub returns : goal.returns
returns c b h j lane window held =
    rounds_first b h (words j c.args.w.now) _ c.args.t _ _ _ c.requires window held refl
    (sym (slice_index-words c.args.w.now j c.args.t (omega arith))) (c.round.ensures j lane)
