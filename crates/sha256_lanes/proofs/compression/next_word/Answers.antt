use Rattle.std.proofs.Common.{◌≡◌, ◌+◌, ◌%◌, arith, refl}
use Rattle.sha256_lanes.proofs.LaneLemmas.{slice_index-words}
use Rattle.sha256_lanes.proofs.compression.next_word.Goals as goal

pub returns-clause-value : goal.returns-clause-value
returns-clause-value c j h =
    let w = c.args.w.now in
    let at : c.args.place % 16 ≡ c.args.place = omega arith in
    rw (
      at,
      slice_index-words w j ((c.args.place + 14) % 16) (omega arith),
      slice_index-words w j ((c.args.place + 9) % 16) (omega arith),
      slice_index-words w j ((c.args.place + 1) % 16) (omega arith),
      slice_index-words w j c.args.place (omega arith),
      c.add-word.ensures j h,
      c.add.ensures j h,
      c.add-near.ensures j h,
      c.small_sigma1.ensures j h,
      c.small_sigma0-far.ensures j h,
    ) refl
