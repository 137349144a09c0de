use Rattle.std.proofs.Common.{◌≡◌, ℕ, List, ◌<◌, ◌+◌, lit<}
use Rattle.sha256_lanes.specs.Blocks.{block_count, hash_at, one_of}
use Rattle.sha256_lanes.specs.Lanes.{lane}
use Rattle.sha256_lanes.proofs.LaneLemmas.{below_four}
use Rattle.sha256_lanes.proofs.FourLemmas.{next_block}
use Rattle.sha256_lanes.proofs.four.absorb.Goals as goal

pub returns : goal.returns
returns c =
    let m : ℕ → List ℕ = one_of c.args.a.now c.args.b.now c.args.c.now c.args.d.now in
    let i = c.args.i in
    below_four (λ j. i < block_count (m j) → lane j c.args.state.now ≡ hash_at (m j) i → lane j c.compress.new.state ≡ hash_at (m j) (i + 1))
    (next_block c.args.a.now _ _ _ i c.padded_block.ensures (c.compress.ensures 0 (lit< tt)))
    (next_block c.args.b.now _ _ _ i c.padded_block-2.ensures (c.compress.ensures 1 (lit< tt)))
    (next_block c.args.c.now _ _ _ i c.padded_block-3.ensures (c.compress.ensures 2 (lit< tt)))
    (next_block c.args.d.now _ _ _ i c.padded_block-4.ensures (c.compress.ensures 3 (lit< tt)))
