use Rattle.std.proofs.Common.{◌≡◌, ℕ, ◌<◌, ◌≤◌, [], length, slice_index_or}
use Rattle.sha2.specs.Sha256.{sha256}
use Rattle.sha256_lanes.specs.Blocks.{block_count, hash_at, one_of}
use Rattle.sha256_lanes.specs.Lanes.{lane}
use Rattle.sha256_lanes.proofs.four.digest_four.Given as goal

-- a lane follows its message to its last block, and from then on its digest is there
abbrev pub invariant-turns : goal.invariant-turns
invariant-turns l =
    let message = one_of l.a l.b l.c l.d in
    (length l.digests ≡ 4) × ((j : ℕ) → j < 4
    → (l.i ≤ block_count (message j) → lane j l.state ≡ hash_at (message j) l.i)
    × (block_count (message j) ≤ l.i → slice_index_or l.digests j [] ≡ sha256 (message j)))
