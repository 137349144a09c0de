use Rattle.std.proofs.Common.{◌≡◌, ℕ, List, [], ◌∷◌, ◌≤◌, ◌+◌, lit<, arith, refl, slice_index}
use Rattle.sha256_lanes.specs.Blocks.{block_count, one_of}
use Rattle.sha256_lanes.proofs.LaneLemmas.{below_four}
use Rattle.sha256_lanes.proofs.BlockLemmas.{block_count_is}
use Rattle.sha256_lanes.proofs.FourLemmas.{first_hash, kept, four_of}
use Rattle.sha256_lanes.proofs.four.digest_four.Goals as goal

pub turns-init : goal.turns-init
turns-init c = (
  refl,
  λ j lt.
      let m = one_of c.args.a.now c.args.b.now c.args.c.now c.args.d.now j in
      let count = block_count_is m in
      (λ _. first_hash m _ (c.initial-state.ensures j lt), λ h. absurd (omega arith)),
)

pub turns-preserved : goal.turns-preserved
turns-preserved c = (
  c.take_done.array_long,
  λ j lt.
      let m : ℕ → List ℕ = one_of c.args.a.now c.args.b.now c.args.c.now c.args.d.now in
      let held = c.turns.invariant.1 j lt in
      let counts : List ℕ = c.block_count.result ∷ c.block_count-2.result ∷ c.block_count-3.result ∷ c.block_count-4.result ∷ [] in
      let counted : slice_index counts j ≡ block_count (m j) =
      below_four (λ k. slice_index counts k ≡ block_count (m k)) c.block_count.ensures.value c.block_count-2.ensures.value
      c.block_count-3.ensures.value c.block_count-4.ensures.value j lt in
      let hashed = λ (h : c.turns.i + 1 ≤ block_count (m j)). c.absorb.ensures j lt (omega arith) (held.0 (omega arith)) in
      (hashed, kept (m j) _ _ _ c.turns.i _ counted (c.take_done.ensures j lt) hashed held.1),
)

pub returns : goal.returns
returns c =
    let held = c.turns.invariant.1 in
    four_of c.turns.digests _ _ _ _ c.turns.invariant.0
    ((held 0 (lit< tt)).1 (omega (arith, c.block_count.ensures.value)))
    ((held 1 (lit< tt)).1 (omega (arith, c.block_count-2.ensures.value)))
    ((held 2 (lit< tt)).1 (omega (arith, c.block_count-3.ensures.value)))
    ((held 3 (lit< tt)).1 (omega (arith, c.block_count-4.ensures.value)))
