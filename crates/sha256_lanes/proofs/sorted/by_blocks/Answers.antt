use Rattle.std.proofs.Common.{◌≡◌, ◌∷◌, ◌++◌, [], rules, arith, refl, length, map, ◌∙◌, ap}
use Rattle.std.specs.List.{range_with_len}
use Rattle.std.proofs.lemmas.List.Sorted.{IsPermutation-map}
use Rattle.sha256_lanes.proofs.PlaceLemmas.{one_more_place}
use Rattle.sha256_lanes.proofs.sorted.by_blocks.Goals as goal

pub places-preserved : goal.places-preserved
places-preserved g c =
    let pushed : c.push.new.self.items ≡ c.places.order.items ++ (c.block_count.result, c.places.place) ∷ [] = search rules in
    one_more_place c.places.order.items c.push.new.self.items (c.block_count.result, c.places.place) c.places.place pushed refl c.places.invariant

pub returns : goal.returns
returns g c =
    let done : c.places.place ≡ length c.args.messages.now = omega arith in
    let all : map (λ p. p.1) c.places.order.items ≡ range_with_len 0 (length c.args.messages.now) = c.places.invariant ∙ ap (range_with_len 0) done in
    rw all at (IsPermutation-map (λ p. p.1) _ _ c.sort.ensures.permutation)
