use Rattle.std.proofs.Common.{◌≡◌, length, map, ◌∙◌}
use Rattle.std.proofs.lemmas.List.{length-map, take_at}
use Rattle.std.specs.List.{range_with_len}
use Rattle.std.specs.List.Sorted.{IsPermutation}
use Rattle.sha2.specs.Sha256.{sha256}
use Rattle.sha256_lanes.specs.Digests.{digests_of}
use Rattle.sha256_lanes.proofs.PlaceLemmas.{order_below, pairs_below, written_all}
use Rattle.sha256_lanes.proofs.sorted.digest_part.Goals as goal

pub place_all-requires-clause-below : goal.place_all-requires-clause-below
place_all-requires-clause-below g c =
    let n = length c.args.messages.now in
    let order : IsPermutation (range_with_len 0 n) (map (λ p. p.1) c.deref.result.now) = rw (c.deref.ensures.value) c.in_ok-order.ensures in
    pairs_below n c.deref.result.now (order_below n (map (λ p. p.1) c.deref.result.now) order)

pub returns : goal.returns
returns g c =
    let n = length c.args.messages.now in
    let order : IsPermutation (range_with_len 0 n) (map (λ p. p.1) c.deref.result.now) = rw (c.deref.ensures.value) c.in_ok-order.ensures in
    let long : length c.deref_mut.result.now ≡ n = c.deref_mut.ensures.len ∙ c.in_ok-digests.ensures.len in
    let all = c.place_all.ensures ∙ written_all (digests_of g.T.AsSlice.items c.args.messages.now) c.deref_mut.result.now n (map (λ p. p.1) c.deref.result.now) (length-map c.args.messages.now (λ m. sha256 (g.T.AsSlice.items m))) long order in
    take_at c.place_all.new.digests _ c.in_ok-digests.digests.len (c.place_all.auto.digests ∙ c.deref_mut.ensures.len) ∙ all
