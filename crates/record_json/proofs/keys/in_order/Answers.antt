use Rattle.std.proofs.Common.{◌≡◌, ◌∙◌, map, IsPermutation, subst, arith, rules}
use Rattle.std.proofs.lemmas.List.{take_all}
use Rattle.std.proofs.lemmas.List.Sorted.{IsPermutation-map}
use Rattle.record_json.proofs.KeyOrders.{by_key_order}
use Rattle.record_json.proofs.keys.in_order.Goals as goal

pub returns-clause-same : goal.returns-clause-same
returns-clause-same g c =
    let xs = c.args.members.now.items in
    let whole : map (λ m. m.now) c.loop-member.sorted.items ≡ xs = c.loop-member.invariant ∙ take_all _ xs (omega arith) in
    subst (λ ys. IsPermutation ys (map (λ m. m.now) c.sort_unstable_by.new.self.items)) whole (IsPermutation-map (λ m. m.now) _ _ c.sort_unstable_by.ensures.permutation)

pub returns-clause-ascending : goal.returns-clause-ascending
returns-clause-ascending g c = by_key_order (λ m. m.now.0.now) _ c.sort_unstable_by.ensures.sorted (λ a r q k. search rules)
