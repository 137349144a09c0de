use Rattle.std.proofs.Common.{◌≡◌, ◌<◌, ◌∙◌, Bor, List, ℕ, ap, rules, arith, take, length, slice_index_or}
use Rattle.std.specs.Prelude.{Some, None}
use Rattle.std.proofs.lemmas.List.{get_or_default}
use Rattle.buffers.specs.Framing.{cid_at}
use Rattle.buffers.proofs.Beside.{value_next, value_none}
use Rattle.buffers.proofs.cids.pairs.Goals as goal

pub returns-in_default : goal.returns-in_default
returns-in_default c =
    let within : c.loop-part.part-index < length c.args.parts.now = grind arith in
    let found : cid_at (take 36 c.loop-part.rest.now) ≡ None = search rules in
    value_none cid_at (λ part. part.now) c.args.cids _ _ c.args.parts.now c.loop-part.part-index c.loop-part.rest.now c.loop-part.invariant within found

pub loop-part-preserved : goal.loop-part-preserved
loop-part-preserved c =
    let within : c.loop-part.part-index < length c.args.parts.now = grind arith in
    let found : cid_at (take 36 c.loop-part.rest.now) ≡ Some c.in-Some.cid = search rules in
    let is : c.in_ok-key.key.items ≡ (slice_index_or c.args.parts.now c.loop-part.part-index c.args.cids).now = c.in_ok-key.ensures.items ∙ ap (λ (b : Bor (List ℕ)). b.now) (get_or_default c.args.parts.now c.loop-part.part-index _ c.args.cids within) in
    value_next cid_at (λ part. part.now) (λ pair. (pair.0.items, pair.1)) c.args.cids _ c.loop-part.pairs.items c.push.new.self.items _ c.args.parts.now c.loop-part.part-index c.loop-part.rest.now c.next_value.result.1.now c.in-Some.cid
    c.in_ok-push.ensures.items (ap (λ (k : List ℕ). (k, c.in-Some.cid)) is) c.loop-part.invariant within found c.next_value.ensures.rest
