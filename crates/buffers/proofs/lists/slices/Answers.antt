use Rattle.std.proofs.Common.{◌≡◌, ◌<◌, rules, arith, length, slice_index_or, refl}
use Rattle.std.specs.Prelude.{Some}
use Rattle.buffers.specs.Framing.{cut, part_at}
use Rattle.buffers.proofs.Cutting.{cut_next}
use Rattle.buffers.proofs.lists.slices.Goals as goal

pub loop-end-preserved : goal.loop-end-preserved
loop-end-preserved c =
    let within : c.loop-end.end-index < length c.args.ends.now = grind arith in
    let next : part_at c.loop-end.start (slice_index_or c.args.ends.now c.loop-end.end-index 0) c.loop-end.rest.now ≡ Some (c.in-Some.part.now, c.in-Some.after.now) = search rules in
    cut_next (λ part. part.now) (cut 0 c.args.ends.now c.args.bytes.now) c.loop-end.parts.items c.push.new.self.items c.in-Some.part c.args.ends.now c.loop-end.end-index c.loop-end.start c.loop-end.rest.now c.in-Some.part.now c.in-Some.after.now
    c.in_ok-push.ensures.items refl c.loop-end.invariant within next
