use Rattle.std.proofs.Common.{rules, length, ◌<◌, sym, subst}
use Rattle.std.proofs.Common.{◌+◌, slice_set}
use Rattle.scripts.proofs.Merged.{AreMerged, is_there, merged_more, has_one, no_rest, lists}
use Rattle.scripts.proofs.merging.in_order.Goals as goal

pub unreachable-requires : goal.unreachable-requires
unreachable-requires g c =
    let lt : c.loop-line.line-index < length c.args.lines.now = search rules in
    let small = is_there c.args.given.items c.loop-line.given.items c.args.lines.now c.loop-line.line-index c.loop-line.answers.items c.line-item.result
    c.loop-line.invariant.merged c.requires.workers lt c.line-item.is in
    let some = has_one (lists c.args.given.items) c.loop-line.given.items c.args.lines.now c.loop-line.line-index c.loop-line.answers.items c.line-item.result c.index_mut.result.now
    c.loop-line.invariant.merged lt c.line-item.is small c.index_mut.ensures.value in
    no_rest c.index_mut.result.now.items c.pop_front.new.self.items c.in-None.ensures.items c.in-None.ensures.rest some

pub loop-line-preserved : goal.loop-line-preserved
loop-line-preserved g c =
    let lt : c.loop-line.line-index < length c.args.lines.now = search rules in
    let small = is_there c.args.given.items c.loop-line.given.items c.args.lines.now c.loop-line.line-index c.loop-line.answers.items c.line-item.result
    c.loop-line.invariant.merged c.requires.workers lt c.line-item.is in
    record {
      merged = subst (λ xs. AreMerged (lists c.args.given.items) c.args.lines.now (c.loop-line.line-index + 1) xs (lists (slice_set c.loop-line.given.items c.line-item.result.worker c.pop_front.new.self))) (sym c.push_reserved.ensures.items)
          (merged_more (lists c.args.given.items) c.loop-line.given.items c.args.lines.now c.loop-line.line-index c.loop-line.answers.items c.line-item.result c.index_mut.result.now c.pop_front.new.self c.in-Some.answer
          c.loop-line.invariant.merged lt c.line-item.is small c.index_mut.ensures.value c.in-Some.ensures.items);
      room = search rules;
    }
