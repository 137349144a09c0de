use Rattle.std.proofs.Common.{◌++◌, ◌∷◌, [], map, sym, ap, ◌∙◌, arith}
use Rattle.std.proofs.lemmas.List.FromFn.{map-range_with_len_more}
use Rattle.std.specs.List.{range_with_len}
use Rattle.notices.specs.Views.{fresh, made_one}
use Rattle.notices.proofs.queue.Queue.open.Goals as goal

pub push_reserved-requires : goal.push_reserved-requires
push_reserved-requires g c = let a = c.loop-writer.invariant.len in let b = c.loop-writer.invariant.room in let t = c.loop-writer-test.true in omega arith

pub loop-writer-preserved : goal.loop-writer-preserved
loop-writer-preserved g c =
    let i = c.loop-writer.invariant in
    let t = c.in_ok-queue.queue.queue_id in
    let p = c.push_reserved.ensures in
    let s = c.make_pass-pass.ensures in record {
      passes = p.items ∙ ap (λ l. l ++ c.make_pass-pass.result ∷ []) i.passes ∙ ap (λ x. map (fresh t) (range_with_len 0 c.loop-writer.writer) ++ x ∷ []) s.pass ∙ sym (map-range_with_len_more (fresh t) 0 c.loop-writer.writer c.loop-writer.writer (omega arith));
      feed = s.feed ∙ ap made_one i.feed;
      len = omega (arith, p.len, i.len);
      room = omega (arith, p.capacity, i.room);
    }
