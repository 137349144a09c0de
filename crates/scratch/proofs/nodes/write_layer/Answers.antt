use Rattle.std.proofs.Common.{[], refl, map, sym, subst, rules}
use Rattle.spec.specs.Layer.{layer as layer_of}
use Rattle.scratch.specs.Cut.{pairs_of_rows}
use Rattle.scratch.specs.Rows.{pair_of, AreLayered}
use Rattle.scratch.proofs.Ascending.{Rises-ascending, ascending-Rises}
use Rattle.scratch.proofs.Steps.{rises-left, above-left, rises-rest, fewer-left, layered-on, counted-begun, tops-begun, counted-on, tops-on}
use Rattle.scratch.proofs.nodes.write_layer.Goals as goal

pub loop-row-init : goal.loop-row-init
loop-row-init g c =
    let d = g.D.Digest.digest_of in
    let layer = layer_of g.D.Digest.digest_of g.row.B in
    let n = c.args.layer in
    let all = c.args.unread.rows in
    let left = c.write_part.new.unread.rows in
    record {
      rises = rises-left layer n all left c.in_ok-first.ensures.unread (Rises-ascending (pairs_of_rows all) c.requires);
      above = above-left layer n all left c.in_ok-first.ensures.unread;
      rows = counted-begun d layer n all left c.in_ok-first.ensures.unread c.new-rows.result.items c.new-rows.ensures.items;
      layered = subst (AreLayered layer) (sym c.new-rows.ensures.items) tt;
      nodes = tops-begun d layer n all left c.in_ok-first.ensures.unread (λ bytes. bytes.items) c.new-nodes.result.items c.write_part.new.nodes.items c.args.unread.first c.new-nodes.ensures.items c.in_ok-first.ensures.nodes;
    }

pub loop-row-smaller : goal.loop-row-smaller
loop-row-smaller g c =
    fewer-left (layer_of g.D.Digest.digest_of g.row.B) c.args.layer c.loop-row.unread.rows c.next.new.self.rows c.write_part-in-Some.new.unread.rows
    (pair_of c.in-Some.row, c.next.new.self.first) c.in-Some.ensures.some c.in_ok-nodes_after.ensures.unread

pub loop-row-preserved : goal.loop-row-preserved
loop-row-preserved g c =
    let d = g.D.Digest.digest_of in
    let layer = layer_of g.D.Digest.digest_of g.row.B in
    let n = c.args.layer in
    let rs = c.loop-row.unread.rows in
    let rest = c.next.new.self.rows in
    let left = c.write_part-in-Some.new.unread.rows in
    record {
      rises = rises-left layer n rest left c.in_ok-nodes_after.ensures.unread
          (rises-rest layer n rs rest (pair_of c.in-Some.row, c.next.new.self.first) c.in-Some.ensures.some c.loop-row.invariant.rises);
      above = above-left layer n rest left c.in_ok-nodes_after.ensures.unread;
      rows = counted-on d layer n rs rest left (pair_of c.in-Some.row, c.next.new.self.first) c.in-Some.ensures.some c.loop-row.invariant.above c.in_ok-nodes_after.ensures.unread
          c.loop-row.rows.items c.push.new.self.items _ _ c.loop-row.invariant.rows c.in_ok-push.ensures.items refl c.in_ok-nodes_after.ensures.count;
      layered = layered-on layer c.loop-row.rows.items c.push.new.self.items _ c.loop-row.invariant.layered c.in-Some.ensures.layer c.in_ok-push.ensures.items;
      nodes = tops-on d layer n rs rest left (pair_of c.in-Some.row, c.next.new.self.first) c.in-Some.ensures.some c.loop-row.invariant.above c.in_ok-nodes_after.ensures.unread
          (map (λ bytes. bytes.items) c.loop-row.nodes.items) (map (λ bytes. bytes.items) c.write_part-in-Some.new.nodes.items) _ c.loop-row.invariant.nodes c.in_ok-nodes_after.ensures.nodes;
    }

pub write_part-requires-in-Some : goal.write_part-requires-in-Some
write_part-requires-in-Some g c = (
  search rules,
  ascending-Rises [] (pairs_of_rows c.next.new.self.rows)
      (rises-rest (layer_of g.D.Digest.digest_of g.row.B) c.args.layer c.loop-row.unread.rows c.next.new.self.rows (pair_of c.in-Some.row, c.next.new.self.first) c.in-Some.ensures.some c.loop-row.invariant.rises),
)
