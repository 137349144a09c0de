use Rattle.std.proofs.Common.{◌≡◌, ◌+◌, ◌∙◌, map, length, refl, sym, ap, arith}
use Rattle.std.specs.Arc.{arc_value}
use Rattle.std.proofs.lemmas.List.{length-map}
use Rattle.spec.specs.Layer.{layer as layer_of}
use Rattle.spec.specs.Tree.{top_layer}
use Rattle.scratch.specs.Cut.{Cut, pairs_of_rows}
use Rattle.scratch.specs.Level.{cut_with, count_after}
use Rattle.scratch.specs.Rows.{pair_of}
use Rattle.scratch.proofs.Kept.{pairs-with, all-kept}
use Rattle.scratch.proofs.Raising.{cut_of, ascending-cut, cut-lowest, count-lowest, cut-next, nodes-raised}
use Rattle.scratch.proofs.tree.write_rows.Goals as goal

pub loop-layer-init : goal.loop-layer-init
loop-layer-init g c =
    let none : length c.new.result.items ≡ 0 = ap length c.new.ensures.items in
    let few : count_after c.args.rows.items ≡ 0 = count-lowest c.args.rows.items c.requires.nothing_below in
    record {
      level = record { counted = omega arith; layered = c.requires.layered };
      cut = cut-lowest g.D.Digest.digest_of (layer_of g.D.Digest.digest_of g.row.B) (map arc_value c.new.result.items) c.args.rows.items c.requires.nothing_below;
    }

pub raise-requires-clause-ascending : goal.raise-requires-clause-ascending
raise-requires-clause-ascending g c =
    ascending-cut g.D.Digest.digest_of (layer_of g.D.Digest.digest_of g.row.B) c.loop-layer.layer (map pair_of c.args.rows.items) (map pair_of c.loop-layer.level.rows.items) c.requires.ascending
    (sym (pairs-with c.loop-layer.level.rows.items _) ∙ ap (λ (u : Cut). pairs_of_rows u.rows) c.loop-layer.invariant.cut)

pub raise-requires-2-clause-ascending : goal.raise-requires-2-clause-ascending
raise-requires-2-clause-ascending g c =
    ascending-cut g.D.Digest.digest_of (layer_of g.D.Digest.digest_of g.row.B) c.loop-layer.layer (map pair_of c.args.rows.items) (map pair_of c.loop-layer.level.rows.items) c.requires.ascending
    (sym (pairs-with c.loop-layer.level.rows.items _) ∙ ap (λ (u : Cut). pairs_of_rows u.rows) c.loop-layer.invariant.cut)

pub loop-layer-preserved : goal.loop-layer-preserved
loop-layer-preserved g c =
    record {
      level = c.in_ok-level.ensures.level;
      cut = cut-next g.D.Digest.digest_of g.row.B (map pair_of c.args.rows.items) c.loop-layer.layer (c.loop-layer.layer + 1) _ _ (omega arith) c.loop-layer.invariant.cut c.in_ok-level.ensures.cut;
    }

pub returns : goal.returns
returns g c =
    let d = g.D.Digest.digest_of in
    let layer = layer_of g.D.Digest.digest_of g.row.B in
    let es = map pair_of c.args.rows.items in
    let whole = c.in_ok-whole.whole in
    let long : length es ≡ length c.args.rows.items = length-map c.args.rows.items pair_of in
    let ended : c.loop-layer.layer ≡ c.top_layer-top.result = omega (arith, c.loop-layer-test.false, c.loop-layer.auto.layer-end) in
    all-kept arc_value whole.first whole.rows.items whole.nodes.items (cut_with whole.first whole.rows.items (map arc_value whole.nodes.items)) refl c.in_ok-whole.ensures.level.counted
    ∙ nodes-raised d g.row.B es c.top_layer-top.result _ _ (omega (arith, c.requires.some)) (c.top_layer-top.ensures ∙ ap (λ rs. top_layer layer (map pair_of rs)) c.deref.ensures.value)
    (c.loop-layer.invariant.cut ∙ ap (λ k. cut_of d layer k es) ended) c.in_ok-whole.ensures.cut
