use Rattle.std.proofs.Common.{◌≡◌, List, map, refl, ap, ◌∙◌, rules}
use Rattle.std.specs.Arc.{arc_value}
use Rattle.spec.specs.Layer.{layer as layer_of}
use Rattle.spec.specs.NodeFormat.{is_ascending}
use Rattle.scratch.specs.Cut.{Cut, pairs_of_rows}
use Rattle.scratch.specs.Level.{cut_with}
use Rattle.scratch.specs.Rows.{pair_of}
use Rattle.scratch.specs.declared.rows.Row.{Row}
use Rattle.scratch.proofs.Kept.{pairs-with, all-kept, raised-kept, raised-count}
use Rattle.scratch.proofs.level.raise.Goals as goal

pub write_layer-requires : goal.write_layer-requires
write_layer-requires g c = (
  search rules,
  ap is_ascending (ap (λ (u : Cut). pairs_of_rows u.rows) c.new-unread.ensures ∙ pairs-with c.deref.result.now _ ∙ ap (map pair_of) c.deref.ensures.value) ∙ c.requires.ascending,
)

pub returns : goal.returns
returns g c =
    let d = g.D.Digest.digest_of in
    let layer = layer_of g.D.Digest.digest_of g.row.B in
    let old = c.args.level in
    let cut = cut_with old.first old.rows.items (map arc_value old.nodes.items) in
    let written = c.in_ok-written.written in
    let same : c.new-unread.result ≡ cut =
    c.new-unread.ensures ∙ ap (λ (rs : List Row). cut_with old.first rs (map arc_value c.deref-2.result.now)) c.deref.ensures.value
    ∙ ap (λ xs. cut_with old.first old.rows.items (map arc_value xs)) c.deref-2.ensures.value in
    let under = all-kept arc_value old.first old.rows.items old.nodes.items cut refl c.requires.level.counted in
    let tops = c.in_ok-tops.ensures ∙ c.in_ok-written.ensures.nodes in
    record {
      level = record {
        counted = raised-count d layer c.args.layer arc_value cut c.new-unread.result written.first written.rows.items c.deref-3.result.now c.in_ok-tops.tops.items old.nodes.items c.in_ok-nodes.nodes.items
            same c.in_ok-written.ensures.first c.in_ok-written.ensures.rows tops under c.deref-3.ensures.value c.in_ok-nodes.ensures;
        layered = c.in_ok-written.ensures.layered;
      };
      cut = raised-kept d layer c.args.layer arc_value cut c.new-unread.result written.first written.rows.items c.deref-3.result.now c.in_ok-tops.tops.items old.nodes.items c.in_ok-nodes.nodes.items
          same c.in_ok-written.ensures.first c.in_ok-written.ensures.rows tops under c.deref-3.ensures.value c.in_ok-nodes.ensures;
    }
