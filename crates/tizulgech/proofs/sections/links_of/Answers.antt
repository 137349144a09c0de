use Rattle.std.proofs.Common.{option_map, ◌∙◌}
use Rattle.cid.specs.CidRef.{bytes_of}
use Rattle.tizulgech.proofs.Linking.{links_begin}
use Rattle.tizulgech.proofs.sections.links_of.Goals as goal

pub loop-entry-init : goal.loop-entry-init
loop-entry-init c = record {
  can = tt;
  ends = tt;
  whole = links_begin c.args.view.now.left (option_map bytes_of c.left.result) c.args.view.now.entries c.push_node.new.bytes.items c.new-bytes.result.items
      c.into_iter-entry-iterator.result c.in_ok-push_node.ensures c.new-bytes.ensures.items c.left.ensures
      (c.into_iter-entry-iterator.ensures.into_iter_gives ∙ c.entries-entry-items.ensures.rows);
}
