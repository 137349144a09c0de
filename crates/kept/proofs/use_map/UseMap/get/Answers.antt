use Rattle.std.proofs.Common.{◌∙◌}
use Rattle.kept.proofs.Entries.{seen_at, shown_at}
use Rattle.kept.proofs.use_map.UseMap.get.Goals as goal

pub returns : goal.returns
returns g c = c.get.ensures.value ∙ seen_at c.self.inside.blocks.entries c.args.cid.now ∙ shown_at c.self.inside.blocks.entries c.args.self.now c.self.view_is c.args.cid.now
