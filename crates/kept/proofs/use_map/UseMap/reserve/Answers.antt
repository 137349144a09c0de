use Rattle.std.proofs.Common.{◌∙◌, sym}
use Rattle.kept.proofs.Entries.{seen_at, shown_same}
use Rattle.kept.proofs.use_map.UseMap.reserve.Goals as goal

pub returns : goal.returns
returns g c =
    shown_same c.self.inside.blocks.entries c.reserve.new.self.entries c.args.self.now c.self.view_is
    (λ q. sym (seen_at c.reserve.new.self.entries q) ∙ c.reserve.ensures.entries.2 q ∙ seen_at c.self.inside.blocks.entries q)
