use Rattle.std.proofs.Common.{sym, ◌∙◌}
use Rattle.store.proofs.CoreSets.{only_or_not}
use Rattle.store.proofs.cores.Cores.only.Goals as goal

pub returns : goal.returns
returns c = only_or_not c.args.self.now c.next_from.result (sym c.len.ensures ∙ c.if-len-ne1.false) c.requires c.next_from.ensures
