use Rattle.std.proofs.Common.{length, sym, ap, ◌∙◌}
use Rattle.node.specs.Contents.{Contents}
use Rattle.node.proofs.Passing.{read-begins}
use Rattle.node.proofs.view.NodeView.entry_count.Goals as goal

pub returns : goal.returns
returns c =
    let s = c.self.inside in
    sym (read-begins _ s.count s.first.now c.self.invariant).1 ∙ ap (λ (w : Contents). length w.entries) c.self.view_is
