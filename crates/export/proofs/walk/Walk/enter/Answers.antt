use Rattle.std.proofs.Common.{◌<◌, ◌∷◌, [], ap, ◌∙◌, length, arith}
use Rattle.std.proofs.lemmas.List.{length-append}
use Rattle.spec.specs.NodeFormat.{read_node}
use Rattle.block.specs.Nodes.{contents_of}
use Rattle.export.specs.Walks.{turned}
use Rattle.export.proofs.Walked.{turned-push, turned-size}
use Rattle.lookups.proofs.NodeLaws.{read-some}
use Rattle.export.proofs.walk.Walk.enter.Goals as goal

pub invariant_of-self-in-Some : goal.invariant_of-self-in-Some
invariant_of-self-in-Some g c =
    let room : length (turned c.self.inside.stack.items) < c.self.inside.most = rw (← c.self.view_is) at c.requires in
    let size = turned-size c.self.inside.stack.items in
    let more = ap length c.in_ok-push.ensures.items ∙ length-append c.self.inside.stack.items (c.entries.result ∷ []) in
    omega arith

pub returns-in_ok-push : goal.returns-in_ok-push
returns-in_ok-push g c =
    let link = c.to_cid-self-inside.ensures ∙ c.left.ensures in
    let stack = turned-push c.self.inside.stack.items c.push.new.self.items c.entries.result c.in_ok-push.ensures.items in
    rw (link, stack, c.entries.ensures.rows, read-some _ _ (c.in-Some.ensures ∙ ap (λ b. contents_of (read_node b)) c.deref.ensures), ← c.self.view_is)
