use Rattle.std.proofs.Common.{◌≡◌, ◌<◌, true, [], length}
use Rattle.std.proofs.lemmas.Result.{IfOk-weaker}
use Rattle.spec.specs.NodeFormat.{are_keys_after}
use Rattle.node.specs.Contents.{Contents}
use Rattle.node.specs.Search.{gap_at, relink_at}
use Rattle.rows.specs.OldNodes.{linked}
use Rattle.rows.proofs.Runs.{relinked-all, relinked-keys}
use Rattle.rows.proofs.writer.OpenNode.closed.Goals as goal

pub returns-clause-rows : goal.returns-clause-rows
returns-clause-rows g c =
    let was = c.self.inside.written in
    IfOk-weaker c.relinked.result (λ (w : Contents). w ≡ relink_at (length was.entries) was.left was.entries c.args.link)
    (λ (w : Contents). linked w.left w.entries ≡ c.args.self)
    (λ w is. (relinked-all was w c.args.link c.args.self is c.self.view_is c.self.invariant.some).0) c.relinked.ensures

pub returns-clause-link : goal.returns-clause-link
returns-clause-link g c =
    let was = c.self.inside.written in
    IfOk-weaker c.relinked.result (λ (w : Contents). w ≡ relink_at (length was.entries) was.left was.entries c.args.link)
    (λ (w : Contents). gap_at (length w.entries) w.left w.entries ≡ c.args.link)
    (λ w is. (relinked-all was w c.args.link c.args.self is c.self.view_is c.self.invariant.some).1) c.relinked.ensures

pub returns-clause-some : goal.returns-clause-some
returns-clause-some g c =
    let was = c.self.inside.written in
    IfOk-weaker c.relinked.result (λ (w : Contents). w ≡ relink_at (length was.entries) was.left was.entries c.args.link)
    (λ (w : Contents). 0 < length w.entries)
    (λ w is. (relinked-all was w c.args.link c.args.self is c.self.view_is c.self.invariant.some).2) c.relinked.ensures

pub returns-clause-keys : goal.returns-clause-keys
returns-clause-keys g c =
    let was = c.self.inside.written in
    IfOk-weaker c.relinked.result (λ (w : Contents). w ≡ relink_at (length was.entries) was.left was.entries c.args.link)
    (λ (w : Contents). are_keys_after [] w.entries ≡ true)
    (λ w is. relinked-keys was w c.args.link is c.self.invariant.keys) c.relinked.ensures
