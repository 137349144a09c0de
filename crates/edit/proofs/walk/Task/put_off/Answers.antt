use Rattle.std.proofs.Common.{ap, ◌∙◌}
use Rattle.batch_laws.specs.Batch.{before, at_key, after}
use Rattle.edit.specs.Agendas.{agenda_of}
use Rattle.rows.specs.Entries.{shape_at}
use Rattle.edit.proofs.Tasking.{agenda-more}
use Rattle.edit.proofs.Walking.{put-off-last, put-off-more}
use Rattle.edit.proofs.walk.Task.put_off.Goals as goal

pub returns-in_default : goal.returns-in_default
returns-in_default g c =
    put-off-last c.args.layer c.args.depth c.args.changes.now (shape_at c.args.link c.args.value c.args.rows) c.args.link
    (agenda_of c.args.agenda.now.items) (agenda_of c.push.new.self.items)
    (ap (λ v. shape_at c.args.link v c.args.rows) c.in_default.is)
    (agenda-more c.push.new.self.items c.args.agenda.now.items _ c.in_ok-push.ensures.items)

pub returns : goal.returns
returns g c =
    let v = c.in-Some.value in
    let r = c.args.rows.rest in
    let key = c.args.rows.before in
    let cs = c.args.changes.now in
    let here = c.changes_around-here in
    put-off-more c.args.layer c.args.depth cs (shape_at c.args.link c.args.value c.args.rows) r c.args.link (key, v)
    here.result.before.now here.result.after.now here.result.at (agenda_of c.args.agenda.now.items)
    (agenda_of c.push-2.new.self.items) (agenda_of c.push-3.new.self.items)
    (ap (λ x. shape_at c.args.link x c.args.rows) c.in-Some.is)
    (here.ensures.before_is ∙ ap (λ k. before k cs) c.key.ensures) (here.ensures.at_is ∙ ap (λ k. at_key k cs) c.key.ensures)
    (here.ensures.after_is ∙ ap (λ k. after k cs) c.key.ensures)
    (agenda-more c.push-2.new.self.items c.args.agenda.now.items _ c.in_ok-push-2.ensures.items)
    (agenda-more c.push-3.new.self.items c.push-2.new.self.items _ c.in_ok-push-3.ensures.items)
