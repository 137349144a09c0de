use Rattle.std.proofs.Common.{List, map, ap, ◌∙◌}
use Rattle.std.specs.Prelude.{option_map, Ok, Err}
use Rattle.std.specs.Arc.{arc_value}
use Rattle.spec.specs.CarReading.{blocks_of}
use Rattle.car_reader.specs.Views.{sections_of}
use Rattle.event_laws.specs.Verdict.{Placed, as_event_fault}
use Rattle.commit_events.specs.Views.{change_fault_of, event_fault_of}
use Rattle.commit_events.proofs.Shown.{shown-ok, shown-fails, verdict-over}
use Rattle.commit_events.proofs.changes.test_changes.Goals as goal

pub returns-in-Ok-clause-shown : goal.returns-in-Ok-clause-shown
returns-in-Ok-clause-shown g c =
    let blocks = blocks_of (sections_of c.args.sections.now) in
    shown-ok g.D.Digest.digest_of g.row.B c.args.before c.args.after blocks c.args.ops.now c.in_ok-sorted.sorted.items
    c.deref-3.result.now c.in_ok-sorted.ensures
    (c.deref-3.ensures.value ∙ c.in_ok-changes.ensures ∙ ap (λ (ds : List Placed). map (λ x. x.1) ds) c.deref.ensures.value)
    c.in-Ok.field-0
    (verdict-over g.D.Digest.digest_of g.row.B c.args.before c.args.after (map arc_value c.deref-2.result.now) blocks
    c.deref-3.result.now (Ok c.in-Ok.field-0) (ap (map arc_value) c.deref-2.ensures.value ∙ c.in_ok-blocks.ensures)
    c.in-Ok.ensures.verdict)

pub returns-clause-shown : goal.returns-clause-shown
returns-clause-shown g c =
    let blocks = blocks_of (sections_of c.args.sections.now) in
    shown-fails g.D.Digest.digest_of g.row.B c.args.before c.args.after blocks c.args.ops.now c.in_ok-sorted.sorted.items
    c.deref-3.result.now c.in_ok-sorted.ensures
    (c.deref-3.ensures.value ∙ c.in_ok-changes.ensures ∙ ap (λ (ds : List Placed). map (λ x. x.1) ds) c.deref.ensures.value)
    c.in-Err.fault (event_fault_of c.event_fault.result)
    (c.event_fault.ensures.fault ∙ ap (λ (ds : List Placed). option_map (as_event_fault ds) (change_fault_of c.in-Err.fault))
    c.deref-in-Err.ensures.value)
    (verdict-over g.D.Digest.digest_of g.row.B c.args.before c.args.after (map arc_value c.deref-2.result.now) blocks
    c.deref-3.result.now (Err c.in-Err.fault) (ap (map arc_value) c.deref-2.ensures.value ∙ c.in_ok-blocks.ensures)
    c.in-Err.ensures.verdict)
