use Rattle.std.proofs.Common.{ap, sym, ◌∙◌}
use Rattle.difference_commands.specs.RecordLines.{records_of_lines}
use Rattle.difference_commands.specs.Faults.{line_fault_of}
use Rattle.difference_commands.specs.Views.{keyed}
use Rattle.difference_commands.proofs.RecordLists.{onto, onto-record, onto-fails, onto-done}
use Rattle.difference_commands.proofs.record_map.records_of_lines.Goals as goal

pub loop-number-preserved : goal.loop-number-preserved
loop-number-preserved g c = (
  tt,
  tt,
  c.loop-number.invariant.2
      ∙ ap (λ ls. onto (keyed c.loop-number.records.items) (records_of_lines ls)) c.in-Some.ensures.steps
      ∙ onto-record (keyed c.loop-number.records.items) c.in-Some.number c.in-Some.line.now c.next.new.self (c.in-Ok.record.0.now, c.in-Ok.record.1.items) c.in-Ok.ensures
      ∙ ap (λ es. onto es (records_of_lines c.next.new.self)) (sym c.in_ok-push_record-in-Ok.ensures),
)

pub returns-in-Err : goal.returns-in-Err
returns-in-Err g c =
    let es = keyed c.loop-number.records.items in
    let same = c.loop-number.invariant.2 ∙ ap (λ ls. onto es (records_of_lines ls)) c.in-Some.ensures.steps in
    rw same (onto-fails es c.in-Some.number c.in-Some.line.now c.next.new.self (line_fault_of c.in-Err.fault) c.in-Err.ensures)

pub returns : goal.returns
returns g c =
    c.loop-number.invariant.2
    ∙ ap (λ ls. onto (keyed c.loop-number.records.items) (records_of_lines ls)) c.in-None.ensures.steps.0
    ∙ onto-done (keyed c.loop-number.records.items)
