use Rattle.std.proofs.Common.{◌≡◌, map, length, ◌++◌}
use Rattle.std.specs.Iterator.Adapters.{zip_first, zip_second}
use Rattle.std.specs.Slice.Iter.{iter_rest}
use Rattle.run_command.specs.Report.{answer_lines}
use Rattle.run_command.proofs.script.report.push_answers.Given as goal

abbrev pub invariant-loop-line : goal.invariant-loop-line
invariant-loop-line g l =
    (length (iter_rest (zip_first l.line-iterator)) ≡ length (iter_rest (zip_second l.line-iterator)))
    × (l.text.items ++ answer_lines l.form (map (λ x. x.number) (iter_rest (zip_first l.line-iterator))) (iter_rest (zip_second l.line-iterator))
    ≡ l.initial.text.items ++ answer_lines l.form (map (λ x. x.number) l.lines) l.answers)
