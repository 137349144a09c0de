use Rattle.std.proofs.Common.{◌≡◌, ℕ, List, [], ◌++◌, map, refl, sym, ap, ◌∙◌}
use Rattle.std.specs.Prelude.{None}
use Rattle.std.specs.Iterator.Adapters.{zip_first, zip_second}
use Rattle.std.specs.Slice.Iter.{iter_rest}
use Rattle.std.proofs.lemmas.List.{append-nil}
use Rattle.std.proofs.lemmas.Iterator.{empty_from_Zip}
use Rattle.scripts.specs.declared.script.Line.{Line}
use Rattle.scripts.specs.declared.script.Answer.{Answer}
use Rattle.record_forms.specs.declared.form.Form.{Form}
use Rattle.run_command.specs.Report.{answer_lines}
use Rattle.run_command.proofs.script.report.push_answers.Goals as goal

-- where no line is left, all is added
all_added : {D : Type 0} (form : Form) (t whole : List ℕ) (ls : List Line) (given : List (Answer D)) → ls ≡ [] → t ++ answer_lines form (map (λ x. x.number) ls) given ≡ whole → t ≡ whole
all_added form t whole ls given e h =
    sym (append-nil t) ∙ ap (λ (zs : List Line). t ++ answer_lines form (map (λ x. x.number) zs) given) (sym e) ∙ h

pub returns : goal.returns
returns g c =
    let done = empty_from_Zip c.loop-line.line-iterator c.next.new.self None refl c.in-None.ensures.steps c.loop-line.invariant.0 in
    all_added c.args.form c.loop-line.text.items _ (iter_rest (zip_first c.loop-line.line-iterator)) (iter_rest (zip_second c.loop-line.line-iterator)) done.0 c.loop-line.invariant.1
