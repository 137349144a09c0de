use Rattle.std.proofs.Common.{◌+◌, ◌∷◌, [], map, sym, ap, ◌∙◌}
use Rattle.std.specs.Prelude.{option_map}
use Rattle.std.proofs.lemmas.List.{map-append}
use Rattle.batches.specs.Values.{write_of, writes_of}
use Rattle.run_command.specs.Script.{writes_of_parts}
use Rattle.run_command.proofs.Parts.{onto, left, left-write, left-none, left-done}
use Rattle.run_command.proofs.script.writes.writes_of.Goals as goal

pub returns-in-None : goal.returns-in-None
returns-in-None c =
    let whole = ap writes_of_parts (sym c.in_ok-parts.ensures) in
    sym (
    whole
    ∙ ap (λ gs. writes_of_parts (map (λ g. map (λ t. t.now) g.now) gs)) (sym c.deref-part-items.ensures.value)
    ∙ c.loop-part.invariant
    ∙ left-none (λ g. map (λ t. t.now) g.now) c.deref-part-items.result.now (writes_of c.loop-part.writes.items) c.loop-part.part-index _ c.loop-part-test.true
    (ap (option_map write_of) (sym c.in-None.is) ∙ c.in_ok-write.ensures)
    )

pub loop-part-preserved : goal.loop-part-preserved
loop-part-preserved c =
    let all = ap writes_of c.in_ok-push-in-Some.ensures.items ∙ map-append write_of c.loop-part.writes.items (c.in-Some.write ∷ []) in
    c.loop-part.invariant
    ∙ left-write (λ g. map (λ t. t.now) g.now) c.deref-part-items.result.now (writes_of c.loop-part.writes.items) c.loop-part.part-index (write_of c.in-Some.write) _ c.loop-part-test.true
    (ap (option_map write_of) (sym c.in-Some.is) ∙ c.in_ok-write.ensures)
    ∙ ap (λ ws. onto ws (left (λ g. map (λ t. t.now) g.now) c.deref-part-items.result.now (writes_of c.loop-part.writes.items) c.loop-part.part-index (c.loop-part.part-index + 1))) (sym all)

pub returns : goal.returns
returns c = sym (
    ap writes_of_parts (sym c.in_ok-parts.ensures)
    ∙ ap (λ gs. writes_of_parts (map (λ g. map (λ t. t.now) g.now) gs)) (sym c.deref-part-items.ensures.value)
    ∙ c.loop-part.invariant
    ∙ left-done (λ g. map (λ t. t.now) g.now) c.deref-part-items.result.now (writes_of c.loop-part.writes.items) c.loop-part.part-index c.loop-part-test.false
    )
