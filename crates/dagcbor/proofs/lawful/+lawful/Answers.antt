use Rattle.std.proofs.Common.{◌^◌, ◌<◌, length, sym, ap, ◌∙◌, arith}
use Rattle.std.proofs.lemmas.Grind.{common_steps}
use Rattle.spec.specs.DagCbor.{is_lawful_within}
use Rattle.dagcbor.specs.View.{view}
use Rattle.dagcbor.proofs.ItemByItem.{lawful-List, lawful-Map}
use Rattle.dagcbor.proofs.lawful.+lawful.Goals as goal

pub is_lawful_within-returns-then-levels-gt0 : goal.is_lawful_within-returns-then-levels-gt0
is_lawful_within-returns-then-levels-gt0 g t c =
    let v = c.in-List.items in
    let few : length v.items < 2 ^ 64 = omega (arith, v.ok.0, v.small) in
    c.are_lawful_within.ensures ∙ lawful-List c.args.levels v (omega arith) few ∙ ap (λ x. is_lawful_within c.args.levels (view x)) (sym c.in-List.is)

pub is_lawful_within-returns-then-levels-gt0-2 : goal.is_lawful_within-returns-then-levels-gt0-2
is_lawful_within-returns-then-levels-gt0-2 g t c =
    let v = c.in-Map.fields in
    let few : length v.items < 2 ^ 64 = omega (arith, v.ok.0, v.small) in
    c.are_fields_lawful.ensures ∙ lawful-Map c.args.levels v (omega arith) few ∙ ap (λ x. is_lawful_within c.args.levels (view x)) (sym c.in-Map.is)

pub are_lawful_within-returns-then-not-is_lawful_within : goal.are_lawful_within-returns-then-not-is_lawful_within
are_lawful_within-returns-then-not-is_lawful_within g t c = grind (arith, common_steps)

pub are_lawful_within-loop-item-preserved : goal.are_lawful_within-loop-item-preserved
are_lawful_within-loop-item-preserved g t c = grind (arith, common_steps)

pub are_lawful_within-returns : goal.are_lawful_within-returns
are_lawful_within-returns g t c = grind (arith, common_steps)

pub are_fields_lawful-returns-then-not-is_next_key : goal.are_fields_lawful-returns-then-not-is_next_key
are_fields_lawful-returns-then-not-is_next_key g t c = grind (arith, common_steps)

pub are_fields_lawful-loop-key-preserved : goal.are_fields_lawful-loop-key-preserved
are_fields_lawful-loop-key-preserved g t c = grind (arith, common_steps)

pub are_fields_lawful-returns : goal.are_fields_lawful-returns
are_fields_lawful-returns g t c = grind (arith, common_steps)
