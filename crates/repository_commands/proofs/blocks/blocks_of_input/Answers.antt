use Rattle.std.proofs.Common.{◌∷◌, [], sym, ap, ◌∙◌}
use Rattle.std.specs.Prelude.{option_map}
use Rattle.std.proofs.lemmas.List.{map-append}
use Rattle.repository_commands.specs.Texts.{blocks_of_lines}
use Rattle.repository_commands.specs.Views.{blocks_of}
use Rattle.repository_commands.proofs.Listing.{onto, onto_block, onto_fault, onto_done}
use Rattle.repository_commands.proofs.blocks.blocks_of_input.Goals as goal

pub loop-number-preserved : goal.loop-number-preserved
loop-number-preserved g c =
    let all = ap blocks_of c.in_ok-push-in-Some-2.ensures.items ∙ map-append (λ v. v.items) c.loop-number.blocks.items (c.in-Some-2.block ∷ []) in (
      tt,
      tt,
      c.loop-number.invariant.2
          ∙ ap (λ ls. onto (blocks_of c.loop-number.blocks.items) (blocks_of_lines ls)) c.in-Some.ensures.steps
          ∙ onto_block c.in-Some.number (blocks_of c.loop-number.blocks.items) c.in-Some.line.now c.next.new.self c.in-Some-2.block.items
          (ap (option_map (λ v. v.items)) (sym c.in-Some-2.is) ∙ c.in_ok-block.ensures)
          ∙ ap (λ bs. onto bs (blocks_of_lines c.next.new.self)) (sym all),
    )

pub returns-in-None-2-clause-blocks : goal.returns-in-None-2-clause-blocks
returns-in-None-2-clause-blocks g c =
    c.loop-number.invariant.2
    ∙ ap (λ ls. onto (blocks_of c.loop-number.blocks.items) (blocks_of_lines ls)) c.in-Some.ensures.steps
    ∙ onto_fault c.in-Some.number (blocks_of c.loop-number.blocks.items) c.in-Some.line.now c.next.new.self
    (ap (option_map (λ v. v.items)) (sym c.in-None-2.is) ∙ c.in_ok-block.ensures)

pub returns-clause-blocks : goal.returns-clause-blocks
returns-clause-blocks g c =
    c.loop-number.invariant.2
    ∙ ap (λ ls. onto (blocks_of c.loop-number.blocks.items) (blocks_of_lines ls)) c.in-None.ensures.steps.0
    ∙ onto_done (blocks_of c.loop-number.blocks.items)
