use Rattle.std.proofs.Common.{rules, tests, ◌==◌, length, ◌∙◌}
use Rattle.std.proofs.lemmas.Iterator.{YieldsList-from_slice}
use Rattle.std.proofs.lemmas.Iterator.Search.{any_from_yields_List}
use Rattle.run_command.proofs.Mapped.{any_in_map}
use Rattle.run_command.proofs.script.tokens.has_empty.Goals as goal

pub returns : goal.returns
returns c =
    any_from_yields_List (λ t. length t.now == 0) _ _ c.any.result c.any.ensures.ran (YieldsList-from_slice c.args.tokens.now c.iter.ensures.rest) (λ x b q k. search (rules, tests))
    ∙ any_in_map (λ t. length t == 0) (λ t. t.now) c.args.tokens.now
