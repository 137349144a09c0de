use Rattle.std.proofs.Common.{rules, tests}
use Rattle.std.proofs.lemmas.Iterator.{YieldsList-from_slice}
use Rattle.std.proofs.lemmas.Iterator.Search.{any_from_yields_List}
use Rattle.console.specs.Lines.{is_space}
use Rattle.change_commands.proofs.write_lines.has_space.Goals as goal

pub returns : goal.returns
returns c =
    any_from_yields_List is_space _ _ c.any.result c.any.ensures.ran (YieldsList-from_slice c.args.key.now cc) (λ x b q k. search (rules, tests))
