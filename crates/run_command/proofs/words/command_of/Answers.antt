use Rattle.std.proofs.Common.{◌≡◌, rules, codes, subst}
use Rattle.std.specs.Prelude.{unwrap_or}
use Rattle.clap.specs.Words.{found_of}
use Rattle.clap.proofs.WalkLemmas.{first_value-rows}
use Rattle.run_command.proofs.words.command_of.Goals as goal

pub returns-clause-did : goal.returns-clause-did
returns-clause-did c = subst (λ text. c.unwrap_or.result.now ≡ unwrap_or text (codes "did:web:localhost"))
    (first_value-rows (found_of c.args.words.now) (codes "did")) (search rules)

pub returns-then-ne-clause-name : goal.returns-then-ne-clause-name
returns-then-ne-clause-name c = search rules

pub returns-clause-name : goal.returns-clause-name
returns-clause-name c = search rules

pub returns-clause-settings : goal.returns-clause-settings
returns-clause-settings c = search rules
