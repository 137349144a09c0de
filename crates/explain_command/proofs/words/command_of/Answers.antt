use Rattle.std.proofs.Common.{◌≡◌, rules, codes, subst}
use Rattle.clap.specs.Words.{found_of}
use Rattle.clap.proofs.WalkLemmas.{first_value-rows}
use Rattle.explain_command.specs.Explained.{word_of}
use Rattle.explain_command.proofs.words.command_of.Goals as goal

pub returns-clause-words : goal.returns-clause-words
returns-clause-words c = subst (λ text. word_of c.get_str.result ≡ text)
    (first_value-rows (found_of c.args.words.now) (codes "name")) (search rules)
