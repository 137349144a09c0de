use Rattle.std.proofs.Common.{◌≡◌, rules, subst}
use Rattle.std.specs.Prelude.{unwrap_or}
use Rattle.clap.specs.Words.{found_of}
use Rattle.clap.proofs.WalkLemmas.{first_value-rows}
use Rattle.console.proofs.words.word_or.Goals as goal

pub returns : goal.returns
returns c = subst (λ text. c.unwrap_or.result.now ≡ unwrap_or text c.args.other.now)
    (first_value-rows (found_of c.args.words.now) c.args.id.now) (search rules)
