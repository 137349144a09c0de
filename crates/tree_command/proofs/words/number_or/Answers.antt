use Rattle.std.proofs.Common.{◌≡◌, ℕ, rules, subst}
use Rattle.clap.specs.Words.{found_of}
use Rattle.clap.proofs.WalkLemmas.{one_text-rows}
use Rattle.console.specs.Numbers.{IsNumberOf}
use Rattle.tree_command.proofs.words.number_or.Goals as goal

pub returns : goal.returns
returns c = subst (λ text. (n : ℕ) → IsNumberOf 8 c.args.other text n → c.unwrap_or.result ≡ n)
    (one_text-rows (found_of c.args.words.now) c.args.id.now) (search rules)
