use Rattle.std.proofs.Common.{◌≡◌, ℕ, codes, rules, subst}
use Rattle.clap.specs.Words.{found_of}
use Rattle.clap.proofs.WalkLemmas.{one_text-rows}
use Rattle.console.specs.Numbers.{IsNumberOf}
use Rattle.event_commands.proofs.words.seq_of.Goals as goal

pub returns : goal.returns
returns c = subst (λ text. (n : ℕ) → IsNumberOf 64 0 text n → c.unwrap_or.result ≡ n)
    (one_text-rows (found_of c.args.words.now) (codes "seq")) (search rules)
