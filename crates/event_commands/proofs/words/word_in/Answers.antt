use Rattle.std.proofs.Common.{◌≡◌, subst}
use Rattle.std.specs.Prelude.{option_map}
use Rattle.clap.specs.Words.{found_of}
use Rattle.clap.proofs.WalkLemmas.{first_value-rows}
use Rattle.event_commands.proofs.words.word_in.Goals as goal

pub returns : goal.returns
returns c = subst (λ text. option_map (λ s. s.now) c.get_str.result ≡ text)
    (first_value-rows (found_of c.args.words.now) c.args.id.now) c.get_str.ensures
