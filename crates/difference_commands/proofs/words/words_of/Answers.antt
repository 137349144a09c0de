use Rattle.std.proofs.Common.{◌≡◌, rules, codes, subst}
use Rattle.std.specs.Prelude.{option_map}
use Rattle.clap.specs.Words.{found_of}
use Rattle.clap.proofs.WalkLemmas.{first_value-rows}
use Rattle.difference_commands.proofs.words.words_of.Goals as goal

pub returns-then-eq-clause-words : goal.returns-then-eq-clause-words
returns-then-eq-clause-words c = record {
  name_is = search rules;
  old = search rules;
  new = search rules;
  form = subst (λ text. option_map (λ word. word.now) c.get_str.result ≡ text)
      (first_value-rows (found_of c.args.words.now) (codes "form")) (search rules);
  values = c.values_of.ensures;
  blocks = subst (λ text. option_map (λ word. word.now) c.get_str-then-eq.result ≡ text)
      (first_value-rows (found_of c.args.words.now) (codes "blocks")) (search rules);
}
