use Rattle.std.proofs.Common.{◌≡◌, false}
use Rattle.repository_commands.specs.Refusals.{is_refusal}
use Rattle.repository_commands.specs.Texts.{verify_text}
use Rattle.repository_commands.proofs.Endings.{fault_on, outcome_of, told_on}
use Rattle.repository_commands.proofs.verifying.verify_text.Goals as goal

pub returns-clause-outcome : goal.returns-clause-outcome
returns-clause-outcome g c =
    outcome_of (λ bytes. bytes.items) (verify_text g.D.Digest.digest_of c.args.root.now c.args.key.now) (g.R.Read.remaining c.args.input.now) _ _ c.answer_made.result c.write_made.result c.answer_made.ensures.made c.write_made.ensures

pub returns-clause-refused : goal.returns-clause-refused
returns-clause-refused g c =
    fault_on (λ bytes. bytes.items) (λ e. is_refusal e ≡ false) _ _ c.answer_made.result c.write_made.result c.answer_made.ensures.refused c.write_made.ensures

pub returns-clause-told : goal.returns-clause-told
returns-clause-told g c faulty =
    told_on (λ bytes. bytes.items) _ _ c.answer_made.result c.write_made.result (c.answer_made.ensures.told faulty) c.write_made.ensures
