use Rattle.repository_commands.specs.Commands.{stamp_of_words}
use Rattle.repository_commands.specs.Texts.{car_text}
use Rattle.repository_commands.proofs.Endings.{without_memory}
use Rattle.repository_commands.proofs.running.write_car.Goals as goal

pub returns-in-Err-clause-outcome : goal.returns-in-Err-clause-outcome
returns-in-Err-clause-outcome g c =
    without_memory (car_text g.D.Digest.digest_of c.args.form (stamp_of_words c.args.did.now c.args.rev.now)) (g.R.Read.remaining c.args.input.now) (g.W.Write.contents c.args.out.now)
