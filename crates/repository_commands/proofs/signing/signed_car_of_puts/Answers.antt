use Rattle.std.proofs.Common.{arith}
use Rattle.batches.specs.Values.{stamp_of}
use Rattle.repository_commands.specs.Texts.{no_writes}
use Rattle.repository_commands.specs.Views.{given_of}
use Rattle.repository_commands.proofs.Repositories.{passed_further}
use Rattle.repository_commands.proofs.signing.signed_car_of_puts.Goals as goal

pub returns-in_err-core-clause-refused : goal.returns-in_err-core-clause-refused
returns-in_err-core-clause-refused g c =
    passed_further g.D.Digest.digest_of no_writes (stamp_of c.args.stamp.now) (given_of c.args.puts) (c.filled.new.store.full (omega arith))
    c.from_residual.result c.in_err-core.field-0.0 c.from_residual.ensures.1 c.in_err-core.ensures.refused
