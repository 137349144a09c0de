use Rattle.batches.specs.Values.{stamp_of}
use Rattle.repository_commands.specs.Views.{given_of}
use Rattle.repository_commands.proofs.Repositories.{bad_line_refused}
use Rattle.repository_commands.proofs.filling.apply_puts.Goals as goal

pub returns-clause-refused : goal.returns-clause-refused
returns-clause-refused g c =
    bad_line_refused g.D.Digest.digest_of c.args.core.now (stamp_of c.args.stamp.now) (given_of c.args.puts.now) _ c.check_end.result c.check_end.ensures.line
