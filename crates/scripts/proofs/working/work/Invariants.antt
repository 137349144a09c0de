use Rattle.std.proofs.Common.{◌≡◌}
use Rattle.host.specs.Views.{beginning}
use Rattle.scripts.proofs.Runs.{IsRunTo}
use Rattle.scripts.proofs.working.work.Given as goal

abbrev pub invariant-loop-line : goal.invariant-loop-line
invariant-loop-line g l = record {
  host : l.writer.host ≡ l.host;
  run : IsRunTo g.D.Digest.digest_of g.row.B (beginning l.host l.fn.seat) l.worker l.lines l.line-index l.answers.items l.writer;
}
