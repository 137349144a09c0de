use Rattle.export.specs.Outs.{held}
use Rattle.export.proofs.to_writer.ToWriter.new.Given as goal

abbrev pub ghost-after : goal.ghost-after
ghost-after g a = held (g.W.Write.contents a.output.now)
