use Rattle.std.proofs.Common.{[], ap, sym, ◌∙◌}
use Rattle.rows.specs.Entries.{key_behind}
use Rattle.rows.specs.Written.{rows_in}
use Rattle.rows.proofs.writer.Rows.with_run.Goals as goal

pub of-requires-clause-first : goal.of-requires-clause-first
of-requires-clause-first g c =
    sym c.requires.follows ∙ ap (λ r. key_behind [] (rows_in r)) c.in-Nothing.is

pub run-requires-clause-follows : goal.run-requires-clause-follows
run-requires-clause-follows g c =
    sym (ap (λ r. key_behind [] (rows_in r)) c.in-Open.is) ∙ c.requires.follows
