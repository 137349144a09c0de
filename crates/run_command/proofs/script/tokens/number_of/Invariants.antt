use Rattle.std.proofs.Common.{◌≡◌, drop}
use Rattle.std.specs.Prelude.{Some}
use Rattle.run_command.specs.Script.{number_of, number_after}
use Rattle.run_command.proofs.script.tokens.number_of.Given as goal

abbrev pub invariant-loop-c : goal.invariant-loop-c
invariant-loop-c l = number_of l.word ≡ number_after (Some l.number) (drop l.c-index l.word)
