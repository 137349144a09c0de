use Rattle.std.proofs.Common.{[], ◌++◌}
use Rattle.explain_command.specs.Explained.{explained, said, texts_of, word_of}
use Rattle.console.proofs.Pushing.{Left}
use Rattle.explain_command.proofs.text.push_all.Given as goal

abbrev pub invariant-loop-fault : goal.invariant-loop-fault
invariant-loop-fault l = Left (λ e. said (word_of l.name) (texts_of e)) l.faults (l.initial.text.items ++ explained l.faults (word_of l.name)) [] 0 l.text.items l.fault-index
