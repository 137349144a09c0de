use Rattle.std.proofs.Common.{[], ◌∷◌, ◌++◌}
use Rattle.std.specs.List.{flat_map}
use Rattle.console.proofs.Pushing.{Left}
use Rattle.run_command.proofs.script.words.push_others.Given as goal

abbrev pub invariant-loop-word : goal.invariant-loop-word
invariant-loop-word l = Left (λ w. 32 ∷ w.now) l.words (l.initial.text.items ++ flat_map (λ w. 32 ∷ w.now) l.words) [] 0 l.text.items l.word-index
