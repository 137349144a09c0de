use Rattle.std.proofs.Common.{◌≡◌, ◌+◌, ◌-◌, [], length}
use Rattle.event_commands.specs.Texts.{told_from}
use Rattle.event_commands.proofs.checking.lines_of.Given as goal

abbrev pub invariant-loop-turn : goal.invariant-loop-turn
invariant-loop-turn g l =
    told_from g.D.Digest.digest_of l.form [] (length l.stream) 1 l.fn.previous l.stream
    ≡ told_from g.D.Digest.digest_of l.form l.text.items (length l.stream - l.turn) (l.turn + 1) l.root l.rest
