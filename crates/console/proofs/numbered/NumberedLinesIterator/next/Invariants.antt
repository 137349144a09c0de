use Rattle.std.proofs.Common.{◌≡◌, ◌+◌, ◌<◌, ◌^◌, length}
use Rattle.console.specs.Lines.{numbered}
use Rattle.console.proofs.numbered.NumberedLinesIterator.next.Given as goal

abbrev pub invariant-loop-line : goal.invariant-loop-line
invariant-loop-line l =
    (numbered (l.initial.self-inside.number + 1) l.initial.self-inside.lines ≡ numbered (l.self-inside.number + 1) l.self-inside.lines)
    × (l.self-inside.number + length l.self-inside.lines < 2 ^ 64)

abbrev pub decreases-loop-line : goal.decreases-loop-line
decreases-loop-line l = length l.self-inside.lines
