use Rattle.std.proofs.Common.{◌≡◌, ◌+◌, ◌-◌, length}
use Rattle.event_frames.specs.Frames.{behind}
use Rattle.event_frames.proofs.frame.frame_length.Given as goal

abbrev pub invariant-loop-turn : goal.invariant-loop-turn
invariant-loop-turn l = (behind (length l.bytes) 2 l.bytes ≡ behind (length l.bytes - l._turn) l.items l.cursor.left)
    × (l.cursor.place + length l.cursor.left ≡ length l.bytes)
