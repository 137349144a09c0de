use Rattle.std.proofs.Common.{◌≡◌, map, take}
use Rattle.std.specs.Arc.{arc_value}
use Rattle.commit_events.proofs.known.known_blocks.Given as goal

abbrev pub invariant-loop-section : goal.invariant-loop-section
invariant-loop-section g l = map arc_value l.blocks.items ≡ map (λ s. s.block.now) (take l.section-index l.sections)
