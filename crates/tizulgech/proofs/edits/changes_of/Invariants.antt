use Rattle.std.proofs.Common.{◌≡◌, drop, map}
use Rattle.buffers.specs.Framing.{cid_or_none_at, onto, with_values}
use Rattle.tizulgech.proofs.edits.changes_of.Given as goal

-- the changes so far, and then the rest
abbrev pub invariant-loop-key : goal.invariant-loop-key
invariant-loop-key l = with_values cid_or_none_at (map (λ key. key.now) l.keys) l.values ≡ onto (map (λ change. change) l.changes.items) (with_values cid_or_none_at (map (λ key. key.now) (drop l.key-index l.keys)) l.rest)
