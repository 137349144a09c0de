use Rattle.std.proofs.Common.{◌≡◌, ◌≤◌, ◌++◌, ◌-◌, drop, length, map}
use Rattle.batches.specs.Values.{writes_of}
use Rattle.tizulgech.specs.Trees.{puts}
use Rattle.tizulgech.proofs.listings.puts_of.Given as goal

abbrev pub invariant-loop-place : goal.invariant-loop-place
invariant-loop-place l =
    (l.place ≤ length l.keys) ×
    (puts (map (λ key. key.now) l.keys) (map (λ bytes. bytes.now) l.records)
    ≡ writes_of l.writes.items ++ puts (map (λ key. key.now) (drop l.place l.keys)) (map (λ bytes. bytes.now) (drop l.place l.records)))

abbrev pub decreases-loop-place : goal.decreases-loop-place
decreases-loop-place l = length l.keys - l.place
