use Rattle.std.proofs.Common.{◌≡◌, ◌≤◌, ◌-◌, ℕ, ◌<◌, true}
use Rattle.std.specs.FinSet as set
use Rattle.closing.specs.Tally.{have}
use Rattle.closing.proofs.comparing.all_have.Given as goal

abbrev pub invariant-loop-number : goal.invariant-loop-number
invariant-loop-number g l = (l.from ≤ 1024)
    × ((number : ℕ) → number < l.from → set.contains l.entered number ≡ true → have g.D.Digest.digest_of g.row.B l.cores l.cid number ≡ true)

abbrev pub decreases-loop-number : goal.decreases-loop-number
decreases-loop-number g l = 1024 - l.from
