use Rattle.std.proofs.Common.{◌≡◌, drop}
use Rattle.spec.specs.CarReading.{are_named}
use Rattle.car_reader.specs.Views.{sections_of}
use Rattle.car_reader.proofs.named.are_named.Given as goal

-- all are named if those to come are
abbrev pub invariant-loop-place : goal.invariant-loop-place
invariant-loop-place g l =
    are_named g.D.Digest.digest_of (sections_of (drop l.place l.sections)) ≡ are_named g.D.Digest.digest_of (sections_of l.sections)
