-- What a file and its commit are known to spell.
use Rattle.std.proofs.Common.{◌≡◌, ℕ, ◌<◌, ◌^◌, Bool, true, List, length, Ok, sym, ap, ◌∙◌}
use Rattle.std.specs.declared.option.Option.TheVariants.{Some}
use Rattle.spec.specs.Reading.{IsBytes}
use Rattle.spec.specs.CarReading.{Section, read_car, are_named, block_with}
use Rattle.spec.specs.SignedCommits.{Commit, read_commit}
use Rattle.spec.proofs.CarLaws.{only-cars}
use Rattle.signed_commits.proofs.CommitLaws.{only-commits}
use Rattle.repository_check.specs.Parts.{IsNamedCar, IsCommitAt}

pub named-car : (digest : List ℕ → List ℕ) (file : List ℕ) (car : List ℕ × List Section) (named : Bool) → IsBytes file
    → read_car file ≡ Ok car → named ≡ are_named digest car.1 → named ≡ true → IsNamedCar digest file car
named-car digest file car named bytes read is so =
    let car_is = only-cars file car.0 car.1 bytes read in
    record { spelled = car_is.0; lawful = car_is.2; named = sym is ∙ so }

pub commit-at : (root : List ℕ) (ss : List Section) (block : List ℕ) (c : Commit) → Some block ≡ block_with root ss
    → IsBytes block → length block < 2 ^ 63 → read_commit block ≡ Ok c → IsCommitAt root ss c
commit-at root ss block c found bytes short read =
    let p = only-commits block c bytes short read in
    record { found = sym found ∙ ap (λ (b : List ℕ). Some b) p.0; lawful = p.1 }
