-- What is opened.
use Rattle.std.proofs.Common.{◌≡◌, ℕ, List, [], ◌∷◌, refl, sym, ap, ◌∙◌}
use Rattle.spec.specs.Blocks.{repository_root}
use Rattle.spec.specs.SignedCommits.{Commit}
use Rattle.spec.specs.States.{records, state_root}
use Rattle.checked_opening.specs.Opening.{AreOpenable, opened}
use Rattle.checked_opening.proofs.Creating.{leaves-creates}

abbrev Records : Type 0
Records = List (List ℕ × List ℕ)

pub records-opened : (digest : List ℕ → List ℕ) (bits me limit : ℕ) (c : Commit) (m : Records) → AreOpenable digest bits c m
    → records (opened me limit c m) ≡ m
records-opened digest bits me limit c [] is = refl
records-opened digest bits me limit c (e ∷ m) is = leaves-creates digest bits c (e ∷ m) is

pub root-opened : (digest : List ℕ → List ℕ) (bits me limit : ℕ) (c : Commit) (m : Records) → AreOpenable digest bits c m
    → state_root digest bits (opened me limit c m) ≡ c.root
root-opened digest bits me limit c m is = ap (repository_root digest bits) (records-opened digest bits me limit c m is) ∙ sym is.root_is
