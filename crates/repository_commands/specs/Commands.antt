-- What each command writes, by its words.
use Rattle.std.specs.Prelude.{◌≡◌, ℕ, List, codes, false, IsErr}
use Rattle.spec.specs.Stamps.{Stamp}
use Rattle.repository_commands.specs.Outcomes.{Reasons, Texts}
use Rattle.repository_commands.specs.Refusals.{IsRefusedIn, is_refusal}
use Rattle.repository_commands.specs.Texts.{car_text, key_check, prove_text, signed_car_text}
use Rattle.repository_commands.specs.Texts.{signing_check, stamp_check, verify_text, words_check}
use Rattle.repository_commands.specs.declared.words.RepositoryCommand.{RepositoryCommand}
use Rattle.repository_commands.specs.declared.words.RepositoryCommand.TheVariants as commands

-- the stamp of two words
abbrev pub stamp_of_words : List ℕ → List ℕ → Stamp
stamp_of_words did rev = record { did = did; rev = rev }

-- the stamp where no word says which (a choice of this project)
abbrev pub own_stamp : Stamp
own_stamp = stamp_of_words (codes "did:web:localhost") (codes "2222222222222")

abbrev pub texts_of : (List ℕ → List ℕ) → RepositoryCommand → Texts
texts_of digest (commands.Car did rev form) = car_text digest form (stamp_of_words did.now rev.now)
texts_of digest (commands.SignedCar did rev sig form) =
    signed_car_text digest form (stamp_of_words did.now rev.now) sig.now
texts_of digest (commands.Prove key form) = prove_text digest form own_stamp key.now
texts_of digest (commands.Verify root key) = verify_text digest root.now key.now

-- why there may be no text of an input: `car` and `prove` refuse a line alone that a repository refuses, and
-- `verify` none
abbrev pub reasons_of : {D A : Type 0} → (List ℕ → List ℕ) → RepositoryCommand → Reasons D A
reasons_of digest (commands.Car did rev form) =
    IsRefusedIn digest form (stamp_of_words did.now rev.now)
reasons_of digest (commands.SignedCar did rev sig form) =
    IsRefusedIn digest form (stamp_of_words did.now rev.now)
reasons_of digest (commands.Prove key form) = IsRefusedIn digest form own_stamp
reasons_of digest (commands.Verify root key) = λ xs e. is_refusal e ≡ false

-- a word of the command isn't one that it takes
abbrev pub HasFaultyWord : RepositoryCommand → Type 0
HasFaultyWord (commands.Car did rev form) = IsErr (stamp_check (stamp_of_words did.now rev.now))
HasFaultyWord (commands.SignedCar did rev sig form) =
    IsErr (signing_check (stamp_of_words did.now rev.now) sig.now)
HasFaultyWord (commands.Prove key form) = IsErr (key_check key.now)
HasFaultyWord (commands.Verify root key) = IsErr (words_check root.now key.now)
