-- What a core's calls do to the cores that are entered in its store.
use Rattle.std.specs.Prelude.{◌≡◌, ◌≢◌, ℕ, List, Bool, false, is_some, Option}
use Rattle.store.specs.Stores.{Entered, IsReading, Store}
use Rattle.kept.specs.Counts.{Keeping}
use Rattle.kept.specs.Leaving.{is_held}
use Rattle.kept.specs.Uses.{Uses, AreUses, at}
use Rattle.kept.specs.declared.kept_use.Use.{Use}

-- a core that was entered for just the blocks of one set is entered for just those of another
-- afterwards, and no other core's entries have changed
pub record IsFollowed (me : ℕ) (before after : List ℕ → Bool) (old new : Entered) : Type 0 where
  pub mine : (c : List ℕ) → old c me ≡ before c → new c me ≡ after c
  pub others : (c : List ℕ) (core : ℕ) → core ≢ me → new c core ≡ old c core

-- so says each reading of the store's states that follows what is made of them: what the core did, it did in
-- this store
abbrev pub Enters : {S D A : Type 0} → (List ℕ → List ℕ) → Store S D A → ℕ
    → (List ℕ → Bool) → (List ℕ → Bool) → S → S → Type 0
Enters {S} digest store me before after old new = (entered : S → Entered)
    → IsReading digest store.makes store.leaves entered → IsFollowed me before after (entered old) (entered new)

-- a core that was entered for just what it keeps is so afterwards
abbrev pub EntersKept : {S D A : Type 0} → (List ℕ → List ℕ) → Store S D A
    → Keeping → Keeping → S → S → Type 0
EntersKept digest store k l old new =
    Enters digest store k.me (is_held k) (is_held l) old new

-- no block is held
abbrev pub no_block : List ℕ → Bool
no_block c = false

-- whether a block is kept under a CID
abbrev pub has_entry : {D A : Type 0} → Uses D A → List ℕ → Bool
has_entry m c = is_some (at m c)

-- from the entries f to the entries g of the code's map: where those are a core's uses, these are too, and the core
-- is entered as before for just what has an entry
abbrev pub Follows : {S D A : Type 0} → (List ℕ → List ℕ) → Store S D A
    → (List ℕ → Option (Use D A)) → (List ℕ → Option (Use D A)) → S → S → Type 0
Follows digest store f g old new = (me : ℕ) → AreUses digest me f
    → AreUses digest me g × Enters digest store me (λ c. is_some (f c)) (λ c. is_some (g c)) old new
