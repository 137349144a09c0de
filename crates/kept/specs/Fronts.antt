-- Blocks in front of the kept ones, as a source.
use Rattle.std.specs.Prelude.{ℕ, List, Option, option_map}
use Rattle.std.specs.Option.{option_or}
use Rattle.std.specs.Arc.{arc_value}
use Rattle.std.specs.declared.sync.Arc.{Arc}
use Rattle.edit_laws.specs.Sources.{Extends}
use Rattle.lookups.specs.Maps.{first_of}
use Rattle.kept.specs.Counts.{Counts, bytes_at}
use Rattle.kept.specs.Uses.{lent}
use Rattle.kept.specs.declared.lender_with.LenderWith.{LenderWith}

-- what the first source gives, and what the second gives where the first gives nothing
abbrev pub in_front : {X : Type 0} → (List ℕ → Option X) → (List ℕ → Option X) → List ℕ → Option X
in_front front back c = option_or (front c) (back c)

-- the block that is lent for a CID
abbrev pub lent_with : {D A : Type 0} → (List ℕ → List ℕ) → LenderWith D A → List ℕ → Option (Arc (List ℕ) A)
lent_with digest s = in_front (first_of digest s.come.blocks) (lent s.kept.blocks.now)

-- and its bytes
abbrev pub bytes_with : {D A : Type 0} → (List ℕ → List ℕ) → LenderWith D A → List ℕ → Option (List ℕ)
bytes_with digest s c = option_map arc_value (lent_with digest s c)

-- each block that these counts have is lent
abbrev pub LendsAll : {D A : Type 0} → (List ℕ → List ℕ) → LenderWith D A → Counts → Type 0
LendsAll digest s counts = Extends (bytes_at counts) (bytes_with digest s)
