-- A key as the suffixes show it that it has bytes of.
use Rattle.std.specs.Prelude.{⊤, ℕ, suc, ◌≤◌, List, [], ◌∷◌, ◌++◌, length, take}
use Rattle.node.specs.declared.key_before.Part.{Part}

-- the key that goes on from the key before by each part in turn
abbrev pub key_from : List ℕ → List Part → List ℕ
key_from key [] = key
key_from key (part ∷ parts) = key_from (take part.prefix key ++ part.suffix.now) parts

-- the first place at which a part may begin after the parts
abbrev pub place_after : ℕ → List Part → ℕ
place_after place [] = place
place_after place (part ∷ parts) = place_after (suc part.prefix) parts

-- each part begins within the key before it, and after the place at which the part before begins
abbrev pub AreParts : ℕ → List ℕ → List Part → Type 0
AreParts place key [] = ⊤
AreParts place key (part ∷ parts) =
    (place ≤ part.prefix) × (part.prefix ≤ length key) × AreParts (suc part.prefix) (take part.prefix key ++ part.suffix.now) parts
