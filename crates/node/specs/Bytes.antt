-- The bytes of an entry by its parts, and bytes that grow at their end.
use Rattle.std.specs.Prelude.{◌≡◌, ℕ, List, ◌∷◌, ◌++◌, length, take, Option}
use Rattle.spec.specs.Head.{head}
use Rattle.spec.specs.Cid.{link}
use Rattle.spec.specs.NodeFormat.{link_or_null}

-- the second bytes begin with the first
abbrev pub Extends : List ℕ → List ℕ → Type 0
Extends before after = take (length before) after ≡ before

-- an entry's bytes from its suffix and how much of the key before it keeps
abbrev pub entry_text : ℕ → List ℕ → List ℕ → Option (List ℕ) → List ℕ
entry_text prefix suffix value tree =
    (0xa4 ∷ 0x61 ∷ 0x6b ∷ head 2 (length suffix)) ++ suffix ++ (0x61 ∷ 0x70 ∷ head 0 prefix) ++ (0x61 ∷ 0x74 ∷ link_or_null tree) ++ (0x61 ∷ 0x76 ∷ link value)
