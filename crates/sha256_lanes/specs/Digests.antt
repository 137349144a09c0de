-- The digests of a list of messages, and digests written at their places in any order.
use Rattle.std.specs.Prelude.{ℕ, List, [], ◌∷◌, map, slice_index_or, slice_set}
use Rattle.sha2.specs.Sha256.{sha256}

-- the digest of each message, whose bytes are by the first argument
abbrev pub digests_of : {T : Type 0} → (T → List ℕ) → List T → List (List ℕ)
digests_of bytes messages = map (λ m. sha256 (bytes m)) messages

-- ds with the digest at each of these places written over
abbrev pub written : List (List ℕ) → List ℕ → List (List ℕ) → List (List ℕ)
written hs [] ds = ds
written hs (p ∷ ps) ds = written hs ps (slice_set ds p (slice_index_or hs p []))
