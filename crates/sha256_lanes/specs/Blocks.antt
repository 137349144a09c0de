-- The blocks of a padded message, and four messages side by side.
use Rattle.std.specs.Prelude.{ℕ, List, [], ◌∷◌, ◌*◌, ◌/◌, length, take, drop, slice_index_or}
use Rattle.sha2.specs.Sha256.{hash_after, initial_hash_256, padded_message}

-- how many blocks the padded message has
abbrev pub block_count : List ℕ → ℕ
block_count m = length (padded_message m) / 64

-- block i of the padded message
abbrev pub block : List ℕ → ℕ → List ℕ
block m i = take 64 (drop (i * 64) (padded_message m))

-- the hash value of a message after its first n blocks
abbrev pub hash_at : List ℕ → ℕ → List ℕ
hash_at m n = hash_after initial_hash_256 (padded_message m) n

-- message j of four
abbrev pub one_of : List ℕ → List ℕ → List ℕ → List ℕ → ℕ → List ℕ
one_of a b c d j = slice_index_or (a ∷ b ∷ c ∷ d ∷ []) j []
