-- Answers as a caller is handed them.
use Rattle.std.specs.Prelude.{◌≡◌, ◌≤◌, ◌<◌, ℕ, List, ◌++◌, take, drop, length, Option, Some, None}
use Rattle.std.specs.List.{flat_map}
use Rattle.std.specs.Int.{w64, to_le_bytes}
use Rattle.spec.specs.Cid.{cid as cid_of}
use Rattle.buffers.specs.Framing.{no_cid}

-- ---- how answers are spelt

-- a number: eight bytes, the lowest first
abbrev pub number_bytes : ℕ → List ℕ
number_bytes n = to_le_bytes w64 n

-- bytes with their length in front
abbrev pub part_bytes : List ℕ → List ℕ
part_bytes part = number_bytes (length part) ++ part

abbrev pub parts_bytes : List (List ℕ) → List ℕ
parts_bytes parts = flat_map part_bytes parts

-- a key with its length in front, and a CID
abbrev pub pair_bytes : List ℕ × List ℕ → List ℕ
pair_bytes p = part_bytes p.0 ++ p.1

abbrev pub pairs_bytes : List (List ℕ × List ℕ) → List ℕ
pairs_bytes pairs = flat_map pair_bytes pairs

-- CIDs, one after another
abbrev pub cids_bytes : List (List ℕ) → List ℕ
cids_bytes cids = flat_map (λ c. c) cids

-- a CID, or 36 zeros where there is none
abbrev pub value_bytes : Option (List ℕ) → List ℕ
value_bytes None = no_cid
value_bytes (Some c) = c

abbrev pub values_bytes : List (Option (List ℕ)) → List ℕ
values_bytes values = flat_map value_bytes values

-- a block with its CID and its length in front
abbrev pub block_bytes : (List ℕ → List ℕ) → List ℕ → List ℕ
block_bytes digest b = cid_of digest b ++ part_bytes b

abbrev pub blocks_bytes : (List ℕ → List ℕ) → List (List ℕ) → List ℕ
blocks_bytes digest blocks = flat_map (block_bytes digest) blocks

-- ---- bytes in a caller's room

-- The size is told. Where the room has it, the bytes stand at its front, what is behind them is as it was, and the number is 0;
-- where it hasn't, the room is as it was, and the number is 251.
pub record IsHanded (code : ℕ) (bytes before room : List ℕ) (size : ℕ) : Type 0 where
  pub size_is : size ≡ length bytes
  pub whole : code ≡ 0 → take size room ≡ bytes
  pub behind : code ≡ 0 → drop size room ≡ drop size before
  pub room_is : code ≡ 0 → length bytes ≤ length before
  pub small : ¬ (code ≡ 0) → (code ≡ 251) × (length before < length bytes) × (room ≡ before)

-- whatever is answered, the room is written on 0 alone, and the size is told on 0 and 251 alone
pub record IsKept (code : ℕ) (before room : List ℕ) (was size : ℕ) : Type 0 where
  pub room_is : ¬ (code ≡ 0) → room ≡ before
  pub size_is : ¬ (code ≡ 0) → ¬ (code ≡ 251) → size ≡ was
