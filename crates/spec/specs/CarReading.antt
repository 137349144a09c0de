-- Reading of a CAR as AT Protocol servers export it (CARv1): one root, and blocks under CIDs of the
-- host's form. Each file that is read has one spelling.
use Rattle.std.specs.Prelude.{◌≡◌, ◌<◌, ◌+◌, ◌^◌, ℕ, zero, suc, Bool, true, List, [], ◌∷◌, ◌++◌}
use Rattle.std.specs.Prelude.{length, take, drop, map, find, option_map, Option, Some, None, Result}
use Rattle.std.specs.Prelude.{Ok, Err}
use Rattle.std.specs.List.{list_all, flat_map}
use Rattle.std.specs.Str.{bytes_eq}
use Rattle.spec.specs.Reading.{◌>>=◌, ensure, front}
use Rattle.spec.specs.Varint.{varint_at}
use Rattle.spec.specs.Cid.{cid, is_own_cid}
use Rattle.spec.specs.Car.{sized, header}

-- What is wrong with a file, at the first place from the left (the names are a choice of this
-- project): the header isn't that of a CAR with one root; a section's length is no number of at
-- most nine bytes in its shortest form; the file ends within a section; a section doesn't begin
-- with a CID of the host's form.
pub data CarFault : Type 0 where
  BadHeader : CarFault
  BadLength : CarFault
  Truncated : CarFault
  BadCid : CarFault

-- a section: the CID that it states, and its block
pub record Section : Type 0 where
  pub cid : List ℕ
  pub block : List ℕ

-- what a section of a CAR is
pub record IsSection (s : Section) : Type 0 where
  pub own : is_own_cid s.cid ≡ true
  pub short : 36 + length s.block < 2 ^ 63

-- these very bytes
abbrev pub expected : CarFault → List ℕ → List ℕ → Result (List ℕ) CarFault
expected fault these bytes = do
  ok ← ensure (bytes_eq (take (length these) bytes) these) fault
  Ok (drop (length these) bytes)

-- a CID of the host's form
abbrev pub cid_at : CarFault → List ℕ → Result (List ℕ × List ℕ) CarFault
cid_at fault bytes = do
  c ← front fault 36 bytes
  ok ← ensure (is_own_cid c.0) fault
  Ok c

-- ---- the header (CARv1, header)

-- what stands in it before the CID of the root: the length 58, a map of two, the key roots, a list
-- of one, and a link's bytes up to its CID
abbrev pub before_root : List ℕ
before_root =
    0x3a ∷ 0xa2 ∷ 0x65 ∷ 0x72 ∷ 0x6f ∷ 0x6f ∷ 0x74 ∷ 0x73
    ∷ 0x81 ∷ 0xd8 ∷ 0x2a ∷ 0x58 ∷ 0x25 ∷ 0x00 ∷ []

-- and after it: the key version, and 1
abbrev pub behind_root : List ℕ
behind_root = 0x67 ∷ 0x76 ∷ 0x65 ∷ 0x72 ∷ 0x73 ∷ 0x69 ∷ 0x6f ∷ 0x6e ∷ 0x01 ∷ []

-- the root, and the bytes after the header
unfoldable pub header_at : List ℕ → Result (List ℕ × List ℕ) CarFault
header_at file = do
  in_root ← expected BadHeader before_root file
  root ← cid_at BadHeader in_root
  rest ← expected BadHeader behind_root root.1
  Ok (root.0, rest)

-- ---- the sections (CARv1, section)

-- a number that was found, or the fault
abbrev pub or_bad_length : Option (ℕ × List ℕ) → Result (ℕ × List ℕ) CarFault
or_bad_length None = Err BadLength
or_bad_length (Some n) = Ok n

-- the length, and then so many bytes: a CID and the block
unfoldable pub section_at : List ℕ → Result (Section × List ℕ) CarFault
section_at bytes = do
  n ← or_bad_length (varint_at bytes)
  body ← front Truncated n.0 n.1
  c ← cid_at BadCid body.0
  Ok (record { cid = c.0; block = c.1 }, body.1)

-- the sections up to the end, of which there are at most so many
abbrev pub sections_within : ℕ → List ℕ → Result (List Section) CarFault
sections_within most [] = Ok []
sections_within zero (b ∷ bytes) = Err Truncated
sections_within (suc most) (b ∷ bytes) = do
  s ← section_at (b ∷ bytes)
  ss ← sections_within most s.1
  Ok (s.0 ∷ ss)

-- all of a file, its root and its sections: each section has a byte or more, so there are no more
-- of them than bytes
unfoldable pub read_car : List ℕ → Result (List ℕ × List Section) CarFault
read_car file = do
  h ← header_at file
  ss ← sections_within (length h.1) h.1
  Ok (h.0, ss)

-- ---- what the sections say

-- the blocks, in the order of the file
abbrev pub blocks_of : List Section → List (List ℕ)
blocks_of ss = map (λ s. s.block) ss

-- the section's CID is that of its block
abbrev pub is_named : (List ℕ → List ℕ) → Section → Bool
is_named digest s = bytes_eq (cid digest s.block) s.cid

abbrev pub are_named : (List ℕ → List ℕ) → List Section → Bool
are_named digest ss = list_all (is_named digest) ss

-- the first of these sections that states this CID
abbrev pub section_with : List ℕ → List Section → Option Section
section_with c ss = find (λ s. bytes_eq s.cid c) ss

-- and its block
abbrev pub block_with : List ℕ → List Section → Option (List ℕ)
block_with c ss = option_map (λ s. s.block) (section_with c ss)

-- ---- the one spelling of a section, and of a file

abbrev pub section_bytes : Section → List ℕ
section_bytes s = sized (s.cid ++ s.block)

abbrev pub car_bytes : List ℕ → List Section → List ℕ
car_bytes root ss = header root ++ flat_map section_bytes ss
