-- Content identifiers (CIDv1: multiformats cid, multicodec dag-cbor, multihash sha2-256).
use Rattle.std.specs.Prelude.{◌≡◌, ℕ, ◌+◌, ◌-◌, ◌*◌, ◌/◌, ◌%◌, ◌^◌, Bool, false, ◌&&◌, ◌||◌, List, [], ◌∷◌, ◌++◌, length, take, drop, map, codes, slice_index, nat_lt, ◌==◌, if◌then◌else◌, Option, Some, None, Result, Ok}
use Rattle.std.specs.List.{list_all, range_with_len}
use Rattle.std.specs.Str.{bytes_eq}
use Rattle.spec.specs.Reading.{◌>>=◌, ensure}
use Rattle.spec.specs.Varint.{varint_at}

-- version 1, codec dag-cbor, hash sha2-256, 32 bytes of digest (CIDv1; multicodec; multihash)
abbrev pub prefix : List ℕ
prefix = 0x01 ∷ 0x71 ∷ 0x12 ∷ 0x20 ∷ []

-- what serves as a digest: 32 bytes for every input
abbrev pub IsDigest : (List ℕ → List ℕ) → Type 0
IsDigest digest = (bytes : List ℕ) → length (digest bytes) ≡ 32

-- the CID of some bytes under a digest (CIDv1)
unfoldable pub cid : (List ℕ → List ℕ) → List ℕ → List ℕ
cid digest bytes = prefix ++ digest bytes

-- a CID of the form that the host makes
abbrev pub is_own_cid : List ℕ → Bool
is_own_cid c = (length c == 36) && bytes_eq (take 4 c) prefix

-- tag 42 over the byte string of the multibase prefix 00 and a CID of 36 bytes (IPLD DAG-CBOR, links)
abbrev pub link : List ℕ → List ℕ
link c = 0xd8 ∷ 0x2a ∷ 0x58 ∷ 0x25 ∷ 0x00 ∷ c

-- ---- text (RFC 4648, section 6, in lower case without padding; multibase b)

-- the letters of the values 0 to 31 (RFC 4648, section 6)
abbrev pub alphabet : List ℕ
alphabet = codes "abcdefghijklmnopqrstuvwxyz234567"

-- the bits of some bytes from 5 i on, five of them, with zero bits after the last byte
abbrev pub five_bits : List ℕ → ℕ → ℕ
five_bits bytes i = (slice_index bytes (5 * i / 8) * 256 + slice_index bytes (5 * i / 8 + 1)) / 2 ^ (11 - 5 * i % 8) % 32

-- the letter of these five bits
abbrev pub letter : List ℕ → ℕ → ℕ
letter bytes i = slice_index alphabet (five_bits bytes i)

-- as many letters as it takes for all bits, without padding
abbrev pub base32 : List ℕ → List ℕ
base32 bytes = map (letter bytes) (range_with_len 0 ((8 * length bytes + 4) / 5))

-- the text of a CID: the multibase letter b, then base32 (multibase; CIDv1)
abbrev pub text : List ℕ → List ℕ
text c = 98 ∷ base32 c

-- the bits of some letters' values from 8 j on, eight of them
abbrev pub eight_bits : List ℕ → ℕ → ℕ
eight_bits values j = (slice_index values (8 * j / 5) * 1024 + slice_index values (8 * j / 5 + 1) * 32 + slice_index values (8 * j / 5 + 2)) / 2 ^ (7 - 8 * j % 5) % 256

-- what is wrong with a CID's text (the names and the order are a choice of this project)
pub data CidFault : Type 0 where
  BadLength : CidFault
  BadPrefix : CidFault
  BadLetter : CidFault
  BadBits : CidFault
  NotThisProfile : CidFault

-- a letter's value; 32 outside the alphabet
abbrev pub letter_value : ℕ → ℕ
letter_value c =
    if nat_lt 96 c && nat_lt c 123 then c - 97
    else if nat_lt 49 c && nat_lt c 56 then c - 24
    else 32

-- the values of the letters behind the multibase letter
abbrev pub letter_values : List ℕ → List ℕ
letter_values s = map letter_value (drop 1 s)

-- the 36 bytes of 58 letters
abbrev pub bytes_of_text : List ℕ → List ℕ
bytes_of_text s = map (eight_bits (letter_values s)) (range_with_len 0 36)

-- the CID that a text names, or the first test that it fails
unfoldable pub cid_of_text : List ℕ → Result (List ℕ) CidFault
cid_of_text s = do
  length_ok ← ensure (length s == 59) BadLength
  prefix_ok ← ensure (slice_index s 0 == 98) BadPrefix
  letters_ok ← ensure (list_all (λ v. nat_lt v 32) (letter_values s)) BadLetter
  bits_ok ← ensure (slice_index (letter_values s) 57 % 4 == 0) BadBits
  profile_ok ← ensure (bytes_eq (take 4 (bytes_of_text s)) prefix) NotThisProfile
  Ok (bytes_of_text s)

-- ---- CIDs in links (a choice of this project: version 0, and version 1 with any codec and hash)

-- a number at the front, and then whether what follows it passes
abbrev pub then_number : Option (ℕ × List ℕ) → (ℕ → List ℕ → Bool) → Bool
then_number None next = false
then_number (Some found) next = next found.0 found.1

-- version 1: a codec, a hash code, a digest length, and that many bytes
abbrev pub is_version_1 : List ℕ → Bool
is_version_1 bytes =
    (slice_index bytes 0 == 1) && then_number (varint_at (drop 1 bytes)) (λ codec hashed.
    then_number (varint_at hashed) (λ hash sized.
    then_number (varint_at sized) (λ size rest. length rest == size)))

-- version 0: sha2-256, 32 bytes
abbrev pub is_version_0 : List ℕ → Bool
is_version_0 bytes = (length bytes == 34) && (slice_index bytes 0 == 0x12) && (slice_index bytes 1 == 0x20)

-- a CID that a record's link may hold
abbrev pub is_cid : List ℕ → Bool
is_cid bytes = is_version_0 bytes || is_version_1 bytes
