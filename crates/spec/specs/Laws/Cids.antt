-- Texts of CIDs, and the CIDs and numbers in links.
use Rattle.std.specs.Prelude.{◌≡◌, ◌↔◌, ◌⊎◌, ℕ, ◌<◌, ◌^◌, true, List, ◌∷◌, ◌++◌, length, Some, Ok}
use Rattle.spec.specs.Reading.{IsBytes}
use Rattle.spec.specs.Varint.{varint, varint_at}
use Rattle.spec.specs.Cid.{is_own_cid, text, cid_of_text, is_cid}

-- the text of a CID of the host's form reads as that CID
abbrev pub TextReadsBack : Type 0
TextReadsBack = (c : List ℕ) → IsBytes c → is_own_cid c ≡ true → cid_of_text (text c) ≡ Ok c

-- what is read is the text of a CID of the host's form
abbrev pub OnlyTextsAreRead : Type 0
OnlyTextsAreRead = (s c : List ℕ) → cid_of_text s ≡ Ok c → (s ≡ text c) × IsBytes c × (is_own_cid c ≡ true)

-- a number of at most nine bytes is read as it was written, whatever follows it
abbrev pub NumberReadsBack : Type 0
NumberReadsBack = (n : ℕ) (rest : List ℕ) → n < 2 ^ 63 → varint_at (varint n ++ rest) ≡ Some (n, rest)

-- what is read as a number is its shortest form
abbrev pub OnlyNumbersAreRead : Type 0
OnlyNumbersAreRead = (bytes rest : List ℕ) (n : ℕ) → IsBytes bytes → varint_at bytes ≡ Some (n, rest) → (bytes ≡ varint n ++ rest) × (n < 2 ^ 63)

-- version 0: sha2-256 and 32 bytes of digest (CIDv1, version 0)
pub record Version0 (bytes : List ℕ) : Type 0 where
  pub digest : List ℕ
  pub long : length digest ≡ 32
  pub spelled : bytes ≡ 0x12 ∷ 0x20 ∷ digest

-- version 1: a codec, a hash code, the digest's length, and the digest (CIDv1; multihash), where each number has at most nine bytes (unsigned-varint)
pub record Version1 (bytes : List ℕ) : Type 0 where
  pub codec : ℕ
  pub hash : ℕ
  pub digest : List ℕ
  pub codec_fits : codec < 2 ^ 63
  pub hash_fits : hash < 2 ^ 63
  pub length_fits : length digest < 2 ^ 63
  pub spelled : bytes ≡ 0x01 ∷ varint codec ++ varint hash ++ varint (length digest) ++ digest

-- the CIDs that a link may hold are those of the two versions, and no others
abbrev pub LinksHoldCids : Type 0
LinksHoldCids = (bytes : List ℕ) → IsBytes bytes → (is_cid bytes ≡ true) ↔ (Version0 bytes ⊎ Version1 bytes)
