-- What each accepted batch of writes is stamped with: a DID and a revision, which its commit names
-- (AT Protocol repository v3, commit objects: the fields did and rev).
use Rattle.std.specs.Prelude.{ℕ, ◌-◌, Bool, true, ◌&&◌, ◌||◌, not, List, [], ◌∷◌, length, take}
use Rattle.std.specs.Prelude.{drop, slice_index, slice_get, nat_lt, nat_le, ◌==◌, codes, Option}
use Rattle.std.specs.Prelude.{Some, None, Result}
use Rattle.std.specs.List.{list_all, before_first, after_first}
use Rattle.std.specs.Char.{is_ascii_alphanumeric, is_ascii_lowercase}
use Rattle.std.specs.Str.{bytes_eq}
use Rattle.std.specs.Cmp.Lexicographic.{slice_cmp}
use Rattle.std.specs.Ordering.{nat_cmp, is_lt}
use Rattle.spec.specs.Reading.{◌>>=◌, ensure}
use Rattle.spec.specs.Keys.{is_one_of}
use Rattle.spec.specs.Writes.{passes}

-- whose repository it is, and the revision
pub record Stamp : Type 0 where
  pub did : List ℕ
  pub rev : List ℕ

-- ---- DIDs (W3C DID Core, DID syntax; AT Protocol, DID: the letters that are allowed)

-- what stands between the parts of a DID
abbrev pub is_colon : ℕ → Bool
is_colon c = c == 58

-- the name of a method: one or more letters, a to z
abbrev pub is_method_name : List ℕ → Bool
is_method_name m = nat_lt 0 (length m) && list_all is_ascii_lowercase m

-- what the method identifies: one or more letters, digits and five marks, and last no colon and
-- no percent sign
abbrev pub is_method_specific_id : List ℕ → Bool
is_method_specific_id i =
    nat_lt 0 (length i) && list_all (λ x. is_ascii_alphanumeric x || is_one_of (codes "._:%-") x) i
    && not (is_one_of (codes ":%") (slice_index i (length i - 1)))

-- did:, a method's name, a colon and what it identifies; at most 2,048 bytes (this bound is a
-- choice of this project)
abbrev pub is_did : List ℕ → Bool
is_did d =
    nat_le (length d) 2048 && bytes_eq (take 4 d) (codes "did:")
    && is_method_name (before_first is_colon (drop 4 d))
    && is_method_specific_id (after_first is_colon (drop 4 d))

-- ---- revisions are timestamp identifiers (AT Protocol, TID)

-- a TID: thirteen letters of base32 in the order of their codes, and the highest bit of the first
-- one is 0
abbrev pub is_tid : List ℕ → Bool
is_tid r =
    (length r == 13) && list_all (is_one_of (codes "234567abcdefghijklmnopqrstuvwxyz")) r
    && list_all (is_one_of (codes "234567abcdefghij")) (take 1 r)

-- greater than the last revision, bytewise; where there is none, each is
abbrev pub is_next_rev : Option (List ℕ) → List ℕ → Bool
is_next_rev None rev = true
is_next_rev (Some last) rev = is_lt (slice_cmp nat_cmp last rev)

-- ---- which stamps are taken

-- why a stamp isn't taken (the names are a choice of this project): its DID; its revision; a
-- revision that isn't after the last one
pub data StampFault : Type 0 where
  BadDid : StampFault
  BadRev : StampFault
  RevOrder : StampFault

-- the first test that a stamp fails, where this is the last revision
abbrev pub stamp_test : Option (List ℕ) → Stamp → Result (Unit {0}) StampFault
stamp_test last stamp = do
  did_ok ← ensure (is_did stamp.did) BadDid
  rev_ok ← ensure (is_tid stamp.rev) BadRev
  ensure (is_next_rev last stamp.rev) RevOrder

-- ---- the stamps of a repository, the oldest first

-- the stamp of a batch, and the length of the list of accepted writes after it
abbrev pub Stamped : Type 0
Stamped = Stamp × ℕ

-- the last element of a list
abbrev pub last : {A : Type 0} → List A → Option A
last xs = slice_get xs (length xs - 1)

-- of the last batch, where there is one, its stamp
abbrev pub stamp_of : Option Stamped → Option Stamp
stamp_of None = None
stamp_of (Some s) = Some s.0

-- its revision
abbrev pub rev_of : Option Stamped → Option (List ℕ)
rev_of None = None
rev_of (Some s) = Some s.0.rev

-- and the length of the list of accepted writes after it, which is 0 before the first batch
abbrev pub length_after : Option Stamped → ℕ
length_after None = 0
length_after (Some s) = s.1

-- after the last batch, each stamp passes its test, and each length is greater than the one before
abbrev pub are_stamps_after : Option Stamped → List Stamped → Bool
are_stamps_after last [] = true
are_stamps_after last (s ∷ ss) =
    passes (stamp_test (rev_of last) s.0) && nat_lt (length_after last) s.1
    && are_stamps_after (Some s) ss

-- the stamps of a repository from its first batch on
abbrev pub are_stamps : List Stamped → Bool
are_stamps ss = are_stamps_after None ss
