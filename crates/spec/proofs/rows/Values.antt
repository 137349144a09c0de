-- Readings of DAG-CBOR.
use Prim.Native.String.{String}
use Rattle.std.specs.Prelude.{◌≡◌, ◌-◌, ◌^◌, Bool, true, false, [], ◌∷◌, ◌++◌, codes, replicate, pos, negsuc, Result, Ok, Err}
use Rattle.std.proofs.Common.{refl}
use Rattle.std.specs.Str.{is_utf8, chars}
use Rattle.std.specs.Char.{encode_utf8}
use Rattle.spec.specs.Head.{CborFault, Truncated, LongHead, Indefinite, BadTag, BadLink, KeyNotText, KeyOrder, BadUtf8, Float, Simple, IntegerRange, TooDeep, Trailing, head_at}
use Rattle.spec.specs.DagCbor.{Value, Integer, Fields, Link, EntryThen, NoEntry, value_at, read}
use Rattle.spec.proofs.rows.Written.{hex}

abbrev Reads : String → Result Value CborFault → Type 0
Reads bytes result = read (hex bytes) ≡ result

whole_numbers : Reads "1b7fffffffffffffff" (Ok (Integer (pos (2 ^ 63 - 1)))) × Reads "3b7fffffffffffffff" (Ok (Integer (negsuc (2 ^ 63 - 1)))) × Reads "1b8000000000000000" (Err IntegerRange)
unfolding read value_at head_at is_utf8 chars encode_utf8
whole_numbers = (refl, refl, refl)

heads : Reads "1817" (Err LongHead) × Reads "b800" (Err LongHead) × Reads "9f" (Err Indefinite) × Reads "f7" (Err Simple) × Reads "a16161fb0000000000000000" (Err Float)
unfolding read value_at head_at is_utf8 chars encode_utf8
heads = (refl, refl, refl, refl, refl)

strings_and_links : Reads "62c328" (Err BadUtf8) × Reads "c000" (Err BadTag) × Reads "d82a4100" (Err BadLink)
    × Reads "d82a49000155000401020304" (Ok (Link (hex "0155000401020304"))) × Reads "d82a480001550004010203" (Err BadLink) × Reads "d82a4a0001d500000401020304" (Err BadLink)
unfolding read value_at head_at is_utf8 chars encode_utf8
strings_and_links = (refl, refl, refl, refl, refl, refl)

-- keys of maps: a number; a before b is missed; a shorter key comes first
keys_of_maps : Reads "a10100" (Err KeyNotText) × Reads "a2616200616100" (Err KeyOrder)
    × Reads "a261620062616100" (Ok (Fields (EntryThen (codes "b") (Integer (pos 0)) (EntryThen (codes "aa") (Integer (pos 0)) NoEntry))))
unfolding read value_at head_at is_utf8 chars encode_utf8
keys_of_maps = (refl, refl, refl)

-- what ends too early, too late, or says that more follows than any memory holds
ends_of_input : Reads "" (Err Truncated) × Reads "a16161" (Err Truncated) × Reads "a0a0" (Err Trailing) × Reads "9bffffffffffffffff" (Err Truncated) × Reads "5bffffffffffffffff" (Err Truncated)
unfolding read value_at head_at is_utf8 chars encode_utf8
ends_of_input = (refl, refl, refl, refl, refl)

abbrev is_read : Result Value CborFault → Bool
is_read (Ok v) = true
is_read (Err f) = false

-- 64 lists, one in the other, and a 65th
levels : (is_read (read (replicate 64 0x81 ++ 0 ∷ [])) ≡ true) × (read (replicate 65 0x81) ≡ Err TooDeep)
unfolding read value_at head_at is_utf8 chars encode_utf8
levels = (refl, refl)
