-- The texts in which CIDs of any length stand in JSON (CIDv1; multibase b; RFC 4648, section 6, without padding).
use Rattle.std.specs.Prelude.{ℕ, ◌*◌, ◌/◌, ◌&&◌, List, drop, map, length, if◌then◌else◌, Option, Some, None}
use Rattle.std.specs.List.{range_with_len}
use Rattle.std.specs.Str.{bytes_eq}
use Rattle.spec.specs.Cid.{text, letter_values, eight_bits, is_version_1}

-- as many bytes as the letters behind the first have bits for
abbrev pub bytes_of_letters : List ℕ → List ℕ
bytes_of_letters s = map (eight_bits (letter_values s)) (range_with_len 0 (5 * length (drop 1 s) / 8))

-- a CID of version 1, in its one text
abbrev pub link_of_text : List ℕ → Option (List ℕ)
link_of_text s =
    let c = bytes_of_letters s in
    if bytes_eq (text c) s && is_version_1 c then Some c else None
