-- Texts of CIDs, and what is wrong with texts that are none.
use Prim.Native.String.{String}
use Rattle.std.specs.Prelude.{◌≡◌, ℕ, List, ◌++◌, codes, Result, Ok, Err}
use Rattle.std.proofs.Common.{refl}
use Rattle.spec.specs.Cid.{text, cid_of_text, CidFault, BadLength, BadPrefix, BadLetter, BadBits, NotThisProfile}
use Rattle.spec.proofs.rows.Written.{hex}

-- of the empty node's seven bytes, under SHA-256
abbrev empty_node : List ℕ
empty_node = hex "01711220" ++ hex "9dfefe61dd76ea3dcae5023880b08379d57adf20482d6fdbe2759289f647677b"

abbrev Reads : String → Result (List ℕ) CidFault → Type 0
Reads letters result = cid_of_text (codes letters) ≡ result

text_of_a_cid : text empty_node ≡ codes "bafyreie5737gdxlw5i64vzichcalba3z2v5n6icifvx5xytvske7mr3hpm"
text_of_a_cid = refl

cid_of_a_text : Reads "bafyreie5737gdxlw5i64vzichcalba3z2v5n6icifvx5xytvske7mr3hpm" (Ok empty_node)
unfolding cid_of_text
cid_of_a_text = refl

cid_text_faults : Reads "bafyreie5737gdxlw5i64vzichcalba3z2v5n6icifvx5xytvske7mr3hp" (Err BadLength)
    × Reads "zafyreie5737gdxlw5i64vzichcalba3z2v5n6icifvx5xytvske7mr3hpm" (Err BadPrefix)
    × Reads "b1fyreie5737gdxlw5i64vzichcalba3z2v5n6icifvx5xytvske7mr3hpm" (Err BadLetter)
    × Reads "bafyreie5737gdxlw5i64vzichcalba3z2v5n6icifvx5xytvske7mr3hpn" (Err BadBits)
    × Reads "bafkreie5737gdxlw5i64vzichcalba3z2v5n6icifvx5xytvske7mr3hpm" (Err NotThisProfile)
unfolding cid_of_text
cid_text_faults = (refl, refl, refl, refl, refl)
