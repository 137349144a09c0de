-- The export of blocks as one file (CARv1).
use Rattle.std.specs.Prelude.{ℕ, List, [], ◌∷◌, ◌++◌, length, codes}
use Rattle.std.specs.List.{flat_map}
use Rattle.spec.specs.Varint.{varint}
use Rattle.spec.specs.Cid.{cid, link}
use Rattle.spec.specs.Blocks.{firsts}

-- the length, and the bytes (CARv1, format)
abbrev pub sized : List ℕ → List ℕ
sized bytes = varint (length bytes) ++ bytes

-- the map of roots and version (CARv1, header)
abbrev pub header : List ℕ → List ℕ
header root =
    sized ((0xa2 ∷ 0x65 ∷ codes "roots") ++ (0x81 ∷ link root) ++ (0x67 ∷ codes "version")
    ++ (0x01 ∷ []))

-- the CID and the data (CARv1, section)
abbrev pub section : (List ℕ → List ℕ) → List ℕ → List ℕ
section digest block = sized (cid digest block ++ block)

-- the file of a root and a list of blocks: the header, and a section for each block whose CID comes
-- first (their order is a choice of this project)
abbrev pub car_of : (List ℕ → List ℕ) → List ℕ → List (List ℕ) → List ℕ
car_of digest root bs = header root ++ flat_map (section digest) (firsts (cid digest) bs)
