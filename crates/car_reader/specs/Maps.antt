-- Sections by the CIDs that they state.
use Rattle.std.specs.Prelude.{◌≡◌, ℕ, Bool, List, Option, find, option_and_then, slice_get}
use Rattle.std.specs.HashMap.{HashMap, get}
use Rattle.std.specs.Str.{bytes_eq}
use Rattle.std.specs.declared.hash.FoldHasher.{FoldHasher}
use Rattle.std.specs.declared.hash.BuildHasherDefault.{BuildHasherDefault}
use Rattle.cid.specs.CidRef.{bytes_of}
use Rattle.cid.specs.declared.cid_ref.CidRef.{CidRef}
use Rattle.car_reader.specs.declared.section.Section.{Section}

-- the first section that states this CID
abbrev pub first_with : List ℕ → List Section → Option Section
first_with c ss = find (λ s. bytes_eq (bytes_of s.cid) c) ss

-- two identifiers are the same
abbrev pub is_same : CidRef → CidRef → Bool
is_same b c = bytes_eq (bytes_of b) (bytes_of c)

-- the map has the place of the first section with each CID
pub record IsMap (ss : List Section)
    (places : HashMap CidRef ℕ (BuildHasherDefault FoldHasher)) : Type 0 where
  pub placed : (c : CidRef)
      → option_and_then (slice_get ss) (get is_same places c) ≡ first_with (bytes_of c) ss
