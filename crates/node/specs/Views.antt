-- What the parts of a node that are lent stand for.
use Rattle.std.specs.Prelude.{◌≡◌, ⊤, ℕ, List, [], ◌∷◌, Option, Some, None, option_map}
use Rattle.std.specs.Ordering.{nat_cmp}
use Rattle.std.specs.Cmp.Lexicographic.{slice_cmp}
use Rattle.cid.specs.CidRef.{bytes_of}
use Rattle.node.specs.declared.entry.EntryView.{EntryView}
use Rattle.node.specs.declared.place.Place.{Place}
use Rattle.node.specs.declared.place.Place.TheVariants as places
use Rattle.spec.specs.NodeFormat.{Entry}
use Rattle.spec.specs.Proof.{by_order}
use Rattle.spec.specs.Proof as found
use Rattle.node.specs.Rows.{Row, row_after}

abbrev pub row_of : EntryView → Row
row_of e = record { prefix = e.prefix; suffix = e.suffix.now; value = bytes_of e.value; tree = option_map bytes_of e.tree }

-- a key's place, where an entry that was found is the key's
abbrev pub place_of : List ℕ → Place → found.Place
place_of key (places.Here e) = found.Here (record { key = key; value = bytes_of e.value; tree = option_map bytes_of e.tree })
place_of key (places.Below c) = found.Below (bytes_of c)
place_of key places.Gap = found.Gap

-- the row of the entry with a key, the first one after the key before, where there is such an entry
abbrev pub row_with : List ℕ → List ℕ → List Entry → Option Row
row_with key before [] = None
row_with key before (e ∷ es) =
    by_order (slice_cmp nat_cmp e.key key) (row_with key e.key es) (Some (row_after before e)) None

-- an entry that was found is that of the key
abbrev pub IsRowWith : List ℕ → List Entry → Place → Type 0
IsRowWith key es (places.Here e) = row_with key [] es ≡ Some (row_of e)
IsRowWith key es (places.Below c) = ⊤
IsRowWith key es places.Gap = ⊤
