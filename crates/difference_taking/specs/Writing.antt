-- The batch that changes come to, with the records that come with them.
use Rattle.std.specs.Prelude.{◌≡◌, ℕ, suc, List, [], ◌∷◌, Option, Some, None, option_map, option_and_then, slice_get, Result, Ok, Err}
use Rattle.std.specs.BTreeMap.{BTreeMap, get}
use Rattle.std.specs.Cmp.Lexicographic.{slice_cmp}
use Rattle.std.specs.Ordering.{nat_cmp}
use Rattle.spec.specs.Blocks.{block_at}
use Rattle.spec.specs.Writes.{Write, Put, Delete}
use Rattle.change_laws.specs.Told.{KeyChange}

-- what leaves a key with the record of a CID, which is looked for, or without one; none where no record is found
abbrev pub write_to : (List ℕ → Option (List ℕ)) → List ℕ → Option (List ℕ) → Option Write
write_to found key None = Some (Delete key)
write_to found key (Some c) = option_map (λ bytes. Put key bytes) (found c)

-- the write of a change, with the first of these records that has the CID after it
abbrev pub write_for : (List ℕ → List ℕ) → List (List ℕ) → KeyChange → Option Write
write_for digest given c = write_to (λ cid. block_at digest cid given) c.key c.after

-- a write more in front
abbrev pub in_front : Write → Result (List Write) ℕ → Result (List Write) ℕ
in_front w (Ok ws) = Ok (w ∷ ws)
in_front w (Err place) = Err place

abbrev pub front_or_place : ℕ → Option Write → Result (List Write) ℕ → Result (List Write) ℕ
front_or_place place None later = Err place
front_or_place place (Some w) later = in_front w later

-- the writes of changes, in their order, or the place of the first whose record isn't given, counted from this one
abbrev pub writes_from : (List ℕ → List ℕ) → List (List ℕ) → ℕ → List KeyChange → Result (List Write) ℕ
writes_from digest given place [] = Ok []
writes_from digest given place (c ∷ cs) =
    front_or_place place (write_for digest given c) (writes_from digest given (suc place) cs)

-- the batch of changes, with these records
abbrev pub batch_of : (List ℕ → List ℕ) → List (List ℕ) → List KeyChange → Result (List Write) ℕ
batch_of digest given cs = writes_from digest given 0 cs

-- by its CID each record is found, of those with one CID the first
abbrev pub ArePlaces : (List ℕ → List ℕ) → List (List ℕ) → BTreeMap (List ℕ) ℕ → Type 0
ArePlaces digest given places = (c : List ℕ)
    → option_and_then (slice_get given) (get (slice_cmp nat_cmp) places c) ≡ block_at digest c given
