-- What loops over a source read.
use Rattle.std.specs.Prelude.{◌≡◌, ℕ, zero, suc, ◌+◌, ◌/◌, length, List, Option, Some, None, option_map}
use Rattle.std.specs.Arc.{arc_value}
use Rattle.std.specs.declared.sync.Arc.{Arc}
use Rattle.node.specs.declared.place.Place.{Place}
use Rattle.node.specs.Views.{place_of}
use Rattle.spec.specs.NodeFormat.{Shape}
use Rattle.edit_laws.specs.Laws.Lookups.{found_at}
use Rattle.edit_laws.specs.Sources.{gap, shown_by, entry_value, path_from}

-- how many layers a tree has at most: those of 256 bits, and layer 0
abbrev pub layers : ℕ → ℕ
layers bits = 256 / bits + 1

-- the value at a key's place, and the link to go on with
abbrev pub place_found : List ℕ → Place → Option (List ℕ) × Option (List ℕ)
place_found key p = found_at (place_of key p)

-- what a source of blocks shows, where view is the bytes of a block
abbrev pub shows : {X : Type 0} → (X → List ℕ) → (List ℕ → Option X) → List ℕ → Option Shape
shows view gives = shown_by (λ c. option_map view (gives c))

-- the nodes that a source of blocks gives
abbrev pub nodes_given : {A : Type 0} → (List ℕ → Option (Arc (List ℕ) A)) → List ℕ → Option Shape
nodes_given gives = shows arc_value gives

-- the value of a key in a node, and the link to go on with
abbrev pub place_of_key : List ℕ → Shape → Option (List ℕ) × Option (List ℕ)
place_of_key key s = (entry_value key s, gap key s)

abbrev pub asked_at : (Option (List ℕ) → ℕ) → List ℕ → Option Shape → ℕ
asked_at further key None = 1
asked_at further key (Some s) = suc (further (gap key s))

-- how many blocks a look-up asks for from a link on, over at most n nodes, also where the last isn't given
abbrev pub asked_from : (List ℕ → Option Shape) → ℕ → List ℕ → Option (List ℕ) → ℕ
asked_from shows zero key l = 0
asked_from shows (suc n) key None = 0
asked_from shows (suc n) key (Some c) = asked_at (asked_from shows n key) key (shows c)

-- each block of a path is there and is a node
abbrev pub IsWholePath : (List ℕ → Option Shape) → ℕ → List ℕ → Option (List ℕ) → Type 0
IsWholePath shows n key l = asked_from shows n key l ≡ length (path_from shows n key l)
