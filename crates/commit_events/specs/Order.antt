-- Where an operation goes among others that stand in the order of their keys, and the keys of some.
use Rattle.std.specs.Prelude.{ℕ, suc, List, [], ◌∷◌, map}
use Rattle.std.specs.declared.cmp.Ordering.{Ordering}
use Rattle.std.specs.declared.cmp.Ordering.TheVariants.{Less, Equal, Greater}
use Rattle.edit_laws.specs.Order.{order}
use Rattle.change_laws.specs.Told.{KeyChange}
use Rattle.event_laws.specs.Verdict.{Placed}

-- one further, where a key isn't after the other
abbrev pub further : Ordering → ℕ → ℕ
further Less n = suc n
further Equal n = suc n
further Greater n = 0

-- how many of the first have keys that aren't after this one
abbrev pub place_among : List Placed → List ℕ → ℕ
place_among [] key = 0
place_among (d ∷ ds) key = further (order d.1.key key) (place_among ds key)

abbrev pub keys_of : List KeyChange → List (List ℕ)
keys_of cs = map (λ c. c.key) cs
