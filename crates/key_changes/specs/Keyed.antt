-- Which changes are taken: their keys ascend strictly and have lengths that a tree takes.
use Rattle.std.specs.Prelude.{Bool, true, false, ◌&&◌, ℕ, List, [], ◌∷◌}
use Rattle.std.specs.declared.cmp.Ordering.{Ordering}
use Rattle.std.specs.declared.cmp.Ordering.TheVariants.{Less, Equal, Greater}
use Rattle.spec.specs.NodeFormat.{is_key}
use Rattle.edit_laws.specs.Order.{order}
use Rattle.batch_laws.specs.Batch.{Change}

abbrev pub is_greater : Ordering → Bool
is_greater Less = false
is_greater Equal = false
is_greater Greater = true

abbrev pub are_later : List ℕ → List Change → Bool
are_later key [] = true
are_later key (c ∷ cs) = is_greater (order c.0 key) && are_later key cs

-- whether keys ascend strictly
abbrev pub are_ascending : List Change → Bool
are_ascending [] = true
are_ascending (c ∷ cs) = are_later c.0 cs && are_ascending cs

abbrev pub have_keys : List Change → Bool
have_keys [] = true
have_keys (c ∷ cs) = is_key c.0 && have_keys cs

-- whether keys have 1 to 1,024 bytes and ascend strictly
abbrev pub are_changes : List Change → Bool
are_changes cs = are_ascending cs && have_keys cs
