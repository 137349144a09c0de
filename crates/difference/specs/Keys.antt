-- The keys of rows.
use Rattle.std.specs.Prelude.{ℕ, List}
use Rattle.difference.specs.declared.keys.Key.{Key}
use Rattle.difference.specs.declared.keys.Key.TheVariants.{Short, Long}

-- the bytes of a key
abbrev pub key_in : {A : Type 0} → Key A → List ℕ
key_in (Short bytes) = bytes.items
key_in (Long bytes) = bytes.items
