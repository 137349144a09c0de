-- Pairs in ascending order of keys: a put, a delete and a get by itself.
use Rattle.std.specs.Prelude.{◌≡◌, ℕ, List, [], ◌∷◌}
use Rattle.std.specs.List.{AllByRecursion}
use Rattle.std.specs.declared.cmp.Ordering.{Ordering}
use Rattle.std.specs.declared.cmp.Ordering.TheVariants.{Less, Equal, Greater}
use Rattle.std.specs.declared.option.Option.{Option}
use Rattle.std.specs.declared.option.Option.TheVariants.{Some, None}
use Rattle.edit_laws.specs.Order.{order}
use Rattle.spec.specs.Tree.{Pair}

-- P holds of each
abbrev pub Each : (Pair → Type 0) → List Pair → Type 0
Each P es = AllByRecursion P es

abbrev pub IsBefore : List ℕ → Pair → Type 0
IsBefore key e = order e.0 key ≡ Less

abbrev pub IsAfter : List ℕ → Pair → Type 0
IsAfter key e = order e.0 key ≡ Greater

-- keys ascend strictly
abbrev pub Ascending : List Pair → Type 0
Ascending [] = Unit {0}
Ascending (e ∷ es) = Each (IsAfter e.0) es × Ascending es

abbrev pub put_first : Ordering → Pair → Pair → List Pair → List Pair → List Pair
put_first Less p e es tail = e ∷ tail
put_first Equal p e es tail = p ∷ es
put_first Greater p e es tail = p ∷ e ∷ es

-- the pairs with p in its place, which takes that of a pair with its key
abbrev pub put_pair : Pair → List Pair → List Pair
put_pair p [] = p ∷ []
put_pair p (e ∷ es) = put_first (order e.0 p.0) p e es (put_pair p es)

abbrev pub delete_first : Ordering → Pair → List Pair → List Pair → List Pair
delete_first Less e es tail = e ∷ tail
delete_first Equal e es tail = es
delete_first Greater e es tail = e ∷ es

-- the pairs without that of a key
abbrev pub delete_pair : List ℕ → List Pair → List Pair
delete_pair key [] = []
delete_pair key (e ∷ es) = delete_first (order e.0 key) e es (delete_pair key es)

abbrev pub value_first : Ordering → Pair → Option (List ℕ) → Option (List ℕ)
value_first Less e rest = rest
value_first Equal e rest = Some e.1
value_first Greater e rest = None

abbrev pub value_in : List ℕ → List Pair → Option (List ℕ)
value_in key [] = None
value_in key (e ∷ es) = value_first (order e.0 key) e (value_in key es)
