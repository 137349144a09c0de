-- The order of keys in DAG-CBOR: a shorter key first, and those of one length bytewise (IPLD DAG-CBOR, strictness).
use Rattle.std.specs.Prelude.{ℕ, List, [], ◌∷◌, length, map, Option, Some, None, if◌then◌else◌}
use Rattle.std.specs.declared.cmp.Ordering.{Ordering}
use Rattle.std.specs.Cmp.Lexicographic.{slice_cmp}
use Rattle.std.specs.Ordering.{nat_cmp, ordering_then}
use Rattle.std.specs.Str.{bytes_eq}
use Rattle.spec.specs.DagCbor.{is_key_below}

abbrev pub key_cmp : List ℕ → List ℕ → Ordering
key_cmp a b = ordering_then (nat_cmp (length a) (length b)) (slice_cmp nat_cmp a b)

-- ---- members, each a key and what stands at it

abbrev pub insert : {X : Type 0} → List ℕ × X → List (List ℕ × X) → List (List ℕ × X)
insert m [] = m ∷ []
insert m (n ∷ ns) = if is_key_below n.0 m.0 then n ∷ insert m ns else m ∷ n ∷ ns

abbrev pub in_order : {X : Type 0} → List (List ℕ × X) → List (List ℕ × X)
in_order [] = []
in_order (m ∷ ms) = insert m (in_order ms)

abbrev pub keys_of : {X : Type 0} → List (List ℕ × X) → List (List ℕ)
keys_of ms = map (λ m. m.0) ms

-- of keys in order, the first that comes twice
abbrev pub doubled_key : List (List ℕ) → Option (List ℕ)
doubled_key [] = None
doubled_key (k ∷ []) = None
doubled_key (k ∷ l ∷ ls) = if bytes_eq k l then Some k else doubled_key (l ∷ ls)
