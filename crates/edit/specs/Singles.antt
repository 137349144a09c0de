-- What a put and a delete of one key answer.
use Rattle.std.specs.Prelude.{◌≡◌, ℕ, List, [], ◌∷◌, ◌++◌, map, Option, Some, None, Result, IfOk, IfErr}
use Rattle.std.specs.Arc.{arc_value}
use Rattle.std.specs.declared.sync.Arc.{Arc}
use Rattle.spec.specs.NodeFormat.{Shape}
use Rattle.spec.specs.Blocks.{value_of, nodes}
use Rattle.spec.specs.Proof.{path}
use Rattle.spec.specs.Writes.{with_key, without_key}
use Rattle.edit_laws.specs.Sources.{value_from}
use Rattle.lookups.specs.Steps.{layers, nodes_given, IsWholePath}
use Rattle.lookups.specs.Trees.{OfTree}
use Rattle.edit.specs.declared.outcome.Edit.{Edit}
use Rattle.edit.specs.declared.outcome.EditFault.{EditFault}
use Rattle.edit.specs.Batches.{answer_of, most_of, IsReason}
use Rattle.edit.specs.Deletes.{IsDeleteOf, nodes_read}
use Rattle.edit.specs.Edits.{IsEditOf}
use Rattle.edit.specs.Refusals.{IsRefusal}

-- the first of some values, and none where there are none
abbrev pub first_value : List (Option (List ℕ)) → Option (List ℕ)
first_value [] = None
first_value (v ∷ vs) = v

-- ---- over the tree with a root, for whatever pairs it has in a source

-- the edit is that of a put of the key with the value
abbrev pub IsPut : {D A : Type 0} → (List ℕ → List ℕ) → ℕ → (List ℕ → Option (Arc (List ℕ) A)) → List ℕ → List ℕ
    → List ℕ → Result (Edit D A) (EditFault D A) → Type 0
IsPut digest bits gives root key value result = OfTree digest bits gives root (λ es. IfOk result (λ edit.
    IsEditOf digest bits es (with_key es key value) key (path digest bits es key) edit.root
    (map arc_value edit.add.items) edit.drop.items edit.previous))

-- and it has the nodes of the key's path, each once, from the top
abbrev pub HasPath : {D A : Type 0} → (List ℕ → List ℕ) → ℕ → (List ℕ → Option (Arc (List ℕ) A)) → List ℕ → List ℕ
    → Result (Edit D A) (EditFault D A) → Type 0
HasPath digest bits gives root key result = OfTree digest bits gives root (λ es. IfOk result (λ edit.
    map arc_value edit.read.items ≡ path digest bits es key))

-- it is refused as nodes of the tree before and after clash, or memory was wanted
abbrev pub IsPutRefusal : {D A : Type 0} → (List ℕ → List ℕ) → ℕ → (List ℕ → Option (Arc (List ℕ) A)) → List ℕ
    → List ℕ → List ℕ → Result (Edit D A) (EditFault D A) → Type 0
IsPutRefusal digest bits gives root key value result = OfTree digest bits gives root (λ es.
    IfErr result (IsRefusal digest (nodes digest bits es ++ nodes digest bits (with_key es key value)) ⊥))

-- the edit is that of a delete of the key
abbrev pub IsDelete : {D A : Type 0} → (List ℕ → List ℕ) → ℕ → (List ℕ → Option (Arc (List ℕ) A)) → List ℕ → List ℕ
    → Result (Edit D A) (EditFault D A) → Type 0
IsDelete digest bits gives root key result = OfTree digest bits gives root (λ es. IfOk result (λ edit.
    IsDeleteOf digest bits es key edit.root (map arc_value edit.add.items) edit.drop.items edit.previous))

-- and it has the nodes that a delete reads, each once, in the order in which they are read
abbrev pub HasDeletePath : {D A : Type 0} → (List ℕ → List ℕ) → ℕ → (List ℕ → Option (Arc (List ℕ) A)) → List ℕ
    → List ℕ → Result (Edit D A) (EditFault D A) → Type 0
HasDeletePath digest bits gives root key result = OfTree digest bits gives root (λ es. IfOk result (λ edit.
    map arc_value edit.read.items ≡ nodes_read digest bits es key))

-- it is refused as the tree doesn't have the key, nodes of the tree before and after clash, or memory was wanted
abbrev pub IsDeleteRefusal : {D A : Type 0} → (List ℕ → List ℕ) → ℕ → (List ℕ → Option (Arc (List ℕ) A)) → List ℕ
    → List ℕ → Result (Edit D A) (EditFault D A) → Type 0
IsDeleteRefusal digest bits gives root key result = OfTree digest bits gives root (λ es.
    IfErr result (IsRefusal digest (nodes digest bits es ++ nodes digest bits (without_key es key))
    (value_of key es ≡ None)))

-- ---- over any source

-- the whole path of a key is there, and no node of it has the key
pub record IsAbsent (shows : List ℕ → Option Shape) (n : ℕ) (key root : List ℕ) : Type 0 where
  pub path : IsWholePath shows n key (Some root)
  pub value : value_from shows n key (Some root) ≡ None

-- why there is no edit of a put: a missing block has its CID in the fault
abbrev pub IsPutLack : {D A : Type 0} → (List ℕ → List ℕ) → ℕ → (List ℕ → Option (Arc (List ℕ) A)) → List ℕ
    → List ℕ → List ℕ → Result (Edit D A) (EditFault D A) → Type 0
IsPutLack digest bits gives root key value result =
    IfErr result (IsReason gives (most_of digest bits gives ((key, Some value) ∷ []) root)
    (answer_of digest bits gives ((key, Some value) ∷ []) root) ⊥)

-- and of a delete: the key isn't there only where its whole path is
abbrev pub IsDeleteLack : {D A : Type 0} → (List ℕ → List ℕ) → ℕ → (List ℕ → Option (Arc (List ℕ) A)) → List ℕ
    → List ℕ → Result (Edit D A) (EditFault D A) → Type 0
IsDeleteLack digest bits gives root key result =
    IfErr result (IsReason gives (most_of digest bits gives ((key, None) ∷ []) root)
    (answer_of digest bits gives ((key, None) ∷ []) root)
    (IsAbsent (nodes_given gives) (layers bits) key root))
