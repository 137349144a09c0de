-- What a source of blocks has of a repository, and what is read of it.
use Rattle.std.specs.Prelude.{ℕ, List, [], Option, Some, None, Result}
use Rattle.std.specs.List.{cons_option, flat_map}
use Rattle.std.specs.declared.sync.Arc.{Arc}
use Rattle.spec.specs.Blocks.{pairs, record_blocks}
use Rattle.spec.specs.Sources.{HasBlocks}
use Rattle.lookups.specs.Trees.{HasTree, bytes_given}
use Rattle.change_laws.specs.Told.{KeyChange}
use Rattle.event_writing_laws.specs.Telling.{UntoldFault, each_test, size_test}

-- the tree of these records, at its root, and each of the records
pub record HasRecords (digest : List ℕ → List ℕ) (bits : ℕ) (gives : List ℕ → Option (List ℕ)) (root : List ℕ)
    (m : List (List ℕ × List ℕ)) : Type 0 where
  pub tree : HasTree digest bits gives root (pairs digest m)
  pub records : HasBlocks digest gives (record_blocks m)

-- P holds of whatever records the source has so at this root
abbrev pub OfRecords : {A : Type 0} → (List ℕ → List ℕ) → ℕ → (List ℕ → Option (Arc (List ℕ) A)) → List ℕ
    → (List (List ℕ × List ℕ) → Type 0) → Type 0
OfRecords digest bits gives root P =
    (m : List (List ℕ × List ℕ)) → HasRecords digest bits (bytes_given gives) root m → P m

-- ---- what is read

-- the block with this CID, if there is one
abbrev pub record_given : {A : Type 0} → (List ℕ → Option (Arc (List ℕ) A)) → Option (List ℕ) → List (List ℕ)
record_given gives None = []
record_given gives (Some c) = cons_option (bytes_given gives c) []

-- those with the CIDs that operations leave, in their order
abbrev pub records_given : {A : Type 0} → (List ℕ → Option (Arc (List ℕ) A)) → List KeyChange → List (List ℕ)
records_given gives ops = flat_map (λ c. record_given gives c.after) ops

-- the record that an operation leaves isn't too long
abbrev pub given_size : {A : Type 0} → (List ℕ → Option (Arc (List ℕ) A)) → ℕ → KeyChange → Result (Unit {0}) UntoldFault
given_size gives place c = size_test place (record_given gives c.after)

abbrev pub sizes_given : {A : Type 0} → (List ℕ → Option (Arc (List ℕ) A)) → ℕ → List KeyChange → Result (Unit {0}) UntoldFault
sizes_given gives place cs = each_test (given_size gives) place cs
