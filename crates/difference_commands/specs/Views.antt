-- What the code's lists stand for.
use Rattle.std.specs.Prelude.{ℕ, List, map}
use Rattle.std.specs.declared.vec.Vec.{Vec}
use Rattle.spec.specs.Tree.{Pair}
use Rattle.export_commands.specs.Texts.{Records}

-- a key that is lent, and a record
abbrev pub keyed_one : {A : Type 0} → List ℕ × Vec ℕ A → List ℕ × List ℕ
keyed_one e = (e.0, e.1.items)

abbrev pub keyed : {A : Type 0} → List (List ℕ × Vec ℕ A) → Records
keyed es = map keyed_one es

-- a key and its record, with the record's CID
abbrev pub Entry : Type 0
Entry = (List ℕ × List ℕ) × List ℕ

-- the key with the CID
abbrev pub pair_of : Entry → Pair
pair_of e = (e.0.0, e.1)

abbrev pub pairs_in : List Entry → List Pair
pairs_in es = map pair_of es

-- the keys with their records
abbrev pub records_in : List Entry → Records
records_in es = map (λ e. e.0) es
