-- What is kept, field by field.
use Rattle.std.proofs.Common.{◌≡◌, ℕ}
use Rattle.kept.specs.Counts.{Counts, Keeping}

abbrev pub keeping : ℕ → Counts → Keeping
keeping me uses = record { me = me; uses = uses }

pub keeping_same : (me : ℕ) {a b : Counts} → a ≡ b → keeping me a ≡ keeping me b
keeping_same me e = λ i. keeping me (e i)
