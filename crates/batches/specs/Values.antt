-- Stamps as the definitions see them, and writes.
use Rattle.std.specs.Prelude.{ℕ, List, map}
use Rattle.spec.specs.Stamps as stamps
use Rattle.batches.specs.declared.stamp.Stamp.{Stamp}
pub use Rattle.block.specs.Writes.{write_of, writes_of, shared_writes}

abbrev pub stamp_of : {A : Type 0} → Stamp A → stamps.Stamp
stamp_of s = record { did = s.did.items; rev = s.rev.items }

-- each stamp with the number of writes after its batch
abbrev pub stamps_of : {A : Type 0} → List (Stamp A × ℕ) → List stamps.Stamped
stamps_of ss = map (λ s. (stamp_of s.0, s.1)) ss
