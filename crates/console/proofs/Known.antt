-- What is said of an input that may be known and of a writer's contents that stay, and the statuses of a failed write.
use Rattle.std.proofs.Common.{◌≡◌, ◌≤◌, ℕ, List, Some, None, refl, sym, subst, arith}
use Rattle.std.specs.Prelude.{Option, IfSome}
use Rattle.std.specs.Io.KnownBytes.{Keeps}
use Rattle.console.specs.Faults.{write_status}
use Rattle.console.specs.declared.writing.WriteFault.{WriteFault}
use Rattle.console.specs.declared.writing.WriteFault.TheVariants as writes

pub for_known : (P Q : List ℕ → Type 0) (o : Option (List ℕ)) → ((xs : List ℕ) → P xs → Q xs) → IfSome o P → IfSome o Q
for_known P Q None f p = tt
for_known P Q (Some xs) f p = f xs p

pub always_known : (P : List ℕ → Type 0) (o : Option (List ℕ)) → ((xs : List ℕ) → P xs) → IfSome o P
always_known P None f = tt
always_known P (Some xs) f = f xs

pub keeps-itself : (o : Option (List ℕ)) → Keeps o o
keeps-itself None = tt
keeps-itself (Some xs) = refl

pub keeps-same : (old new : Option (List ℕ)) → new ≡ old → Keeps old new
keeps-same old new e = subst (Keeps old) (sym e) (keeps-itself old)

pub write-statuses : (f : WriteFault) → (3 ≤ write_status f) × (write_status f ≤ 4)
write-statuses writes.NoMemory = (omega arith, omega arith)
write-statuses writes.Failed = (omega arith, omega arith)
