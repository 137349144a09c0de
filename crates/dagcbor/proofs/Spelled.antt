-- What a reading that succeeded or failed says of the bytes.
use Rattle.std.proofs.Common.{◌≡◌, ℕ, List, Option, Some, None, Result, Ok, Err, ap, ◌∙◌}
use Rattle.std.specs.Prelude.{IsSome}
use Rattle.spec.specs.Reading.{Fails}
use Rattle.spec.specs.Head.{CborFault}
use Rattle.spec.specs.DagCbor.{Value, read}
use Rattle.spec.proofs.DagCborLaws.{read-spelling}
use Rattle.dagcbor.specs.Refused.{HasNoValue}

clash : (f : CborFault) (v : Value) (r : Result Value CborFault) → r ≡ Err f → r ≡ Ok v → ⊥
clash f v r e h = cc

pub refused : (o : Option CborFault) (bytes : List ℕ) → Fails o (read bytes) → IsSome o → HasNoValue bytes
refused None bytes fails some v is e = absurd cc
refused (Some f) bytes fails some v is e = clash f v (read bytes) fails (ap read e ∙ read-spelling v is)
