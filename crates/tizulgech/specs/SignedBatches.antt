-- What is told of a batch before it is accepted, and of one that is accepted signed.
use Rattle.std.specs.Prelude.{◌≡◌, ⊤, ℕ, List, ◌++◌, nat_eq, false, Option, Some, None, Result, Ok, Err}
use Rattle.std.specs.Str.{bytes_eq}
use Rattle.sha2.specs.Sha256.{sha256}
use Rattle.spec.specs.Reading.{◌>>=◌, ensure}
use Rattle.spec.specs.Stamps.{Stamp}
use Rattle.spec.specs.States.{BatchFault, state_root, state_test}
use Rattle.event_writing_laws.specs.Signed.{signed_message}
use Rattle.event_writing_laws.specs.Telling as telling
use Rattle.event_writing_laws.specs.Telling.{Told}
use Rattle.repo.specs.Prepared.{Prepared, commit_after, keys_changed, prepared_of, state_after}
use Rattle.buffers.specs.Answers.{IsHanded, part_bytes}
use Rattle.owned_repo.specs.Owning.{Owned}
use Rattle.event_writing.specs.Views.{untold_fault_of}
use Rattle.event_writing.specs.declared.signing_fault.SigningFault as signings
use Rattle.event_writing.specs.declared.signing_fault.SigningFault.TheVariants as errors
use Rattle.tizulgech.specs.Numbers.{batch_number, fault_number, is_other, tested}
use Rattle.tizulgech.specs.Messages.{change_told, changes_spelt, form_told, told_or_want}

-- ---- a batch before it is accepted

-- how it is spelt: the roots before and after, the bytes of the unsigned commit, and what each key had and has
abbrev pub prepared_spelt : Prepared → List ℕ
prepared_spelt p =
    state_root sha256 2 p.before ++ state_root sha256 2 (state_after p) ++ part_bytes (commit_after sha256 2 p)
    ++ changes_spelt (keys_changed sha256 p)

-- bytes where a test passes; else the number and the place of the first fault
abbrev pub IsTestedThen : ℕ → ℕ → Result (Unit {0}) (ℕ × BatchFault) → List ℕ → List ℕ → List ℕ → ℕ → Type 0
IsTestedThen code place (Ok ok) bytes before room size = is_other code ≡ false → IsHanded code bytes before room size
IsTestedThen code place (Err f) bytes before room size = is_other code ≡ false → (code, place) ≡ tested (Err f)

-- of the writes that wait, under a stamp
abbrev pub IsPreviewed : ℕ → ℕ → Owned → Stamp → List ℕ → List ℕ → ℕ → Type 0
IsPreviewed code place o stamp before room size =
    IsTestedThen code place (state_test o.state stamp o.pending) (prepared_spelt (prepared_of o.state stamp o.pending)) before room size

-- ---- a batch that is signed

-- why it isn't accepted: the root before is another one; the first fault of its test; it can't be told
pub data SigningFault : Type 0 where
  RootMoved : SigningFault
  OfBatch : ℕ × BatchFault → SigningFault
  OfMessage : telling.UntoldFault → SigningFault

abbrev pub of_batch : Result (Unit {0}) (ℕ × BatchFault) → Result (Unit {0}) SigningFault
of_batch (Ok ok) = Ok ok
of_batch (Err f) = Err (OfBatch f)

abbrev pub of_message : Result (List ℕ) telling.UntoldFault → Result (List ℕ) SigningFault
of_message (Ok m) = Ok m
of_message (Err f) = Err (OfMessage f)

-- the message of the writes that wait, over the root that was signed over
abbrev pub signing : Owned → List ℕ → Stamp → Told → Result (List ℕ) SigningFault
signing o previous stamp told =
    ensure (bytes_eq (state_root sha256 2 o.state) previous) RootMoved
    >>= λ x. (of_batch (state_test o.state stamp o.pending)
    >>= λ y. of_message (signed_message sha256 2 o.state stamp o.pending told))

-- ---- numbers, each with a place, or 0

abbrev pub untold_told : telling.UntoldFault → ℕ × ℕ
untold_told telling.NoBatch = (132, 0)
untold_told telling.BadSeq = (131, 0)
untold_told (telling.OfForm f) = form_told f
untold_told (telling.NotShown f) = change_told f
untold_told (telling.RecordSize place) = (128, place)

abbrev pub signing_told : SigningFault → ℕ × ℕ
signing_told RootMoved = (130, 0)
signing_told (OfBatch f) = (batch_number f.1, f.0)
signing_told (OfMessage f) = untold_told f

-- the same of a fault of the code
abbrev pub signing_code : {D A : Type 0} → signings.SigningFault D A → ℕ × ℕ
signing_code errors.RootMoved = (130, 0)
signing_code (errors.Refused place fault) = (fault_number fault, place)
signing_code (errors.Untold fault) = told_or_want untold_told (untold_fault_of fault)
signing_code errors.NoMemory = (255, 0)

-- a number that says nothing of a clash or of a full store, but for a refusal
abbrev pub IsNoLimit : {D A : Type 0} → signings.SigningFault D A → ℕ → Type 0
IsNoLimit (errors.Refused place fault) code = ⊤
IsNoLimit fault code = (nat_eq code 253 ≡ false) × (nat_eq code 254 ≡ false)

-- the message, or the number and the place of the first fault
abbrev pub IsSigned : ℕ → ℕ → Result (List ℕ) SigningFault → List ℕ → List ℕ → ℕ → Type 0
IsSigned code place (Ok message) before room size = is_other code ≡ false → IsHanded code message before room size
IsSigned code place (Err f) before room size = is_other code ≡ false → (code, place) ≡ signing_told f

-- 252 where the root before is no CID
abbrev pub IsSignedOver : ℕ → ℕ → Owned → Option (List ℕ) → Stamp → Told → List ℕ → List ℕ → ℕ → Type 0
IsSignedOver code place o None stamp told before room size = code ≡ 252
IsSignedOver code place o (Some previous) stamp told before room size =
    IsSigned code place (signing o previous stamp told) before room size
