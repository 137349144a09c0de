-- Why there is no text (the names are a choice of this project).
use Rattle.std.specs.Prelude.{◌≡◌, ◌⊎◌, ⊤, ℕ, Bool, true, false, Option, Some, None, option_map}
use Rattle.std.specs.Prelude.{Result, IsErrAnd, string_bytes}
use Rattle.spec.specs.Cid as cids
use Rattle.spec.specs.Proof as proofs
use Rattle.spec.specs.Writes.{WriteFault}
use Rattle.change_laws.specs.Given as changes
use Rattle.change_proofs.specs.declared.change_fault.ChangeFault.{ChangeFault}
use Rattle.change_proofs.specs.declared.change_fault.ChangeFault.TheVariants as change_faults
use Rattle.cid.specs.CidFault as of_cid
use Rattle.batches.specs.Tests.{write_fault}
use Rattle.export.specs.Faults as of_proof
use Rattle.export.specs.declared.proof_fault.ProofFault.TheVariants as proof_faults
use Rattle.record_json.specs.Reading.{Fault as JsonFault}
use Rattle.record_forms.specs.Records as words
use Rattle.record_forms.specs.Views.{json_fault_of}
use Rattle.console.specs.declared.reading.ReadFault.{ReadFault}
use Rattle.console.specs.declared.reading.ReadFault.TheVariants as reads
use Rattle.repository_commands.specs.declared.fault.LineFault.{LineFault as GivenLineFault}
use Rattle.repository_commands.specs.declared.fault.LineFault.TheVariants as lines
use Rattle.console.specs.Faults.{write_status}
use Rattle.console.specs.declared.fault.CommandFault.{CommandFault}
use Rattle.console.specs.declared.fault.CommandFault.TheVariants as commands
use Rattle.repository_commands.specs.declared.fault.TextFault.{TextFault}
use Rattle.repository_commands.specs.declared.fault.TextFault.TheVariants as errors

-- what is wrong with a line: it hasn't the words that it should have; what stands in it is no record as JSON;
-- its write isn't taken; or the key of its change has another value in the tree after it
pub data LineFault : Type 0 where
  BadLine : LineFault
  BadJson : JsonFault → LineFault
  OfWrite : WriteFault → LineFault
  OtherValue : LineFault

-- whose repository it is, the revision, and the signature; no batch, and so no commit to sign; the text of
-- a root, and of those before and after a change; a key or the blocks of a proof; the roots that are told
-- of a change; its blocks; a line by its number, from 1
pub data Fault : Type 0 where
  BadDid : Fault
  BadRev : Fault
  BadSig : Fault
  NothingToSign : Fault
  OfRoot : cids.CidFault → Fault
  OfBefore : cids.CidFault → Fault
  OfAfter : cids.CidFault → Fault
  OfProof : proofs.ProofFault → Fault
  OtherBefore : Fault
  OtherAfter : Fault
  OfChange : changes.ChangeFault → Fault
  Line : ℕ → LineFault → Fault

-- a line with a word that is no record
abbrev pub of_word : words.WordFault → LineFault
of_word words.BadWord = BadLine
of_word (words.OfJson f) = BadJson f

-- ---- what a fault of the program is to these definitions, which know nothing of clashes of records, of
-- a full store, of memory and of devices

abbrev pub line_fault_of : {D A : Type 0} → GivenLineFault D A → Option LineFault
line_fault_of lines.BadLine = Some BadLine
line_fault_of (lines.BadJson kind path) = Some (BadJson (json_fault_of kind (string_bytes path)))
line_fault_of (lines.Refused f) = option_map OfWrite (write_fault f)
line_fault_of lines.OtherValue = Some OtherValue

abbrev pub change_fault_of : ChangeFault → Option changes.ChangeFault
change_fault_of (change_faults.BlockMissing c) = Some (changes.BlockMissing c)
change_fault_of (change_faults.BadNode c) = Some (changes.BadNode c)
change_fault_of change_faults.TooDeep = Some changes.TooDeep
change_fault_of change_faults.NotTree = Some changes.NotTree
change_fault_of (change_faults.OtherValue place) = Some (changes.OtherValue place)
change_fault_of change_faults.OtherRoot = Some changes.OtherRoot
change_fault_of change_faults.NoMemory = None

abbrev pub text_fault_of : {D A : Type 0} → TextFault D A → Option Fault
text_fault_of errors.BadDid = Some BadDid
text_fault_of errors.BadRev = Some BadRev
text_fault_of errors.BadSig = Some BadSig
text_fault_of errors.NothingToSign = Some NothingToSign
text_fault_of (errors.Root f) = option_map OfRoot (of_cid.cid_fault_of f)
text_fault_of (errors.BadBefore f) = option_map OfBefore (of_cid.cid_fault_of f)
text_fault_of (errors.BadAfter f) = option_map OfAfter (of_cid.cid_fault_of f)
text_fault_of (errors.Proof f) = option_map OfProof (of_proof.proof_fault_of f)
text_fault_of errors.OtherBefore = Some OtherBefore
text_fault_of errors.OtherAfter = Some OtherAfter
text_fault_of (errors.Change f) = option_map OfChange (change_fault_of f)
text_fault_of (errors.Line n f) = option_map (Line n) (line_fault_of f)
text_fault_of errors.NoMemory = None
text_fault_of errors.ReadFailed = None

-- whether it is a fault of a word
abbrev pub is_of_words : {D A : Type 0} → TextFault D A → Bool
is_of_words errors.BadDid = true
is_of_words errors.BadRev = true
is_of_words errors.BadSig = true
is_of_words (errors.Root f) = true
is_of_words (errors.BadBefore f) = true
is_of_words (errors.BadAfter f) = true
is_of_words (errors.Proof proof_faults.KeyLength) = true
is_of_words fault = false

-- a fault of a word was told
abbrev pub TellsWords : {X D A : Type 0} → Result X (TextFault D A) → Type 0
TellsWords result = IsErrAnd result (λ e. is_of_words e ≡ true)

-- that, or memory was refused to the words themselves
abbrev pub EndsWords : {X D A : Type 0} → Result X (TextFault D A) → Type 0
EndsWords result = IsErrAnd result (λ e. (is_of_words e ≡ true) ⊎ (e ≡ errors.NoMemory))

-- what a failed read is called
abbrev pub of_read : {D A : Type 0} → ReadFault → TextFault D A
of_read reads.NoMemory = errors.NoMemory
of_read reads.Failed = errors.ReadFailed

-- the status that the program ends with
abbrev pub status_of : {D A : Type 0} → TextFault D A → ℕ
status_of errors.NoMemory = 3
status_of errors.ReadFailed = 4
status_of fault = 1

-- ---- of a command: there is no text, or it can't be written

abbrev pub IfNoText : {F : Type 0} → CommandFault F → (F → Type 0) → Type 0
IfNoText (commands.NoText e) P = P e
IfNoText (commands.Unwritten w) P = ⊤

abbrev pub IfUnwritten : {F : Type 0} → CommandFault F → Type 0 → Type 0
IfUnwritten (commands.NoText e) P = ⊤
IfUnwritten (commands.Unwritten w) P = P

abbrev pub IsNoTextAnd : {F : Type 0} → CommandFault F → (F → Type 0) → Type 0
IsNoTextAnd (commands.NoText e) P = P e
IsNoTextAnd (commands.Unwritten w) P = ⊥

-- a fault of a word was told
abbrev pub TellsFaultyWord : {X D A : Type 0} → Result X (CommandFault (TextFault D A)) → Type 0
TellsFaultyWord result = IsErrAnd result (λ e. IsNoTextAnd e (λ f. is_of_words f ≡ true))

-- a fault of a word was told, or memory was refused to the words themselves
abbrev pub EndsEarly : {X D A : Type 0} → Result X (CommandFault (TextFault D A)) → Type 0
EndsEarly result = IsErrAnd result (λ e. IsNoTextAnd e (λ f. (is_of_words f ≡ true) ⊎ (f ≡ errors.NoMemory)))

-- the status that a command ends with
abbrev pub command_status : {D A : Type 0} → CommandFault (TextFault D A) → ℕ
command_status (commands.NoText e) = status_of e
command_status (commands.Unwritten w) = write_status w
