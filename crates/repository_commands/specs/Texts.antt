-- What the commands write for an input, or why nothing (the forms of the texts are a choice of this
-- project).
use Rattle.std.specs.Prelude.{ℕ, List, [], ◌∷◌, ◌++◌, codes, slice_index, Option, Some, None, Result, Ok, Err}
use Rattle.std.specs.List.{flat_map}
use Rattle.hex.specs.Hex.{encode_lower}
use Rattle.spec.specs.Reading.{◌>>=◌, ensure}
use Rattle.spec.specs.Cid.{CidFault, text, cid_of_text}
use Rattle.spec.specs.NodeFormat.{is_key}
use Rattle.spec.specs.Blocks.{pairs}
use Rattle.spec.specs.Proof.{ProofFault, KeyLength, path, verified}
use Rattle.spec.specs.Stamps.{Stamp, is_did, is_tid}
use Rattle.spec.specs.Writes.{Write, WriteFault, batch_test}
use Rattle.spec.specs.States.{State, fresh, after_batch, records, state_root, state_car}
use Rattle.export_laws.specs.SignedCars.{state_signed_car}
use Rattle.console.specs.Lines.{numbered_lines, bytes_of_hex}
use Rattle.repository_commands.specs.Puts.{Given, given_in}
use Rattle.record_forms.specs.Records.{WordFault}
use Rattle.record_forms.specs.declared.form.Form.{Form}
use Rattle.repository_commands.specs.Faults.{Fault, BadDid, BadRev, BadSig, NothingToSign, OfRoot, OfProof, Line, BadLine, OfWrite, of_word}

-- ---- the repository of some puts

-- how many writes a repository may have, and how many blocks a shard
abbrev pub most_writes : ℕ
most_writes = 1048576

-- before the first write
abbrev pub no_writes : State
no_writes = fresh 0 most_writes

-- all writes as one batch under a stamp, and none where there are no writes
abbrev pub state_of : State → Stamp → List Write → State
state_of s stamp [] = s
state_of s stamp (w ∷ ws) = after_batch s stamp (w ∷ ws)

-- a write that isn't taken is told by the number of its line
abbrev pub at_its_line : List ℕ → Result (Unit {0}) (ℕ × WriteFault) → Result (Unit {0}) Fault
at_its_line numbers (Ok ok) = Ok ok
at_its_line numbers (Err f) = Err (Line (slice_index numbers f.0) (OfWrite f.1))

-- and a line that is no write by its own
abbrev pub unless_stopped : Option (ℕ × WordFault) → Result (Unit {0}) Fault
unless_stopped None = Ok tt
unless_stopped (Some s) = Err (Line s.0 (of_word s.1))

-- the writes are tested in their order, on a repository
abbrev pub writes_check : State → Given → Result (Unit {0}) Fault
writes_check s given = at_its_line given.numbers (batch_test s.limit s.accepted given.writes)

-- The repository after these writes, or the first line at fault. The writes before a line that is none are
-- tried first.
unfoldable pub state_of_given : State → Stamp → Given → Result State Fault
state_of_given s stamp given = do
  writes_ok ← writes_check s given
  all_writes ← unless_stopped given.stop
  Ok (state_of s stamp given.writes)

-- ---- `car`

-- whose repository it is, and then the revision
abbrev pub stamp_check : Stamp → Result (Unit {0}) Fault
stamp_check stamp = do
  did_ok ← ensure (is_did stamp.did) BadDid
  ensure (is_tid stamp.rev) BadRev

-- the export of the repository
abbrev pub car_of_given : (List ℕ → List ℕ) → Stamp → Given → Result (List ℕ) Fault
car_of_given digest stamp given = do
  s ← state_of_given no_writes stamp given
  Ok (state_car digest 2 s)

unfoldable pub car_text : (List ℕ → List ℕ) → Form → Stamp → List ℕ → Result (List ℕ) Fault
car_text digest form stamp input = do
  stamp_ok ← stamp_check stamp
  car_of_given digest stamp (given_in form input)

-- ---- `car --sig`

-- the signature of a word in hexadecimal, or that it is none
abbrev pub or_bad_sig : Option (List ℕ) → Result (List ℕ) Fault
or_bad_sig None = Err BadSig
or_bad_sig (Some sig) = Ok sig

-- the words, which are judged before the input is read: the stamp, and then the signature
abbrev pub signing_check : Stamp → List ℕ → Result (List ℕ) Fault
signing_check stamp word = do
  stamp_ok ← stamp_check stamp
  or_bad_sig (bytes_of_hex word)

-- the file of a signed commit; without a batch there is no commit
abbrev pub or_nothing_signed : Option (List ℕ) → Result (List ℕ) Fault
or_nothing_signed None = Err NothingToSign
or_nothing_signed (Some file) = Ok file

-- the file of the repository as a server has it, with its commit signed so
abbrev pub signed_car_of_given : (List ℕ → List ℕ) → Stamp → List ℕ → Given → Result (List ℕ) Fault
signed_car_of_given digest stamp sig given = do
  s ← state_of_given no_writes stamp given
  or_nothing_signed (state_signed_car digest 2 s sig)

unfoldable pub signed_car_text : (List ℕ → List ℕ) → Form → Stamp → List ℕ → List ℕ
    → Result (List ℕ) Fault
signed_car_text digest form stamp word input = do
  sig ← signing_check stamp word
  signed_car_of_given digest stamp sig (given_in form input)

-- ---- `prove`

-- a root, and the nodes of a key's path
abbrev pub Path : Type 0
Path = List ℕ × List (List ℕ)

-- those of a key in a repository
abbrev pub path_of : (List ℕ → List ℕ) → List ℕ → State → Path
path_of digest key s = (state_root digest 2 s, path digest 2 (pairs digest (records s)) key)

abbrev pub path_of_given : (List ℕ → List ℕ) → Stamp → List ℕ → Given → Result Path Fault
path_of_given digest stamp key given = do
  s ← state_of_given no_writes stamp given
  Ok (path_of digest key s)

-- the line of a block
abbrev pub hex_line : List ℕ → List ℕ
hex_line block = encode_lower block ++ (10 ∷ [])

-- the line of a root
abbrev pub root_line : List ℕ → List ℕ
root_line root = text root ++ (10 ∷ [])

-- the root's line, and then a line for each node
abbrev pub text_of_path : Path → List ℕ
text_of_path p = root_line p.0 ++ flat_map hex_line p.1

-- a key has 1 to 1,024 bytes
abbrev pub key_check : List ℕ → Result (Unit {0}) Fault
key_check key = ensure (is_key key) (OfProof KeyLength)

abbrev pub proof_of_given : (List ℕ → List ℕ) → Stamp → List ℕ → Given → Result (List ℕ) Fault
proof_of_given digest stamp key given = do
  p ← path_of_given digest stamp key given
  Ok (text_of_path p)

unfoldable pub prove_text : (List ℕ → List ℕ) → Form → Stamp → List ℕ → List ℕ
    → Result (List ℕ) Fault
prove_text digest form stamp key input = do
  key_ok ← key_check key
  proof_of_given digest stamp key (given_in form input)

-- ---- `verify`

-- the block on a line in hexadecimal, or that it's none
abbrev pub or_bad_line : ℕ → Option (List ℕ) → Result (List (List ℕ)) Fault
or_bad_line n None = Err (Line n BadLine)
or_bad_line n (Some block) = Ok (block ∷ [])

-- the blocks of numbered lines in their order, or the first faulty line
unfoldable pub blocks_of_lines : List (ℕ × List ℕ) → Result (List (List ℕ)) Fault
blocks_of_lines [] = Ok []
blocks_of_lines (l ∷ ls) = do
  bs ← or_bad_line l.0 (bytes_of_hex l.1)
  more ← blocks_of_lines ls
  Ok (bs ++ more)

-- the root of a text, or what is wrong with it
abbrev pub or_bad_root : Result (List ℕ) CidFault → Result (List ℕ) Fault
or_bad_root (Ok c) = Ok c
or_bad_root (Err f) = Err (OfRoot f)

-- what the blocks show, or why they show nothing
abbrev pub or_no_proof : Result (Option (List ℕ)) ProofFault → Result (Option (List ℕ)) Fault
or_no_proof (Ok value) = Ok value
or_no_proof (Err f) = Err (OfProof f)

-- the line that says what the key has
abbrev pub answer_line : Option (List ℕ) → List ℕ
answer_line None = codes "absent" ++ (10 ∷ [])
answer_line (Some c) = codes "found " ++ text c ++ (10 ∷ [])

-- the line for these blocks
abbrev pub answer_of_blocks : (List ℕ → List ℕ) → List ℕ → List ℕ → List (List ℕ) → Result (List ℕ) Fault
answer_of_blocks digest root key bs = do
  value ← or_no_proof (verified digest 2 root bs key)
  Ok (answer_line value)

-- the words, which are judged before the input is read
abbrev pub words_check : List ℕ → List ℕ → Result (Unit {0}) Fault
words_check root key = do
  r ← or_bad_root (cid_of_text root)
  key_check key

unfoldable pub verify_text : (List ℕ → List ℕ) → List ℕ → List ℕ → List ℕ → Result (List ℕ) Fault
verify_text digest root key input = do
  r ← or_bad_root (cid_of_text root)
  key_ok ← key_check key
  bs ← blocks_of_lines (numbered_lines input)
  answer_of_blocks digest r key bs

-- ---- a text that may not be there

-- nothing where there is none
abbrev pub text_or_nothing : Result (List ℕ) Fault → List ℕ
text_or_nothing (Ok t) = t
text_or_nothing (Err f) = []
