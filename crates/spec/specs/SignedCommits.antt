-- Signed commits (AT Protocol repository v3, commit objects), as values, as bytes, and read with
-- the first fault.
use Rattle.std.specs.Prelude.{◌≡◌, ◌+◌, ◌<◌, ◌^◌, ℕ, true, List, [], ◌∷◌, ◌++◌, length, codes, pos}
use Rattle.std.specs.Prelude.{Option, Some, None, Result, Ok, Err}
use Rattle.std.specs.Str.{bytes_eq}
use Rattle.spec.specs.Reading.{◌>>=◌, ensure, front}
use Rattle.spec.specs.Cid.{is_own_cid, link}
use Rattle.spec.specs.DagCbor.{Value, Null, Bytes, Integer, Text, Fields, Link, NoEntry, EntryThen}
use Rattle.spec.specs.DagCbor.{string}
use Rattle.spec.specs.NodeFormat.{link_or_null, is_own_cid_or_none}
use Rattle.spec.specs.NodeFormat.{literal as node_literal, argument_of as node_argument}
use Rattle.spec.specs.NodeFormat.{link_at as node_link, link_or_null_at as node_link_or_null}
use Rattle.spec.specs.Stamps.{is_did, is_tid}

-- whose repository it is, the revision, the signature, the root of the tree, and the commit before,
-- where it is named
pub record Commit : Type 0 where
  pub did : List ℕ
  pub rev : List ℕ
  pub sig : List ℕ
  pub root : List ℕ
  pub prev : Option (List ℕ)

-- what a commit is made of (a signature's length is left to whoever verifies it)
pub record IsCommit (c : Commit) : Type 0 where
  pub did : is_did c.did ≡ true
  pub rev : is_tid c.rev ≡ true
  pub sig : length c.sig < 2 ^ 63
  pub root : is_own_cid c.root ≡ true
  pub prev : is_own_cid_or_none c.prev ≡ true

-- a link, or null where there is none
abbrev pub value_of_link : Option (List ℕ) → Value
value_of_link None = Null
value_of_link (Some c) = Link c

-- the map of the six fields, in the order of DAG-CBOR, in version 3 of the repository format
abbrev pub value_of_signed : Commit → Value
value_of_signed c =
    Fields (EntryThen (codes "did") (Text c.did)
    (EntryThen (codes "rev") (Text c.rev)
    (EntryThen (codes "sig") (Bytes c.sig)
    (EntryThen (codes "data") (Link c.root)
    (EntryThen (codes "prev") (value_of_link c.prev)
    (EntryThen (codes "version") (Integer (pos 3)) NoEntry))))))

-- what is signed: the same map without the field sig
abbrev pub value_of_unsigned : Commit → Value
value_of_unsigned c =
    Fields (EntryThen (codes "did") (Text c.did)
    (EntryThen (codes "rev") (Text c.rev)
    (EntryThen (codes "data") (Link c.root)
    (EntryThen (codes "prev") (value_of_link c.prev)
    (EntryThen (codes "version") (Integer (pos 3)) NoEntry)))))

-- ---- bytes

-- what stands before each field's value: the map's head, and keys
abbrev pub before_rev : List ℕ
before_rev = 0x63 ∷ 0x72 ∷ 0x65 ∷ 0x76 ∷ []

abbrev pub before_sig : List ℕ
before_sig = 0x63 ∷ 0x73 ∷ 0x69 ∷ 0x67 ∷ []

abbrev pub before_data : List ℕ
before_data = 0x64 ∷ 0x64 ∷ 0x61 ∷ 0x74 ∷ 0x61 ∷ []

abbrev pub before_prev : List ℕ
before_prev = 0x64 ∷ 0x70 ∷ 0x72 ∷ 0x65 ∷ 0x76 ∷ []

-- the key version, and 3
abbrev pub at_the_end : List ℕ
at_the_end = 0x67 ∷ 0x76 ∷ 0x65 ∷ 0x72 ∷ 0x73 ∷ 0x69 ∷ 0x6f ∷ 0x6e ∷ 0x03 ∷ []

-- the head of a map of so many fields, and the key did
abbrev pub before_did : ℕ → List ℕ
before_did fields = (0xa0 + fields) ∷ 0x63 ∷ 0x64 ∷ 0x69 ∷ 0x64 ∷ []

-- the fields after the signature: data, prev and version
abbrev pub last_fields : List ℕ → Option (List ℕ) → List ℕ
last_fields root prev =
    before_data ++ (link root ++ (before_prev ++ (link_or_null prev ++ at_the_end)))

-- all six
unfoldable pub signed_bytes : Commit → List ℕ
signed_bytes c =
    before_did 6 ++ (string 3 c.did ++ (before_rev ++ (string 3 c.rev
    ++ (before_sig ++ (string 2 c.sig ++ last_fields c.root c.prev)))))

-- what is signed
unfoldable pub unsigned_bytes : Commit → List ℕ
unsigned_bytes c =
    before_did 5 ++ (string 3 c.did ++ (before_rev
    ++ (string 3 c.rev ++ last_fields c.root c.prev)))

-- ---- reading (the names and the order of the faults are a choice of this project)

-- bytes that are no commit in shape; a DID that is none; a revision that is none
pub data CommitFault : Type 0 where
  NotACommit : CommitFault
  BadDid : CommitFault
  BadRev : CommitFault

-- what is read at the front, and the bytes after it
abbrev pub CommitReader : Type 0 → Type 0
CommitReader A = List ℕ → Result (A × List ℕ) CommitFault

-- what isn't read makes no commit, whatever the fault
abbrev pub or_no_commit : {A F : Type 0} → Result A F → Result A CommitFault
or_no_commit (Ok x) = Ok x
or_no_commit (Err f) = Err NotACommit

-- these very bytes
abbrev pub literal : List ℕ → List ℕ → Result (List ℕ) CommitFault
literal these bytes = or_no_commit (node_literal these bytes)

-- a byte string, of major type 2, or a text, of major type 3
abbrev pub string_at : ℕ → CommitReader (List ℕ)
string_at major bytes = do
  n ← or_no_commit (node_argument major bytes)
  front NotACommit n.0 n.1

-- a link of the host's form, as in a node
abbrev pub link_at : CommitReader (List ℕ)
link_at bytes = or_no_commit (node_link bytes)

-- null, or such a link
abbrev pub link_or_null_at : CommitReader (Option (List ℕ))
link_or_null_at bytes = or_no_commit (node_link_or_null bytes)

-- a commit in shape
unfoldable pub commit_at : List ℕ → Result Commit CommitFault
commit_at bytes = do
  in_did ← literal (before_did 6) bytes
  did ← string_at 3 in_did
  in_rev ← literal before_rev did.1
  rev ← string_at 3 in_rev
  in_sig ← literal before_sig rev.1
  sig ← string_at 2 in_sig
  in_data ← literal before_data sig.1
  root ← link_at in_data
  in_prev ← literal before_prev root.1
  prev ← link_or_null_at in_prev
  ended ← ensure (bytes_eq prev.1 at_the_end) NotACommit
  Ok (record { did = did.0; rev = rev.0; sig = sig.0; root = root.0; prev = prev.0 })

-- all of the bytes: the shape first, then the DID, and then the revision
unfoldable pub read_commit : List ℕ → Result Commit CommitFault
read_commit bytes = do
  c ← commit_at bytes
  did_ok ← ensure (is_did c.did) BadDid
  rev_ok ← ensure (is_tid c.rev) BadRev
  Ok c
