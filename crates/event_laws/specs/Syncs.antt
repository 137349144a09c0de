-- A message #sync (AT Protocol, event streams and sync 1.1), by which a host says in which state a repository is: two values of
-- DAG-CBOR one after the other, as of a message #commit.
use Rattle.std.specs.Prelude.{ℕ, pos, List, ◌++◌, codes}
use Rattle.spec.specs.DagCbor.{Value, Integer, Bytes, Text, Fields, Entries, NoEntry, EntryThen, spelling}

-- what it says: its number in the stream, whose repository it is, the bytes of a CAR file, whose root is the signed commit and
-- whose only block that is, the revision of the commit, and when it was sent
pub record SyncEvent : Type 0 where
  pub seq : ℕ
  pub did : List ℕ
  pub blocks : List ℕ
  pub rev : List ℕ
  pub time : List ℕ

-- bytes of the CAR file (the lexicon com.atproto.sync.subscribeRepos)
abbrev pub most_sync_bytes : ℕ
most_sync_bytes = 10000

-- the first value: the message's type, and that it is no error
abbrev pub sync_header_value : Value
sync_header_value =
    Fields (EntryThen (codes "t") (Text (codes "#sync")) (EntryThen (codes "op") (Integer (pos 1)) NoEntry))

-- the second one, a map of five fields in the order of DAG-CBOR
abbrev pub fields_of_sync : SyncEvent → Entries
fields_of_sync s =
    EntryThen (codes "did") (Text s.did)
    (EntryThen (codes "rev") (Text s.rev)
    (EntryThen (codes "seq") (Integer (pos s.seq))
    (EntryThen (codes "time") (Text s.time)
    (EntryThen (codes "blocks") (Bytes s.blocks) NoEntry))))

-- ---- bytes

abbrev pub sync_header_bytes : List ℕ
sync_header_bytes = spelling sync_header_value

abbrev pub sync_bytes : SyncEvent → List ℕ
sync_bytes s = sync_header_bytes ++ spelling (Fields (fields_of_sync s))
