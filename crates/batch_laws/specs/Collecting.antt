-- What the writes of a batch come to: changes of records, collected in the order of the writes.
use Rattle.std.specs.Prelude.{◌≡◌, ℕ, Bool, true, List, [], map, fold, Option, Some, None}
use Rattle.std.specs.Prelude.{option_map, is_some}
use Rattle.std.specs.List.{AllByRecursion}
use Rattle.spec.specs.Cid.{cid}
use Rattle.spec.specs.NodeFormat.{is_key}
use Rattle.spec.specs.Writes.{Write, key_of, record_of, after_write}
use Rattle.batch_laws.specs.Batch.{Change, with_change}

-- the records after some writes
abbrev pub after_writes : List (List ℕ × List ℕ) → List Write → List (List ℕ × List ℕ)
after_writes m ws = fold after_write m ws

-- the change that a write makes: its key, and the bytes of the record under it, or none
abbrev pub change_of : Write → Change
change_of w = (key_of w, record_of w)

-- changes with that of one more write, which decides for its key
abbrev pub with_write : List Change → Write → List Change
with_write cs w = with_change (change_of w) cs

-- the changes that writes come to, of which the last of a key decides
abbrev pub collected : List Write → List Change
collected ws = fold with_write [] ws

-- a change with its record's CID in place of the bytes
abbrev pub with_cid : (List ℕ → List ℕ) → Change → Change
with_cid digest c = (c.0, option_map (cid digest) c.1)

-- the same of each of some changes: what they change in the pairs of the tree
abbrev pub with_cids : (List ℕ → List ℕ) → List Change → List Change
with_cids digest cs = map (with_cid digest) cs

-- the value of a key by what changes say of it, and the one before where they don't name the key
abbrev pub value_after : Option (Option (List ℕ)) → Option (List ℕ) → Option (List ℕ)
value_after None before = before
value_after (Some value) before = value

-- whether there is one, in the same way
abbrev pub there_after : Option (Option (List ℕ)) → Bool → Bool
there_after None before = before
there_after (Some value) before = is_some value

-- each write names a key of 1 to 1,024 bytes
abbrev pub HaveKeys : List Write → Type 0
HaveKeys ws = AllByRecursion (λ w. is_key (key_of w) ≡ true) ws
