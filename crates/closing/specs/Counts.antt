-- The list of counts.
use Rattle.std.specs.Map.{lookup}
use Rattle.std.specs.BTreeMap.{is_at}
use Rattle.std.specs.Cmp.Lexicographic.{slice_cmp}
use Rattle.std.specs.Prelude.{Option, None, Some, ℕ, zero, suc, ◌==◌, List, if◌then◌else◌}
use Rattle.std.specs.Ordering.{nat_cmp}
use Rattle.std.specs.FinSet as set
use Rattle.store.specs.Table.{Table, cores_at, shard_of}

-- a count above 0
abbrev pub positive : ℕ → Option ℕ
positive zero = None
positive (suc n) = Some (suc n)

-- what a list has under a CID
abbrev pub count_in : List (List ℕ × ℕ) → List ℕ → Option ℕ
count_in es cid = lookup (is_at (slice_cmp nat_cmp cid)) es

-- the first of two counts, and the second where there is none
abbrev pub or_else : Option ℕ → Option ℕ → Option ℕ
or_else None o = o
or_else (Some n) o = Some n

-- what a list has under a CID after the counts of a shard's table were put to it, those of the CIDs of
-- this shard
abbrev pub counted : List (List ℕ × ℕ) → ℕ → Table → List ℕ → Option ℕ
counted es shard table cid = if shard_of cid == shard
    then or_else (positive (set.len (cores_at table cid))) (count_in es cid)
    else count_in es cid
