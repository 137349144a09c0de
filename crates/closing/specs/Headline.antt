-- What a reader is shown of a repository, and what it has to do with its accepted writes.
use Rattle.std.specs.Prelude.{◌≡◌, ℕ, true, List, length, Option}
use Rattle.spec.specs.Writes.{Write, is_lawful_list, leaves}
use Rattle.spec.specs.Stamps.{Stamped, are_stamps, last, length_after, stamp_of}
use Rattle.spec.specs.Blocks.{repository_root}
use Rattle.spec.specs.Commits.{commit_cid, committed_blocks}
use Rattle.spec.specs.States.{State}
use Rattle.repo.specs.Cores.{AreEachOnce}
use Rattle.store.specs.Table.{Table}
use Rattle.closing.specs.Tally.{count, tally}

-- Each write and each stamp passed its test when it was made. The root is that of the Merkle search
-- tree built from scratch from the records that the writes leave; the commit is that of the last
-- stamp over this root; and the blocks are those of this tree, these records and this commit, each
-- once, and no others.
pub record IsFromScratch (digest : List ℕ → List ℕ) (bits : ℕ) (writes : List Write)
    (stamps : List Stamped) (root : List ℕ) (commit : Option (List ℕ)) (blocks : List (List ℕ)) : Type 0 where
  pub writes_are : is_lawful_list writes ≡ true
  pub stamps_are : are_stamps stamps ≡ true
  pub whole : length_after (last stamps) ≡ length writes
  pub root_is : root ≡ repository_root digest bits (leaves writes)
  pub commit_is : commit ≡ commit_cid digest (stamp_of (last stamps)) root
  pub blocks_are : AreEachOnce digest (committed_blocks digest bits (stamp_of (last stamps)) (leaves writes)) blocks

-- the count of each CID is the number of the cores that have a block with it
abbrev pub AreTallies : (List ℕ → List ℕ) → ℕ → List State → List Table → Type 0
AreTallies digest bits cores tables =
    (cid : List ℕ) → count tables cid ≡ tally digest bits cores cid
