-- The bytes of commits.
use Rattle.std.specs.Prelude.{◌≡◌, ℕ, true, List, [], ◌∷◌, ◌++◌, length, codes, Ok}
use Rattle.spec.specs.Head.{head}
use Rattle.spec.specs.Cid.{link, is_own_cid}
use Rattle.spec.specs.DagCbor.{read}
use Rattle.spec.specs.Stamps.{Stamp, is_did, is_tid}
use Rattle.spec.specs.Commits.{value_of_commit, commit_bytes}

-- field by field: a map of five, then did, rev, data, prev and version, each after its key
abbrev pub CommitIsMap : Type 0
CommitIsMap = (stamp : Stamp) (root : List ℕ) → length root ≡ 36 → commit_bytes stamp root
    ≡ (0xa5 ∷ 0x63 ∷ codes "did") ++ ((head 3 (length stamp.did) ++ stamp.did)
    ++ ((0x63 ∷ codes "rev") ++ ((head 3 (length stamp.rev) ++ stamp.rev)
    ++ ((0x64 ∷ codes "data") ++ (link root
    ++ ((0x64 ∷ codes "prev") ++ (0xf6 ∷ 0x67 ∷ codes "version") ++ (0x03 ∷ [])))))))

-- what a commit is made of: a DID, a revision and the CID of a tree's root
pub record IsCommit (stamp : Stamp) (root : List ℕ) : Type 0 where
  pub did : is_did stamp.did ≡ true
  pub rev : is_tid stamp.rev ≡ true
  pub root_is : is_own_cid root ≡ true

-- its bytes are DAG-CBOR, and read as its value
abbrev pub CommitReadsBack : Type 0
CommitReadsBack = (stamp : Stamp) (root : List ℕ) → IsCommit stamp root
    → read (commit_bytes stamp root) ≡ Ok (value_of_commit stamp root)

-- so they name the stamp and the root: no other two have these bytes
abbrev pub CommitNamesStampAndRoot : Type 0
CommitNamesStampAndRoot = (stamp other : Stamp) (root top : List ℕ) → IsCommit stamp root
    → IsCommit other top → commit_bytes stamp root ≡ commit_bytes other top
    → (stamp ≡ other) × (root ≡ top)
