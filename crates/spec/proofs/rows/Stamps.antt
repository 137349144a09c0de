-- Stamps, commits, and the blocks and exports of repositories that have them.
use Rattle.std.specs.Prelude.{◌≡◌, ℕ, List, [], ◌∷◌, ◌++◌, length, take, drop, codes, replicate}
use Rattle.std.specs.Prelude.{map, true, false, Ok, Err, None, Some}
use Rattle.std.proofs.Common.{refl}
use Rattle.std.specs.List.{list_all, list_any}
use Rattle.std.specs.Int.Count.{count_leading_zeros}
use Rattle.std.specs.Str.{is_utf8, chars}
use Rattle.std.specs.Char.{encode_utf8}
use Rattle.spec.specs.Head.{head_at}
use Rattle.spec.specs.DagCbor.{value_at, read}
use Rattle.spec.specs.Cid.{cid}
use Rattle.spec.specs.Blocks.{firsts, block_at}
use Rattle.spec.specs.Car.{header}
use Rattle.spec.specs.Writes.{Write, Put, Delete, record_test, BadKey}
use Rattle.spec.specs.Stamps.{Stamp, BadDid, BadRev, RevOrder, is_did, is_tid, stamp_test}
use Rattle.spec.specs.Stamps.{are_stamps}
use Rattle.spec.specs.Commits.{commit_bytes}
use Rattle.spec.specs.States.{State, fresh, after_batch, state_root, state_blocks, state_commit}
use Rattle.spec.specs.States.{state_car, state_test, EmptyBatch, OfStamp, OfWrite}
use Rattle.spec.proofs.rows.Written.{hex, stamped}
use Rattle.spec.specs.TestDigests.{by_last_digit}

-- ---- commits

abbrev root : List ℕ
root = replicate 36 0xcc

abbrev commit : List ℕ
commit = commit_bytes (stamped "did:web:a.b" "3jzfcijpj2z2a") root

commit_of_96_bytes : (length commit ≡ 96)
    × (commit ≡ hex "a5636469646b6469643a7765623a612e62637265766d336a7a6663696a706a327a3261"
    ++ hex "6464617461d82a582500" ++ root ++ hex "6470726576f66776657273696f6e03")
unfolding commit_bytes
commit_of_96_bytes = (refl, refl)

-- ---- DIDs and revisions

-- the last one has 2,048 bytes
dids : list_all is_did (codes "did:web:a.b" ∷ codes "did:web:a%3A" ∷ codes "did:plc:a:b_c-d"
    ∷ (codes "did:web:" ++ replicate 2040 97) ∷ []) ≡ true
dids = refl

-- nothing identified; a great letter in the method; a colon and a percent sign last; 2,049 bytes;
-- no method; no colon after it; another scheme; a letter that no DID has; no bytes
no_dids : list_any is_did (codes "did:web:" ∷ codes "did:Web:a" ∷ codes "did:web:a:"
    ∷ codes "did:web:a%" ∷ (codes "did:web:" ++ replicate 2041 97)
    ∷ codes "did::a" ∷ codes "did:web" ∷ codes "web:a:b" ∷ codes "did:web:a/b" ∷ [] ∷ []) ≡ false
no_dids = refl

-- the least and the greatest are among them
tids : list_all is_tid (codes "3jzfcijpj2z2a" ∷ codes "2222222222222" ∷ codes "j222222222222"
    ∷ codes "jzzzzzzzzzzzz" ∷ []) ≡ true
tids = refl

-- the first letter too great; a digit that base32 has not; one letter too few and too many; a great
-- letter
no_tids : list_any is_tid (codes "k222222222222" ∷ codes "2222222222221" ∷ codes "222222222222"
    ∷ codes "22222222222222" ∷ codes "222222222222A" ∷ []) ≡ false
no_tids = refl

-- the DID comes first, then the revision by itself, then its order
stamps_tested : (stamp_test None (stamped "did:web:a" "j222222222222") ≡ Ok tt)
    × (stamp_test (Some (codes "j222222222222")) (stamped "did:web:a" "j222222222222")
    ≡ Err RevOrder)
    × (stamp_test (Some (codes "j222222222222")) (stamped "did:web:a" "2222222222222")
    ≡ Err RevOrder)
    × (stamp_test (Some (codes "2222222222222")) (stamped "did:plc:b" "2222222222223") ≡ Ok tt)
    × (stamp_test (Some (codes "j222222222222")) (stamped "did:web:" "k222222222222") ≡ Err BadDid)
    × (stamp_test (Some (codes "j222222222222")) (stamped "did:web:a" "2222222222221") ≡ Err BadRev)
stamps_tested = (refl, refl, refl, refl, refl, refl)

-- ---- batches on a repository with one record

abbrev first : Stamp
first = stamped "did:web:localhost" "2222222222222"

abbrev second : Stamp
second = stamped "did:web:localhost" "2222222222223"

abbrev delete_b0 : List Write
delete_b0 = Delete (codes "a/b0") ∷ []

-- the record has the empty node's bytes
abbrev one_record : State
one_record = after_batch (fresh 0 10) first (Put (codes "a/b0") (hex "a2616580616cf6") ∷ [])

abbrev deleted : State
deleted = after_batch one_record second delete_b0

-- no writes, then the stamp, then the writes; a stamp is refused at place 0
batches_under_a_stamp : (state_test one_record (stamped "did:web:" "k") [] ≡ Err (0, EmptyBatch))
    × (state_test one_record (stamped "did:web:" "k") (Delete [] ∷ []) ≡ Err (0, OfStamp BadDid))
    × (state_test one_record (stamped "did:web:a" "k") (Delete [] ∷ []) ≡ Err (0, OfStamp BadRev))
    × (state_test one_record first (Delete [] ∷ []) ≡ Err (0, OfStamp RevOrder))
    × (state_test one_record second (Delete [] ∷ []) ≡ Err (0, OfWrite BadKey))
    × (state_test one_record second (Delete (codes "a/b0") ∷ Delete [] ∷ [])
    ≡ Err (1, OfWrite BadKey))
    × (state_test one_record second delete_b0 ≡ Ok tt)
batches_under_a_stamp = (refl, refl, refl, refl, refl, refl, refl)

-- the greatest first letter is taken once
rev_taken_once : let rev = stamped "did:web:a" "j222222222222" in
    (state_test (fresh 0 10) rev (Put (codes "a/b0") (hex "a0") ∷ []) ≡ Ok tt)
    × (state_test (after_batch (fresh 0 10) rev (Put (codes "a/b0") (hex "a0") ∷ [])) rev delete_b0
    ≡ Err (0, OfStamp RevOrder))
unfolding record_test read value_at head_at is_utf8 chars encode_utf8
rev_taken_once = (refl, refl)

-- each stamp with the length of the list after its batch
lengths_of_stamps : (deleted.stamps ≡ (first, 1) ∷ (second, 2) ∷ [])
    × (are_stamps deleted.stamps ≡ true)
lengths_of_stamps = (refl, refl)

-- a batch without a write; a revision that stays; a length that falls
lists_of_no_stamps : list_any are_stamps (((first, 0) ∷ []) ∷ ((first, 1) ∷ (first, 2) ∷ [])
    ∷ ((first, 2) ∷ (second, 2) ∷ []) ∷ []) ≡ false
lists_of_no_stamps = refl

-- ---- blocks

abbrev blocks_of : State → List (List ℕ)
blocks_of s = firsts (cid by_last_digit) (state_blocks by_last_digit 2 s)

-- no commit before the first batch; then a commit, a node and a record; then the commit of the last
-- batch alone, and the empty node
commits_of_batches : (map length (blocks_of (fresh 0 10)) ≡ 7 ∷ [])
    × (map length (blocks_of one_record) ≡ 102 ∷ 64 ∷ 7 ∷ [])
    × (blocks_of deleted ≡ commit_bytes second (state_root by_last_digit 2 deleted)
    ∷ hex "a2616580616cf6" ∷ [])
unfolding count_leading_zeros cid commit_bytes
commits_of_batches = (refl, refl, refl)

-- one record under two keys, and then under one
abbrev shared : State
shared =
    after_batch (fresh 0 10) first (Put (codes "a/b0") (hex "a0") ∷ Put (codes "a/c0") (hex "a0")
    ∷ [])

one_record_under_two_keys : (map length (blocks_of shared) ≡ 102 ∷ 119 ∷ 1 ∷ [])
    × (map length (blocks_of (after_batch shared second delete_b0)) ≡ 102 ∷ 64 ∷ 1 ∷ [])
unfolding count_leading_zeros cid commit_bytes
one_record_under_two_keys = (refl, refl)

-- the same put twice: all but the commit is as before
same_put_twice : let put = Put (codes "a/b0") (hex "a0") ∷ [] in
    let once = after_batch (fresh 0 10) first put in let twice = after_batch once second put in
    (drop 1 (state_blocks by_last_digit 2 twice) ≡ drop 1 (state_blocks by_last_digit 2 once))
    × (length (blocks_of twice) ≡ 3)
unfolding count_leading_zeros cid commit_bytes
same_put_twice = (refl, refl)

-- the blocks of two repositories together: three that both have, and five after a delete in one
abbrev together : State → State → List ℕ
together s t =
    map length (firsts (cid by_last_digit) (state_blocks by_last_digit 2 s
    ++ state_blocks by_last_digit 2 t))

two_repositories : let put = Put (codes "a/b0") (hex "a0") ∷ [] in
    let one = after_batch (fresh 0 10) first put in
    let other = after_batch (fresh 1 10) first put in
    (together one other ≡ 102 ∷ 64 ∷ 1 ∷ [])
    × (together one (after_batch other second delete_b0) ≡ 102 ∷ 64 ∷ 1 ∷ 102 ∷ 7 ∷ [])
unfolding count_leading_zeros cid commit_bytes
two_repositories = (refl, refl)

-- the commit of one repository as a record of another: it is taken, and is a block of both
commit_as_a_record : let record_bytes = commit_bytes second (state_root by_last_digit 2 deleted) in
    let put = Put (codes "a/b0") record_bytes ∷ [] in
    (state_test (fresh 1 10) first put ≡ Ok tt)
    × (together deleted (after_batch (fresh 1 10) first put) ≡ 102 ∷ 7 ∷ 102 ∷ 64 ∷ [])
unfolding count_leading_zeros cid commit_bytes record_test read value_at head_at is_utf8 chars encode_utf8
commit_as_a_record = (refl, refl)

-- ---- exports

-- a tree of five nodes, with a commit of 96 bytes
abbrev three : State
three = after_batch (fresh 0 10) (stamped "did:web:a.b" "3jzfcijpj2z2a")
    (Put (codes "a/p0") (hex "a1616101") ∷ Put (codes "a/q2") (hex "a1616102")
    ∷ Put (codes "a/r0") (hex "a1616103") ∷ [])

abbrev commit_of_three : List ℕ
commit_of_three =
    commit_bytes (stamped "did:web:a.b" "3jzfcijpj2z2a") (state_root by_last_digit 2 three)

-- the commit's CID is found among the blocks, and no other by another CID
commit_is_found : (state_commit by_last_digit 2 three ≡ Some (cid by_last_digit commit_of_three))
    × (block_at by_last_digit (cid by_last_digit commit_of_three) (state_blocks by_last_digit 2 three)
    ≡ Some commit_of_three)
    × (block_at by_last_digit (cid by_last_digit []) (state_blocks by_last_digit 2 three) ≡ None)
    × (state_commit by_last_digit 2 (fresh 0 10) ≡ None)
unfolding count_leading_zeros cid commit_bytes
commit_is_found = (refl, refl, refl, refl)

-- the header names the commit, whose section of 132 bytes comes first
export_of_three : let file = state_car by_last_digit 2 three in
    (length file ≡ 868) × (take 61 file ≡ header (cid by_last_digit commit_of_three) ++ hex "8401")
unfolding count_leading_zeros cid commit_bytes
export_of_three = (refl, refl)

-- without a commit it names the root of the tree
export_of_a_fresh_one : take 59 (state_car by_last_digit 2 (fresh 0 10))
    ≡ header (state_root by_last_digit 2 (fresh 0 10))
unfolding count_leading_zeros cid commit_bytes
export_of_a_fresh_one = refl
