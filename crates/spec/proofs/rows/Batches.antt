-- Keys and records that a repository takes and refuses, and batches of writes, with the place of
-- the first write that is refused.
use Prim.Native.String.{String}
use Rattle.std.specs.Prelude.{◌≡◌, ℕ, List, [], ◌∷◌, ◌++◌, map, codes, replicate, true, false}
use Rattle.std.specs.Prelude.{Result, Ok, Err}
use Rattle.std.proofs.Common.{refl}
use Rattle.std.specs.List.{list_all, list_any}
use Rattle.std.specs.Str.{is_utf8, chars}
use Rattle.std.specs.Char.{encode_utf8}
use Rattle.spec.specs.Head.{LongHead, KeyOrder, Float, Trailing, Truncated, head_at}
use Rattle.spec.specs.DagCbor.{value_at, read}
use Rattle.spec.specs.Keys.{is_repository_key}
use Rattle.spec.specs.Writes.{Write, Put, Create, Update, Delete, WriteFault, batch_test}
use Rattle.spec.specs.Writes.{record_test, WritesFull, BadKey, BadRecord, NotAMap, KeyExists}
use Rattle.spec.specs.Writes.{NoSuchKey}
use Rattle.spec.specs.Stamps.{Stamp}
use Rattle.spec.specs.States.{BatchFault, fresh, state_test, EmptyBatch, OfWrite}
use Rattle.spec.proofs.rows.Written.{hex, stamped}

-- ---- keys

-- the longest collection and the longest record key are in the last one
abbrev good_keys : List (List ℕ)
good_keys = codes "a/..." ∷ codes "a.b-c/x:~_" ∷ (replicate 317 97 ++ (47 ∷ replicate 512 97)) ∷ []

keys_that_serve : list_all is_repository_key good_keys ≡ true
keys_that_serve = refl

-- no slash; no record key; no collection; two slashes; one dot and two; a letter that a collection
-- may not have; one letter too many in either part
abbrev bad_keys : List (List ℕ)
bad_keys =
    codes "a" ∷ codes "a/" ∷ codes "/b" ∷ codes "a/b/c" ∷ codes "a/." ∷ codes "a/.." ∷ codes "a_b/c"
    ∷ (replicate 318 97 ++ codes "/a") ∷ (codes "a/" ++ replicate 513 97) ∷ []

keys_that_do_not : list_any is_repository_key bad_keys ≡ false
keys_that_do_not = refl

-- ---- one repository, before its first batch

abbrev first : Stamp
first = stamped "did:web:localhost" "2222222222222"

-- what comes of a batch where this is the limit
abbrev on_fresh : ℕ → List Write → Result (Unit {0}) (ℕ × BatchFault)
on_fresh limit batch = state_test (fresh 0 limit) first batch

abbrev put_b0 : Write
put_b0 = Put (codes "a/b0") (hex "a0")

no_writes : on_fresh 10 [] ≡ Err (0, EmptyBatch)
no_writes = refl

-- the second write has no room, whatever it is
too_many_writes : (w : Write) → on_fresh 1 (put_b0 ∷ w ∷ []) ≡ Err (1, OfWrite WritesFull)
unfolding record_test read value_at head_at is_utf8 chars encode_utf8
too_many_writes w = refl

-- whatever the record is
bad_keys_refused : (bytes : List ℕ) → map (λ key. on_fresh 10 (Put key bytes ∷ [])) bad_keys
    ≡ replicate 9 (Err (0, OfWrite BadKey))
bad_keys_refused bytes = refl

good_keys_taken : map (λ key. on_fresh 10 (Put key (hex "a0") ∷ [])) good_keys ≡ replicate 3 (Ok tt)
unfolding record_test read value_at head_at is_utf8 chars encode_utf8
good_keys_taken = refl

-- ---- records

abbrev Records : String → Result (Unit {0}) WriteFault → Type 0
Records bytes result = record_test (hex bytes) ≡ result

-- an empty map; b before aa
records_that_serve : Records "a0" (Ok tt) × Records "a261620062616100" (Ok tt)
unfolding record_test read value_at head_at is_utf8 chars encode_utf8
records_that_serve = (refl, refl)

-- a head that could be shorter; b before a; a float; a second map; a list; no value; no bytes
records_that_do_not : Records "b800" (Err (BadRecord LongHead))
    × Records "a2616200616100" (Err (BadRecord KeyOrder))
    × Records "a16161fb0000000000000000" (Err (BadRecord Float))
    × Records "a0a0" (Err (BadRecord Trailing))
    × Records "80" (Err NotAMap) × Records "a161" (Err (BadRecord Truncated))
    × Records "" (Err (BadRecord Truncated))
unfolding record_test read value_at head_at is_utf8 chars encode_utf8
records_that_do_not = (refl, refl, refl, refl, refl, refl, refl)

-- ---- batches

refused_batches : (batch_test 10 [] (Delete (codes "a/b0") ∷ []) ≡ Err (0, NoSuchKey))
    × (batch_test 10 [] (put_b0 ∷ Delete (codes "a/c0") ∷ []) ≡ Err (1, NoSuchKey))
    × (batch_test 10 (put_b0 ∷ []) (Create (codes "a/b0") (hex "a0") ∷ []) ≡ Err (0, KeyExists))
    × (batch_test 10 [] (put_b0 ∷ Create (codes "a/b0") (hex "a0") ∷ []) ≡ Err (1, KeyExists))
    × (batch_test 10 [] (Update (codes "a/b0") (hex "a0") ∷ []) ≡ Err (0, NoSuchKey))
    × (batch_test 10 (put_b0 ∷ []) (Update (codes "a/b0") (hex "a0") ∷ Delete (codes "a/b0") ∷ [])
    ≡ Ok tt)
    × (batch_test 1 [] (put_b0 ∷ put_b0 ∷ []) ≡ Err (1, WritesFull))
    × (batch_test 10 [] (Put (codes "a/b0") (hex "80") ∷ []) ≡ Err (0, NotAMap))
    × (batch_test 10 [] (Put (codes "a/b0") (hex "b800") ∷ []) ≡ Err (0, BadRecord LongHead))
unfolding record_test read value_at head_at is_utf8 chars encode_utf8
refused_batches = (refl, refl, refl, refl, refl, refl, refl, refl, refl)
