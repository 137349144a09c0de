-- Records in ascending order, created one after the other: each write is taken, and they leave these records.
use Rattle.std.proofs.Common.{◌≡◌, ℕ, ◌+◌, ◌<◌, ◌≤◌, true, List, [], ◌∷◌, ◌++◌, length, None, Ok, Result, refl, sym, ap, subst, ◌∙◌, arith, fold, append_assoc}
use Rattle.std.specs.List.{AllByRecursion}
use Rattle.std.specs.Cmp.Lexicographic.{slice_cmp}
use Rattle.std.specs.Ordering.{nat_cmp}
use Rattle.std.specs.FinMap.{find, put}
use Rattle.std.proofs.lemmas.Bool.{lt-ltb}
use Rattle.std.proofs.lemmas.List.{append-nil, length-append, length-map}
use Rattle.spec.specs.Reading.{◌>>=◌}
use Rattle.spec.specs.Keys.{is_repository_key}
use Rattle.spec.specs.Writes.{WriteFault, after_write, at_number, batch_test_from, leaves, limited_test, record_test}
use Rattle.spec.specs.States.{fresh}
use Rattle.spec.specs.SignedCommits.{Commit}
use Rattle.edit_laws.specs.Pairs.{Each, IsBefore, Ascending, put_pair, value_in}
use Rattle.edit_laws.proofs.EachPair.{halves}
use Rattle.edit_laws.proofs.RecordMaps.{ascending-sorted, find-is, put-is}
use Rattle.checked_opening.specs.Opening.{AreOpenable, Passes, create_in, creates, stamp_in}

abbrev Records : Type 0
Records = List (List ℕ × List ℕ)

-- ---- a key after all others

put-pair_last : (e : List ℕ × List ℕ) (m : Records) → Each (IsBefore e.0) m → put_pair e m ≡ m ++ e ∷ []
put-pair_last e [] h = refl
put-pair_last e (d ∷ m) h = rw h.0 (ap (λ t. d ∷ t) (put-pair_last e m h.1))

put-last : (e : List ℕ × List ℕ) (m : Records) → Each (IsBefore e.0) m → put (slice_cmp nat_cmp) e.0 e.1 m ≡ m ++ e ∷ []
put-last e m h = put-is e m ∙ put-pair_last e m h

value-none : (key : List ℕ) (m : Records) → Each (IsBefore key) m → value_in key m ≡ None
value-none key [] h = refl
value-none key (d ∷ m) h = rw h.0 (value-none key m h.1)

find-none : (key : List ℕ) (m : Records) → Ascending m → Each (IsBefore key) m → find (slice_cmp nat_cmp) key m ≡ None
find-none key m a h = find-is key m a ∙ value-none key m h

-- ---- one after the other

further : (m rest : Records) (e : List ℕ × List ℕ) → Ascending (m ++ e ∷ rest) → Ascending ((m ++ e ∷ []) ++ rest)
further m rest e a = subst Ascending (sym (append_assoc m (e ∷ []) rest)) a

create-passes : (limit : ℕ) (m : Records) (e : List ℕ × List ℕ) → length m < limit → is_repository_key e.0 ≡ true → record_test e.1 ≡ Ok tt
    → find (slice_cmp nat_cmp) e.0 m ≡ None → limited_test limit (length m) m (create_in e) ≡ Ok tt
create-passes limit m e room key rec none = rw (lt-ltb (length m) limit room, key, rec, none) refl

pub creates-pass : (limit number : ℕ) (m rest : Records) → Ascending (m ++ rest) → AllByRecursion (λ e. is_repository_key e.0 ≡ true) rest
    → AllByRecursion (λ e. record_test e.1 ≡ Ok tt) rest → length m + length rest ≤ limit
    → batch_test_from number limit (length m) m (creates rest) ≡ Ok tt
creates-pass limit number m [] a keys recs room = refl
creates-pass limit number m (e ∷ rest) a keys recs room =
    let h = halves m e rest a in
    let one = create-passes limit m e (omega arith) keys.0 recs.0 (find-none e.0 m h.front h.before) in
    let count : length (m ++ e ∷ []) ≡ length m + 1 = length-append m (e ∷ []) in
    let after = creates-pass limit (number + 1) (m ++ e ∷ []) rest (further m rest e a) keys.1 recs.1 (omega arith) in
    ap (λ (r : Result (Unit {0}) WriteFault). at_number number r >>= λ (ok : Unit {0}). batch_test_from (number + 1) limit (length m + 1) (after_write m (create_in e)) (creates rest)) one
    ∙ ap (λ (n : Records). batch_test_from (number + 1) limit (length m + 1) n (creates rest)) (put-last e m h.before)
    ∙ ap (λ (n : ℕ). batch_test_from (number + 1) limit n (m ++ e ∷ []) (creates rest)) (sym count) ∙ after

creates-leave : (m rest : Records) → Ascending (m ++ rest) → fold after_write m (creates rest) ≡ m ++ rest
creates-leave m [] a = sym (append-nil m)
creates-leave m (e ∷ rest) a =
    let h = halves m e rest a in
    ap (λ (n : Records). fold after_write n (creates rest)) (put-last e m h.before)
    ∙ creates-leave (m ++ e ∷ []) rest (further m rest e a) ∙ append_assoc m (e ∷ []) rest

-- ---- all of them

pub leaves-creates : (digest : List ℕ → List ℕ) (bits : ℕ) (c : Commit) (m : Records) → AreOpenable digest bits c m → leaves (creates m) ≡ m
leaves-creates digest bits c m is = creates-leave [] m (ascending-sorted m is.sorted)

pub length-creates : (m : Records) → length (creates m) ≡ length m
length-creates m = length-map m create_in

pub passes-creates : (digest : List ℕ → List ℕ) (bits me limit : ℕ) (c : Commit) (m : Records) → AreOpenable digest bits c m → length m ≤ limit
    → Passes (fresh me limit) (stamp_in c) (creates m)
passes-creates digest bits me limit c [] is room = tt
passes-creates digest bits me limit c (e ∷ m) is room =
    let pass = creates-pass limit 0 [] (e ∷ m) (ascending-sorted (e ∷ m) is.sorted) is.keys is.records (omega arith) in
    rw (is.did, is.rev, pass) refl
