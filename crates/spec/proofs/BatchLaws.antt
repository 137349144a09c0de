-- A list of writes is lawful, and a batch of them passes, where each write passes on what those before it leave.
use Rattle.std.proofs.Common.{◌≡◌, ℕ, ◌+◌, Bool, true, false, List, [], ◌∷◌, ◌++◌, length, Result, Ok, Err, refl, sym, ap, subst, ◌∙◌, arith}
use Rattle.std.specs.Prelude.{fold, nat_lt}
use Rattle.std.proofs.lemmas.List.{length-append}
use Rattle.spec.specs.Reading.{◌>>=◌, ensure}
use Rattle.spec.specs.Writes.{Write, WriteFault, WritesFull, after_write, leaves, write_test, limited_test, at_number, batch_test_from, batch_test, passes, is_lawful_from, is_lawful_list}
use Rattle.spec.specs.Laws.Writes.{EachPasses, IsFirstRefused}
use Rattle.spec.proofs.Bools.{both, and}
use Rattle.spec.proofs.Taking.{bind_ok}

abbrev Records : Type 0
Records = List (List ℕ × List ℕ)

pub fold-append : (m : Records) (ws vs : List Write) → fold after_write m (ws ++ vs) ≡ fold after_write (fold after_write m ws) vs
fold-append m [] vs = refl
fold-append m (w ∷ ws) vs = fold-append (after_write m w) ws vs

-- ---- lawful lists

ok-passes : (r : Result (Unit {0}) WriteFault) → passes r ≡ true → r ≡ Ok tt
ok-passes (Ok u) h = refl
ok-passes (Err f) h = absurd cc

abbrev EachIsLawful : Records → List Write → Type 0
EachIsLawful m ws = (before after : List Write) (w : Write) → ws ≡ before ++ w ∷ after → write_test (fold after_write m before) w ≡ Ok tt

lawful_at : (m : Records) (before after : List Write) (w : Write) → is_lawful_from m (before ++ w ∷ after) ≡ true → write_test (fold after_write m before) w ≡ Ok tt
lawful_at m [] after w h = ok-passes (write_test m w) (both _ _ h).0
lawful_at m (x ∷ before) after w h = lawful_at (after_write m x) before after w (both (passes (write_test m x)) (is_lawful_from (after_write m x) (before ++ w ∷ after)) h).1

each-from_lawful : (m : Records) (ws : List Write) → is_lawful_from m ws ≡ true → EachIsLawful m ws
each-from_lawful m ws h before after w e = lawful_at m before after w (ap (is_lawful_from m) (sym e) ∙ h)

lawful-from_each : (m : Records) (ws : List Write) → EachIsLawful m ws → is_lawful_from m ws ≡ true
lawful-from_each m [] each = refl
lawful-from_each m (w ∷ ws) each =
    and _ _ (ap passes (each [] ws w refl)) (lawful-from_each (after_write m w) ws (λ before after v e. each (w ∷ before) after v (ap (λ (t : List Write). w ∷ t) e)))

pub each-lawful : (ws : List Write) → is_lawful_list ws ≡ true → (before after : List Write) (w : Write) → ws ≡ before ++ w ∷ after → write_test (leaves before) w ≡ Ok tt
each-lawful ws h = each-from_lawful [] ws h

pub lawful-each : (ws : List Write) → ((before after : List Write) (w : Write) → ws ≡ before ++ w ∷ after → write_test (leaves before) w ≡ Ok tt) → is_lawful_list ws ≡ true
lawful-each ws each = lawful-from_each [] ws each

-- ---- batches that pass

-- with so many writes before the batch, which left these records
abbrev EachPassesFrom : ℕ → ℕ → Records → List Write → Type 0
EachPassesFrom limit count m batch = (before after : List Write) (w : Write) → batch ≡ before ++ w ∷ after → limited_test limit (count + length before) (fold after_write m before) w ≡ Ok tt

at_number-ok : (i : ℕ) (r : Result (Unit {0}) WriteFault) (u : Unit {0}) → at_number i r ≡ Ok u → r ≡ Ok tt
at_number-ok i (Ok v) u h = refl
at_number-ok i (Err f) u h = absurd cc

-- the same test with its count written otherwise
recounted : (limit a b : ℕ) (m : Records) (w : Write) (r : Result (Unit {0}) WriteFault) → a ≡ b → limited_test limit a m w ≡ r → limited_test limit b m w ≡ r
recounted limit a b m w r e h = subst (λ (n : ℕ). limited_test limit n m w ≡ r) e h

passes_at : (number limit count : ℕ) (m : Records) (before after : List Write) (w : Write) → batch_test_from number limit count m (before ++ w ∷ after) ≡ Ok tt
    → limited_test limit (count + length before) (fold after_write m before) w ≡ Ok tt
passes_at number limit count m [] after w h =
    let p = bind_ok (at_number number (limited_test limit count m w)) (λ ok. batch_test_from (number + 1) limit (count + 1) (after_write m w) after) tt h in
    recounted limit count (count + 0) m w (Ok tt) (omega arith) (at_number-ok number (limited_test limit count m w) p.0 p.1)
passes_at number limit count m (x ∷ before) after w h =
    let p = bind_ok (at_number number (limited_test limit count m x)) (λ ok. batch_test_from (number + 1) limit (count + 1) (after_write m x) (before ++ w ∷ after)) tt h in
    recounted limit (count + 1 + length before) (count + length (x ∷ before)) (fold after_write (after_write m x) before) w (Ok tt) (omega arith)
    (passes_at (number + 1) limit (count + 1) (after_write m x) before after w p.2)

each-from_test : (number limit count : ℕ) (m : Records) (batch : List Write) → batch_test_from number limit count m batch ≡ Ok tt → EachPassesFrom limit count m batch
each-from_test number limit count m batch h before after w e = passes_at number limit count m before after w (ap (batch_test_from number limit count m) (sym e) ∙ h)

test-first : (number limit count : ℕ) (m : Records) (w : Write) (ws : List Write) → limited_test limit count m w ≡ Ok tt
    → batch_test_from number limit count m (w ∷ ws) ≡ batch_test_from (number + 1) limit (count + 1) (after_write m w) ws
test-first number limit count m w ws h = ap (λ (r : Result (Unit {0}) WriteFault). at_number number r >>= λ ok. batch_test_from (number + 1) limit (count + 1) (after_write m w) ws) h

test-from_each : (number limit count : ℕ) (m : Records) (batch : List Write) → EachPassesFrom limit count m batch → batch_test_from number limit count m batch ≡ Ok tt
test-from_each number limit count m [] each = refl
test-from_each number limit count m (w ∷ ws) each =
    test-first number limit count m w ws (recounted limit (count + 0) count m w (Ok tt) (omega arith) (each [] ws w refl))
    ∙ test-from_each (number + 1) limit (count + 1) (after_write m w) ws
    (λ before after v e. recounted limit (count + length (w ∷ before)) (count + 1 + length before) (fold after_write (after_write m w) before) v (Ok tt) (omega arith)
    (each (w ∷ before) after v (ap (λ (t : List Write). w ∷ t) e)))

-- counts and records after the accepted writes and some of the batch
on_accepted : (limit : ℕ) (accepted before : List Write) (w : Write) (r : Result (Unit {0}) WriteFault)
    → limited_test limit (length accepted + length before) (fold after_write (leaves accepted) before) w ≡ limited_test limit (length (accepted ++ before)) (leaves (accepted ++ before)) w
on_accepted limit accepted before w r =
    ap (λ (n : ℕ). limited_test limit n (fold after_write (leaves accepted) before) w) (sym (length-append accepted before))
    ∙ ap (λ (m : Records). limited_test limit (length (accepted ++ before)) m w) (sym (fold-append [] accepted before))

pub EachPasses-from_test : (limit : ℕ) (accepted batch : List Write) → batch_test limit accepted batch ≡ Ok tt → EachPasses limit accepted batch
EachPasses-from_test limit accepted batch h before after w e =
    sym (on_accepted limit accepted before w (Ok tt)) ∙ each-from_test 0 limit (length accepted) (leaves accepted) batch h before after w e

pub test-from_EachPasses : (limit : ℕ) (accepted batch : List Write) → EachPasses limit accepted batch → batch_test limit accepted batch ≡ Ok tt
test-from_EachPasses limit accepted batch each =
    test-from_each 0 limit (length accepted) (leaves accepted) batch (λ before after w e. on_accepted limit accepted before w (Ok tt) ∙ each before after w e)

-- ---- batches that fail

record RefusedFrom (number limit count : ℕ) (m : Records) (batch : List Write) (i : ℕ) (fault : WriteFault) : Type 0 where
  before : List Write
  refused : Write
  after : List Write
  whole : batch ≡ before ++ refused ∷ after
  place : number + length before ≡ i
  passed : batch_test_from number limit count m before ≡ Ok tt
  fails : limited_test limit (count + length before) (fold after_write m before) refused ≡ Err fault

abbrev failed : ℕ × WriteFault → Result (Unit {0}) (ℕ × WriteFault)
failed x = Err x

failed_is : (x y : ℕ × WriteFault) → failed x ≡ failed y → x ≡ y
failed_is x y e = cc

refused-from_test : (number limit count : ℕ) (m : Records) (batch : List Write) (i : ℕ) (fault : WriteFault) → batch_test_from number limit count m batch ≡ Err (i, fault) → RefusedFrom number limit count m batch i fault
refused-from_test number limit count m [] i fault h = absurd cc
refused-from_test number limit count m (w ∷ ws) i fault h =
    by_first (limited_test limit count m w) refl h (λ k. refused-from_test (number + 1) limit (count + 1) (after_write m w) ws i fault k)
  where
    by_first : (r : Result (Unit {0}) WriteFault) → limited_test limit count m w ≡ r
        → (at_number number r >>= λ ok. batch_test_from (number + 1) limit (count + 1) (after_write m w) ws) ≡ Err (i, fault)
        → (batch_test_from (number + 1) limit (count + 1) (after_write m w) ws ≡ Err (i, fault) → RefusedFrom (number + 1) limit (count + 1) (after_write m w) ws i fault)
        → RefusedFrom number limit count m (w ∷ ws) i fault
    by_first (Ok u) e k further =
        let f = further k in
        let p = f.place in
        record {
          before = w ∷ f.before;
          refused = f.refused;
          after = f.after;
          whole = ap (λ (t : List Write). w ∷ t) f.whole;
          place = omega arith;
          passed = test-first number limit count m w f.before e ∙ f.passed;
          fails = recounted limit (count + 1 + length f.before) (count + length (w ∷ f.before)) (fold after_write (after_write m w) f.before) f.refused (Err fault) (omega arith) f.fails;
        }
    by_first (Err g) e k further =
        let pair = failed_is (number, g) (i, fault) k in
        let same_number : number ≡ i = ap (λ (x : ℕ × WriteFault). x.0) pair in
        let same_fault : g ≡ fault = ap (λ (x : ℕ × WriteFault). x.1) pair in
        record {
          before = [];
          refused = w;
          after = ws;
          whole = refl;
          place = omega arith;
          passed = refl;
          fails = recounted limit count (count + 0) m w (Err fault) (omega arith) (e ∙ ap (λ (f : WriteFault). Err f) same_fault);
        }

-- what fails after writes that pass
fails_at : (number limit count : ℕ) (m : Records) (before after : List Write) (w : Write) (fault : WriteFault) → batch_test_from number limit count m before ≡ Ok tt
    → limited_test limit (count + length before) (fold after_write m before) w ≡ Err fault → batch_test_from number limit count m (before ++ w ∷ after) ≡ Err (number + length before, fault)
fails_at number limit count m [] after w fault passed h =
    let now = recounted limit (count + 0) count m w (Err fault) (omega arith) h in
    let same : number ≡ number + 0 = omega arith in
    ap (λ (r : Result (Unit {0}) WriteFault). at_number number r >>= λ ok. batch_test_from (number + 1) limit (count + 1) (after_write m w) after) now
    ∙ ap (λ (n : ℕ). failed (n, fault)) same
fails_at number limit count m (x ∷ before) after w fault passed h =
    let p = bind_ok (at_number number (limited_test limit count m x)) (λ ok. batch_test_from (number + 1) limit (count + 1) (after_write m x) before) tt passed in
    let same : number + 1 + length before ≡ number + length (x ∷ before) = omega arith in
    test-first number limit count m x (before ++ w ∷ after) (at_number-ok number (limited_test limit count m x) p.0 p.1)
    ∙ fails_at (number + 1) limit (count + 1) (after_write m x) before after w fault p.2
    (recounted limit (count + length (x ∷ before)) (count + 1 + length before) (fold after_write (after_write m x) before) w (Err fault) (omega arith) h)
    ∙ ap (λ (n : ℕ). failed (n, fault)) same

pub IsFirstRefused-from_test : (limit : ℕ) (accepted batch : List Write) (i : ℕ) (fault : WriteFault) → batch_test limit accepted batch ≡ Err (i, fault) → IsFirstRefused limit accepted batch i fault
IsFirstRefused-from_test limit accepted batch i fault h =
    let r = refused-from_test 0 limit (length accepted) (leaves accepted) batch i fault h in
    let p = r.place in
    record {
      before = r.before;
      refused = r.refused;
      after = r.after;
      whole = r.whole;
      number = omega arith;
      passed = EachPasses-from_test limit accepted r.before r.passed;
      fails = sym (on_accepted limit accepted r.before r.refused (Err fault)) ∙ r.fails;
    }

pub test-from_IsFirstRefused : (limit : ℕ) (accepted batch : List Write) (i : ℕ) (fault : WriteFault) → IsFirstRefused limit accepted batch i fault → batch_test limit accepted batch ≡ Err (i, fault)
test-from_IsFirstRefused limit accepted batch i fault r =
    let n = r.number in
    let same : 0 + length r.before ≡ i = omega arith in
    ap (batch_test limit accepted) r.whole
    ∙ fails_at 0 limit (length accepted) (leaves accepted) r.before r.after r.refused fault (test-from_EachPasses limit accepted r.before r.passed)
    (on_accepted limit accepted r.before r.refused (Err fault) ∙ r.fails)
    ∙ ap (λ (k : ℕ). failed (k, fault)) same

-- ---- a batch that passes keeps a list lawful

lawful-append : (m : Records) (ws vs : List Write) → is_lawful_from m ws ≡ true → is_lawful_from (fold after_write m ws) vs ≡ true → is_lawful_from m (ws ++ vs) ≡ true
lawful-append m [] vs h k = k
lawful-append m (w ∷ ws) vs h k =
    let p = both (passes (write_test m w)) (is_lawful_from (after_write m w) ws) h in
    and _ _ p.0 (lawful-append (after_write m w) ws vs p.1 k)

-- what passes with the limit passes without
unlimited : (room : Bool) (r : Result (Unit {0}) WriteFault) → (ensure room WritesFull >>= λ (u : Unit {0}). r) ≡ Ok tt → r ≡ Ok tt
unlimited true r h = h
unlimited false r h = absurd cc

pub lawful-after_batch : (limit : ℕ) (accepted batch : List Write) → is_lawful_list accepted ≡ true → batch_test limit accepted batch ≡ Ok tt → is_lawful_list (accepted ++ batch) ≡ true
lawful-after_batch limit accepted batch h k =
    let each = each-from_test 0 limit (length accepted) (leaves accepted) batch k in
    lawful-append [] accepted batch h (lawful-from_each (leaves accepted) batch
    (λ before after w e. unlimited (nat_lt (length accepted + length before) limit) (write_test (fold after_write (leaves accepted) before) w) (each before after w e)))
