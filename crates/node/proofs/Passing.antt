-- Entries of a node that are passed over.
use Rattle.std.proofs.Common.{◌≡◌, ℕ, zero, suc, ◌+◌, ◌-◌, ◌<◌, ◌≤◌, true, ltb, leb, List, [], ◌∷◌, ◌++◌, length, take, drop, Option, Result, Ok, Err, IsOk, refl, sym, ap, subst, ◌∙◌, append_assoc, arith, length-append}
use Rattle.std.proofs.lemmas.Bool.{leb-true}
use Rattle.std.proofs.lemmas.List.{take-append-drop, take_at, length-take}
use Rattle.spec.specs.Reading.{◌>>=◌}
use Rattle.spec.specs.NodeFormat.{Entry, NodeFault, entries_bytes, are_keys_after, are_links, common, whole_key, entry_at, entries_at}
use Rattle.spec.proofs.Bools.{both}
use Rattle.spec.proofs.NodeLaws.{entries_at-entries_bytes}
use Rattle.spec.proofs.NodeTakes.{entries_take}
use Rattle.spec.proofs.Taking.{bind_then, ensure_ok, ok_is}
use Rattle.node.specs.Contents.{last_key, entries_of_reading, entries_shown, IsRead}
use Rattle.node.specs.Rows.{Row, row_at}
use Rattle.node.specs.Runs.{Begins, after_rows, after_keys}
use Rattle.node.proofs.CommonParts.{key-again}
use Rattle.node.proofs.Joining.{entries_bytes-append, are_keys_after-parts, are_links-parts}
use Rattle.node.proofs.RowLaws.{entry_from, entry_at-row_at, row_at-entry, whole_key-row, all_read}

-- ---- entries without their tests

pub after_rows-none : (bytes : List ℕ) → after_rows 0 bytes ≡ Ok bytes
unfolding after_rows
after_rows-none bytes = refl

pub after_rows-next : (n : ℕ) (bytes : List ℕ) (r : Row × List ℕ) → 0 < n → row_at bytes ≡ Ok r → after_rows n bytes ≡ after_rows (n - 1) r.1
unfolding after_rows
after_rows-next zero bytes r some e = absurd (omega arith)
after_rows-next (suc n) bytes r some e = let less : suc n - 1 ≡ n = omega arith in rw (less, e) refl

first_ok : {A B : Type 0} (r : Result A NodeFault) (f : A → Result B NodeFault) → IsOk (r >>= f) → IsOk r
first_ok (Ok x) f h = refl
first_ok (Err e) f h = absurd cc

-- there is a next one
pub after_rows-first : (n : ℕ) (bytes : List ℕ) → 0 < n → IsOk (after_rows n bytes) → (r : Row × List ℕ) × (row_at bytes ≡ Ok r)
unfolding after_rows
after_rows-first zero bytes some ok = absurd (omega arith)
after_rows-first (suc n) bytes some ok = all_read (row_at bytes) (first_ok (row_at bytes) _ ok)

pub after_rows-entries : (n : ℕ) (before bytes : List ℕ) (x : List Entry × List ℕ) → entries_at n before bytes ≡ Ok x → after_rows n bytes ≡ Ok x.1
unfolding entries_at after_rows
after_rows-entries zero before bytes x e =
    let rest : List Entry × List ℕ → Result (List ℕ) NodeFault = λ y. Ok y.1 in
    ap rest (ok_is NodeFault ([], bytes) x e)
after_rows-entries (suc n) before bytes x e =
    bind_then (entry_at before bytes) _ x e (λ first read others.
    bind_then (entries_at n first.0.key first.1) _ x others (λ es more made.
    let rest : List Entry × List ℕ → Result (List ℕ) NodeFault = λ y. Ok y.1 in
    rw (row_at-entry before bytes first read, after_rows-entries n first.0.key first.1 es more) (ap rest (ok_is NodeFault (first.0 ∷ es.0, es.1) x made))))

-- ---- entries with their keys

pub after_keys-none : (before bytes : List ℕ) → after_keys 0 before bytes ≡ Ok (before, bytes)
unfolding after_keys
after_keys-none before bytes = refl

-- the key of the next entry, whose row this is, and what is left after it
pub record NextKey (n : ℕ) (before bytes : List ℕ) (r : Row × List ℕ) : Type 0 where
  pub within : r.0.prefix ≤ length before
  pub room : r.0.prefix + length r.0.suffix ≤ 1024
  pub goes : (key : List ℕ) → key ≡ take r.0.prefix before ++ r.0.suffix → after_keys n before bytes ≡ after_keys (n - 1) key r.1

-- the tests of an entry that passed them
record Passes (before : List ℕ) (p : ℕ) (k key : List ℕ) : Type 0 where
  within : p ≤ length before
  room : p + length k ≤ 1024
  made : take p before ++ k ≡ key

passes : (before : List ℕ) (p : ℕ) (k key : List ℕ) → whole_key before p k ≡ Ok key → Passes before p k key
passes before p k key e =
    let a = ensure_ok _ _ _ _ e in
    let b = ensure_ok _ _ _ _ a.1 in
    let parts = whole_key-row before p k key e in
    record {
      within = leb-true _ _ a.0;
      room = leb-true _ _ (both (ltb 0 (p + length k)) (leb (p + length k) 1024) b.0).1;
      made = ap (λ (q : ℕ). take q before ++ k) parts.0 ∙ ap (λ (x : List ℕ). take (common before key) before ++ x) parts.1 ∙ key-again before key;
    }

pub after_keys-first : (n : ℕ) (before bytes : List ℕ) → 0 < n → IsOk (after_keys n before bytes) → (r : Row × List ℕ) × (row_at bytes ≡ Ok r)
unfolding after_keys
after_keys-first zero before bytes some ok = absurd (omega arith)
after_keys-first (suc n) before bytes some ok =
    let e = all_read (entry_at before bytes) (first_ok (entry_at before bytes) _ ok) in
    (_, row_at-entry before bytes e.0 e.1)

pub after_keys-next : (n : ℕ) (before bytes : List ℕ) (r : Row × List ℕ) → 0 < n → IsOk (after_keys n before bytes) → row_at bytes ≡ Ok r → NextKey n before bytes r
unfolding after_keys
after_keys-next zero before bytes r some ok read = absurd (omega arith)
after_keys-next (suc n) before bytes r some ok read =
    let e = all_read (entry_at before bytes) (first_ok (entry_at before bytes) _ ok) in
    let from : entry_from before r ≡ Ok e.0 = sym (ap (λ (z : Result (Row × List ℕ) NodeFault). z >>= entry_from before) read) ∙ sym (entry_at-row_at before bytes) ∙ e.1 in
    bind_then (whole_key before r.0.prefix r.0.suffix) _ e.0 from (λ key whole made.
    let p = passes before r.0.prefix r.0.suffix key whole in
    let less : suc n - 1 ≡ n = omega arith in
    record {
      within = p.within;
      room = p.room;
      goes = λ k is. rw (less, entry_at-row_at before bytes, read, whole) (ap (λ (x : List ℕ). after_keys n x r.1) (sym (is ∙ p.made)));
    })

after_keys-entries : (n : ℕ) (before bytes : List ℕ) (x : List Entry × List ℕ) → entries_at n before bytes ≡ Ok x → after_keys n before bytes ≡ Ok (last_key before x.0, x.1)
unfolding entries_at after_keys
after_keys-entries zero before bytes x e =
    let shown : List Entry × List ℕ → Result (List ℕ × List ℕ) NodeFault = λ y. Ok (last_key before y.0, y.1) in
    ap shown (ok_is NodeFault ([], bytes) x e)
after_keys-entries (suc n) before bytes x e =
    bind_then (entry_at before bytes) _ x e (λ first read others.
    bind_then (entries_at n first.0.key first.1) _ x others (λ es more made.
    let shown : List Entry × List ℕ → Result (List ℕ × List ℕ) NodeFault = λ y. Ok (last_key before y.0, y.1) in
    rw (read, after_keys-entries n first.0.key first.1 es more) (ap shown (ok_is NodeFault (first.0 ∷ es.0, es.1) x made))))

-- ---- bytes that begin with entries

-- a node that was read
pub read-begins : (left : Option (List ℕ)) (n : ℕ) (bytes : List ℕ) → IsRead left n bytes → Begins bytes [] (entries_shown n bytes) × (length (entries_shown n bytes) ≡ n)
unfolding entries_shown
read-begins left n bytes is =
    let a = all_read (entries_at n [] bytes) is.all in
    let t = entries_take n [] bytes a.0 is.fits a.1 in
    let begins : Begins bytes [] a.0.0 × (length a.0.0 ≡ n) = (record { rest = a.0.1; spelled = t.takes.parts; ascending = t.keys; linked = t.links }, t.count) in
    subst (λ (es : List Entry). Begins bytes [] es × (length es ≡ n)) (sym (ap entries_of_reading a.1)) begins

-- some entries and then others
record BeginsWith (n : ℕ) (bytes before : List ℕ) (es more : List Entry) : Type 0 where
  rest : List ℕ
  read : entries_at n before bytes ≡ Ok (es, rest)
  spelled : bytes ≡ entries_bytes before es ++ rest
  ascending : are_keys_after before es ≡ true
  linked : are_links es ≡ true
  others : Begins rest (last_key before es) more

begins-with : (bytes before : List ℕ) (es more : List Entry) → Begins bytes before (es ++ more) → BeginsWith (length es) bytes before es more
begins-with bytes before es more b =
    let keys = are_keys_after-parts before es more b.ascending in
    let links = are_links-parts es more b.linked in
    let rest : List ℕ = entries_bytes (last_key before es) more ++ b.rest in
    let text : bytes ≡ entries_bytes before es ++ rest =
    b.spelled ∙ ap (λ (x : List ℕ). x ++ b.rest) (entries_bytes-append before es more) ∙ append_assoc (entries_bytes before es) (entries_bytes (last_key before es) more) b.rest in
    record {
      rest = rest;
      read = ap (entries_at (length es) before) text ∙ entries_at-entries_bytes before es rest keys.0 links.0;
      spelled = text;
      ascending = keys.0;
      linked = links.0;
      others = record { rest = b.rest; spelled = refl; ascending = keys.1; linked = links.1 };
    }

begins-at : (n : ℕ) (bytes before : List ℕ) (es : List Entry) → Begins bytes before es → n ≤ length es → BeginsWith n bytes before (take n es) (drop n es)
begins-at n bytes before es b within =
    let whole : Begins bytes before (take n es ++ drop n es) = subst (Begins bytes before) (sym (take-append-drop n es)) b in
    let count : length (take n es) ≡ n = omega (arith, length-take n es) in
    subst (λ (m : ℕ). BeginsWith m bytes before (take n es) (drop n es)) count (begins-with bytes before (take n es) (drop n es) whole)

ok_read : {A : Type 0} (r : Result A NodeFault) (x : A) → r ≡ Ok x → IsOk r
ok_read r x e = rw e refl

-- so many entries can be passed over
pub begins-rows : (n : ℕ) (bytes before : List ℕ) (es : List Entry) → Begins bytes before es → n ≤ length es → IsOk (after_rows n bytes)
begins-rows n bytes before es b within =
    let w = begins-at n bytes before es b within in
    ok_read (after_rows n bytes) w.rest (after_rows-entries n before bytes (take n es, w.rest) w.read)

-- and the others are behind them
pub begins-after : (n : ℕ) (bytes before : List ℕ) (es : List Entry) (rest : List ℕ) → Begins bytes before es → n ≤ length es → after_rows n bytes ≡ Ok rest → Begins rest (last_key before (take n es)) (drop n es)
begins-after n bytes before es rest b within after =
    let w = begins-at n bytes before es b within in
    let same : w.rest ≡ rest = ok_is NodeFault w.rest rest (sym (after_rows-entries n before bytes (take n es, w.rest) w.read) ∙ after) in
    subst (λ (x : List ℕ). Begins x (last_key before (take n es)) (drop n es)) same w.others

-- the bytes of the entries that were passed over
pub begins-run : (n : ℕ) (bytes before : List ℕ) (es : List Entry) (rest : List ℕ) → Begins bytes before es → n ≤ length es → after_rows n bytes ≡ Ok rest
    → (length rest ≤ length bytes) × (take (length bytes - length rest) bytes ≡ entries_bytes before (take n es))
begins-run n bytes before es rest b within after =
    let w = begins-at n bytes before es b within in
    let own : List ℕ = entries_bytes before (take n es) in
    let same : w.rest ≡ rest = ok_is NodeFault w.rest rest (sym (after_rows-entries n before bytes (take n es, w.rest) w.read) ∙ after) in
    let text : bytes ≡ own ++ rest = w.spelled ∙ ap (λ (x : List ℕ). own ++ x) same in
    let len : length bytes ≡ length own + length rest = ap length text ∙ length-append own rest in
    (omega (arith, len), ap (take (length bytes - length rest)) text ∙ take_at own rest (length bytes - length rest) (omega (arith, len)))

pub begins-keys : (n : ℕ) (bytes before : List ℕ) (es : List Entry) → Begins bytes before es → n ≤ length es → IsOk (after_keys n before bytes)
begins-keys n bytes before es b within =
    let w = begins-at n bytes before es b within in
    ok_read (after_keys n before bytes) _ (after_keys-entries n before bytes (take n es, w.rest) w.read)

-- the bytes of the entries that were passed over, and their last key
pub record Passed (bytes before rest key : List ℕ) (es : List Entry) : Type 0 where
  pub within : length rest ≤ length bytes
  pub spelled : take (length bytes - length rest) bytes ≡ entries_bytes before es
  pub ended : key ≡ last_key before es
  pub ascending : are_keys_after before es ≡ true
  pub linked : are_links es ≡ true

passed_is : (x : Result (List ℕ × List ℕ) NodeFault) (k r key rest : List ℕ) → x ≡ Ok (k, r) → x ≡ Ok (key, rest) → (k ≡ key) × (r ≡ rest)
passed_is x k r key rest e f =
    let same = ok_is NodeFault (k, r) (key, rest) (sym e ∙ f) in
    (ap (λ (y : List ℕ × List ℕ). y.0) same, ap (λ (y : List ℕ × List ℕ). y.1) same)

pub begins-passed : (n : ℕ) (bytes before : List ℕ) (es : List Entry) (rest key : List ℕ) → Begins bytes before es → n ≤ length es → after_keys n before bytes ≡ Ok (key, rest) → Passed bytes before rest key (take n es)
begins-passed n bytes before es rest key b within after =
    let w = begins-at n bytes before es b within in
    let own : List ℕ = entries_bytes before (take n es) in
    let same = passed_is (after_keys n before bytes) (last_key before (take n es)) w.rest key rest (after_keys-entries n before bytes (take n es, w.rest) w.read) after in
    let text : bytes ≡ own ++ rest = w.spelled ∙ ap (λ (x : List ℕ). own ++ x) same.1 in
    let len : length bytes ≡ length own + length rest = ap length text ∙ length-append own rest in
    record {
      within = omega (arith, len);
      spelled = ap (take (length bytes - length rest)) text ∙ take_at own rest (length bytes - length rest) (omega (arith, len));
      ended = sym same.0;
      ascending = w.ascending;
      linked = w.linked;
    }
