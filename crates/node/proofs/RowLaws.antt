-- Entries read as rows, and rows put together to keys again.
use Rattle.std.proofs.Common.{◌≡◌, ◌≢◌, ℕ, zero, suc, ◌+◌, ◌-◌, ◌<◌, ◌≤◌, Bool, true, false, not, ◌&&◌, eqb, ltb, leb, List, [], ◌∷◌, ◌++◌, length, get_or, take, drop, Option, Some, IfSome, Bor, Result, Ok, Err, IsOk, refl, sym, ap, subst, ◌∙◌, arith}
use Rattle.std.proofs.lemmas.Bool.{leb-true, ltb-true, lt-ltb, eqb-false, eq-eqb, ne_eqb}
use Rattle.std.proofs.lemmas.List.{drop_at, length-take}
use Rattle.spec.specs.Reading.{◌>>=◌, ensure}
use Rattle.spec.specs.NodeFormat.{Entry, NodeFault, NotNode, BadPrefix, KeyOrder, KeyLength, common, suffix_after, literal, argument_of, link_or_null_at, whole_key, entry_at, entries_at, read_node}
use Rattle.spec.proofs.Bools.{both, not_three}
use Rattle.spec.proofs.Taking.{bind_ok, bind_then, ok_is}
use Rattle.node.specs.Rows.{Row, row_after, rows, row_at, rows_at, rows_of_reading, rows_shown, after_entries, shown_node}
use Rattle.node.specs.Contents.{entries_of_reading, entries_shown}

-- ---- readings in another order of brackets

bind-assoc : {E A B C : Type 0} (r : Result A E) (f : A → Result B E) (g : B → Result C E) → ((r >>= f) >>= g) ≡ (r >>= λ x. f x >>= g)
bind-assoc (Ok x) f g = refl
bind-assoc (Err e) f g = refl

bind-same : {E A B : Type 0} (r : Result A E) (f g : A → Result B E) → ((x : A) → f x ≡ g x) → (r >>= f) ≡ (r >>= g)
bind-same (Ok x) f g h = h x
bind-same (Err e) f g h = refl

-- an entry's reading once its row has been read
abbrev pub entry_from : List ℕ → Row × List ℕ → Result (Entry × List ℕ) NodeFault
entry_from before r = whole_key before r.0.prefix r.0.suffix >>= λ key. Ok (record { key = key; value = r.0.value; tree = r.0.tree }, r.1)

pub entry_at-row_at : (before bytes : List ℕ) → entry_at before bytes ≡ (row_at bytes >>= entry_from before)
unfolding entry_at row_at
entry_at-row_at before bytes =
    simp bind-assoc

-- ---- keys

common-take : (before k : List ℕ) (p : ℕ) → p ≤ length before → 0 < length k → (p < length before → get_or k 0 0 ≢ get_or before p 0) → common before (take p before ++ k) ≡ p
common-take [] k zero within some other = refl
common-take [] k (suc p) within some other = absurd (omega arith)
common-take (x ∷ xs) [] zero within some other = absurd (omega arith)
common-take (x ∷ xs) (y ∷ ys) zero within some other = rw (ne_eqb x y (λ e. other (omega arith) (sym e))) refl
common-take (x ∷ xs) k (suc p) within some other = rw (eq-eqb x x refl) (ap suc (common-take xs k p (omega arith) some (λ lt. other (omega arith))))

ensured : {B : Type 0} (t : Bool) (fault : NodeFault) (r : Result B NodeFault) (y : B) → (ensure t fault >>= λ ok. r) ≡ Ok y → (t ≡ true) × (r ≡ Ok y)
ensured true fault r y e = (refl, e)
ensured false fault r y e = absurd cc

-- what a row's tests say of it
pub whole_key-row : (before : List ℕ) (p : ℕ) (k key : List ℕ) → whole_key before p k ≡ Ok key → (p ≡ common before key) × (k ≡ suffix_after before key)
whole_key-row before p k key e =
    let t2 = ltb 0 (p + length k) && leb (p + length k) 1024 in
    let t3 = not (ltb p (length before) && ltb 0 (length k) && eqb (get_or k 0 0) (get_or before p 0)) in
    let t4 = ltb 0 (length k) && not (ltb p (length before) && ltb (get_or k 0 0) (get_or before p 0)) in
    let made : Result (List ℕ) NodeFault = Ok (take p before ++ k) in
    let r3 : Result (List ℕ) NodeFault = ensure t4 KeyOrder >>= λ ok. made in
    let r2 : Result (List ℕ) NodeFault = ensure t3 BadPrefix >>= λ ok. r3 in
    let r1 : Result (List ℕ) NodeFault = ensure t2 KeyLength >>= λ ok. r2 in
    let a = ensured (leb p (length before)) BadPrefix r1 key e in
    let b = ensured t2 KeyLength r2 key a.1 in
    let c = ensured t3 BadPrefix r3 key b.1 in
    let d = ensured t4 KeyOrder made key c.1 in
    let within : p ≤ length before = leb-true _ _ a.0 in
    let some = both (ltb 0 (length k)) (not (ltb p (length before) && ltb (get_or k 0 0) (get_or before p 0))) d.0 in
    let other : p < length before → get_or k 0 0 ≢ get_or before p 0 = λ lt.
    eqb-false _ _ (not_three (ltb p (length before)) (ltb 0 (length k)) (eqb (get_or k 0 0) (get_or before p 0)) c.0 (lt-ltb _ _ lt) some.0) in
    let shared : common before (take p before ++ k) ≡ p = common-take before k p within (ltb-true _ _ some.0) other in
    let rest : drop p (take p before ++ k) ≡ k = drop_at (take p before) k p (omega (arith, length-take p before)) in
    let is : take p before ++ k ≡ key = ok_is NodeFault _ _ d.1 in
    let p_is : p ≡ common before key = sym shared ∙ ap (common before) is in
    (p_is, sym rest ∙ ap (drop p) is ∙ ap (λ (q : ℕ). drop q key) p_is)

-- ---- entries as rows

abbrev row_made : ℕ → List ℕ → List ℕ → Option (List ℕ) → Row
row_made p k value tree = record { prefix = p; suffix = k; value = value; tree = tree }

-- an entry that was read was read as its row
pub row_at-entry : (before bytes : List ℕ) (x : Entry × List ℕ) → entry_at before bytes ≡ Ok x → row_at bytes ≡ Ok (row_after before x.0, x.1)
row_at-entry before bytes x e =
    bind_then (row_at bytes) (entry_from before) x (sym (entry_at-row_at before bytes) ∙ e) (λ r read rest.
    bind_then (whole_key before r.0.prefix r.0.suffix) _ x rest (λ key whole made.
    let is = ok_is NodeFault (record { key = key; value = r.0.value; tree = r.0.tree }, r.1) x made in
    let parts = whole_key-row before r.0.prefix r.0.suffix key whole in
    let same : row_made r.0.prefix r.0.suffix r.0.value r.0.tree ≡ row_made (common before key) (suffix_after before key) r.0.value r.0.tree =
    ap (λ (p : ℕ). row_made p r.0.suffix r.0.value r.0.tree) parts.0 ∙ ap (λ (k : List ℕ). row_made (common before key) k r.0.value r.0.tree) parts.1 in
    let answer : Row → Result (Row × List ℕ) NodeFault = λ w. Ok (w, r.1) in
    let shown : Entry × List ℕ → Result (Row × List ℕ) NodeFault = λ y. Ok (row_after before y.0, y.1) in
    read ∙ ap answer same ∙ ap shown is))

pub rows_at-entries : (n : ℕ) (before bytes : List ℕ) (x : List Entry × List ℕ) → entries_at n before bytes ≡ Ok x → rows_at n bytes ≡ Ok (rows before x.0, x.1)
unfolding entries_at rows_at
rows_at-entries zero before bytes x e =
    let shown : List Entry × List ℕ → Result (List Row × List ℕ) NodeFault = λ y. Ok (rows before y.0, y.1) in
    ap shown (ok_is NodeFault ([], bytes) x e)
rows_at-entries (suc n) before bytes x e =
    bind_then (entry_at before bytes) _ x e (λ first read rest.
    bind_then (entries_at n first.0.key first.1) _ x rest (λ others more made.
    let shown : List Entry × List ℕ → Result (List Row × List ℕ) NodeFault = λ y. Ok (rows before y.0, y.1) in
    rw (row_at-entry before bytes first read, rows_at-entries n first.0.key first.1 others more) (ap shown (ok_is NodeFault (first.0 ∷ others.0, others.1) x made))))

fitting : {A : Type 0} (p : ℕ) (k : List ℕ) → A → p + length k ≤ 1024 → 0 < length k → A × (p < 1024) × (p + length k ≤ 1024)
fitting p k within fits some = (within, omega arith, fits)

-- what is left of the key before has room for one byte more, and the key is no longer than a key may be
pub whole_key-fits : (before : List ℕ) (p : ℕ) (k key : List ℕ) → whole_key before p k ≡ Ok key → (p ≤ length before) × (p < 1024) × (p + length k ≤ 1024)
whole_key-fits before p k key e =
    let a = ensured (leb p (length before)) _ _ key e in
    let b = ensured (ltb 0 (p + length k) && leb (p + length k) 1024) _ _ key a.1 in
    let c = ensured _ _ _ key b.1 in
    let d = ensured (ltb 0 (length k) && _) _ _ key c.1 in
    let long = both (ltb 0 (p + length k)) (leb (p + length k) 1024) b.0 in
    let some = both (ltb 0 (length k)) _ d.0 in
    fitting p k (leb-true _ _ a.0) (leb-true _ _ long.1) (ltb-true _ _ some.0)

-- ---- the first of the rows

-- the first row, and those after it
pub record FirstRow (n : ℕ) (bytes : List ℕ) (r : Row × List ℕ) : Type 0 where
  pub read : row_at bytes ≡ Ok r
  pub more : IsOk (rows_at (n - 1) r.1)
  pub shown : rows_shown n bytes ≡ r.0 ∷ rows_shown (n - 1) r.1

abbrev Rows : Type 0
Rows = Result (List Row × List ℕ) NodeFault

abbrev and_rows : Row → List Row × List ℕ → Rows
and_rows r rs = Ok (r ∷ rs.0, rs.1)

abbrev then_rows : ℕ → Row × List ℕ → Rows
then_rows n x = rows_at n x.1 >>= and_rows x.0

-- the first reading and the others
record FirstOf (n : ℕ) (r : Result (Row × List ℕ) NodeFault) (x : Row × List ℕ) : Type 0 where
  read : r ≡ Ok x
  more : IsOk (rows_at n x.1)
  shown : rows_of_reading (r >>= then_rows n) ≡ x.0 ∷ rows_of_reading (rows_at n x.1)

others : (r : Row) (rs : Rows) → IsOk (rs >>= and_rows r) → IsOk rs × (rows_of_reading (rs >>= and_rows r) ≡ r ∷ rows_of_reading rs)
others r (Ok x) h = (h, refl)
others r (Err f) h = absurd cc

first_of : (n : ℕ) (r : Result (Row × List ℕ) NodeFault) → IsOk (r >>= then_rows n) → (x : Row × List ℕ) × FirstOf n r x
first_of n (Ok x) h = let s = others x.0 (rows_at n x.1) h in (x, record { read = refl; more = s.0; shown = s.1 })
first_of n (Err f) h = absurd cc

pub first_row : (n : ℕ) (bytes : List ℕ) → 0 < n → IsOk (rows_at n bytes) → (r : Row × List ℕ) × FirstRow n bytes r
unfolding rows_at rows_shown
first_row zero bytes some ok = absurd (omega arith)
first_row (suc n) bytes some ok =
    let f = first_of n (row_at bytes) ok in
    let less : suc n - 1 ≡ n = omega arith in
    (f.0, record { read = f.1.read; more = rw less f.1.more; shown = rw less f.1.shown })

pub first_row-read : (n : ℕ) (bytes : List ℕ) (r : Row × List ℕ) → 0 < n → IsOk (rows_at n bytes) → row_at bytes ≡ Ok r → FirstRow n bytes r
first_row-read n bytes r some ok read = let f = first_row n bytes some ok in subst (FirstRow n bytes) (ok_is NodeFault f.0 r (sym f.1.read ∙ read)) f.1

pub rows_shown-none : (bytes : List ℕ) → rows_shown 0 bytes ≡ []
unfolding rows_at rows_shown
rows_shown-none bytes = refl

-- ---- entries read one after the other

pub after_entries-none : (before bytes : List ℕ) → after_entries 0 before bytes ≡ Ok bytes
unfolding after_entries entries_at
after_entries-none before bytes = refl

pub after_entries-row_fault : (n : ℕ) (before bytes : List ℕ) (f : NodeFault) → 0 < n → row_at bytes ≡ Err f → after_entries n before bytes ≡ Err f
unfolding after_entries entries_at
after_entries-row_fault zero before bytes f some e = absurd (omega arith)
after_entries-row_fault (suc n) before bytes f some e = rw (entry_at-row_at before bytes, e) refl

pub after_entries-key_fault : (n : ℕ) (before bytes : List ℕ) (r : Row × List ℕ) (f : NodeFault) → 0 < n → row_at bytes ≡ Ok r → whole_key before r.0.prefix r.0.suffix ≡ Err f → after_entries n before bytes ≡ Err f
unfolding after_entries entries_at
after_entries-key_fault zero before bytes r f some e w = absurd (omega arith)
after_entries-key_fault (suc n) before bytes r f some e w = rw (entry_at-row_at before bytes, e, w) refl

pub after_entries-entry : (n : ℕ) (before bytes : List ℕ) (r : Row × List ℕ) (key : List ℕ) → 0 < n → row_at bytes ≡ Ok r → whole_key before r.0.prefix r.0.suffix ≡ Ok key → after_entries n before bytes ≡ after_entries (n - 1) key r.1
unfolding after_entries entries_at
after_entries-entry zero before bytes r key some e w = absurd (omega arith)
after_entries-entry (suc n) before bytes r key some e w =
    let less : suc n - 1 ≡ n = omega arith in
    rw (less, entry_at-row_at before bytes, e, w) (bind-assoc (entries_at n key r.1) _ _)

-- ---- all entries, and the node

pub all_read : {A : Type 0} (r : Result A NodeFault) → IsOk r → (x : A) × (r ≡ Ok x)
all_read (Ok x) h = (x, refl)
all_read (Err f) h = absurd cc

ok_read : {A : Type 0} (r : Result A NodeFault) (x : A) → r ≡ Ok x → IsOk r
ok_read r x e = rw e refl

pub after_entries-all : (n : ℕ) (before bytes rest : List ℕ) → after_entries n before bytes ≡ Ok rest → IsOk (entries_at n before bytes)
unfolding after_entries
after_entries-all n before bytes rest e = let b = bind_ok (entries_at n before bytes) _ rest e in ok_read (entries_at n before bytes) b.0 b.1

-- and so where a reading that may give none gave the bytes after them
pub after_entries-found : (n : ℕ) (bytes : List ℕ) (found : Option (Bor (List ℕ))) (rest : Bor (List ℕ)) → found ≡ Some rest → IfSome found (λ x. after_entries n [] bytes ≡ Ok x.now) → IsOk (entries_at n [] bytes)
after_entries-found n bytes found rest is read =
    after_entries-all n [] bytes rest.now (subst (λ (x : Option (Bor (List ℕ))). IfSome x (λ y. after_entries n [] bytes ≡ Ok y.now)) is read)

pub rows_shown-entries : (n : ℕ) (bytes : List ℕ) → IsOk (entries_at n [] bytes) → IsOk (rows_at n bytes) × (rows_shown n bytes ≡ rows [] (entries_shown n bytes))
unfolding rows_shown entries_shown
rows_shown-entries n bytes ok =
    let a = all_read (entries_at n [] bytes) ok in
    let e = rows_at-entries n [] bytes a.0 a.1 in
    (ok_read (rows_at n bytes) _ e, ap rows_of_reading e ∙ ap (λ (r : Result (List Entry × List ℕ) NodeFault). rows [] (entries_of_reading r)) (sym a.1))

abbrev pub Whole : Type 0
Whole = Result (Option (List ℕ) × List Entry) NodeFault

abbrev pub whole : List Entry → Option (List ℕ) × List ℕ → Whole
whole es left = ensure (eqb (length left.1) 0) NotNode >>= λ ended. Ok (left.0, es)

abbrev pub end_of : List Entry → List ℕ → Whole
end_of es rest = literal (0x61 ∷ 0x6c ∷ []) rest >>= λ in_l. link_or_null_at in_l >>= whole es

abbrev rest_of : List Entry × List ℕ → Result (List ℕ) NodeFault
rest_of es = Ok es.1

by_rest : (r : Result (List Entry × List ℕ) NodeFault) → (r >>= λ es. end_of es.0 es.1) ≡ ((r >>= rest_of) >>= end_of (entries_of_reading r))
by_rest (Ok x) = refl
by_rest (Err f) = refl

-- a node is read by its parts
pub read_node-shown_node : (bytes : List ℕ) → read_node bytes ≡ shown_node bytes
unfolding read_node shown_node after_entries entries_shown
read_node-shown_node bytes =
    bind-same (literal (0xa2 ∷ 0x61 ∷ 0x65 ∷ []) bytes) _ _ (λ in_e. bind-same (argument_of 4 in_e) _ _ (λ n. by_rest (entries_at n.0 [] n.1)))
