-- What a lawful value spells is read again, whatever follows it: so each spelling is of one value, and none begins another.
use Rattle.std.proofs.Common.{◌≡◌, ℕ, zero, suc, ◌+◌, ◌*◌, ◌/◌, ◌^◌, ◌<◌, Bool, true, false, cond, ◌&&◌, ltb, List, [], ◌∷◌, ◌++◌, length, Option, Some, None, Result, Ok, Err, refl, sym, ap, ◌∙◌, append_assoc, arith}
use Rattle.std.specs.Prelude.{pos, negsuc}
use Rattle.std.specs.Str.{is_utf8}
use Rattle.std.proofs.lemmas.Bool.{lt-ltb, ltb-true, eq-eqb}
use Rattle.std.proofs.lemmas.List.{append-nil}
use Rattle.spec.specs.Reading.{◌>>=◌}
use Rattle.spec.specs.Head.{CborFault, Truncated, head, head_at, major_of}
use Rattle.spec.specs.Cid.{is_cid}
use Rattle.spec.specs.DagCbor.{Value, Null, Boolean, Integer, Bytes, Text, Items, Fields, Link, Values, NoValue, ValueThen, Entries, NoEntry, EntryThen, count_values, count_entries, string, spelling, spelling_of_values, spelling_of_entries, is_next_key, fits_length, is_lawful_within, are_lawful_within, are_entries_within, is_lawful, CborReader, head_of, text_of, link_of, key_of, items_at, fields_at, content_of, value_at, read}
use Rattle.spec.proofs.Taking.{front-append, ok_is}
use Rattle.spec.proofs.HeadLaws.{head_at-head}
use Rattle.spec.proofs.Bools.{both}

-- what reads lists and maps at a level
abbrev pub within : ℕ → Result (CborReader Value) CborFault
within zero = Err Rattle.spec.specs.Head.TooDeep
within (suc levels) = Ok (value_at levels)

value_at-head : (levels m n : ℕ) (rest : List ℕ) → m < 7 → n < 2 ^ 64 → value_at levels (head m n ++ rest) ≡ content_of (within levels) (major_of m) n rest
unfolding value_at
value_at-head zero m n rest small lt = rw (head_at-head m n rest small lt) refl
value_at-head (suc levels) m n rest small lt = rw (head_at-head m n rest small lt) refl

value_at-simple : (levels : ℕ) (rest : List ℕ) → value_at levels (0xf6 ∷ rest) ≡ Ok (Null, rest)
unfolding value_at head_at
value_at-simple zero rest = refl
value_at-simple (suc levels) rest = refl

value_at-boolean : (b : Bool) (levels : ℕ) (rest : List ℕ) → value_at levels (spelling (Boolean b) ++ rest) ≡ Ok (Boolean b, rest)
unfolding value_at head_at
value_at-boolean false zero rest = refl
value_at-boolean false (suc levels) rest = refl
value_at-boolean true zero rest = refl
value_at-boolean true (suc levels) rest = refl

-- ---- strings

-- the first byte of a head shows its major type
record Begins (m : ℕ) (bytes : List ℕ) : Type 0 where
  first : ℕ
  others : List ℕ
  is : bytes ≡ first ∷ others
  major : first / 32 ≡ m

Begins-low : (m low : ℕ) (bytes : List ℕ) → low < 32 → Begins m ((32 * m + low) ∷ bytes)
Begins-low m low bytes lt = record { first = 32 * m + low; others = bytes; is = refl; major = omega arith }

Begins-cond : (m : ℕ) (t : Bool) (x y : List ℕ) → (t ≡ true → Begins m x) → Begins m y → Begins m (cond t x y)
Begins-cond m true x y h k = h refl
Begins-cond m false x y h k = k

Begins-head : (m n : ℕ) → Begins m (head m n)
Begins-head m n =
    Begins-cond m (ltb n 24) _ _ (λ t. let lt = ltb-true n 24 t in Begins-low m n [] (omega arith))
    (Begins-cond m (ltb n (2 ^ 8)) _ _ (λ t. Begins-low m 24 _ (omega arith))
    (Begins-cond m (ltb n (2 ^ 16)) _ _ (λ t. Begins-low m 25 _ (omega arith))
    (Begins-cond m (ltb n (2 ^ 32)) _ _ (λ t. Begins-low m 26 _ (omega arith)) (Begins-low m 27 _ (omega arith)))))

head_of-cons : (m b : ℕ) (fault : CborFault) (bytes : List ℕ) → b / 32 ≡ m → head_of m fault (b ∷ bytes) ≡ (head_at (b ∷ bytes) >>= λ h. Ok (h.0.1, h.1))
head_of-cons m b fault bytes e = rw (eq-eqb (b / 32) m e) refl

head_of-head : (m n : ℕ) (fault : CborFault) (rest : List ℕ) → m < 7 → n < 2 ^ 64 → head_of m fault (head m n ++ rest) ≡ Ok (n, rest)
head_of-head m n fault rest small lt =
    let b = Begins-head m n in
    let e : head m n ++ rest ≡ b.first ∷ (b.others ++ rest) = ap (λ (x : List ℕ). x ++ rest) b.is in
    ap (head_of m fault) e ∙ head_of-cons m b.first fault (b.others ++ rest) b.major
    ∙ ap (λ (x : List ℕ). head_at x >>= λ h. Ok (h.0.1, h.1)) (sym e)
    ∙ ap (λ (r : Result ((ℕ × ℕ) × List ℕ) CborFault). r >>= λ h. Ok (h.0.1, h.1)) (head_at-head m n rest small lt)

text_of-append : (n : ℕ) (bytes rest : List ℕ) → length bytes ≡ n → is_utf8 bytes ≡ true → text_of n (bytes ++ rest) ≡ Ok (bytes, rest)
text_of-append n bytes rest e utf8 = rw (front-append Truncated n bytes rest e, utf8) refl

-- ---- values

value_at-bytes : (levels : ℕ) (bytes rest : List ℕ) → fits_length bytes ≡ true → value_at levels (string 2 bytes ++ rest) ≡ Ok (Bytes bytes, rest)
value_at-bytes levels bytes rest fits =
    ap (value_at levels) (append_assoc (head 2 (length bytes)) bytes rest) ∙ value_at-head levels 2 (length bytes) (bytes ++ rest) (omega arith) (ltb-true _ _ fits)
    ∙ rw (front-append Truncated (length bytes) bytes rest refl) refl

value_at-text : (levels : ℕ) (bytes rest : List ℕ) → fits_length bytes ≡ true → is_utf8 bytes ≡ true → value_at levels (string 3 bytes ++ rest) ≡ Ok (Text bytes, rest)
value_at-text levels bytes rest fits utf8 =
    ap (value_at levels) (append_assoc (head 3 (length bytes)) bytes rest) ∙ value_at-head levels 3 (length bytes) (bytes ++ rest) (omega arith) (ltb-true _ _ fits)
    ∙ rw (front-append Truncated (length bytes) bytes rest refl, utf8) refl

link_of-string : (bytes rest : List ℕ) → fits_length (0 ∷ bytes) ≡ true → is_cid bytes ≡ true → link_of 42 (string 2 (0 ∷ bytes) ++ rest) ≡ Ok (Link bytes, rest)
link_of-string bytes rest fits cid =
    let some : ltb 0 (suc (length bytes)) ≡ true = lt-ltb _ _ (omega arith) in
    ap (link_of 42) (append_assoc (head 2 (suc (length bytes))) (0 ∷ bytes) rest)
    ∙ rw (head_of-head 2 (suc (length bytes)) Rattle.spec.specs.Head.BadLink (0 ∷ (bytes ++ rest)) (omega arith) (ltb-true _ _ fits), front-append Truncated (suc (length bytes)) (0 ∷ bytes) rest refl, some, cid) refl

value_at-link : (levels : ℕ) (bytes rest : List ℕ) → fits_length (0 ∷ bytes) ≡ true → is_cid bytes ≡ true → value_at levels (spelling (Link bytes) ++ rest) ≡ Ok (Link bytes, rest)
value_at-link levels bytes rest fits cid =
    ap (value_at levels) (append_assoc (head 6 42) (string 2 (0 ∷ bytes)) rest)
    ∙ value_at-head levels 6 42 (string 2 (0 ∷ bytes) ++ rest) (omega arith) (omega arith) ∙ link_of-string bytes rest fits cid

key_of-string : (before : Option (List ℕ)) (key rest : List ℕ) → is_next_key before key ≡ true → fits_length key ≡ true → is_utf8 key ≡ true → key_of before (string 3 key ++ rest) ≡ Ok (key, rest)
key_of-string before key rest next fits utf8 =
    ap (key_of before) (append_assoc (head 3 (length key)) key rest)
    ∙ rw (head_of-head 3 (length key) Rattle.spec.specs.Head.KeyNotText (key ++ rest) (omega arith) (ltb-true _ _ fits), text_of-append (length key) key rest refl utf8, next) refl

mutual
  pub value_at-spelling : (v : Value) (levels : ℕ) (rest : List ℕ) → is_lawful_within levels v ≡ true → value_at levels (spelling v ++ rest) ≡ Ok (v, rest)
  value_at-spelling Null levels rest is = value_at-simple levels rest
  value_at-spelling (Boolean b) levels rest is = value_at-boolean b levels rest
  value_at-spelling (Integer (pos n)) levels rest is =
      let lt = ltb-true n (2 ^ 63) is in value_at-head levels 0 n rest (omega arith) (omega arith) ∙ rw is refl
  value_at-spelling (Integer (negsuc n)) levels rest is =
      let lt = ltb-true n (2 ^ 63) is in value_at-head levels 1 n rest (omega arith) (omega arith) ∙ rw is refl
  value_at-spelling (Bytes bytes) levels rest is = value_at-bytes levels bytes rest is
  value_at-spelling (Text bytes) levels rest is = let b = both (fits_length bytes) (is_utf8 bytes) is in value_at-text levels bytes rest b.0 b.1
  value_at-spelling (Items vs) zero rest is = absurd cc
  value_at-spelling (Items vs) (suc levels) rest is =
      let b = both (ltb (count_values vs) (2 ^ 64)) (are_lawful_within levels vs) is in
      ap (value_at (suc levels)) (append_assoc (head 4 (count_values vs)) (spelling_of_values vs) rest)
      ∙ value_at-head (suc levels) 4 (count_values vs) (spelling_of_values vs ++ rest) (omega arith) (ltb-true _ _ b.0)
      ∙ rw (items_at-spelling vs levels rest b.1) refl
  value_at-spelling (Fields es) zero rest is = absurd cc
  value_at-spelling (Fields es) (suc levels) rest is =
      let b = both (ltb (count_entries es) (2 ^ 64)) (are_entries_within levels None es) is in
      ap (value_at (suc levels)) (append_assoc (head 5 (count_entries es)) (spelling_of_entries es) rest)
      ∙ value_at-head (suc levels) 5 (count_entries es) (spelling_of_entries es ++ rest) (omega arith) (ltb-true _ _ b.0)
      ∙ rw (fields_at-spelling es levels None rest b.1) refl
  value_at-spelling (Link bytes) levels rest is = let b = both (fits_length (0 ∷ bytes)) (is_cid bytes) is in value_at-link levels bytes rest b.0 b.1

  items_at-spelling : (vs : Values) (levels : ℕ) (rest : List ℕ) → are_lawful_within levels vs ≡ true → items_at (value_at levels) (count_values vs) (spelling_of_values vs ++ rest) ≡ Ok (vs, rest)
  items_at-spelling NoValue levels rest is = refl
  items_at-spelling (ValueThen v vs) levels rest is =
      let b = both (is_lawful_within levels v) (are_lawful_within levels vs) is in
      ap (items_at (value_at levels) (suc (count_values vs))) (append_assoc (spelling v) (spelling_of_values vs) rest)
      ∙ rw (value_at-spelling v levels (spelling_of_values vs ++ rest) b.0, items_at-spelling vs levels rest b.1) refl

  fields_at-spelling : (es : Entries) (levels : ℕ) (before : Option (List ℕ)) (rest : List ℕ) → are_entries_within levels before es ≡ true
      → fields_at (value_at levels) before (count_entries es) (spelling_of_entries es ++ rest) ≡ Ok (es, rest)
  fields_at-spelling NoEntry levels before rest is = refl
  fields_at-spelling (EntryThen key v es) levels before rest is =
      let a = both (is_next_key before key && fits_length key && is_utf8 key && is_lawful_within levels v) (are_entries_within levels (Some key) es) is in
      let b = both (is_next_key before key && fits_length key && is_utf8 key) (is_lawful_within levels v) a.0 in
      let c = both (is_next_key before key && fits_length key) (is_utf8 key) b.0 in
      let d = both (is_next_key before key) (fits_length key) c.0 in
      let regrouped : spelling_of_entries (EntryThen key v es) ++ rest ≡ string 3 key ++ (spelling v ++ (spelling_of_entries es ++ rest)) =
      append_assoc (string 3 key ++ spelling v) (spelling_of_entries es) rest ∙ append_assoc (string 3 key) (spelling v) (spelling_of_entries es ++ rest) in
      ap (fields_at (value_at levels) before (suc (count_entries es))) regrouped
      ∙ rw (key_of-string before key (spelling v ++ (spelling_of_entries es ++ rest)) d.0 d.1 c.1, value_at-spelling v levels (spelling_of_entries es ++ rest) b.1, fields_at-spelling es levels (Some key) rest a.1) refl

-- what a lawful value spells is read as that value
pub read-spelling : (v : Value) → is_lawful v ≡ true → read (spelling v) ≡ Ok v
unfolding read
read-spelling v is = ap read (sym (append-nil (spelling v))) ∙ rw (value_at-spelling v 64 [] is) refl

-- no spelling begins another
pub spelling-one_form : (v w : Value) (x y : List ℕ) → is_lawful v ≡ true → is_lawful w ≡ true → spelling v ++ x ≡ spelling w ++ y → (v ≡ w) × (x ≡ y)
spelling-one_form v w x y is_v is_w e =
    let pair : ◌≡◌ {A = Value × List ℕ} (v, x) (w, y) =
    ok_is CborFault (v, x) (w, y) (sym (value_at-spelling v 64 x is_v) ∙ ap (value_at 64) e ∙ value_at-spelling w 64 y is_w) in
    (ap (λ (p : Value × List ℕ). p.0) pair, ap (λ (p : Value × List ℕ). p.1) pair)
