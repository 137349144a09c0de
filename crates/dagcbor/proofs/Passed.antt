-- The bytes after values, item by item, and whether the first value is a map.
use Rattle.std.proofs.Common.{◌≡◌, ℕ, zero, suc, ◌+◌, ◌-◌, ◌<◌, Bool, true, false, List, length, Option, Some, None, Result, Ok, Err, refl, ap, ◌∙◌, arith}
use Rattle.std.specs.Prelude.{◌==◌, ◌^◌, nat_lt, ◌&&◌, drop, slice_index, if◌then◌else◌}
use Rattle.spec.specs.Reading.{◌>>=◌, ensure, front, Fails}
use Rattle.spec.specs.Head.{CborFault, Truncated, BadTag, BadLink, IntegerRange, Trailing, Major, UnsignedInteger, NegativeInteger, ByteString, TextString, Array, Map, Tag, SimpleValue, major_of, head_at}
use Rattle.spec.specs.DagCbor.{Value, Null, Boolean, ValueThen, EntryThen, CborReader, head_of, text_of, key_of, items_at, fields_at, content_of, value_at, read}
use Rattle.spec.specs.Cid.{is_cid}
use Rattle.spec.specs.Writes.{is_map}
use Rattle.dagcbor.specs.Levels.{within}
use Rattle.dagcbor.specs.Passed.{after, is_map_head, spells_map}
use Rattle.dagcbor.proofs.Readings.{Fails-then, Fails-same, value_at-is}

-- ---- the bytes after a reading

pub after-then : {X A : Type 0} → (r : Result X CborFault) (f : X → Result (A × List ℕ) CborFault) → after (r >>= f) ≡ (r >>= λ x. after (f x))
after-then (Err e) f = refl
after-then (Ok x) f = refl

pub after-made : {A B : Type 0} → (r : Result (A × List ℕ) CborFault) (make : A → B) → after (r >>= λ x. Ok (make x.0, x.1)) ≡ after r
after-made (Err e) make = refl
after-made (Ok x) make = refl

pub value-is : (levels : ℕ) (bytes : List ℕ)
    → after (value_at levels bytes) ≡ (head_at bytes >>= λ h. after (content_of (within levels) (major_of h.0.0) h.0.1 h.1))
value-is levels bytes =
    ap after (value_at-is levels bytes) ∙ after-then (head_at bytes) (λ h. content_of (within levels) (major_of h.0.0) h.0.1 h.1)

-- ---- items

behind-value : (p : CborReader Value) (k : ℕ) (r : Result (Value × List ℕ) CborFault)
    → after (r >>= λ v. items_at p k v.1 >>= λ vs. Ok (ValueThen v.0 vs.0, vs.1)) ≡ (after r >>= λ a. after (items_at p k a))
behind-value p k (Err e) = refl
behind-value p k (Ok v) = after-made (items_at p k v.1) (ValueThen v.0)

items-suc : (p : CborReader Value) (n turn : ℕ) (rest : List ℕ) → turn < n
    → after (items_at p (n - turn) rest) ≡ (after (p rest) >>= λ a. after (items_at p (n - (turn + 1)) a))
items-suc p n turn rest lt =
    let left : n - turn ≡ suc (n - (turn + 1)) = omega arith in
    ap (λ (k : ℕ). after (items_at p k rest)) left ∙ behind-value p (n - (turn + 1)) (p rest)

pub items_more : (p : CborReader Value) (n turn : ℕ) (rest behind : List ℕ) → turn < n → after (p rest) ≡ Ok behind
    → after (items_at p (n - turn) rest) ≡ after (items_at p (n - (turn + 1)) behind)
items_more p n turn rest behind lt e = items-suc p n turn rest lt ∙ ap (λ r. r >>= λ a. after (items_at p (n - (turn + 1)) a)) e

pub items_end : (p : CborReader Value) (n : ℕ) (rest : List ℕ) → after (items_at p (n - n) rest) ≡ Ok rest
items_end p n rest = let none : n - n ≡ zero = omega arith in ap (λ (k : ℕ). after (items_at p k rest)) none

pub items_fail : (o : Option CborFault) (p : CborReader Value) (n turn : ℕ) (rest : List ℕ) → turn < n → Fails o (after (p rest))
    → Fails o (after (items_at p (n - turn) rest))
items_fail o p n turn rest lt fails = Fails-same o _ _ (items-suc p n turn rest lt) (Fails-then o (after (p rest)) _ fails)

-- ---- fields

abbrev after_key : CborReader Value → ℕ → List ℕ × List ℕ → Result (List ℕ) CborFault
after_key p k key = after (p key.1) >>= λ a. after (fields_at p (Some key.0) k a)

behind-pair : (p : CborReader Value) (k : ℕ) (key : List ℕ) (r : Result (Value × List ℕ) CborFault)
    → after (r >>= λ v. fields_at p (Some key) k v.1 >>= λ es. Ok (EntryThen key v.0 es.0, es.1)) ≡ (after r >>= λ a. after (fields_at p (Some key) k a))
behind-pair p k key (Err e) = refl
behind-pair p k key (Ok v) = after-made (fields_at p (Some key) k v.1) (EntryThen key v.0)

behind-key : (p : CborReader Value) (k : ℕ) (r : Result (List ℕ × List ℕ) CborFault)
    → after (r >>= λ key. p key.1 >>= λ v. fields_at p (Some key.0) k v.1 >>= λ es. Ok (EntryThen key.0 v.0 es.0, es.1)) ≡ (r >>= after_key p k)
behind-key p k (Err e) = refl
behind-key p k (Ok key) = behind-pair p k key.0 (p key.1)

fields-suc : (p : CborReader Value) (before : Option (List ℕ)) (n turn : ℕ) (rest : List ℕ) → turn < n
    → after (fields_at p before (n - turn) rest) ≡ (key_of before rest >>= after_key p (n - (turn + 1)))
fields-suc p before n turn rest lt =
    let left : n - turn ≡ suc (n - (turn + 1)) = omega arith in
    ap (λ (k : ℕ). after (fields_at p before k rest)) left ∙ behind-key p (n - (turn + 1)) (key_of before rest)

pub fields_key : (p : CborReader Value) (before : Option (List ℕ)) (n turn : ℕ) (rest key middle : List ℕ) → turn < n → key_of before rest ≡ Ok (key, middle)
    → after (fields_at p before (n - turn) rest) ≡ after_key p (n - (turn + 1)) (key, middle)
fields_key p before n turn rest key middle lt is_key =
    fields-suc p before n turn rest lt ∙ ap (λ r. r >>= after_key p (n - (turn + 1))) is_key

pub fields_more : (p : CborReader Value) (before : Option (List ℕ)) (n turn : ℕ) (rest key middle behind : List ℕ)
    → turn < n → key_of before rest ≡ Ok (key, middle) → after (p middle) ≡ Ok behind
    → after (fields_at p before (n - turn) rest) ≡ after (fields_at p (Some key) (n - (turn + 1)) behind)
fields_more p before n turn rest key middle behind lt is_key e =
    fields_key p before n turn rest key middle lt is_key ∙ ap (λ r. r >>= λ a. after (fields_at p (Some key) (n - (turn + 1)) a)) e

pub fields_end : (p : CborReader Value) (before : Option (List ℕ)) (n : ℕ) (rest : List ℕ) → after (fields_at p before (n - n) rest) ≡ Ok rest
fields_end p before n rest = let none : n - n ≡ zero = omega arith in ap (λ (k : ℕ). after (fields_at p before k rest)) none

pub fields_no_key : (o : Option CborFault) (p : CborReader Value) (before : Option (List ℕ)) (n turn : ℕ) (rest : List ℕ) → turn < n → Fails o (key_of before rest)
    → Fails o (after (fields_at p before (n - turn) rest))
fields_no_key o p before n turn rest lt fails = Fails-same o _ _ (fields-suc p before n turn rest lt) (Fails-then o (key_of before rest) _ fails)

pub fields_fail : (o : Option CborFault) (p : CborReader Value) (before : Option (List ℕ)) (n turn : ℕ) (rest key middle : List ℕ)
    → turn < n → key_of before rest ≡ Ok (key, middle) → Fails o (after (p middle)) → Fails o (after (fields_at p before (n - turn) rest))
fields_fail o p before n turn rest key middle lt is_key fails =
    Fails-same o _ _ (fields_key p before n turn rest key middle lt is_key) (Fails-then o (after (p middle)) _ fails)

-- ---- whether a value is a map

-- whether what was read is a map, and the bytes after it
abbrev kind : Result (Value × List ℕ) CborFault → Result (Bool × List ℕ) CborFault
kind read = read >>= λ v. Ok (is_map v.0, v.1)

-- a reading of which it is known whether it gives a map
abbrev IsKind : Bool → Result (Value × List ℕ) CborFault → Type 0
IsKind b read = kind read ≡ (after read >>= λ a. Ok (b, a))

kind-then : {X : Type 0} → (b : Bool) (r : Result X CborFault) (f : X → Result (Value × List ℕ) CborFault) → ((x : X) → IsKind b (f x)) → IsKind b (r >>= f)
kind-then b (Err e) f h = refl
kind-then b (Ok x) f h = h x

no-map : (one other : Bool) → is_map (if one then Boolean false else if other then Boolean true else Null) ≡ false
no-map true other = refl
no-map false true = refl
no-map false false = refl

kinds : (w : Result (CborReader Value) CborFault) (m : Major) (n : ℕ) (bytes : List ℕ) → IsKind (is_map_head m) (content_of w m n bytes)
kinds w UnsignedInteger n bytes = kind-then false (ensure (nat_lt n (2 ^ 63)) IntegerRange) _ (λ t. refl)
kinds w NegativeInteger n bytes = kind-then false (ensure (nat_lt n (2 ^ 63)) IntegerRange) _ (λ t. refl)
kinds w ByteString n bytes = kind-then false (front Truncated n bytes) _ (λ c. refl)
kinds w TextString n bytes = kind-then false (text_of n bytes) _ (λ c. refl)
kinds w Array n bytes = kind-then false w _ (λ p. kind-then false (items_at p n bytes) _ (λ vs. refl))
kinds w Map n bytes = kind-then true w _ (λ p. kind-then true (fields_at p None n bytes) _ (λ es. refl))
kinds w Tag n bytes =
    kind-then false (ensure (n == 42) BadTag) _ λ t. kind-then false (head_of 2 BadLink bytes) _ λ k. kind-then false (front Truncated k.0 k.1) _ λ c.
    kind-then false (ensure (nat_lt 0 (length c.0) && (slice_index c.0 0 == 0) && is_cid (drop 1 c.0)) BadLink) _ λ u. refl
kinds w SimpleValue n bytes = ap (λ (b : Bool). Ok (b, bytes)) (no-map (n == 20) (n == 21))

-- nothing may be left behind the value
abbrev pub ending : Bool × List ℕ → Result Bool CborFault
ending k = ensure (length k.1 == 0) Trailing >>= λ ok. Ok k.0

whole : (v : Value) (ok : Result (Unit {0}) CborFault) → ((ok >>= λ t. Ok v) >>= λ x. Ok (is_map x)) ≡ (ok >>= λ t. Ok (is_map v))
whole v (Err e) = refl
whole v (Ok t) = refl

ends : (r : Result (Value × List ℕ) CborFault)
    → ((r >>= λ v. ensure (length v.1 == 0) Trailing >>= λ ok. Ok v.0) >>= λ x. Ok (is_map x)) ≡ (kind r >>= ending)
ends (Err e) = refl
ends (Ok v) = whole v.0 (ensure (length v.1 == 0) Trailing)

after-ending : (b : Bool) (r : Result (List ℕ) CborFault) → ((r >>= λ a. Ok (b, a)) >>= ending) ≡ (r >>= λ a. ending (b, a))
after-ending b (Err e) = refl
after-ending b (Ok a) = refl

abbrev pub content_at : (ℕ × ℕ) × List ℕ → Result (Value × List ℕ) CborFault
content_at h = content_of (within 64) (major_of h.0.0) h.0.1 h.1

-- behind a head: all of the bytes are to be passed over
abbrev passing : (ℕ × ℕ) × List ℕ → Result Bool CborFault
passing h = after (content_at h) >>= λ a. ending (is_map_head (major_of h.0.0), a)

behind-head : (r : Result ((ℕ × ℕ) × List ℕ) CborFault) → (kind (r >>= content_at) >>= ending) ≡ (r >>= passing)
behind-head (Err e) = refl
behind-head (Ok h) =
    ap (λ k. k >>= ending) (kinds (within 64) (major_of h.0.0) h.0.1 h.1) ∙ after-ending (is_map_head (major_of h.0.0)) (after (content_at h))

spells-is : (bytes : List ℕ) → spells_map bytes ≡ (head_at bytes >>= passing)
unfolding read
spells-is bytes = ends (value_at 64 bytes) ∙ ap (λ r. kind r >>= ending) (value_at-is 64 bytes) ∙ behind-head (head_at bytes)

pub no-head : (o : Option CborFault) (bytes : List ℕ) → Fails o (head_at bytes) → Fails o (spells_map bytes)
no-head o bytes fails = Fails-same o _ _ (spells-is bytes) (Fails-then o (head_at bytes) _ fails)

spells-head : (bytes : List ℕ) (h : (ℕ × ℕ) × List ℕ) → head_at bytes ≡ Ok h → spells_map bytes ≡ passing h
spells-head bytes h e = spells-is bytes ∙ ap (λ r. r >>= passing) e

pub no-content : (o : Option CborFault) (bytes : List ℕ) (h : (ℕ × ℕ) × List ℕ) → head_at bytes ≡ Ok h → Fails o (after (content_at h)) → Fails o (spells_map bytes)
no-content o bytes h e fails = Fails-same o _ _ (spells-head bytes h e) (Fails-then o (after (content_at h)) _ fails)

pub spells : (bytes : List ℕ) (h : (ℕ × ℕ) × List ℕ) (rest : List ℕ) → head_at bytes ≡ Ok h → after (content_at h) ≡ Ok rest
    → spells_map bytes ≡ ending (is_map_head (major_of h.0.0), rest)
spells bytes h rest e f = spells-head bytes h e ∙ ap (λ r. r >>= λ a. ending (is_map_head (major_of h.0.0), a)) f
