-- Reading of lists and maps item by item, with what was read before.
use Rattle.std.proofs.Common.{◌≡◌, ℕ, zero, suc, ◌+◌, ◌-◌, ◌<◌, List, [], ◌∷◌, ◌++◌, Option, Some, None, Result, Ok, Err, refl, sym, ap, subst, ◌∙◌, arith}
use Rattle.std.specs.Borrow.{Bor}
use Rattle.spec.specs.Reading.{◌>>=◌, Fails, Gives}
use Rattle.spec.specs.Head.{CborFault, head_at, major_of}
use Rattle.spec.specs.DagCbor.{Value as Data, Values, NoValue, ValueThen, Entries, NoEntry, EntryThen, CborReader, key_of, items_at, fields_at, content_of, value_at}
use Rattle.dagcbor.specs.View.{view, view_items, view_fields}
use Rattle.dagcbor.specs.Levels.{within}
use Rattle.dagcbor.specs.declared.value.Value.{Value}

-- ---- a reading goes on after another

pub Fails-then : {X Y F : Type 0} → (o : Option F) (read : Result X F) (next : X → Result Y F) → Fails o read → Fails o (read >>= next)
Fails-then None read next fails = tt
Fails-then (Some f) read next fails = ap (λ r. r >>= next) fails

pub Fails-same : {Y F : Type 0} → (o : Option F) (one other : Result Y F) → one ≡ other → Fails o other → Fails o one
Fails-same None one other e fails = tt
Fails-same (Some f) one other e fails = e ∙ fails

pub value_at-is : (levels : ℕ) (bytes : List ℕ) → value_at levels bytes ≡ (head_at bytes >>= λ h. content_of (within levels) (major_of h.0.0) h.0.1 h.1)
unfolding value_at
value_at-is zero bytes = refl
value_at-is (suc levels) bytes = refl

-- ---- items

abbrev pub values_before : {A : Type 0} → List (Value A) → Values → Values
values_before [] rest = rest
values_before (v ∷ vs) rest = ValueThen (view v) (values_before vs rest)

-- what is read after these
abbrev pub behind_values : {A : Type 0} → List (Value A) → Result (Values × List ℕ) CborFault → Result (Values × List ℕ) CborFault
behind_values vs read = read >>= λ r. Ok (values_before vs r.0, r.1)

values_before-push : {A : Type 0} → (vs : List (Value A)) (v : Value A) (rest : Values) → values_before vs (ValueThen (view v) rest) ≡ values_before (vs ++ v ∷ []) rest
values_before-push [] v rest = refl
values_before-push (w ∷ vs) v rest = ap (ValueThen (view w)) (values_before-push vs v rest)

values_before-end : {A : Type 0} → (vs : List (Value A)) → values_before vs NoValue ≡ view_items vs
values_before-end [] = refl
values_before-end (v ∷ vs) = ap (ValueThen (view v)) (values_before-end vs)

behind_push : {A : Type 0} → (vs : List (Value A)) (v : Value A) (read : Result (Values × List ℕ) CborFault)
    → behind_values vs (read >>= λ r. Ok (ValueThen (view v) r.0, r.1)) ≡ behind_values (vs ++ v ∷ []) read
behind_push vs v (Err e) = refl
behind_push vs v (Ok r) = ap (λ (x : Values). Ok (x, r.1)) (values_before-push vs v r.0)

pub items_more : {A : Type 0} → (p : CborReader Data) (n turn : ℕ) (rest after : List ℕ) (vs : List (Value A)) (v : Value A) → turn < n → p rest ≡ Ok (view v, after)
    → behind_values vs (items_at p (n - turn) rest) ≡ behind_values (vs ++ v ∷ []) (items_at p (n - (turn + 1)) after)
items_more p n turn rest after vs v lt e =
    let left : n - turn ≡ suc (n - (turn + 1)) = omega arith in
    rw (left, e) (behind_push vs v (items_at p (n - (turn + 1)) after))

pub items_end : {A : Type 0} → (p : CborReader Data) (n : ℕ) (rest : List ℕ) (vs : List (Value A)) → behind_values vs (items_at p (n - n) rest) ≡ Ok (view_items vs, rest)
items_end p n rest vs =
    let none : n - n ≡ zero = omega arith in
    rw none (ap (λ (x : Values). Ok (x, rest)) (values_before-end vs))

pub items_fail : {A : Type 0} → (o : Option CborFault) (p : CborReader Data) (n turn : ℕ) (rest : List ℕ) (vs : List (Value A)) → turn < n → Fails o (p rest)
    → Fails o (behind_values vs (items_at p (n - turn) rest))
items_fail o p n turn rest vs lt fails =
    let left : n - turn ≡ suc (n - (turn + 1)) = omega arith in
    Fails-then o (items_at p (n - turn) rest) _ (Fails-same o _ _ (ap (λ (k : ℕ). items_at p k rest) left) (Fails-then o (p rest) _ fails))

-- ---- fields

abbrev pub fields_before : {A : Type 0} → List (Bor (List ℕ) × Value A) → Entries → Entries
fields_before [] rest = rest
fields_before (m ∷ ms) rest = EntryThen m.0.now (view m.1) (fields_before ms rest)

-- what is read after these
abbrev pub behind_fields : {A : Type 0} → List (Bor (List ℕ) × Value A) → Result (Entries × List ℕ) CborFault → Result (Entries × List ℕ) CborFault
behind_fields ms read = read >>= λ r. Ok (fields_before ms r.0, r.1)

fields_before-push : {A : Type 0} → (ms : List (Bor (List ℕ) × Value A)) (m : Bor (List ℕ) × Value A) (rest : Entries)
    → fields_before ms (EntryThen m.0.now (view m.1) rest) ≡ fields_before (ms ++ m ∷ []) rest
fields_before-push [] m rest = refl
fields_before-push (l ∷ ms) m rest = ap (EntryThen l.0.now (view l.1)) (fields_before-push ms m rest)

fields_before-end : {A : Type 0} → (ms : List (Bor (List ℕ) × Value A)) → fields_before ms NoEntry ≡ view_fields ms
fields_before-end [] = refl
fields_before-end (m ∷ ms) = ap (EntryThen m.0.now (view m.1)) (fields_before-end ms)

behind_push_field : {A : Type 0} → (ms : List (Bor (List ℕ) × Value A)) (m : Bor (List ℕ) × Value A) (read : Result (Entries × List ℕ) CborFault)
    → behind_fields ms (read >>= λ r. Ok (EntryThen m.0.now (view m.1) r.0, r.1)) ≡ behind_fields (ms ++ m ∷ []) read
behind_push_field ms m (Err e) = refl
behind_push_field ms m (Ok r) = ap (λ (x : Entries). Ok (x, r.1)) (fields_before-push ms m r.0)

pub fields_more : {A : Type 0} → (p : CborReader Data) (before : Option (List ℕ)) (n turn : ℕ) (rest middle after : List ℕ) (ms : List (Bor (List ℕ) × Value A)) (m : Bor (List ℕ) × Value A)
    → turn < n → key_of before rest ≡ Ok (m.0.now, middle) → p middle ≡ Ok (view m.1, after)
    → behind_fields ms (fields_at p before (n - turn) rest) ≡ behind_fields (ms ++ m ∷ []) (fields_at p (Some m.0.now) (n - (turn + 1)) after)
fields_more p before n turn rest middle after ms m lt key e =
    let left : n - turn ≡ suc (n - (turn + 1)) = omega arith in
    rw (left, key, e) (behind_push_field ms m (fields_at p (Some m.0.now) (n - (turn + 1)) after))

pub fields_end : {A : Type 0} → (p : CborReader Data) (before : Option (List ℕ)) (n : ℕ) (rest : List ℕ) (ms : List (Bor (List ℕ) × Value A))
    → behind_fields ms (fields_at p before (n - n) rest) ≡ Ok (view_fields ms, rest)
fields_end p before n rest ms =
    let none : n - n ≡ zero = omega arith in
    rw none (ap (λ (x : Entries). Ok (x, rest)) (fields_before-end ms))

pub fields_no_key : {A : Type 0} → (o : Option CborFault) (p : CborReader Data) (before : Option (List ℕ)) (n turn : ℕ) (rest : List ℕ) (ms : List (Bor (List ℕ) × Value A))
    → turn < n → Fails o (key_of before rest) → Fails o (behind_fields ms (fields_at p before (n - turn) rest))
fields_no_key o p before n turn rest ms lt fails =
    let left : n - turn ≡ suc (n - (turn + 1)) = omega arith in
    Fails-then o (fields_at p before (n - turn) rest) _ (Fails-same o _ _ (ap (λ (k : ℕ). fields_at p before k rest) left) (Fails-then o (key_of before rest) _ fails))

abbrev with_value : CborReader Data → Option (List ℕ) → ℕ → List ℕ × List ℕ → Result (Entries × List ℕ) CborFault
with_value p before k key = p key.1 >>= λ v. fields_at p (Some key.0) k v.1 >>= λ es. Ok (EntryThen key.0 v.0 es.0, es.1)

pub fields_fail : {A : Type 0} → (o : Option CborFault) (p : CborReader Data) (before : Option (List ℕ)) (n turn : ℕ) (rest middle key : List ℕ) (ms : List (Bor (List ℕ) × Value A))
    → turn < n → key_of before rest ≡ Ok (key, middle) → Fails o (p middle) → Fails o (behind_fields ms (fields_at p before (n - turn) rest))
fields_fail o p before n turn rest middle key ms lt is_key fails =
    let left : n - turn ≡ suc (n - (turn + 1)) = omega arith in
    let go : Result (List ℕ × List ℕ) CborFault → Result (Entries × List ℕ) CborFault = λ r. r >>= with_value p before (n - (turn + 1)) in
    Fails-then o (fields_at p before (n - turn) rest) _ (Fails-same o _ _ (ap (λ (k : ℕ). fields_at p before k rest) left ∙ ap go is_key) (Fails-then o (p middle) _ fails))

-- what is given where a reading fails
pub Gives-at_err : {X Y E F : Type 0} → (view : X → Y) (fault : E → Option F) (e : E) (result : Result X E) (read : Result Y F) → result ≡ Err e → Fails (fault e) read → Gives view fault result read
Gives-at_err view fault e result read is fails = subst (λ r. Gives view fault r read) (sym is) fails

pub Gives-same : {X Y E F : Type 0} → (view : X → Y) (fault : E → Option F) (result : Result X E) (one other : Result Y F) → one ≡ other → Gives view fault result other → Gives view fault result one
Gives-same view fault (Ok x) one other e gives = e ∙ gives
Gives-same view fault (Err f) one other e gives = Fails-same (fault f) one other e gives
