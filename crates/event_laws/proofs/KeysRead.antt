-- The operations of a message that was read have keys of records.
use Rattle.std.proofs.Common.{◌≡◌, ℕ, suc, Bool, true, false, cond, List, [], ◌∷◌, refl, subst, Option, Result, Ok}
use Rattle.std.specs.Prelude.{◌&&◌, codes}
use Rattle.std.specs.List.{AllByRecursion}
use Rattle.std.specs.declared.option.Option.TheVariants.{Some, None}
use Rattle.spec.specs.Keys.{is_repository_key}
use Rattle.spec.specs.NodeFormat.{is_key}
use Rattle.spec.specs.DagCbor.{Value, Null, Boolean, Integer, Bytes, Text, Items, Fields, Link, Values, NoValue, ValueThen, Entries, read}
use Rattle.spec.proofs.Taking.{bind_ok}
use Rattle.spec.proofs.RecordPairs.{repository-key}
use Rattle.change_laws.specs.Told.{KeyChange}
use Rattle.event_laws.specs.Ops.{action_of}
use Rattle.event_laws.specs.Events.{Event}
use Rattle.event_laws.specs.Fields.{field, text_in, link_or_absent_in, link_or_null_in}
use Rattle.event_laws.specs.Reading.{FormFault, body_of, event_of_fields, event_of_value, event_with, is_named, op_and, op_if, op_of, op_with, ops_in, or_cbor, read_event, said_of, said_test}

abbrev pub HasKey : KeyChange → Type 0
HasKey c = is_key c.key ≡ true

some-same : {A : Type 0} (x y : A) → ◌≡◌ {A = Option A} (Some x) (Some y) → x ≡ y
some-same x y e = cc

ok-same : {E A : Type 0} (x y : A) → ◌≡◌ {A = Result A E} (Ok x) (Ok y) → x ≡ y
ok-same x y e = cc

key-test : (b c : Bool) (op got : KeyChange) → is_repository_key op.key ≡ b → cond (b && c) (Some op) None ≡ Some got → HasKey got
key-test true true op got q e = subst HasKey (some-same op got e) (repository-key op.key q)
key-test true false op got q e = absurd cc
key-test false c op got q e = absurd cc

key-if : (action : List ℕ) (op got : KeyChange) → op_if action op ≡ Some got → HasKey got
key-if action op got e =
    key-test (is_repository_key op.key) (is_named (action_of op.before op.after) action) op got refl e

key-with : (action key : Option (List ℕ)) (after before : Option (Option (List ℕ))) (got : KeyChange)
    → op_with action key after before ≡ Some got → HasKey got
key-with None key after before got e = absurd cc
key-with (Some action) None after before got e = absurd cc
key-with (Some action) (Some key) None before got e = absurd cc
key-with (Some action) (Some key) (Some after) None got e = absurd cc
key-with (Some action) (Some key) (Some after) (Some before) got e =
    key-if action (record { key = key; before = before; after = after }) got e

key-op : (v : Value) (got : KeyChange) → op_of v ≡ Some got → HasKey got
key-op Null got e = absurd cc
key-op (Boolean b) got e = absurd cc
key-op (Integer z) got e = absurd cc
key-op (Bytes b) got e = absurd cc
key-op (Text t) got e = absurd cc
key-op (Items vs) got e = absurd cc
key-op (Fields es) got e =
    key-with (text_in (field (codes "action") es)) (text_in (field (codes "path") es))
    (link_or_null_in (field (codes "cid") es)) (link_or_absent_in (field (codes "prev") es)) got e
key-op (Link c) got e = absurd cc

keys-and : (place : ℕ) (o : Option KeyChange) (more : Result (List KeyChange) FormFault) (ops : List KeyChange)
    → ((op : KeyChange) → o ≡ Some op → HasKey op)
    → ((rest : List KeyChange) → more ≡ Ok rest → AllByRecursion HasKey rest) → op_and place o more ≡ Ok ops
    → AllByRecursion HasKey ops
keys-and place None more ops first others e = absurd cc
keys-and place (Some op) more ops first others e =
    let b = bind_ok more _ ops e in
    subst (AllByRecursion HasKey) (ok-same (op ∷ b.0) ops b.2) (first op refl, others b.0 b.1)

keys-ops : (place : ℕ) (vs : Values) (ops : List KeyChange) → ops_in place vs ≡ Ok ops → AllByRecursion HasKey ops
keys-ops place NoValue ops e = subst (AllByRecursion HasKey) (ok-same [] ops e) tt
keys-ops place (ValueThen v vs) ops e =
    keys-and place (op_of v) (ops_in (suc place) vs) ops (key-op v) (keys-ops (suc place) vs) e

keys-fields : (es : Entries) (x : Event) → event_of_fields es ≡ Ok x → AllByRecursion HasKey x.ops
unfolding event_of_fields
keys-fields es x e =
    let s = bind_ok (said_of es) _ x e in
    let t = bind_ok (said_test s.0) _ x s.2 in
    let o = bind_ok (ops_in 0 s.0.items) _ x t.2 in
    subst (λ (y : Event). AllByRecursion HasKey y.ops) (ok-same (event_with s.0 o.0) x o.2)
    (keys-ops 0 s.0.items o.0 o.1)

keys-value : (v : Value) (x : Event) → event_of_value v ≡ Ok x → AllByRecursion HasKey x.ops
keys-value Null x e = absurd cc
keys-value (Boolean b) x e = absurd cc
keys-value (Integer z) x e = absurd cc
keys-value (Bytes b) x e = absurd cc
keys-value (Text t) x e = absurd cc
keys-value (Items vs) x e = absurd cc
keys-value (Fields es) x e = keys-fields es x e
keys-value (Link c) x e = absurd cc

pub keys-read : (bytes : List ℕ) (x : Event) → read_event bytes ≡ Ok x → AllByRecursion HasKey x.ops
unfolding read_event
keys-read bytes x e =
    let a = bind_ok (body_of bytes) _ x e in
    let v = bind_ok (or_cbor (read a.0)) _ x a.2 in
    keys-value v.0 x v.2
