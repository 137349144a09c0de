-- A message has a spelling in DAG-CBOR.
use Rattle.std.proofs.Common.{◌≡◌, ℕ, ◌^◌, ◌<◌, ◌≤◌, Bool, true, false, cond, List, [], ◌∷◌, length, refl, ap, suc, Option, Ok, arith}
use Rattle.std.specs.Prelude.{codes, pos}
use Rattle.std.specs.List.{AllByRecursion}
use Rattle.std.specs.declared.option.Option.TheVariants.{Some, None}
use Rattle.std.specs.Str.{is_utf8, chars, bytes_eq}
use Rattle.std.specs.Char.{encode_utf8}
use Rattle.std.proofs.lemmas.Bool.{lt-ltb}
use Rattle.spec.specs.DagCbor.{Fields, Integer, Items, Link, Text, are_lawful_within, count_values, fits_length, is_lawful, is_lawful_within}
use Rattle.spec.specs.Stamps.{is_tid}
use Rattle.spec.proofs.Bools.{and}
use Rattle.spec.proofs.NodeValues.{lawful-link}
use Rattle.spec.proofs.Taking.{ensure_ok}
use Rattle.spec.proofs.CommitLaws.{did-lawful, rev-lawful}
use Rattle.change_laws.specs.Told.{KeyChange}
use Rattle.event_laws.specs.Ops.{fields_of_op, text_or_null, values_of_ops}
use Rattle.event_laws.specs.Events.{Event, fields_of_event}
use Rattle.event_laws.specs.Reading.{BadSince, since_test}
use Rattle.event_reading_laws.specs.Laws.{IsEvent, IsOp}
use Rattle.event_reading_laws.proofs.Texts.{path-lawful, time-lawful}

pub count-ops : (cs : List KeyChange) → count_values (values_of_ops cs) ≡ length cs
count-ops [] = refl
count-ops (c ∷ cs) = ap suc (count-ops cs)

pub false-true : {A : Type 0} → false ≡ true → A
false-true e = absurd cc

abbrev pub made : List ℕ → Option (List ℕ) → Option (List ℕ) → KeyChange
made key before after = record { key = key; before = before; after = after }

update-lawful : (t : Bool) → is_lawful_within 61 (text_or_null (cond t None (Some (codes "update")))) ≡ true
unfolding is_utf8 chars encode_utf8
update-lawful true = refl
update-lawful false = refl

op-lawful : (key : List ℕ) (before after : Option (List ℕ)) → IsOp (made key before after)
    → is_lawful_within 62 (Fields (fields_of_op (made key before after))) ≡ true
unfolding is_utf8 chars encode_utf8
op-lawful key None None is = false-true is.op
op-lawful key None (Some a) is =
    and (is_lawful_within 61 (Link a)) _ (lawful-link 61 a is.after)
    (and (is_lawful_within 61 (Text key)) _ (path-lawful 61 key is.key) refl)
op-lawful key (Some b) None is =
    and (is_lawful_within 61 (Text key)) _ (path-lawful 61 key is.key)
    (and (is_lawful_within 61 (Link b)) _ (lawful-link 61 b is.before) refl)
op-lawful key (Some b) (Some a) is =
    and (is_lawful_within 61 (Link a)) _ (lawful-link 61 a is.after)
    (and (is_lawful_within 61 (Text key)) _ (path-lawful 61 key is.key)
    (and (is_lawful_within 61 (Link b)) _ (lawful-link 61 b is.before)
    (and (is_lawful_within 61 (text_or_null (cond (bytes_eq b a) None (Some (codes "update"))))) _ (update-lawful (bytes_eq b a)) refl)))

ops-lawful : (cs : List KeyChange) → AllByRecursion IsOp cs → are_lawful_within 62 (values_of_ops cs) ≡ true
ops-lawful [] h = refl
ops-lawful (c ∷ cs) h =
    and (is_lawful_within 62 (Fields (fields_of_op c))) (are_lawful_within 62 (values_of_ops cs))
    (op-lawful c.key c.before c.after h.0) (ops-lawful cs h.1)

since-lawful : (o : Option (List ℕ)) (rev : List ℕ) → since_test o rev ≡ Ok tt → is_lawful_within 63 (text_or_null o) ≡ true
since-lawful None rev e = refl
since-lawful (Some s) rev e = rev-lawful s (ensure_ok (is_tid s) BadSince _ tt e).0

count-small : (n m : ℕ) → n ≡ m → m ≤ 200 → n < 2 ^ 64
count-small n m e l = omega arith

pub event-lawful : (e : Event) → IsEvent e → is_lawful (Fields (fields_of_event e)) ≡ true
unfolding is_utf8 chars encode_utf8
event-lawful e is =
    let items = values_of_ops e.ops in
    let few = lt-ltb (count_values items) (2 ^ 64) (count-small (count_values items) (length e.ops) (count-ops e.ops) is.few) in
    let long : length e.blocks < 2 ^ 64 = omega (arith, is.blocks) in
    and (is_lawful_within 63 (Items items)) _ (and _ (are_lawful_within 62 items) few (ops-lawful e.ops is.ops))
    (and (is_lawful_within 63 (Text e.rev)) _ (rev-lawful e.rev is.rev)
    (and (is_lawful_within 63 (Integer (pos e.seq))) _ (lt-ltb e.seq (2 ^ 63) is.seq)
    (and (is_lawful_within 63 (Text e.did)) _ (did-lawful e.did is.did)
    (and (is_lawful_within 63 (Text e.time)) _ (time-lawful e.time is.time)
    (and (is_lawful_within 63 (text_or_null e.since)) _ (since-lawful e.since e.rev is.since)
    (and (fits_length e.blocks) _ (lt-ltb (length e.blocks) (2 ^ 64) long)
    (and (is_lawful_within 63 (Link e.commit)) _ (lawful-link 63 e.commit is.commit)
    (and (is_lawful_within 63 (Link e.before)) _ (lawful-link 63 e.before is.before) refl))))))))
