-- What is written of a message is read as that message.
use Rattle.std.proofs.Common.{◌≡◌, ℕ, suc, ◌≤◌, Bool, true, false, cond, ◌&&◌, List, [], ◌∷◌, ◌++◌, length, refl, ap, ◌∙◌, Option, Result, Ok}
use Rattle.std.specs.Prelude.{codes, nat_le, is_some}
use Rattle.std.specs.List.{AllByRecursion}
use Rattle.std.specs.declared.option.Option.TheVariants.{Some, None}
use Rattle.std.specs.Str.{bytes_eq}
use Rattle.std.proofs.lemmas.Bool.{le-leb}
use Rattle.spec.specs.Reading.{◌>>=◌, ensure}
use Rattle.spec.specs.Head.{CborFault}
use Rattle.spec.specs.Cid.{is_own_cid}
use Rattle.spec.specs.DagCbor.{Value, Fields, count_values, read, spelling}
use Rattle.spec.specs.Keys.{is_repository_key}
use Rattle.spec.specs.Stamps.{is_did, is_tid}
use Rattle.spec.proofs.DagCborLaws.{read-spelling}
use Rattle.change_laws.specs.Told.{KeyChange}
use Rattle.event_times.specs.Limits.{most_blocks_bytes, most_message_bytes, most_ops}
use Rattle.event_times.specs.Times.{is_time}
use Rattle.event_laws.specs.Ops.{fields_of_op, text_or_null, values_of_ops}
use Rattle.event_laws.specs.Events.{Event, fields_of_event, header_bytes}
use Rattle.event_laws.specs.Fields.{Commit, PrevData, Since, own_link, some_of, text_in, text_or_null_in}
use Rattle.event_laws.specs.Reading.{BadDid, BadRev, BadTime, BlocksSize, FormFault, MessageSize, Said, TooManyOps, body_of, event_of_fields, event_of_value, event_with, is_named, op_and, op_of, op_with, ops_in, or_cbor, read_event, said_of, said_test, since_test, taken, wanted}
use Rattle.event_reading_laws.specs.Laws.{IsEvent, IsOp, WrittenIsRead}
use Rattle.event_reading_laws.proofs.Lawful.{count-ops, event-lawful, false-true, made}

-- ---- the first value

body-is : (s : List ℕ) → length (header_bytes ++ s) ≤ most_message_bytes → body_of (header_bytes ++ s) ≡ Ok s
unfolding body_of
body-is s h =
    ap (λ (t : Bool). ensure t MessageSize >>= (λ x. Ok s)) (le-leb (length (header_bytes ++ s)) most_message_bytes h)

-- ---- operations

own-read : (c : List ℕ) → is_own_cid c ≡ true → own_link c ≡ Some c
own-read c h = ap (λ (b : Bool). cond b (Some c) None) h

op-if : (t : Bool) (c : KeyChange) → t ≡ true → cond (t && true) (Some c) None ≡ Some c
op-if t c h = ap (λ (b : Bool). cond (b && true) (Some c) None) h

update-differs : (t : Bool) → is_some (cond t None (Some (codes "update"))) ≡ true → t ≡ false
update-differs true h = false-true h
update-differs false h = refl

op-read : (key : List ℕ) (before after : Option (List ℕ)) → IsOp (made key before after)
    → op_of (Fields (fields_of_op (made key before after))) ≡ Some (made key before after)
op-read key None None is = false-true is.op
op-read key None (Some a) is =
    ap (λ (o : Option (List ℕ)). op_with (Some (codes "create")) (Some key) (some_of o) (Some None)) (own-read a is.after)
    ∙ op-if (is_repository_key key) (made key None (Some a)) is.key
op-read key (Some b) None is =
    ap (λ (o : Option (List ℕ)). op_with (Some (codes "delete")) (Some key) (Some None) (some_of o)) (own-read b is.before)
    ∙ op-if (is_repository_key key) (made key (Some b) None) is.key
op-read key (Some b) (Some a) is =
    let differ = update-differs (bytes_eq b a) is.op in
    ap (λ (t : Bool). op_with (text_in (Some (text_or_null (cond t None (Some (codes "update")))))) (Some key) (some_of (own_link a)) (some_of (own_link b))) differ
    ∙ ap (λ (o : Option (List ℕ)). op_with (Some (codes "update")) (Some key) (some_of o) (some_of (own_link b))) (own-read a is.after)
    ∙ ap (λ (o : Option (List ℕ)). op_with (Some (codes "update")) (Some key) (Some (Some a)) (some_of o)) (own-read b is.before)
    ∙ ap (λ (t : Bool). cond (is_repository_key key && is_named (cond t None (Some (codes "update"))) (codes "update")) (Some (made key (Some b) (Some a))) None) differ
    ∙ op-if (is_repository_key key) (made key (Some b) (Some a)) is.key

ops-read : (place : ℕ) (cs : List KeyChange) → AllByRecursion IsOp cs → ops_in place (values_of_ops cs) ≡ Ok cs
ops-read place [] h = refl
ops-read place (c ∷ cs) h =
    ap (λ (o : Option KeyChange). op_and place o (ops_in (suc place) (values_of_ops cs))) (op-read c.key c.before c.after h.0)
    ∙ ap (λ (r : Result (List KeyChange) FormFault). op_and place (Some c) r) (ops-read (suc place) cs h.1)

-- ---- fields

since-read : (o : Option (List ℕ)) → text_or_null_in (Some (text_or_null o)) ≡ Some o
since-read None = refl
since-read (Some t) = refl

abbrev said : Event → Option (List ℕ) → List ℕ → List ℕ → Said
said e since commit before = record {
  items = values_of_ops e.ops;
  rev = e.rev;
  seq = e.seq;
  did = e.did;
  time = e.time;
  since = since;
  blocks = e.blocks;
  commit = commit;
  rebase = false;
  too_big = false;
  before = before;
}

abbrev whole : Event → Said
whole e = said e e.since e.commit e.before

abbrev said-from : Event → Option (Option (List ℕ)) → Option (List ℕ) → Option (List ℕ) → Result Said FormFault
said-from e o c b =
    wanted Since o >>= (λ since. wanted Commit c >>= (λ commit. wanted PrevData b >>= (λ before. Ok (said e since commit before))))

said-is : (e : Event) → IsEvent e → said_of (fields_of_event e) ≡ Ok (whole e)
unfolding said_of taken
said-is e is =
    ap (λ (o : Option (Option (List ℕ))). said-from e o (own_link e.commit) (own_link e.before)) (since-read e.since)
    ∙ ap (λ (c : Option (List ℕ)). said-from e (Some e.since) c (own_link e.before)) (own-read e.commit is.commit)
    ∙ ap (λ (b : Option (List ℕ)). said-from e (Some e.since) (Some e.commit) b) (own-read e.before is.before)

abbrev test-from : Bool → Bool → Bool → Bool → Result (Unit {0}) FormFault → Bool → Result (Unit {0}) FormFault
test-from few small did rev since time =
    ensure few TooManyOps >>= (λ a. ensure small BlocksSize >>= (λ b. ensure did BadDid >>= (λ c. ensure rev BadRev >>= (λ d. since >>= (λ x. ensure time BadTime)))))

few-is : (cs : List KeyChange) → length cs ≤ most_ops → nat_le (count_values (values_of_ops cs)) most_ops ≡ true
few-is cs l = ap (λ (n : ℕ). nat_le n most_ops) (count-ops cs) ∙ le-leb (length cs) most_ops l

test-is : (e : Event) → IsEvent e → said_test (whole e) ≡ Ok tt
unfolding said_test
test-is e is =
    let small = nat_le (length e.blocks) most_blocks_bytes in
    let since = since_test e.since e.rev in
    ap (λ (t : Bool). test-from t small (is_did e.did) (is_tid e.rev) since (is_time e.time)) (few-is e.ops is.few)
    ∙ ap (λ (t : Bool). test-from true t (is_did e.did) (is_tid e.rev) since (is_time e.time)) (le-leb (length e.blocks) most_blocks_bytes is.blocks)
    ∙ ap (λ (t : Bool). test-from true true t (is_tid e.rev) since (is_time e.time)) is.did
    ∙ ap (λ (t : Bool). test-from true true true t since (is_time e.time)) is.rev
    ∙ ap (λ (r : Result (Unit {0}) FormFault). test-from true true true true r (is_time e.time)) is.since
    ∙ ap (λ (t : Bool). ensure t BadTime) is.time

fields-back : (e : Event) → IsEvent e → event_of_fields (fields_of_event e) ≡ Ok e
unfolding event_of_fields
fields-back e is =
    ap (λ (r : Result Said FormFault). r >>= (λ s. said_test s >>= (λ x. ops_in 0 s.items >>= (λ ops. Ok (event_with s ops))))) (said-is e is)
    ∙ ap (λ (r : Result (Unit {0}) FormFault). r >>= (λ x. ops_in 0 (values_of_ops e.ops) >>= (λ ops. Ok (event_with (whole e) ops)))) (test-is e is)
    ∙ ap (λ (r : Result (List KeyChange) FormFault). r >>= (λ ops. Ok (event_with (whole e) ops))) (ops-read 0 e.ops is.ops)

pub written-is_read : WrittenIsRead
unfolding read_event
written-is_read e is =
    let v = Fields (fields_of_event e) in
    ap (λ (r : Result (List ℕ) FormFault). r >>= (λ b. or_cbor (read b) >>= (λ w. event_of_value w))) (body-is (spelling v) is.size)
    ∙ ap (λ (r : Result Value CborFault). or_cbor r >>= (λ w. event_of_value w)) (read-spelling v (event-lawful e is))
    ∙ fields-back e is
