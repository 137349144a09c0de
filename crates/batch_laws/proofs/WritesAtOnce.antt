-- The writes of a batch, collected as changes.
use Rattle.std.proofs.Common.{◌≡◌, ℕ, ◌+◌, Bool, true, false, cond, not, List, [], ◌∷◌, ◌++◌, refl, sym, ap, ◌∙◌, Option, Result, Ok, fold}
use Rattle.std.specs.Prelude.{nat_lt, is_some}
use Rattle.std.specs.List.{AllByRecursion}
use Rattle.std.specs.Str.{bytes_eq}
use Rattle.std.specs.Cmp.Lexicographic.{slice_cmp}
use Rattle.std.specs.Ordering.{nat_cmp, is_eq, ordering_reverse}
use Rattle.std.specs.FinMap.{slice_cmp-IsAntisymmetric, nat_cmp-IsAntisymmetric}
use Rattle.std.specs.FinMap.Entries.{find-put, find-where_key}
use Rattle.std.specs.declared.option.Option.TheVariants.{Some, None}
use Rattle.std.specs.declared.cmp.Ordering.{Ordering}
use Rattle.std.specs.declared.cmp.Ordering.TheVariants.{Less, Equal, Greater}
use Rattle.std.proofs.lemmas.Cmp.{nat_list_cmp_total}
use Rattle.std.proofs.lemmas.Map.Text.{is_eq-slice_cmp}
use Rattle.spec.specs.Reading.{◌>>=◌, ensure}
use Rattle.spec.specs.Keys.{is_repository_key}
use Rattle.spec.specs.NodeFormat.{is_key}
use Rattle.spec.specs.Tree.{Pair}
use Rattle.spec.specs.Blocks.{pairs, value_of}
use Rattle.spec.specs.Writes.{Write, Put, Create, Update, Delete, WriteFault, WritesFull, BadKey, key_of, record_of}
use Rattle.spec.specs.Writes.{with_or_without, after_write, has_key, test_when, write_test, limited_test, at_number}
use Rattle.spec.specs.Writes.{leaves, batch_test_from}
use Rattle.spec.proofs.Taking.{bind_ok}
use Rattle.spec.proofs.RecordPairs.{value-record, repository-key}
use Rattle.edit_laws.specs.Order.{order, if_equal}
use Rattle.edit_laws.specs.Pairs.{Ascending}
use Rattle.edit_laws.proofs.Orders.{order-equal, order-is}
use Rattle.edit_laws.proofs.RecordMaps.{ascending-sorted, put-is, delete-is}
use Rattle.batch_laws.specs.Batch.{Change, if_same, at_key, changed, change_by, one_by_one, AreAscending, AreKeyed}
use Rattle.batch_laws.specs.Batch.{change_first, with_change}
use Rattle.batch_laws.specs.Collecting.{after_writes, change_of, with_write, collected, with_cids, value_after, there_after}
use Rattle.batch_laws.specs.Collecting.{HaveKeys}
use Rattle.batch_laws.specs.Laws.Collecting.{WritesAreCollected, KeyIsKnown, TestIsByChanges, ValueIsChanged}
use Rattle.batch_laws.specs.Laws.Collecting.{OneMoreCollected, CollectedAreKeyed, OneMoreKeyed, PassedHaveKeys}
use Rattle.batch_laws.proofs.Changing.{changed-none}
use Rattle.batch_laws.proofs.OneByOne.{changed-one_by_one, later-at, later-same}
use Rattle.batch_laws.proofs.Collected.{collected-goes_on, ascending-change, ascending-changed, ascending-with}
use Rattle.batch_laws.proofs.RecordChanges.{cids-with, keys-cids, ascending-cids, ascending-pairs, own-cids, pairs-changed}

-- ---- writes one after another, and their changes at once

write-is : (m : List Pair) (key : List ℕ) (o : Option (List ℕ)) → Ascending m
    → with_or_without m key o ≡ change_by key o m
write-is m key None s = delete-is key m s
write-is m key (Some bytes) s = put-is (key, bytes) m

-- from changes on that were collected before
record IsAtOnce (cs : List Change) (m : List Pair) (ws : List Write) : Type 0 where
  ascending : AreAscending (fold with_write cs ws)
  same : after_writes (changed cs m) ws ≡ changed (fold with_write cs ws) m

at-once : (cs : List Change) (m : List Pair) (ws : List Write) → AreAscending cs → Ascending m → IsAtOnce cs m ws
at-once cs m [] a s = record { ascending = a; same = refl }
at-once cs m (w ∷ ws) a s =
    let more = collected-goes_on (change_of w) cs m a s in
    let e = write-is (changed cs m) (key_of w) (record_of w) (ascending-changed cs m a s) ∙ sym more.1 in
    let i = at-once (with_write cs w) m ws more.0 s in
    record { ascending = i.ascending; same = ap (λ n. after_writes n ws) e ∙ i.same }

pub writes-are_collected : WritesAreCollected
writes-are_collected digest m ws sorted =
    let i = at-once [] m ws tt (ascending-sorted m sorted) in
    let e = ap (λ n. after_writes n ws) (sym (changed-none m)) ∙ i.same in
    record {
      ascending = i.ascending;
      records_are = e;
      pairs_are = ap (pairs digest) e ∙ pairs-changed digest (collected ws) m i.ascending;
    }

-- ---- the value of a key after changes

pub key-tie : (key k : List ℕ) → slice_cmp nat_cmp key k ≡ ordering_reverse (order k key)
key-tie key k = nat_list_cmp_total.antisymm key k ∙ ap ordering_reverse (order-is k key)

put-tie : (o : Ordering) (v : List ℕ) (before : Option (List ℕ))
    → cond (is_eq (ordering_reverse o)) (Some v) before ≡ if_equal o (Some v) before
put-tie Less v before = refl
put-tie Equal v before = refl
put-tie Greater v before = refl

delete-tie : (o : Ordering) (before : Option (List ℕ)) → cond (not (is_eq o)) before None ≡ if_equal o None before
delete-tie Less before = refl
delete-tie Equal before = refl
delete-tie Greater before = refl

pub find-change : (key k : List ℕ) (v : Option (List ℕ)) (es : List Pair) → Ascending es
    → value_of key (change_by k v es) ≡ if_equal (order k key) v (value_of key es)
find-change key k None es s =
    ap (value_of key) (sym (delete-is k es s))
    ∙ find-where_key (slice_cmp nat_cmp) (λ x. not (bytes_eq k x)) key
    (λ x e. ap (λ (y : List ℕ). not (bytes_eq k y)) (sym (slice_cmp-IsAntisymmetric nat_cmp-IsAntisymmetric key x e))) es
    ∙ ap (λ (t : Bool). cond (not t) (value_of key es) None) (sym (is_eq-slice_cmp k key) ∙ ap is_eq (order-is k key))
    ∙ delete-tie (order k key) (value_of key es)
find-change key k (Some v) es s =
    ap (value_of key) (sym (put-is (k, v) es))
    ∙ find-put (slice_cmp nat_cmp) nat_list_cmp_total key k v es
    ∙ ap (λ (o : Ordering). cond (is_eq o) (Some v) (value_of key es)) (key-tie key k)
    ∙ put-tie (order k key) v (value_of key es)

value-case : (o : Ordering) (c : Change) (later : Option (Option (List ℕ))) (before : Option (List ℕ))
    → (o ≡ Equal → later ≡ None)
    → value_after later (if_equal o c.1 before) ≡ value_after (if_same o c later) before
value-case Less c later before none = refl
value-case Equal c later before none = rw (none refl) refl
value-case Greater c later before none = refl

find-one_by_one : (key : List ℕ) (cs : List Change) (es : List Pair) → AreAscending cs → Ascending es
    → value_of key (one_by_one cs es) ≡ value_after (at_key key cs) (value_of key es)
find-one_by_one key [] es a s = refl
find-one_by_one key (c ∷ cs) es a s =
    find-one_by_one key cs (change_by c.0 c.1 es) a.1 (ascending-change c.0 c.1 es s)
    ∙ ap (value_after (at_key key cs)) (find-change key c.0 c.1 es s)
    ∙ value-case (order c.0 key) c (at_key key cs) (value_of key es)
    (λ q. later-at key cs (later-same key c.0 cs (sym (order-equal c.0 key q)) a.0))

pub find-changed : (key : List ℕ) (cs : List Change) (es : List Pair) → AreAscending cs → Ascending es
    → value_of key (changed cs es) ≡ value_after (at_key key cs) (value_of key es)
find-changed key cs es a s = ap (value_of key) (changed-one_by_one cs es a) ∙ find-one_by_one key cs es a s

pub value-is_changed : ValueIsChanged
value-is_changed key cs es a sorted = find-changed key cs es a (ascending-sorted es sorted)

-- ---- what is known on the way

there-is : (said : Option (Option (List ℕ))) (before : Option (List ℕ))
    → is_some (value_after said before) ≡ there_after said (is_some before)
there-is None before = refl
there-is (Some value) before = refl

pub key-is_known : KeyIsKnown
key-is_known digest m ws key sorted =
    let all = writes-are_collected digest m ws sorted in
    let cs = collected ws in
    let s = ascending-sorted m sorted in
    let found = ap (value_of key) all.records_are ∙ find-changed key cs m all.ascending s in
    let valued = ap (value_of key) all.pairs_are
    ∙ find-changed key (with_cids digest cs) (pairs digest m) (ascending-cids digest cs all.ascending)
    (ascending-pairs digest m s) in
    record {
      record_is = found;
      value_is = valued;
      there = ap is_some found ∙ there-is (at_key key cs) (value_of key m)
          ∙ ap (there_after (at_key key cs)) (value-record digest m key).1;
      there_by_cids = (value-record digest (after_writes m ws) key).1 ∙ ap is_some valued
          ∙ there-is (at_key key (with_cids digest cs)) (value_of key (pairs digest m));
    }

pub test-is_by_changes : TestIsByChanges
test-is_by_changes digest m ws w sorted =
    ap (λ t. test_when t w) (key-is_known digest m ws (key_of w) sorted).there_by_cids

-- ---- one more write

collect-append : (cs : List Change) (ws : List Write) (w : Write)
    → fold with_write cs (ws ++ w ∷ []) ≡ with_write (fold with_write cs ws) w
collect-append cs [] w = refl
collect-append cs (x ∷ ws) w = collect-append (with_write cs x) ws w

pub one_more-collected : OneMoreCollected
one_more-collected digest ws w =
    let e = collect-append [] ws w in
    (e, ap (with_cids digest) e ∙ cids-with digest (change_of w) (collected ws))

-- ---- keys

keys-case : (P : List ℕ → Type 0) (c d : Change) (ds tail : List Change) (o : Ordering) → P c.0
    → AllByRecursion (λ x. P x.0) (d ∷ ds) → AllByRecursion (λ x. P x.0) tail
    → AllByRecursion (λ x. P x.0) (change_first o c d ds tail)
keys-case P c d ds tail Less p h t = (h.0, t)
keys-case P c d ds tail Equal p h t = (p, h.1)
keys-case P c d ds tail Greater p h t = (p, h)

keys-with : (P : List ℕ → Type 0) (c : Change) (cs : List Change) → P c.0 → AllByRecursion (λ x. P x.0) cs
    → AllByRecursion (λ x. P x.0) (with_change c cs)
keys-with P c [] p h = (p, tt)
keys-with P c (d ∷ ds) p h = keys-case P c d ds (with_change c ds) (order d.0 c.0) p h (keys-with P c ds p h.1)

pub one_more-keyed : OneMoreKeyed
one_more-keyed c cs key is = record {
  ascending = ascending-with c cs is.ascending;
  keys = keys-with (λ k. is_key k ≡ true) c cs key is.keys;
}

keyed-from : (cs : List Change) (ws : List Write) → AreKeyed cs → HaveKeys ws → AreKeyed (fold with_write cs ws)
keyed-from cs [] is h = is
keyed-from cs (w ∷ ws) is h = keyed-from (with_write cs w) ws (one_more-keyed (change_of w) cs h.0 is) h.1

pub collected-are_keyed : CollectedAreKeyed
collected-are_keyed digest fits ws h =
    let is = keyed-from [] ws (record { ascending = tt; keys = tt }) h in (
      record {
        ascending = ascending-cids digest (collected ws) is.ascending;
        keys = keys-cids digest (λ k. is_key k ≡ true) (collected ws) is.keys;
      },
      own-cids digest fits (collected ws),
    )

-- ---- keys of writes that pass

module _ (number : ℕ) (u : Unit {0}) where
  abbrev Passes : Result (Unit {0}) WriteFault → Type 0
  Passes r = at_number number r ≡ Ok u

  by-key : (t : Bool) (further : Unit {0} → Result (Unit {0}) WriteFault) → Passes (ensure t BadKey >>= further)
      → t ≡ true
  by-key true further e = refl
  by-key false further e = absurd cc

  tested-key : (there : Bool) (w : Write) → Passes (test_when there w) → is_repository_key (key_of w) ≡ true
  tested-key there (Put key bytes) e = by-key (is_repository_key key) _ e
  tested-key there (Create key bytes) e = by-key (is_repository_key key) _ e
  tested-key there (Update key bytes) e = by-key (is_repository_key key) _ e
  tested-key there (Delete key) e = by-key (is_repository_key key) _ e

  by-room : (t : Bool) (m : List Pair) (w : Write) → Passes (ensure t WritesFull >>= λ (ok : Unit {0}). write_test m w)
      → is_repository_key (key_of w) ≡ true
  by-room true m w e = tested-key (has_key m (key_of w)) w e
  by-room false m w e = absurd cc

passed-from : (number limit count : ℕ) (m : List Pair) (ws : List Write)
    → batch_test_from number limit count m ws ≡ Ok tt → HaveKeys ws
passed-from number limit count m [] h = tt
passed-from number limit count m (w ∷ ws) h =
    let p = bind_ok (at_number number (limited_test limit count m w))
    (λ ok. batch_test_from (number + 1) limit (count + 1) (after_write m w) ws) tt h in (
      repository-key (key_of w) (by-room number p.0 (nat_lt count limit) m w p.1),
      passed-from (number + 1) limit (count + 1) (after_write m w) ws p.2,
    )

pub passed-have_keys : PassedHaveKeys
passed-have_keys limit accepted batch h = passed-from 0 limit _ (leaves accepted) batch h
