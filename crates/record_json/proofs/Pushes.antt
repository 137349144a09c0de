-- What is put piece by piece, and the way to the first fault.
use Rattle.std.proofs.Common.{◌≡◌, ℕ, zero, suc, ◌+◌, ◌-◌, ◌<◌, ◌≤◌, Bool, true, false, List, [], ◌∷◌, ◌++◌, append_assoc, length, map, drop, get_or, Option, Some, None, Result, Ok, Err, IsPermutation, refl, sym, ap, subst, ◌∙◌, arith, rules}
use Rattle.std.specs.Borrow.{Bor}
use Rattle.std.specs.Ordering.{is_lt}
use Rattle.std.specs.List.Sorted.{IsSortedBy}
use Rattle.std.proofs.lemmas.List.{length-map, append-nil, at_drop_more, at_drop_all}
use Rattle.std.proofs.lemmas.List.Sorted.{IsPermutation-map}
use Rattle.spec.specs.Reading.{◌>>=◌, Fails}
use Rattle.spec.specs.Head.{head}
use Rattle.spec.specs.DagCbor.{Value, Items, Fields, Values, NoValue, ValueThen, Entries, NoEntry, EntryThen, count_values, count_entries, string, spelling, spelling_of_values, spelling_of_entries}
use Rattle.json.specs.Json as json
use Rattle.json.specs.Value.{value_view, items_view, members_view}
use Rattle.json.specs.declared.value.Value.{Value as JsonValue, Null as NullValue, Bool as BoolValue, Number as NumberValue, String as StringValue, the_lemmas}
use Rattle.record_json.specs.KeyOrder.{key_cmp, in_order, keys_of, doubled_key}
use Rattle.record_json.specs.Reading.{Kind, Fault, DoubledKey, TooDeep, at_key, at_place, here, below, has_reserved, special_of, members_list, object_of, entries_of, value_at, values_from, members_at}
use Rattle.record_json.specs.Kinds.{kind_of}
use Rattle.record_json.specs.Puts.{Puts, FailsAt, PutsAt}
use Rattle.record_json.specs.declared.fault.JsonFaultKind.{JsonFaultKind}
use Rattle.record_json.specs.declared.fault.JsonFaultKind.TheVariants as kinds
use Rattle.record_json.proofs.KeyOrders.{AreInOrder, AreInOrder-sorted, same_keys_in_order, one_order, in_order-map}

abbrev Done : Type 0
Done = Result (Unit {0}) JsonFaultKind

-- ---- a reading goes on after another

pub bind-ok : {E A B : Type 0} → (r : Result A E) (f : A → Result B E) (b : B) → (r >>= f) ≡ Ok b → (a : A) × (r ≡ Ok a) × (f a ≡ Ok b)
bind-ok (Ok a) f b e = (a, refl, e)
bind-ok (Err x) f b e = absurd cc

pub FailsAt-then : {X Y : Type 0} → (o : Option Kind) (before after : List ℕ) (read : Result X Fault) (next : X → Result Y Fault) → FailsAt o before after read → FailsAt o before after (read >>= next)
FailsAt-then None before after read next f = tt
FailsAt-then (Some k) before after read next f = (f.0, ap (λ r. r >>= next) f.1, f.2)

pub FailsAt-same : {X : Type 0} → (o : Option Kind) (before after : List ℕ) (one other : Result X Fault) → one ≡ other → FailsAt o before after other → FailsAt o before after one
FailsAt-same None before after one other e f = tt
FailsAt-same (Some k) before after one other e f = (f.0, e ∙ f.1, f.2)

pub FailsAt-here : {X : Type 0} → (o : Option Kind) (before : List ℕ) (read : Result X Kind) → Fails o read → FailsAt o before before (here read)
FailsAt-here None before read f = tt
FailsAt-here (Some k) before read f = ([], ap here f, refl)

pub FailsAt-below : {X : Type 0} → (o : Option Kind) (before middle after step : List ℕ) (read : Result X Fault) → after ≡ step ++ middle → FailsAt o before middle read → FailsAt o before after (below step read)
FailsAt-below None before middle after step read e f = tt
FailsAt-below (Some k) before middle after step read e f = (step ++ f.0, ap (below step) f.1, e ∙ ap (λ w. step ++ w) f.2 ∙ sym (append_assoc step f.0 before))

pub PutsAt-same : {X : Type 0} → (spelled : X → List ℕ) (r : Done) (old new before after : List ℕ) (one other : Result X Fault) → one ≡ other → PutsAt spelled r old new before after other → PutsAt spelled r old new before after one
PutsAt-same spelled (Ok done) old new before after one other e p = (p.0, e ∙ p.1, p.2, p.3)
PutsAt-same spelled (Err k) old new before after one other e p = FailsAt-same (kind_of k) before after one other e p

pub PutsAt-here : (r : Done) (old new before : List ℕ) (read : Result Value Kind) → Puts r old new read → PutsAt spelling r old new before before (here read)
PutsAt-here (Ok done) old new before read p = (p.0, ap here p.1, p.2, refl)
PutsAt-here (Err k) old new before read p = FailsAt-here (kind_of k) before read p

pub PutsAt-fails : {X : Type 0} → (spelled : X → List ℕ) (r : Done) (k : JsonFaultKind) (old new before after : List ℕ) (read : Result X Fault) → r ≡ Err k → FailsAt (kind_of k) before after read → PutsAt spelled r old new before after read
PutsAt-fails spelled r k old new before after read e f = subst (λ d. PutsAt spelled d old new before after read) (sym e) f

pub Puts-same : (r : Done) (old new : List ℕ) (one other : Result Value Kind) → one ≡ other → Puts r old new other → Puts r old new one
Puts-same (Ok done) old new one other e p = (p.0, e ∙ p.1, p.2)
Puts-same (Err k) old new one other e p = by_case (kind_of k) p
  where
    by_case : (o : Option Kind) → Fails o other → Fails o one
    by_case None f = tt
    by_case (Some x) f = e ∙ f

-- memory was refused
pub PutsAt-refused : {X : Type 0} → (spelled : X → List ℕ) (r : Done) (old new before after : List ℕ) (read : Result X Fault) → r ≡ Err kinds.NoMemory → PutsAt spelled r old new before after read
PutsAt-refused spelled r old new before after read e = PutsAt-fails spelled r kinds.NoMemory old new before after read e tt

pub Puts-fails : (r : Done) (k : JsonFaultKind) (old new : List ℕ) (read : Result Value Kind) → r ≡ Err k → Fails (kind_of k) read → Puts r old new read
Puts-fails r k old new read e f = subst (λ d. Puts d old new read) (sym e) f

pub PutsAt-value : (v : Value) (old new before : List ℕ) (read : Result Value Fault) → read ≡ Ok v → new ≡ old ++ spelling v → PutsAt spelling (Ok tt) old new before before read
PutsAt-value v old new before read e wrote = (v, e, wrote, refl)

pub Puts-refused : (r : Done) (old new : List ℕ) (read : Result Value Kind) → r ≡ Err kinds.NoMemory → Puts r old new read
Puts-refused r old new read e = Puts-fails r kinds.NoMemory old new read e tt

-- ---- trees, as they are seen

pub view-Null : (A : Type 0) → value_view {A = A} NullValue ≡ json.null
view-Null A = search (rules, the_lemmas)

pub view-Bool : (A : Type 0) → (b : Bool) → value_view {A = A} (BoolValue b) ≡ json.boolean b
view-Bool A b = search (rules, the_lemmas)

pub view-Number : (A : Type 0) → (s : Bor (List ℕ)) → value_view {A = A} (NumberValue s) ≡ json.number s.now
view-Number A s = search (rules, the_lemmas)

pub view-String : (A : Type 0) → (s : Bor (List ℕ)) → value_view {A = A} (StringValue s) ≡ json.string s.now
view-String A s = search (rules, the_lemmas)

-- ---- lists

abbrev pub count_items : json.Items → ℕ
count_items json.no_items = 0
count_items (json.item j js) = suc (count_items js)

pub count_items-view : {A : Type 0} → (vs : List (JsonValue A)) → count_items (items_view vs) ≡ length vs
count_items-view [] = refl
count_items-view (v ∷ vs) = ap suc (count_items-view vs)

count_values-from : (levels i : ℕ) (js : json.Items) (vs : Values) → values_from levels i js ≡ Ok vs → count_values vs ≡ count_items js
count_values-from levels i json.no_items vs e = let same : NoValue ≡ vs = cc in ap count_values (sym same)
count_values-from levels i (json.item j js) vs e =
    let p = bind-ok (below (at_place i) (value_at levels j)) (λ v. values_from levels (suc i) js >>= λ ws. Ok (ValueThen v ws)) vs e in
    let q = bind-ok (values_from levels (suc i) js) (λ ws. Ok (ValueThen p.0 ws)) vs p.2 in
    let last = q.2 in
    let same : ValueThen p.0 q.0 ≡ vs = cc in
    ap count_values (sym same) ∙ ap suc (count_values-from levels (suc i) js q.0 q.1)

array-zero : (levels : ℕ) (js : json.Items) → levels ≡ 0 → value_at levels (json.array js) ≡ here (Err TooDeep)
array-zero zero js e = refl
array-zero (suc levels) js e = absurd (omega arith)

array-more : (levels : ℕ) (js : json.Items) → 0 < levels → value_at levels (json.array js) ≡ (values_from (levels - 1) 0 js >>= λ vs. Ok (Items vs))
array-more zero js some = absurd (omega arith)
array-more (suc levels) js some = let e : suc levels - 1 ≡ levels = omega arith in rw e refl

pub FailsAt-deep_list : (before : List ℕ) (levels : ℕ) (js : json.Items) → levels ≡ 0 → FailsAt (Some TooDeep) before before (value_at levels (json.array js))
FailsAt-deep_list before levels js none = ([], array-zero levels js none, refl)

pub PutsAt-list : (r : Done) (old start new before after : List ℕ) (levels n : ℕ) (js : json.Items) → 0 < levels → n ≡ count_items js → start ≡ old ++ head 4 n
    → PutsAt spelling_of_values r start new before after (values_from (levels - 1) 0 js) → PutsAt spelling r old new before after (value_at levels (json.array js))
PutsAt-list (Ok done) old start new before after levels n js some many begun p =
    let counted : n ≡ count_values p.0 = many ∙ sym (count_values-from (levels - 1) 0 js p.0 p.1) in (
      Items p.0,
      array-more levels js some ∙ ap (λ (r : Result Values Fault). r >>= λ vs. Ok (Items vs)) p.1,
      p.2 ∙ ap (λ s. s ++ spelling_of_values p.0) (begun ∙ ap (λ (k : ℕ). old ++ head 4 k) counted) ∙ append_assoc old (head 4 (count_values p.0)) (spelling_of_values p.0),
      p.3,
    )
PutsAt-list (Err k) old start new before after levels n js some many begun p =
    FailsAt-same (kind_of k) before after _ _ (array-more levels js some) (FailsAt-then (kind_of k) before after (values_from (levels - 1) 0 js) _ p)

-- what is put from here on, or is wrong behind this, is that of the whole
abbrev pub Leads : {X : Type 0} → (X → List ℕ) → List ℕ → List ℕ → Result X Fault → List ℕ → Result X Fault → Type 0
Leads spelled before old read out rest = (r : Done) (new after : List ℕ) → PutsAt spelled r out new before after rest → PutsAt spelled r old new before after read

pub Leads-item : (before out mid path path' : List ℕ) (levels i n : ℕ) (j : json.Json) (js : json.Items) → n ≡ suc i → PutsAt spelling (Ok tt) out mid path path' (below (at_place i) (value_at levels j))
    → Leads spelling_of_values before out (values_from levels i (json.item j js)) mid (values_from levels n js)
Leads-item before out mid path path' levels i n j js next one (Ok done) new after p =
    let rest : values_from levels (suc i) js ≡ Ok p.0 = ap (λ (k : ℕ). values_from levels k js) (sym next) ∙ p.1 in
    (ValueThen one.0 p.0, rw (one.1, rest) refl, p.2 ∙ ap (λ o. o ++ spelling_of_values p.0) one.2 ∙ append_assoc out (spelling one.0) (spelling_of_values p.0), p.3)
Leads-item before out mid path path' levels i n j js next one (Err k) new after p =
    let rest = FailsAt-same (kind_of k) before after (values_from levels (suc i) js) (values_from levels n js) (ap (λ (m : ℕ). values_from levels m js) (sym next)) p in
    FailsAt-same (kind_of k) before after (values_from levels i (json.item j js)) (values_from levels (suc i) js >>= λ vs. Ok (ValueThen one.0 vs))
    (ap (λ (r : Result Value Fault). r >>= λ v. values_from levels (suc i) js >>= λ vs. Ok (ValueThen v vs)) one.1) (FailsAt-then (kind_of k) before after (values_from levels (suc i) js) _ rest)

pub FailsAt-item : (o : Option Kind) (before path after : List ℕ) (levels i : ℕ) (j : json.Json) (js : json.Items) → path ≡ before → FailsAt o path after (below (at_place i) (value_at levels j))
    → FailsAt o before after (values_from levels i (json.item j js))
FailsAt-item o before path after levels i j js same f =
    subst (λ p. FailsAt o p after (values_from levels i (json.item j js))) same (FailsAt-then o path after (below (at_place i) (value_at levels j)) _ f)

module _ {A : Type 0} (levels i : ℕ) (xs : List (JsonValue A)) (x : JsonValue A) (lt : i < length xs) (is : x ≡ get_or xs i x) where
  items_at-drop : values_from levels i (items_view (drop i xs)) ≡ values_from levels i (json.item (value_view x) (items_view (drop (i + 1) xs)))
  items_at-drop =
      at_drop_more (λ ys. values_from levels i (items_view ys)) xs i x lt ∙ ap (λ y. values_from levels i (json.item (value_view y) (items_view (drop (i + 1) xs)))) (sym is)

  pub items-more : (before out mid path path' : List ℕ) → PutsAt spelling (Ok tt) out mid path path' (below (at_place i) (value_at levels (value_view x)))
      → Leads spelling_of_values before out (values_from levels i (items_view (drop i xs))) mid (values_from levels (i + 1) (items_view (drop (i + 1) xs)))
  items-more before out mid path path' one r new after p =
      let next : i + 1 ≡ suc i = omega arith in
      PutsAt-same spelling_of_values r out new before after _ _ items_at-drop (Leads-item before out mid path path' levels i (i + 1) (value_view x) (items_view (drop (i + 1) xs)) next one r new after p)

  pub items-fail : (r : Done) (k : JsonFaultKind) (out new before path after : List ℕ) → path ≡ before → r ≡ Err k → FailsAt (kind_of k) path after (below (at_place i) (value_at levels (value_view x)))
      → PutsAt spelling_of_values r out new before after (values_from levels i (items_view (drop i xs)))
  items-fail r k out new before path after same e f =
      PutsAt-fails spelling_of_values r k out new before after _ e
      (FailsAt-same (kind_of k) before after _ _ items_at-drop (FailsAt-item (kind_of k) before path after levels i (value_view x) (items_view (drop (i + 1) xs)) same f))

pub items-end : {A : Type 0} → (levels n : ℕ) (xs : List (JsonValue A)) (out before after : List ℕ) → length xs ≤ n → after ≡ before → PutsAt spelling_of_values (Ok tt) out out before after (values_from levels n (items_view (drop n xs)))
items-end levels n xs out before after few same = (NoValue, at_drop_all (λ ys. values_from levels n (items_view ys)) xs n few, sym (append-nil out), same)

-- ---- maps

pub Leads-entry : (before out mid path path' : List ℕ) (k : List ℕ) (read : Result Value Fault) (ms : List (List ℕ × Result Value Fault))
    → PutsAt (λ v. string 3 k ++ spelling v) (Ok tt) out mid path path' (below (at_key k) read) → Leads spelling_of_entries before out (entries_of ((k, read) ∷ ms)) mid (entries_of ms)
Leads-entry before out mid path path' k read ms one (Ok done) new after p =
    (EntryThen k one.0 p.0, rw (one.1, p.1) refl, p.2 ∙ ap (λ o. o ++ spelling_of_entries p.0) one.2 ∙ append_assoc out (string 3 k ++ spelling one.0) (spelling_of_entries p.0), p.3)
Leads-entry before out mid path path' k read ms one (Err e) new after p =
    FailsAt-same (kind_of e) before after (entries_of ((k, read) ∷ ms)) (entries_of ms >>= λ es. Ok (EntryThen k one.0 es))
    (ap (λ (r : Result Value Fault). r >>= λ v. entries_of ms >>= λ es. Ok (EntryThen k v es)) one.1) (FailsAt-then (kind_of e) before after (entries_of ms) _ p)

pub FailsAt-entry : (o : Option Kind) (before path after : List ℕ) (k : List ℕ) (read : Result Value Fault) (ms : List (List ℕ × Result Value Fault)) → path ≡ before → FailsAt o path after (below (at_key k) read)
    → FailsAt o before after (entries_of ((k, read) ∷ ms))
FailsAt-entry o before path after k read ms same f =
    subst (λ p. FailsAt o p after (entries_of ((k, read) ∷ ms))) same (FailsAt-then o path after (below (at_key k) read) _ f)

module _ {M : Type 0} (key : M → List ℕ) (read : M → Result Value Fault) (i : ℕ) (ms : List M) (x : M) (lt : i < length ms) (is : x ≡ get_or ms i x) where
  entries_at-drop : entries_of (map (λ m. (key m, read m)) (drop i ms)) ≡ entries_of ((key x, read x) ∷ map (λ m. (key m, read m)) (drop (i + 1) ms))
  entries_at-drop =
      at_drop_more (λ ns. entries_of (map (λ m. (key m, read m)) ns)) ms i x lt ∙ ap (λ y. entries_of ((key y, read y) ∷ map (λ m. (key m, read m)) (drop (i + 1) ms))) (sym is)

  pub entries-more : (before out mid path path' : List ℕ) → PutsAt (λ v. string 3 (key x) ++ spelling v) (Ok tt) out mid path path' (below (at_key (key x)) (read x))
      → Leads spelling_of_entries before out (entries_of (map (λ m. (key m, read m)) (drop i ms))) mid (entries_of (map (λ m. (key m, read m)) (drop (i + 1) ms)))
  entries-more before out mid path path' one r new after p =
      PutsAt-same spelling_of_entries r out new before after _ _ entries_at-drop (Leads-entry before out mid path path' (key x) (read x) (map (λ m. (key m, read m)) (drop (i + 1) ms)) one r new after p)

  pub entries-fail : (r : Done) (k : JsonFaultKind) (out new before path after : List ℕ) → path ≡ before → r ≡ Err k → FailsAt (kind_of k) path after (below (at_key (key x)) (read x))
      → PutsAt spelling_of_entries r out new before after (entries_of (map (λ m. (key m, read m)) (drop i ms)))
  entries-fail r k out new before path after same e f =
      PutsAt-fails spelling_of_entries r k out new before after _ e
      (FailsAt-same (kind_of k) before after _ _ entries_at-drop (FailsAt-entry (kind_of k) before path after (key x) (read x) (map (λ m. (key m, read m)) (drop (i + 1) ms)) same f))

pub entries-end : {M : Type 0} → (f : M → List ℕ × Result Value Fault) (n : ℕ) (ms : List M) (out before after : List ℕ) → length ms ≤ n → after ≡ before
    → PutsAt spelling_of_entries (Ok tt) out out before after (entries_of (map f (drop n ms)))
entries-end f n ms out before after few same = (NoEntry, at_drop_all (λ ns. entries_of (map f ns)) ms n few, sym (append-nil out), same)

object-zero : (levels : ℕ) (ms : json.Members) → levels ≡ 0 → value_at levels (json.object ms) ≡ object_of ms (here (Err TooDeep))
object-zero zero ms e = refl
object-zero (suc levels) ms e = absurd (omega arith)

object-more : (levels : ℕ) (ms : json.Members) → 0 < levels → value_at levels (json.object ms) ≡ object_of ms (entries_of (in_order (members_at (levels - 1) ms)))
object-more zero ms some = absurd (omega arith)
object-more (suc levels) ms some = let e : suc levels - 1 ≡ levels = omega arith in rw e refl

pub object-is : (levels : ℕ) (ms : json.Members) → (entries : Result Entries Fault) × (value_at levels (json.object ms) ≡ object_of ms entries)
object-is zero ms = (here (Err TooDeep), refl)
object-is (suc levels) ms = (entries_of (in_order (members_at levels ms)), refl)

abbrev pub first_doubled : json.Members → Option (List ℕ)
first_doubled ms = doubled_key (keys_of (in_order (members_list ms)))

object_of-doubled : (ms : json.Members) (entries : Result Entries Fault) (k : List ℕ) → first_doubled ms ≡ Some k → object_of ms entries ≡ Err (record { kind = DoubledKey; path = at_key k })
object_of-doubled ms entries k e = rw e refl

object_of-special : (ms : json.Members) (entries : Result Entries Fault) → first_doubled ms ≡ None → has_reserved ms ≡ true → object_of ms entries ≡ here (special_of ms)
object_of-special ms entries e h = rw (e, h) refl

pub object_of-fields : (ms : json.Members) (entries : Result Entries Fault) → first_doubled ms ≡ None → has_reserved ms ≡ false → object_of ms entries ≡ (entries >>= λ es. Ok (Fields es))
object_of-fields ms entries e h = rw (e, h) refl

-- ---- the members of an object, sorted

abbrev Member : Type 0 → Type 0
Member A = Bor (List ℕ) × JsonValue A

map-after : {X Y Z : Type 0} → (g : Y → Z) (f : X → Y) (xs : List X) → map g (map f xs) ≡ map (λ x. g (f x)) xs
map-after g f [] = refl
map-after g f (x ∷ xs) = ap (λ ys. g (f x) ∷ ys) (map-after g f xs)

members_list-view : {A : Type 0} → (ms : List (Member A)) → members_list (members_view ms) ≡ map (λ m. (m.0.now, value_view m.1)) ms
members_list-view [] = refl
members_list-view (m ∷ ms) = ap (λ rest. (m.0.now, value_view m.1) ∷ rest) (members_list-view ms)

pub members_at-list : (levels : ℕ) (ms : json.Members) → members_at levels ms ≡ map (λ p. (p.0, value_at levels p.1)) (members_list ms)
members_at-list levels json.no_members = refl
members_at-list levels (json.member k j ms) = ap (λ rest. (k, value_at levels j) ∷ rest) (members_at-list levels ms)

-- references to the members, in the order of their keys
pub record AreSorted {A : Type 0} (members : List (Member A)) (sorted : List (Bor (Member A))) : Type 0 where
  pub same : IsPermutation members (map (λ m. m.now) sorted)
  pub up : IsSortedBy (λ a b. is_lt (key_cmp a.now.0.now b.now.0.now)) sorted

abbrev sorted_trees : {A : Type 0} → List (Bor (Member A)) → List (List ℕ × json.Json)
sorted_trees sorted = map (λ m. (m.now.0.now, value_view m.now.1)) sorted

abbrev pub sorted_keys : {A : Type 0} → List (Bor (Member A)) → List (List ℕ)
sorted_keys sorted = map (λ m. m.now.0.now) sorted

trees_moved : {A : Type 0} → (members : List (Member A)) (sorted : List (Bor (Member A))) → AreSorted members sorted → IsPermutation (members_list (members_view members)) (sorted_trees sorted)
trees_moved {A} members sorted are =
    let tree : Member A → List ℕ × json.Json = λ m. (m.0.now, value_view m.1) in
    subst (λ xs. IsPermutation xs (sorted_trees sorted)) (sym (members_list-view members))
    (subst (λ ys. IsPermutation (map tree members) ys) (map-after tree (λ (m : Bor (Member A)). m.now) sorted) (IsPermutation-map tree members (map (λ m. m.now) sorted) are.same))

keys_of-sorted : {A : Type 0} → (sorted : List (Bor (Member A))) → keys_of (sorted_trees sorted) ≡ sorted_keys sorted
keys_of-sorted sorted = map-after (λ (p : List ℕ × json.Json). p.0) (λ m. (m.now.0.now, value_view m.now.1)) sorted

trees_in_order : {A : Type 0} → (members : List (Member A)) (sorted : List (Bor (Member A))) → AreSorted members sorted → AreInOrder (keys_of (sorted_trees sorted))
trees_in_order members sorted are = subst AreInOrder (sym (keys_of-sorted sorted)) (AreInOrder-sorted (λ m. m.now.0.now) sorted are.up)

keys_in_order : {A : Type 0} → (members : List (Member A)) (sorted : List (Bor (Member A))) → AreSorted members sorted → keys_of (in_order (members_list (members_view members))) ≡ sorted_keys sorted
keys_in_order members sorted are =
    sym (same_keys_in_order (members_list (members_view members)) (sorted_trees sorted) (trees_moved members sorted are) (trees_in_order members sorted are)) ∙ keys_of-sorted sorted

entries_in_order : {A : Type 0} → (levels : ℕ) (members : List (Member A)) (sorted : List (Bor (Member A))) → AreSorted members sorted → doubled_key (sorted_keys sorted) ≡ None
    → in_order (members_at levels (members_view members)) ≡ map (λ m. (m.now.0.now, value_at levels (value_view m.now.1))) sorted
entries_in_order levels members sorted are none =
    let trees = members_list (members_view members) in
    let once : doubled_key (keys_of (sorted_trees sorted)) ≡ None = ap doubled_key (keys_of-sorted sorted) ∙ none in
    let meant : List ℕ × json.Json → List ℕ × Result Value Fault = λ p. (p.0, value_at levels p.1) in
    ap in_order (members_at-list levels (members_view members)) ∙ in_order-map (value_at levels) trees
    ∙ ap (map meant) (sym (one_order trees (sorted_trees sorted) (trees_moved members sorted are) (trees_in_order members sorted are) once)) ∙ map-after meant (λ m. (m.now.0.now, value_view m.now.1)) sorted

doubled-sorted : {A : Type 0} → (members : List (Member A)) (sorted : List (Bor (Member A))) (o : Option (List ℕ)) → AreSorted members sorted → o ≡ doubled_key (sorted_keys sorted) → first_doubled (members_view members) ≡ o
doubled-sorted members sorted o are e = ap doubled_key (keys_in_order members sorted are) ∙ sym e

pub FailsAt-doubled : {A : Type 0} → (before after : List ℕ) (levels : ℕ) (members : List (Member A)) (sorted : List (Bor (Member A))) (k : List ℕ) → AreSorted members sorted → Some k ≡ doubled_key (sorted_keys sorted)
    → after ≡ at_key k ++ before → FailsAt (Some DoubledKey) before after (value_at levels (json.object (members_view members)))
FailsAt-doubled before after levels members sorted k are e way =
    let is = object-is levels (members_view members) in
    (at_key k, is.1 ∙ object_of-doubled (members_view members) is.0 k (doubled-sorted members sorted (Some k) are e), way)

pub PutsAt-special : {A : Type 0} → (r : Done) (old new before : List ℕ) (levels : ℕ) (members : List (Member A)) (sorted : List (Bor (Member A))) → AreSorted members sorted → None ≡ doubled_key (sorted_keys sorted)
    → has_reserved (members_view members) ≡ true → Puts r old new (special_of (members_view members)) → PutsAt spelling r old new before before (value_at levels (json.object (members_view members)))
PutsAt-special r old new before levels members sorted are none special p =
    let ms = members_view members in
    let is = object-is levels ms in
    PutsAt-same spelling r old new before before _ _ (is.1 ∙ object_of-special ms is.0 (doubled-sorted members sorted None are none) special) (PutsAt-here r old new before (special_of ms) p)

pub FailsAt-deep_map : {A : Type 0} → (before : List ℕ) (levels : ℕ) (members : List (Member A)) (sorted : List (Bor (Member A))) → AreSorted members sorted → None ≡ doubled_key (sorted_keys sorted)
    → has_reserved (members_view members) ≡ false → levels ≡ 0 → FailsAt (Some TooDeep) before before (value_at levels (json.object (members_view members)))
FailsAt-deep_map before levels members sorted are none plain e =
    let ms = members_view members in
    ([], object-zero levels ms e ∙ object_of-fields ms (here (Err TooDeep)) (doubled-sorted members sorted None are none) plain, refl)

count_entries-of : (ms : List (List ℕ × Result Value Fault)) (es : Entries) → entries_of ms ≡ Ok es → count_entries es ≡ length ms
count_entries-of [] es e = let same : NoEntry ≡ es = cc in ap count_entries (sym same)
count_entries-of (m ∷ ms) es e =
    let p = bind-ok (below (at_key m.0) m.1) (λ v. entries_of ms >>= λ fs. Ok (EntryThen m.0 v fs)) es e in
    let q = bind-ok (entries_of ms) (λ fs. Ok (EntryThen m.0 p.0 fs)) es p.2 in
    let last = q.2 in
    let same : EntryThen m.0 p.0 q.0 ≡ es = cc in
    ap count_entries (sym same) ∙ ap suc (count_entries-of ms q.0 q.1)

PutsAt-entries : (r : Done) (old start new before after : List ℕ) (n : ℕ) (ms : List (List ℕ × Result Value Fault)) → n ≡ length ms → start ≡ old ++ head 5 n
    → PutsAt spelling_of_entries r start new before after (entries_of ms) → PutsAt spelling r old new before after (entries_of ms >>= λ es. Ok (Fields es))
PutsAt-entries (Ok done) old start new before after n ms many begun p =
    let counted : n ≡ count_entries p.0 = many ∙ sym (count_entries-of ms p.0 p.1) in (
      Fields p.0,
      ap (λ (r : Result Entries Fault). r >>= λ es. Ok (Fields es)) p.1,
      p.2 ∙ ap (λ s. s ++ spelling_of_entries p.0) (begun ∙ ap (λ (k : ℕ). old ++ head 5 k) counted) ∙ append_assoc old (head 5 (count_entries p.0)) (spelling_of_entries p.0),
      p.3,
    )
PutsAt-entries (Err k) old start new before after n ms many begun p = FailsAt-then (kind_of k) before after (entries_of ms) _ p

pub PutsAt-map : {A : Type 0} → (r : Done) (old start new before after : List ℕ) (levels n : ℕ) (members : List (Member A)) (sorted : List (Bor (Member A))) → AreSorted members sorted → None ≡ doubled_key (sorted_keys sorted)
    → has_reserved (members_view members) ≡ false → 0 < levels → n ≡ length sorted → start ≡ old ++ head 5 n
    → PutsAt spelling_of_entries r start new before after (entries_of (map (λ m. (m.now.0.now, value_at (levels - 1) (value_view m.now.1))) sorted))
    → PutsAt spelling r old new before after (value_at levels (json.object (members_view members)))
PutsAt-map r old start new before after levels n members sorted are none plain some many begun p =
    let ms = members_view members in
    let fields = map (λ m. (m.now.0.now, value_at (levels - 1) (value_view m.now.1))) sorted in
    let read : value_at levels (json.object ms) ≡ (entries_of fields >>= λ es. Ok (Fields es)) =
    object-more levels ms some ∙ object_of-fields ms (entries_of (in_order (members_at (levels - 1) ms))) (doubled-sorted members sorted None are none) plain
    ∙ ap (λ fs. entries_of fs >>= λ es. Ok (Fields es)) (entries_in_order (levels - 1) members sorted are (sym none)) in
    PutsAt-same spelling r old new before after _ _ read
    (PutsAt-entries r old start new before after n fields (many ∙ sym (length-map sorted (λ m. (m.now.0.now, value_at (levels - 1) (value_view m.now.1))))) begun p)
