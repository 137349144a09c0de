-- What a batch makes is of the node grammar.
use Rattle.std.proofs.Common.{◌≡◌, ℕ, zero, suc, ◌<◌, ◌^◌, Bool, true, false, List, [], ◌∷◌, length, map, refl, sym, ap, subst, ◌∙◌, arith, Option}
use Rattle.std.specs.List.{AllByRecursion}
use Rattle.std.specs.Cmp.Lexicographic.{slice_cmp}
use Rattle.std.specs.Ordering.{nat_cmp, is_lt}
use Rattle.std.specs.FinMap.{is_sorted}
use Rattle.std.specs.FinMap.Entries.{below_all}
use Rattle.std.specs.declared.cmp.Ordering.TheVariants.{Less, Greater}
use Rattle.std.specs.declared.option.Option.TheVariants.{Some, None}
use Rattle.spec.specs.Cid.{is_own_cid}
use Rattle.spec.specs.Tree.{Pair, Node, Part, Last, More, Nothing, Sub, EachNode, EachUnder, Groups, LastGroup, MoreGroups, cut, node_of, below, top_layer, top, joined}
use Rattle.spec.specs.NodeFormat.{Shape, shape, first_link, entries_of, is_node, is_key, is_own_cid_or_none, are_keys_after}
use Rattle.spec.specs.Blocks.{ArePairs}
use Rattle.spec.proofs.Bools.{and}
use Rattle.spec.proofs.TreeLaws.{joined-cut}
use Rattle.spec.proofs.TreeNodes.{EachNode-top}
use Rattle.edit_laws.specs.Order.{order}
use Rattle.edit_laws.specs.Pairs.{Each, IsAfter, Ascending}
use Rattle.edit_laws.specs.Trace.{weight, weight_under, total}
use Rattle.edit_laws.proofs.EachPair.{each-parts, halves}
use Rattle.edit_laws.proofs.Orders.{order-is, turned}
use Rattle.edit_laws.proofs.RecordMaps.{ascending-sorted}
use Rattle.batch_laws.specs.Batch.{Change, if_put, puts, changed, AreKeyed, HaveOwnCids}
use Rattle.batch_laws.specs.Trace.{batch_made}
use Rattle.edit_laws.specs.Lawful.{HasKeys}
use Rattle.batch_laws.specs.Laws.Written.{BatchHasKeys, BatchIsLawful, BatchGoesOn}
use Rattle.batch_laws.proofs.Balance.{weight-batch}
use Rattle.batch_laws.proofs.Changing.{each-changed}
use Rattle.batch_laws.proofs.Collected.{ascending-changed}
use Rattle.batch_laws.proofs.Old.{read-old, gone-read}
use Rattle.batch_laws.proofs.Walks.{batch-is_top}
use Rattle.batch_laws.proofs.Earlier.{closing-earlier, pairing-earlier, parting-earlier, subtreeing-earlier, pairs-earlier, walking-earlier, topping-earlier}

-- ---- what passes a test in the new tree passes it where it is made

abbrev fails : Bool → ℕ
fails true = 0
fails false = 1

passes-zero : (b : Bool) → fails b ≡ 0 → b ≡ true
passes-zero true h = refl
passes-zero false h = absurd (omega arith)

module _ (digest : List ℕ → List ℕ) (test : Shape → Bool) where
  abbrev Passes : Node → Type 0
  Passes m = test (shape digest m) ≡ true

  abbrev failing : Node → ℕ
  failing m = fails (test (shape digest m))

  mutual
    none-part : (p : Part) → EachNode Passes p → weight failing p ≡ 0
    none-part Nothing h = refl
    none-part (Sub m) h = let i = none-under m h.1 in let j = ap fails h.0 in omega arith

    none-under : (m : Node) → EachUnder Passes m → weight_under failing m ≡ 0
    none-under (Last p) h = none-part p h
    none-under (More p e r) h = let i = none-part p h.0 in let j = none-under r h.1 in omega arith

  all-pass : (ms : List Node) → total failing ms ≡ 0 → AllByRecursion (λ s. test s ≡ true) (map (shape digest) ms)
  all-pass [] h = tt
  all-pass (m ∷ ms) h = (passes-zero _ (omega arith), all-pass ms (omega arith))

  made-passes : (layer : List ℕ → ℕ) (n : ℕ) (cs : List Change) (es : List Pair) → Ascending es
      → top_layer layer es < n → top_layer layer (puts cs) < n → EachNode Passes (Sub (top layer (changed cs es)))
      → AllByRecursion (λ s. test s ≡ true) (map (shape digest) (batch_made layer n cs (top layer es)))
  made-passes layer n cs es a t p h =
      let m = top layer es in
      let e = weight-batch failing layer n cs m in
      let same = ap (λ k. weight failing (Sub k)) (batch-is_top layer n cs es a t p) in
      let g = gone-read failing layer n cs m in
      let r = read-old failing layer n cs m in
      let none = none-part (Sub (top layer (changed cs es))) h in
      all-pass (batch_made layer n cs m) (omega arith)

-- ---- keys in each node of a tree

abbrev IsKey : Pair → Type 0
IsKey e = is_key e.0 ≡ true

lt-less : (x y : List ℕ) → order x y ≡ Less → is_lt (slice_cmp nat_cmp x y) ≡ true
lt-less x y h = ap is_lt (order-is x y ∙ h)

keys-groups : (digest : List ℕ → List ℕ) (part : List Pair → Part) (front : List ℕ) (g : Groups)
    → Each (IsAfter front) (joined g) → Ascending (joined g) → Each IsKey (joined g)
    → are_keys_after front (entries_of (shape digest (node_of part g))) ≡ true
keys-groups digest part front (LastGroup g) f a k = refl
keys-groups digest part front (MoreGroups g e r) f a k =
    let h = halves g e (joined r) a in
    let after = (each-parts (IsAfter front) g (e ∷ joined r) f).1 in
    let key = (each-parts IsKey g (e ∷ joined r) k).1 in
    and _ _ (and _ _ (lt-less front e.0 (turned e.0 front after.0)) key.0)
    (keys-groups digest part e.0 r h.after h.back key.1)

nil-first : (key : List ℕ) → is_key key ≡ true → order key [] ≡ Greater
unfolding order
nil-first [] h = absurd cc
nil-first (x ∷ key) h = refl

nil-before : (es : List Pair) → Each IsKey es → Each (IsAfter []) es
nil-before [] k = tt
nil-before (e ∷ es) k = (nil-first e.0 k.0, nil-before es k.1)

abbrev Keyed : List Pair → Type 0
Keyed es = Ascending es × Each IsKey es

module _ (digest : List ℕ → List ℕ) (layer : List ℕ → ℕ) where
  abbrev HoldsKeys : Node → Type 0
  HoldsKeys m = HasKeys (shape digest m)

  keys-under : (part : List Pair → Part) → ((es : List Pair) → Keyed es → EachNode HoldsKeys (part es)) → (g : Groups)
      → Keyed (joined g) → EachUnder HoldsKeys (node_of part g)
  keys-under part ih (LastGroup g) k = ih g k
  keys-under part ih (MoreGroups g e r) k =
      let h = halves g e (joined r) k.0 in
      let key = each-parts IsKey g (e ∷ joined r) k.1 in
      (ih g (h.front, key.0), keys-under part ih r (h.back, key.1.1))

  keys-node : (n : ℕ) (part : List Pair → Part) → ((es : List Pair) → Keyed es → EachNode HoldsKeys (part es))
      → (es : List Pair) → Keyed es → EachNode HoldsKeys (Sub (node_of part (cut layer n es)))
  keys-node n part ih es k =
      let g = cut layer n es in
      let whole : Keyed (joined g) = subst Keyed (sym (joined-cut layer n es)) k in
      (keys-groups digest part [] g (nil-before (joined g) whole.1) whole.0 whole.1, keys-under part ih g whole)

  keys-below : (n : ℕ) (es : List Pair) → Keyed es → EachNode HoldsKeys (below layer n es)
  keys-below zero es k = tt
  keys-below (suc n) [] k = tt
  keys-below (suc n) (e ∷ es) k = keys-node n (below layer n) (keys-below n) (e ∷ es) k

  keys-top : (es : List Pair) → Keyed es → EachNode HoldsKeys (Sub (top layer es))
  keys-top es k = keys-node (top_layer layer es) (below layer (top_layer layer es)) (keys-below (top_layer layer es)) es k

-- ---- the changed pairs

puts-keys : (cs : List Change) → AllByRecursion (λ c. is_key c.0 ≡ true) cs → Each IsKey (puts cs)
puts-keys [] h = tt
puts-keys (c ∷ cs) h = put-key c.0 c.1 (puts cs) h.0 (puts-keys cs h.1)
  where
    put-key : (key : List ℕ) (v : Option (List ℕ)) (ps : List Pair) → is_key key ≡ true → Each IsKey ps
        → Each IsKey (if_put key v ps)
    put-key key None ps h k = k
    put-key key (Some v) ps h k = (h, k)

puts-own : (cs : List Change) → HaveOwnCids cs → Each (λ e. is_own_cid e.1 ≡ true) (puts cs)
puts-own [] h = tt
puts-own (c ∷ cs) h = put-own c.0 c.1 (puts cs) h.0 (puts-own cs h.1)
  where
    put-own : (key : List ℕ) (v : Option (List ℕ)) (ps : List Pair) → is_own_cid_or_none v ≡ true
        → Each (λ e. is_own_cid e.1 ≡ true) ps → Each (λ e. is_own_cid e.1 ≡ true) (if_put key v ps)
    put-own key None ps h k = k
    put-own key (Some v) ps h k = (h, k)

below-after : (key : List ℕ) (es : List Pair) → Each (IsAfter key) es → below_all (slice_cmp nat_cmp) key es ≡ true
below-after key [] h = refl
below-after key (e ∷ es) h = and _ _ (lt-less key e.0 (turned e.0 key h.0)) (below-after key es h.1)

pub sorted-ascending : (es : List Pair) → Ascending es → is_sorted (slice_cmp nat_cmp) es ≡ true
sorted-ascending [] a = refl
sorted-ascending (e ∷ es) a = and _ _ (below-after e.0 es a.0) (sorted-ascending es a.1)

keyed-changed : (cs : List Change) (es : List Pair) → ArePairs es → AreKeyed cs → Keyed (changed cs es)
keyed-changed cs es are keyed = (
  ascending-changed cs es keyed.ascending (ascending-sorted es are.sorted),
  each-changed IsKey cs es (puts-keys cs keyed.keys) are.keys,
)

pub pairs-changed : (cs : List Change) (es : List Pair) → ArePairs es → AreKeyed cs → HaveOwnCids cs
    → length (changed cs es) < 2 ^ 64 → ArePairs (changed cs es)
pairs-changed cs es are keyed own count =
    let k = keyed-changed cs es are keyed in
    record {
      sorted = sorted-ascending (changed cs es) k.0;
      keys = k.1;
      values = each-changed (λ e. is_own_cid e.1 ≡ true) cs es (puts-own cs own) are.values;
      count = count;
    }

-- ---- the laws

pub batch-has_keys : BatchHasKeys
batch-has_keys digest layer n cs es are keyed t p =
    made-passes digest (λ s. are_keys_after [] (entries_of s)) layer n cs es (ascending-sorted es are.sorted) t p
    (keys-top digest layer (changed cs es) (keyed-changed cs es are keyed))

pub batch-is_lawful : BatchIsLawful
batch-is_lawful digest layer n cs es fits are keyed own count t p =
    made-passes digest (λ s. is_node (first_link s) (entries_of s)) layer n cs es (ascending-sorted es are.sorted) t p
    (EachNode-top digest layer fits (changed cs es) (pairs-changed cs es are keyed own count))

pub batch-goes_on : BatchGoesOn
batch-goes_on test digest shows empty =
    let P : Shape → Type 0 = λ s. test s ≡ true in
    record {
      closing_does = closing-earlier P empty digest;
      pairing_does = pairing-earlier P empty digest shows;
      parting_does = parting-earlier P empty digest shows;
      subtreeing_does = subtreeing-earlier P empty digest shows;
      pairs_do = pairs-earlier P empty digest shows;
      walking_does = walking-earlier P empty digest shows;
      topping_does = topping-earlier P empty digest shows;
    }
