-- Keys ascend in each node that a batch makes where the new tree is one of lawful pairs, whatever the keys of the changes
-- are: a delete may be of what is no key.
use Rattle.std.proofs.Common.{◌≡◌, ℕ, ◌<◌, Bool, true, false, List, [], ◌∷◌, map, refl, ap, arith}
use Rattle.std.specs.List.{AllByRecursion}
use Rattle.spec.specs.Cid.{IsDigest}
use Rattle.spec.specs.Tree.{Pair, Node, Part, Last, More, Nothing, Sub, EachNode, EachUnder, top, top_layer}
use Rattle.spec.specs.NodeFormat.{Shape, shape, first_link, entries_of, is_node, are_keys_after, are_links, is_own_cid_or_none}
use Rattle.spec.specs.Blocks.{ArePairs}
use Rattle.spec.proofs.Bools.{both}
use Rattle.spec.proofs.TreeNodes.{EachNode-top}
use Rattle.edit_laws.specs.Lawful.{HasKeys}
use Rattle.edit_laws.specs.Trace.{weight, weight_under, total}
use Rattle.edit_laws.proofs.RecordMaps.{ascending-sorted}
use Rattle.batch_laws.specs.Batch.{Change, puts, changed}
use Rattle.batch_laws.specs.Trace.{batch_made}
use Rattle.batch_laws.proofs.Balance.{weight-batch}
use Rattle.batch_laws.proofs.Old.{read-old, gone-read}
use Rattle.batch_laws.proofs.Walks.{batch-is_top}

abbrev fails : Bool → ℕ
fails true = 0
fails false = 1

passes-zero : (b : Bool) → fails b ≡ 0 → b ≡ true
passes-zero true h = refl
passes-zero false h = absurd (omega arith)

abbrev passes : Shape → Bool
passes s = is_node (first_link s) (entries_of s)

has-keys : (s : Shape) → passes s ≡ true → HasKeys s
has-keys s h =
    let a = (both _ (is_own_cid_or_none (first_link s)) h).0 in
    let b = (both _ (are_links (entries_of s)) a).0 in
    (both _ (are_keys_after [] (entries_of s)) b).1

module _ (digest : List ℕ → List ℕ) where
  abbrev failing : Node → ℕ
  failing m = fails (passes (shape digest m))

  mutual
    none-part : (p : Part) → EachNode (λ m. passes (shape digest m) ≡ true) p → weight failing p ≡ 0
    none-part Nothing h = refl
    none-part (Sub m) h = let i = none-under m h.1 in let j = ap fails h.0 in omega arith

    none-under : (m : Node) → EachUnder (λ m. passes (shape digest m) ≡ true) m → weight_under failing m ≡ 0
    none-under (Last p) h = none-part p h
    none-under (More p e r) h = let i = none-part p h.0 in let j = none-under r h.1 in omega arith

  all-keys : (ms : List Node) → total failing ms ≡ 0 → AllByRecursion HasKeys (map (shape digest) ms)
  all-keys [] h = tt
  all-keys (m ∷ ms) h =
      (has-keys (shape digest m) (passes-zero (passes (shape digest m)) (omega arith)), all-keys ms (omega arith))

  pub made-has_keys : IsDigest digest → (layer : List ℕ → ℕ) (n : ℕ) (cs : List Change) (es : List Pair) → ArePairs es
      → ArePairs (changed cs es) → top_layer layer es < n → top_layer layer (puts cs) < n
      → AllByRecursion HasKeys (map (shape digest) (batch_made layer n cs (top layer es)))
  made-has_keys fits layer n cs es are leaves t p =
      let m = top layer es in
      let e = weight-batch failing layer n cs m in
      let same = ap (λ k. weight failing (Sub k)) (batch-is_top layer n cs es (ascending-sorted es are.sorted) t p) in
      let g = gone-read failing layer n cs m in
      let r = read-old failing layer n cs m in
      let none = none-part (Sub (top layer (changed cs es))) (EachNode-top digest layer fits (changed cs es) leaves) in
      all-keys (batch_made layer n cs m) (omega arith)
