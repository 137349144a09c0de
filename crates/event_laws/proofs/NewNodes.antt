-- A node that isn't read passes as it is.
use Rattle.std.proofs.Common.{◌≡◌, ℕ, zero, suc, ◌+◌, ◌<◌, ◌≤◌, max, List, [], ◌∷◌, ◌++◌, map, refl, sym, ap, subst, ◌∙◌, ◌⊎◌, inl, inr, arith}
use Rattle.std.specs.Prelude.{Contains}
use Rattle.std.specs.declared.option.Option.TheVariants.{Some, None}
use Rattle.spec.specs.Layer.{layer}
use Rattle.spec.specs.Tree.{Node, Part, Last, More, Nothing, Sub, top, top_layer}
use Rattle.spec.specs.NodeFormat.{node_bytes}
use Rattle.spec.specs.Blocks.{blocks_in, blocks_under, no_record, nodes}
use Rattle.edit_laws.specs.Changes.{count, marked}
use Rattle.edit_laws.specs.Trace.{weight, weight_under, total}
use Rattle.edit_laws.proofs.Lists.{count-append, contains-counted, counted-contains}
use Rattle.edit_laws.proofs.RecordMaps.{ascending-sorted}
use Rattle.batch_laws.specs.Batch.{Change, puts, changed}
use Rattle.batch_laws.specs.Trace.{batch_gone, batch_made, batch_read}
use Rattle.batch_laws.proofs.Blocks.{batch-balances}
use Rattle.batch_laws.proofs.Walks.{batch-is_top}
use Rattle.change_laws.specs.Told.{undone}
use Rattle.batch_laws.specs.Counts.{put_layers}
use Rattle.change_laws.specs.Laws.{change_path}
use Rattle.change_laws.proofs.Undone.{differ-undone}
use Rattle.event_laws.specs.Laws.{NewNodesAreRead}

-- ---- counts in lists of blocks are weights of trees

count-total : (f : Node → List ℕ) (c : List ℕ) (ms : List Node) → count c (map f ms) ≡ total (marked f c) ms
count-total f c [] = refl
count-total f c (m ∷ ms) = let i = count-total f c ms in omega arith

module _ (digest : List ℕ → List ℕ) where
  mutual
    count-blocks : (c : List ℕ) (p : Part)
        → count c (blocks_in digest no_record p) ≡ weight (marked (node_bytes digest) c) p
    count-blocks c Nothing = refl
    count-blocks c (Sub m) = let i = count-under c m in omega arith

    count-under : (c : List ℕ) (m : Node)
        → count c (blocks_under digest no_record m) ≡ weight_under (marked (node_bytes digest) c) m
    count-under c (Last p) = count-blocks c p
    count-under c (More p e r) =
        let a = blocks_in digest no_record p in
        let b = blocks_under digest no_record r in
        let i = count-blocks c p in
        let j = count-under c r in
        let k = count-append c (a ++ []) b in
        let l = count-append c a [] in
        omega arith

-- ---- enough layers

puts-within : (lay : List ℕ → ℕ) (cs : List Change) (n : ℕ) → 1 ≤ n → put_layers lay cs ≤ n → top_layer lay (puts cs) < n
puts-within lay [] n h k = omega arith
puts-within lay ((key, None) ∷ cs) n h k = puts-within lay cs n h (omega arith)
puts-within lay ((key, Some v) ∷ cs) n h k = let i = puts-within lay cs n h (omega arith) in omega arith

-- ---- new nodes

one-of : (a b : ℕ) → 0 < a + b → (0 < a) ⊎ (0 < b)
one-of zero b h = inr (omega arith)
one-of (suc a) b h = inl (omega arith)

pub new-nodes : NewNodesAreRead
new-nodes digest bits old new are_old are_new cs asc differ b has =
    let lay = layer digest bits in
    let us = undone cs in
    let n = max (suc (top_layer lay new)) (put_layers lay us) in
    let m = top lay new in
    let w = marked (node_bytes digest) b in
    let back = changed us new in
    let read = batch_read lay n us m in
    let enough : top_layer lay new < n = omega arith in
    let puts_enough = puts-within lay us n (omega arith) (omega arith) in
    let is_top = batch-is_top lay n us new (ascending-sorted new are_new.sorted) enough puts_enough in
    let balance = batch-balances lay n us m w in
    let even : weight w (Sub m) + total w (batch_made lay n us m) ≡ weight w (Sub (top lay back)) + total w (batch_gone lay n us m) =
    balance.even ∙ ap (λ k. weight w (Sub k) + total w (batch_gone lay n us m)) is_top in
    let gone_read : total w (batch_gone lay n us m) ≤ total w read = balance.gone_read in
    let new_count = count-blocks digest b (Sub m) in
    let old_count = count-blocks digest b (Sub (top lay back)) in
    let read_count = count-total (node_bytes digest) b read in
    let there = counted-contains b (nodes digest bits new) has in
    let some : 0 < count b (nodes digest bits back) + count b (map (node_bytes digest) read) = omega arith in
    elim (one-of (count b (nodes digest bits back)) (count b (map (node_bytes digest) read)) some)
    as (λ s. Contains (nodes digest bits old) b ⊎ Contains (change_path digest bits cs new) b) [
      | inl p ↦ inl (subst (λ es. Contains (nodes digest bits es) b)
          (sym (differ-undone cs old new asc are_old are_new differ)) (contains-counted b (nodes digest bits back) p))
      | inr q ↦ inr (contains-counted b (map (node_bytes digest) read) q)
    ]
