-- The cut at the next layer, of the pairs of a tree.
use Rattle.std.proofs.Common.{◌≡◌, ℕ, suc, ◌-◌, ◌<◌, Bool, true, false, cond, nat_eq, nat_lt, List, [], ◌∷◌, ◌++◌, map, take, drop, length, Option, refl, sym, ap, ◌∙◌, arith}
use Rattle.std.specs.List.{AllByRecursion}
use Rattle.std.proofs.lemmas.Bool.{eqb-true, ltb-true, lt-ltb, le-ltb}
use Rattle.std.proofs.lemmas.List.{append-nil}
use Rattle.spec.specs.Layer.{layer as layer_of}
use Rattle.spec.specs.Tree.{Pair, Node, Part, Nothing, Sub, top_layer}
use Rattle.spec.specs.NodeFormat.{Entry, is_ascending, entries_of, part_link, shape, node_bytes, node_spelling, first_link}
use Rattle.spec.specs.Blocks.{blocks_in, blocks_under, no_record, nodes}
use Rattle.spec.proofs.TreeLaws.{IsLower, lower-from_top}
use Rattle.scratch.specs.Cut.{Nodes, Cut, nodes_after, nodes_of, pairs_of_rows, link_to, entries_next, under_next, is_node_next, node_next, part_next, rows_raised, raised}
use Rattle.scratch.specs.Rows.{pair_of, HaveNothingBelow}
use Rattle.scratch.specs.Level.{rows_with, cut_with, count_after}
use Rattle.scratch.specs.declared.rows.Row.{Row}
use Rattle.scratch.proofs.Ascending.{Rises, Begins-cons, Rises-tail, Rises-cons, Rises-ascending, ascending-Rises}
use Rattle.scratch.proofs.Aheads.{is_first_below, from_layer, node_ahead, part_ahead, part-none, part-some_at, part-is, node-end, not-first}
use Rattle.scratch.proofs.Writing.{entries-ahead, link-ahead, blocks-ahead, entries-entry, blocks-entry}
use Rattle.scratch.proofs.Whole.{node-top}

-- ---- of the pairs of a tree: those of layer n and above, with the parts below layer n

module _ (digest : List ℕ → List ℕ) (layer : List ℕ → ℕ) (n : ℕ) where
  abbrev pub first_of : List Pair → Nodes
  first_of es = blocks_in digest no_record (part_ahead layer n es)

  abbrev pub rows_of : List Pair → List (Pair × Nodes)
  rows_of [] = []
  rows_of (e ∷ es) = cond (nat_lt (layer e.0) n) (rows_of es) ((e, first_of es) ∷ rows_of es)

  abbrev pub cut_of : List Pair → Cut
  cut_of es = record { first = first_of es; rows = rows_of es }

-- ---- one layer more

link-part : (digest : List ℕ → List ℕ) (p : Part) → link_to digest (blocks_in digest no_record p) ≡ part_link digest p
link-part digest Nothing = refl
link-part digest (Sub m) = refl

module _ (digest : List ℕ → List ℕ) (layer : List ℕ → ℕ) (n : ℕ) where
  -- one more pair in front, by its test
  abbrev Rows : Bool → Pair → List Pair → List (Pair × Nodes)
  Rows b e es = cond b (rows_of digest layer n es) ((e, first_of digest layer n es) ∷ rows_of digest layer n es)

  abbrev From : Bool → Pair → List Pair → List Pair
  From b e es = cond b (from_layer layer n es) (e ∷ es)

  -- ---- the entries

  entries_high : (e : Pair) (es : List Pair) (c : Bool) → nat_lt (layer e.0) n ≡ false → nat_eq (layer e.0) n ≡ c
      → entries_next digest layer n (rows_of digest layer n es) ≡ entries_of (shape digest (node_ahead layer n es))
      → cond c (record { key = e.0; value = e.1; tree = link_to digest (first_of digest layer n es) } ∷ entries_next digest layer n (rows_of digest layer n es)) [] ≡ entries_of (shape digest (node_ahead layer n (e ∷ es)))
  entries_high e es true h k further =
      ap (λ (l : Option (List ℕ)). record { key = e.0; value = e.1; tree = l } ∷ entries_next digest layer n (rows_of digest layer n es)) (link-part digest (part_ahead layer n es))
      ∙ ap (λ (xs : List Entry). record { key = e.0; value = e.1; tree = part_link digest (part_ahead layer n es) } ∷ xs) (further ∙ entries-ahead digest layer n es)
      ∙ sym (entries-entry digest layer n e es (eqb-true (layer e.0) n k))
  entries_high e es false h k further =
      sym (ap (λ (m : Node). entries_of (shape digest m)) (node-end layer n (e ∷ es) (not-first layer n (e ∷ es) h k)))

  entries_step : (e : Pair) (es : List Pair) (b : Bool) → nat_lt (layer e.0) n ≡ b → entries_next digest layer n (rows_of digest layer n es) ≡ entries_of (shape digest (node_ahead layer n es))
      → entries_next digest layer n (Rows b e es) ≡ entries_of (shape digest (node_ahead layer n (e ∷ es)))
  entries_step e es true h further =
      further ∙ entries-ahead digest layer n es ∙ sym (entries-ahead digest layer n (e ∷ es) ∙ ap (λ b. entries_of (shape digest (node_ahead layer n (From b e es)))) h)
  entries_step e es false h further = entries_high e es (nat_eq (layer e.0) n) h refl further

  entries-cut : (es : List Pair) → entries_next digest layer n (rows_of digest layer n es) ≡ entries_of (shape digest (node_ahead layer n es))
  entries-cut [] = sym (ap (λ (m : Node). entries_of (shape digest m)) (node-end layer n [] refl))
  entries-cut (e ∷ es) = entries_step e es (nat_lt (layer e.0) n) refl (entries-cut es)

  -- ---- the nodes under them

  under_high : (e : Pair) (es : List Pair) (c : Bool) → nat_lt (layer e.0) n ≡ false → nat_eq (layer e.0) n ≡ c
      → under_next layer n (rows_of digest layer n es) ≡ blocks_under digest no_record (node_ahead layer n (from_layer layer n es))
      → cond c (first_of digest layer n es ++ under_next layer n (rows_of digest layer n es)) [] ≡ blocks_under digest no_record (node_ahead layer n (e ∷ es))
  under_high e es true h k further =
      ap (λ (xs : Nodes). first_of digest layer n es ++ xs) further ∙ sym (blocks-entry digest layer n e es (eqb-true (layer e.0) n k))
  under_high e es false h k further = sym (ap (blocks_under digest no_record) (node-end layer n (e ∷ es) (not-first layer n (e ∷ es) h k)))

  under_step : (e : Pair) (es : List Pair) (b : Bool) → nat_lt (layer e.0) n ≡ b
      → under_next layer n (rows_of digest layer n es) ≡ blocks_under digest no_record (node_ahead layer n (from_layer layer n es))
      → under_next layer n (Rows b e es) ≡ blocks_under digest no_record (node_ahead layer n (From b e es))
  under_step e es true h further = further
  under_step e es false h further = under_high e es (nat_eq (layer e.0) n) h refl further

  under-rows : (es : List Pair) → under_next layer n (rows_of digest layer n es) ≡ blocks_under digest no_record (node_ahead layer n (from_layer layer n es))
  under-rows [] = sym (ap (blocks_under digest no_record) (node-end layer n [] refl))
  under-rows (e ∷ es) = under_step e es (nat_lt (layer e.0) n) refl (under-rows es)

  under-cut : (es : List Pair) → first_of digest layer n es ++ under_next layer n (rows_of digest layer n es) ≡ blocks_under digest no_record (node_ahead layer n es)
  under-cut es = ap (λ (xs : Nodes). first_of digest layer n es ++ xs) (under-rows es) ∙ sym (blocks-ahead digest layer n es)

  -- ---- the part

  node-cut : (es : List Pair) → node_next digest layer n (first_of digest layer n es) (rows_of digest layer n es) ≡ node_bytes digest (node_ahead layer n es)
  node-cut es =
      ap (λ (l : Option (List ℕ)). node_spelling l (entries_next digest layer n (rows_of digest layer n es))) (link-part digest (part_ahead layer n es) ∙ sym (link-ahead digest layer n es))
      ∙ ap (node_spelling (first_link (shape digest (node_ahead layer n es)))) (entries-cut es)

  next_high : (e : Pair) (es : List Pair) (c : Bool) → nat_lt (layer e.0) n ≡ false → nat_eq (layer e.0) n ≡ c → c ≡ nat_lt (layer e.0) (suc n)
  next_high e es true h k = let same = eqb-true (layer e.0) n k in sym (lt-ltb (layer e.0) (suc n) (omega arith))
  next_high e es false h k = sym (not-first layer n (e ∷ es) h k)

  next_step : (e : Pair) (es : List Pair) (b : Bool) → nat_lt (layer e.0) n ≡ b → is_node_next layer n (first_of digest layer n (e ∷ es)) (Rows b e es) ≡ nat_lt (layer e.0) (suc n)
  next_step e es true h =
      let below = ltb-true (layer e.0) n h in
      ap (λ (p : Part). is_node_next layer n (blocks_in digest no_record p) (rows_of digest layer n es)) (part-is layer n (n - 1) (e ∷ es) h refl)
      ∙ sym (lt-ltb (layer e.0) (suc n) (omega arith))
  next_step e es false h =
      ap (λ (p : Part). is_node_next layer n (blocks_in digest no_record p) ((e, first_of digest layer n es) ∷ rows_of digest layer n es)) (part-none layer n (e ∷ es) h)
      ∙ next_high e es (nat_eq (layer e.0) n) h refl

  next-cut : (es : List Pair) → is_node_next layer n (first_of digest layer n es) (rows_of digest layer n es) ≡ is_first_below layer (suc n) es
  next-cut [] = ap (λ (p : Part). is_node_next layer n (blocks_in digest no_record p) []) (part-none layer n [] refl)
  next-cut (e ∷ es) = next_step e es (nat_lt (layer e.0) n) refl

  part_step : (es : List Pair) (b : Bool) → is_first_below layer (suc n) es ≡ b
      → cond b (node_next digest layer n (first_of digest layer n es) (rows_of digest layer n es) ∷ first_of digest layer n es ++ under_next layer n (rows_of digest layer n es)) [] ≡ first_of digest layer (suc n) es
  part_step es true h =
      ap (λ (x : List ℕ). x ∷ first_of digest layer n es ++ under_next layer n (rows_of digest layer n es)) (node-cut es)
      ∙ ap (λ (xs : Nodes). node_bytes digest (node_ahead layer n es) ∷ xs) (under-cut es)
      ∙ sym (ap (blocks_in digest no_record) (part-some_at layer n es h))
  part_step es false h = sym (ap (blocks_in digest no_record) (part-none layer (suc n) es h))

  part-cut : (es : List Pair) → part_next digest layer n (first_of digest layer n es) (rows_of digest layer n es) ≡ first_of digest layer (suc n) es
  part-cut es =
      ap (λ b. cond b (node_next digest layer n (first_of digest layer n es) (rows_of digest layer n es) ∷ first_of digest layer n es ++ under_next layer n (rows_of digest layer n es)) []) (next-cut es)
      ∙ part_step es (is_first_below layer (suc n) es) refl

  -- ---- the rows

  abbrev Higher : Bool → Pair → List Pair → List (Pair × Nodes)
  Higher b e es = cond b (rows_of digest layer (suc n) es) ((e, first_of digest layer (suc n) es) ∷ rows_of digest layer (suc n) es)

  rows_high : (e : Pair) (es : List Pair) (c : Bool) → c ≡ nat_lt (layer e.0) (suc n) → rows_raised digest layer n (rows_of digest layer n es) ≡ rows_of digest layer (suc n) es
      → cond c (rows_raised digest layer n (rows_of digest layer n es)) ((e, part_next digest layer n (first_of digest layer n es) (rows_of digest layer n es)) ∷ rows_raised digest layer n (rows_of digest layer n es))
      ≡ rows_of digest layer (suc n) (e ∷ es)
  rows_high e es true h further = further ∙ ap (λ b. Higher b e es) h
  rows_high e es false h further =
      ap (λ (p : Nodes). (e, p) ∷ rows_raised digest layer n (rows_of digest layer n es)) (part-cut es)
      ∙ ap (λ (rs : List (Pair × Nodes)). (e, first_of digest layer (suc n) es) ∷ rs) further ∙ ap (λ b. Higher b e es) h

  rows_step : (e : Pair) (es : List Pair) (b : Bool) → nat_lt (layer e.0) n ≡ b → rows_raised digest layer n (rows_of digest layer n es) ≡ rows_of digest layer (suc n) es
      → rows_raised digest layer n (Rows b e es) ≡ rows_of digest layer (suc n) (e ∷ es)
  rows_step e es true h further = let below = ltb-true (layer e.0) n h in further ∙ sym (ap (λ b. Higher b e es) (lt-ltb (layer e.0) (suc n) (omega arith)))
  rows_step e es false h further = rows_high e es (nat_eq (layer e.0) n) (next_high e es (nat_eq (layer e.0) n) h refl) further

  rows-cut : (es : List Pair) → rows_raised digest layer n (rows_of digest layer n es) ≡ rows_of digest layer (suc n) es
  rows-cut [] = refl
  rows-cut (e ∷ es) = rows_step e es (nat_lt (layer e.0) n) refl (rows-cut es)

  cut-raised : (es : List Pair) → raised digest layer n (cut_of digest layer n es) ≡ cut_of digest layer (suc n) es
  cut-raised es = λ i. record { first = part-cut es i; rows = rows-cut es i }

  -- ---- its pairs ascend

  Rises_step : (before : List ℕ) (e : Pair) (es : List Pair) (b : Bool) → Rises before (e ∷ es) → ((x : List ℕ) → Rises x es → Rises x (pairs_of_rows (rows_of digest layer n es)))
      → Rises before (pairs_of_rows (Rows b e es))
  Rises_step before e es true up further = further before (Rises-tail before e es up)
  Rises_step before e es false up further = let b = Begins-cons before e es up in Rises-cons before e (pairs_of_rows (rows_of digest layer n es)) b.less b.key (further e.0 b.rest)

  Rises-cut : (es : List Pair) (before : List ℕ) → Rises before es → Rises before (pairs_of_rows (rows_of digest layer n es))
  Rises-cut [] before up = up
  Rises-cut (e ∷ es) before up = Rises_step before e es (nat_lt (layer e.0) n) up (Rises-cut es)

  pub ascending-cut : (es es' : List Pair) → is_ascending es ≡ true → es' ≡ pairs_of_rows (rows_of digest layer n es) → is_ascending es' ≡ true
  ascending-cut es es' up is = ap is_ascending is ∙ ascending-Rises [] (pairs_of_rows (rows_of digest layer n es)) (Rises-cut es [] (Rises-ascending es up))

  -- ---- above all pairs

  rows-none : (es : List Pair) → AllByRecursion (IsLower layer n) es → rows_of digest layer n es ≡ []
  rows-none [] h = refl
  rows-none (e ∷ es) h = ap (λ b. Rows b e es) (lt-ltb (layer e.0) n h.0) ∙ rows-none es h.1

-- ---- the lowest

module _ (digest : List ℕ → List ℕ) (layer : List ℕ → ℕ) where
  rows-lowest : (nodes : Nodes) (rows : List Row) → HaveNothingBelow rows → rows_with nodes rows ≡ rows_of digest layer 0 (map pair_of rows)
  rows-lowest nodes [] h = refl
  rows-lowest nodes (r ∷ rows) h =
      ap (λ k. (pair_of r, take k nodes) ∷ rows_with (drop k nodes) rows) h.0
      ∙ ap (λ (rs : List (Pair × Nodes)). (pair_of r, []) ∷ rs) (rows-lowest nodes rows h.1)
      ∙ sym (ap (λ b. cond b (rows_of digest layer 0 (map pair_of rows)) ((pair_of r, []) ∷ rows_of digest layer 0 (map pair_of rows))) (le-ltb (layer r.key.now) 0 (omega arith)))

  pub cut-lowest : (nodes : Nodes) (rows : List Row) → HaveNothingBelow rows → cut_with 0 rows nodes ≡ cut_of digest layer 0 (map pair_of rows)
  cut-lowest nodes rows h = λ i. record { first = []; rows = rows-lowest nodes rows h i }

pub count-lowest : (rows : List Row) → HaveNothingBelow rows → count_after rows ≡ 0
count-lowest [] h = refl
count-lowest (r ∷ rows) h = let none = count-lowest rows h.1 in let here : r.nodes_after ≡ 0 = h.0 in omega arith

-- ---- the whole tree

module _ (digest : List ℕ → List ℕ) (bits : ℕ) where
  nodes-cut : (es : List Pair) → 0 < length es → nodes_of (cut_of digest (layer_of digest bits) (suc (top_layer (layer_of digest bits) es)) es) ≡ nodes digest bits es
  nodes-cut [] some = absurd (omega (arith, some))
  nodes-cut (e ∷ es) some =
      let layer = layer_of digest bits in
      let n = top_layer layer (e ∷ es) in
      let lower = lower-from_top layer n (e ∷ es) (omega arith) in
      ap (λ (rs : List (Pair × Nodes)). first_of digest layer (suc n) (e ∷ es) ++ nodes_after rs) (rows-none digest layer (suc n) (e ∷ es) lower)
      ∙ append-nil (first_of digest layer (suc n) (e ∷ es))
      ∙ ap (blocks_in digest no_record) (part-some_at layer n (e ∷ es) (lt-ltb (layer e.0) (suc n) lower.0))
      ∙ ap (λ (m : Node). blocks_in digest no_record (Sub m)) (node-top layer (e ∷ es))

  -- from the cut that was raised last
  pub nodes-raised : (es : List Pair) (n : ℕ) (cut higher : Cut) → 0 < length es → n ≡ top_layer (layer_of digest bits) es → cut ≡ cut_of digest (layer_of digest bits) n es → higher ≡ raised digest (layer_of digest bits) n cut
      → nodes_of higher ≡ nodes digest bits es
  nodes-raised es n cut higher some is_top is more =
      let layer = layer_of digest bits in
      ap nodes_of (more ∙ ap (raised digest layer n) is ∙ cut-raised digest layer n es ∙ ap (λ k. cut_of digest layer (suc k) es) is_top) ∙ nodes-cut es some

  pub cut-next : (es : List Pair) (n next : ℕ) (cut higher : Cut) → next ≡ suc n → cut ≡ cut_of digest (layer_of digest bits) n es → higher ≡ raised digest (layer_of digest bits) n cut
      → higher ≡ cut_of digest (layer_of digest bits) next es
  cut-next es n next cut higher after is more =
      let layer = layer_of digest bits in
      more ∙ ap (raised digest layer n) is ∙ cut-raised digest layer n es ∙ ap (λ k. cut_of digest layer k es) (sym after)
