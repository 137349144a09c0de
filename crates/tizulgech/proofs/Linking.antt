-- How the links of a node and the pairs of a page are spelt, one after another.
use Rattle.std.proofs.Common.{◌≡◌, ◌<◌, ◌≤◌, ◌+◌, ℕ, Bool, true, false, List, [], ◌∷◌, ◌++◌, drop, length, map, slice_index_or, refl, ap, sym, ◌∙◌}
use Rattle.std.specs.Prelude.{◌||◌, nat_eq, nat_le, Option}
use Rattle.std.specs.List.{flat_map}
use Rattle.std.proofs.lemmas.List.{append_assoc, append-nil, drop_more, length-append}
use Rattle.std.proofs.Math.ListN.{drop_of_length-le}
use Rattle.spec.specs.Tree.{Pair}
use Rattle.spec.specs.NodeFormat.{Entry}
use Rattle.node.specs.Rows.{Row, rows}
use Rattle.buffers.specs.Answers.{pair_bytes, pairs_bytes}
use Rattle.tizulgech.specs.Parting.{links_bytes, entry_links, row_links, record_link, node_link, first_then, page_behind}

-- rows have the links of their entries
pub rows_links : (before : List ℕ) (es : List Entry) → flat_map row_links (rows before es) ≡ flat_map entry_links es
rows_links before [] = refl
rows_links before (e ∷ es) = ap (λ (t : List ℕ). entry_links e ++ t) (rows_links e.key es)

-- the link before all keys, and then those of all rows
pub links_begin : (left link : Option (List ℕ)) (es : List Entry) (bytes old : List ℕ) (all : List Row)
    → bytes ≡ old ++ node_link link → old ≡ [] → link ≡ left → all ≡ rows [] es
    → links_bytes left es ≡ bytes ++ flat_map row_links all
links_begin left link es bytes old all put none is whole =
    ap (λ (t : List ℕ). node_link left ++ t) (sym (rows_links [] es))
    ∙ ap (λ (rs : List Row). node_link left ++ flat_map row_links rs) (sym whole)
    ∙ ap (λ (front : List ℕ). front ++ flat_map row_links all) (sym (put ∙ ap (λ (o : List ℕ). o ++ node_link link) none ∙ ap node_link is))

-- one more row
pub links_next : (whole old new : List ℕ) (left rest : List Row) (r : Row) → left ≡ r ∷ rest
    → new ≡ (old ++ record_link r.value) ++ node_link r.tree
    → whole ≡ old ++ flat_map row_links left → whole ≡ new ++ flat_map row_links rest
links_next whole old new left rest r steps put inv =
    let more : List ℕ = flat_map row_links rest in
    inv ∙ ap (λ (rs : List Row). old ++ flat_map row_links rs) steps
    ∙ sym (append_assoc old (record_link r.value ++ node_link r.tree) more)
    ∙ ap (λ (front : List ℕ). front ++ more) (sym (append_assoc old (record_link r.value) (node_link r.tree)))
    ∙ ap (λ (front : List ℕ). front ++ more) (sym put)

-- no more of them
pub links_done : (whole old : List ℕ) (left : List Row) → left ≡ [] → whole ≡ old ++ flat_map row_links left → old ≡ whole
links_done whole old left none inv = sym (inv ∙ ap (λ (rs : List Row). old ++ flat_map row_links rs) none ∙ append-nil old)

-- a pair that goes on
pub page_next : {X : Type 0} (view : X → Pair) (whole old new : List ℕ) (room : ℕ) (xs : List X) (i : ℕ) (x : X) → i < length xs
    → new ≡ old ++ pair_bytes (view (slice_index_or xs i x))
    → (nat_eq (length old) 0 || nat_le (length old + length (pair_bytes (view (slice_index_or xs i x)))) room) ≡ true
    → whole ≡ old ++ pairs_bytes (page_behind room (length old) (map view (drop i xs)))
    → whole ≡ new ++ pairs_bytes (page_behind room (length new) (map view (drop (i + 1) xs)))
page_next {X} view whole old new room xs i x within put goes inv =
    let p : Pair = view (slice_index_or xs i x) in
    let next : ℕ = length old + length (pair_bytes p) in
    let ps : List Pair = map view (drop (i + 1) xs) in
    let long : next ≡ length new = sym (ap length put ∙ length-append old (pair_bytes p)) in
    inv ∙ ap (λ (ys : List X). old ++ pairs_bytes (page_behind room (length old) (map view ys))) (drop_more xs i x within)
    ∙ ap (λ (b : Bool). old ++ pairs_bytes (first_then b p (page_behind room next ps))) goes
    ∙ sym (append_assoc old (pair_bytes p) (pairs_bytes (page_behind room next ps)))
    ∙ ap (λ (front : List ℕ). front ++ pairs_bytes (page_behind room next ps)) (sym put)
    ∙ ap (λ (n : ℕ). new ++ pairs_bytes (page_behind room n ps)) long

-- one that doesn't
pub page_ends : {X : Type 0} (view : X → Pair) (whole old : List ℕ) (room : ℕ) (xs : List X) (i : ℕ) (x : X) → i < length xs
    → (nat_eq (length old) 0 || nat_le (length old + length (pair_bytes (view (slice_index_or xs i x)))) room) ≡ false
    → whole ≡ old ++ pairs_bytes (page_behind room (length old) (map view (drop i xs))) → old ≡ whole
page_ends {X} view whole old room xs i x within stops inv =
    let p : Pair = view (slice_index_or xs i x) in
    let next : ℕ = length old + length (pair_bytes p) in
    let ps : List Pair = map view (drop (i + 1) xs) in
    sym (inv ∙ ap (λ (ys : List X). old ++ pairs_bytes (page_behind room (length old) (map view ys))) (drop_more xs i x within)
    ∙ ap (λ (b : Bool). old ++ pairs_bytes (first_then b p (page_behind room next ps))) stops ∙ append-nil old)

-- no more of them
pub page_done : {X : Type 0} (view : X → Pair) (whole old : List ℕ) (room : ℕ) (xs : List X) (i : ℕ) → length xs ≤ i
    → whole ≡ old ++ pairs_bytes (page_behind room (length old) (map view (drop i xs))) → old ≡ whole
page_done {X} view whole old room xs i past inv =
    sym (inv ∙ ap (λ (ys : List X). old ++ pairs_bytes (page_behind room (length old) (map view ys))) (drop_of_length-le xs past) ∙ append-nil old)
