-- The steps by which a node is written.
use Rattle.std.proofs.Common.{◌≡◌, ℕ, ◌<◌, ◌≤◌, Bool, true, false, cond, nat_eq, List, [], ◌∷◌, ◌++◌, map, take, length, Option, refl, sym, ap, subst, ◌∙◌, append_assoc, arith}
use Rattle.std.proofs.lemmas.List.{append-nil, map_push}
use Rattle.spec.specs.Tree.{Pair}
use Rattle.spec.specs.NodeFormat.{Entry, node_spelling}
use Rattle.node.specs.Contents.{last_key}
use Rattle.scratch.specs.Cut.{Nodes, counted, pairs_of_rows, link_to, is_row_at, entries_next, rows_beyond, node_next, part_next, raised, rows_raised, tops_after, tops_of}
use Rattle.scratch.specs.Level.{pair_and_count}
use Rattle.scratch.specs.Rows.{pair_of, AreLayered}
use Rattle.scratch.specs.declared.rows.Row.{Row}
use Rattle.scratch.proofs.Ascending.{Rises, Begins-cons, Rises-tail}
use Rattle.scratch.proofs.Cuts.{entries-none, entries-row, beyond-none, beyond-row, beyond-first, raised-beyond, raised-row}

pub Rises-same : (a b : List ℕ) (es fs : List Pair) → a ≡ b → es ≡ fs → Rises b fs → Rises a es
Rises-same a b es fs p q r = subst (λ x. Rises x es) (sym p) (subst (λ (xs : List Pair). Rises b xs) (sym q) r)

last_key-append : (before : List ℕ) (es : List Entry) (e : Entry) → last_key before (es ++ e ∷ []) ≡ e.key
last_key-append before [] e = refl
last_key-append before (d ∷ es) e = last_key-append d.key es e

-- ---- a row becomes an entry

module _ (digest : List ℕ → List ℕ) (layer : List ℕ → ℕ) (n : ℕ) (rs rest : List (Pair × Nodes)) (r : Pair × Nodes) (taken : rs ≡ r ∷ rest) where
  pub fewer : length rest < length rs
  fewer = let long : length rs ≡ length (r ∷ rest) = ap length taken in omega arith

  -- the keys that are left are above the new entry's
  pub rises-on : (es after : List Entry) (e : Entry) → Rises (last_key [] es) (pairs_of_rows rs) → after ≡ es ++ e ∷ [] → e.key ≡ r.0.0 → Rises (last_key [] after) (pairs_of_rows rest)
  rises-on es after e up more same =
      Rises-same (last_key [] after) r.0.0 (pairs_of_rows rest) (pairs_of_rows rest) (ap (last_key []) more ∙ last_key-append [] es e ∙ same) refl
      (Begins-cons (last_key [] es) r.0 (pairs_of_rows rest) (Rises-same (last_key [] es) (last_key [] es) (r.0 ∷ pairs_of_rows rest) (pairs_of_rows rs) refl (ap pairs_of_rows (sym taken)) up)).rest

  module _ (same : layer r.0.0 ≡ n) where
    pub entries-on : (all es after : List Entry) (link : Option (List ℕ)) → all ≡ es ++ entries_next digest layer n rs → after ≡ es ++ record { key = r.0.0; value = r.0.1; tree = link } ∷ [] → link ≡ link_to digest r.1
        → all ≡ after ++ entries_next digest layer n rest
    entries-on all es after link is more linked =
        is ∙ ap (λ (xs : List (Pair × Nodes)). es ++ entries_next digest layer n xs) taken
        ∙ ap (λ (xs : List Entry). es ++ xs) (entries-row layer n digest r rest same)
        ∙ ap (λ (l : Option (List ℕ)). es ++ record { key = r.0.0; value = r.0.1; tree = l } ∷ entries_next digest layer n rest) (sym linked)
        ∙ sym (append_assoc es (record { key = r.0.0; value = r.0.1; tree = link } ∷ []) _)
        ∙ ap (λ (xs : List Entry). xs ++ entries_next digest layer n rest) (sym more)

    pub beyond-on : (all : List (Pair × Nodes)) → all ≡ rows_beyond layer n rs → all ≡ rows_beyond layer n rest
    beyond-on all is = is ∙ ap (rows_beyond layer n) taken ∙ beyond-row layer n r rest same

-- ---- no further row

module _ (digest : List ℕ → List ℕ) (layer : List ℕ → ℕ) (n : ℕ) (rs : List (Pair × Nodes)) (none : is_row_at layer n rs ≡ false) where
  pub spelled : (first : Nodes) (all : List (Pair × Nodes)) (bytes : List ℕ) (left : Option (List ℕ)) (es : List Entry) → bytes ≡ node_spelling left es → left ≡ link_to digest first
      → entries_next digest layer n all ≡ es ++ entries_next digest layer n rs → bytes ≡ node_next digest layer n first all
  spelled first all bytes left es written linked are =
      let whole : es ≡ entries_next digest layer n all = sym (append-nil es) ∙ ap (λ (xs : List Entry). es ++ xs) (sym (entries-none layer n digest rs none)) ∙ sym are in
      written ∙ ap (λ (l : Option (List ℕ)). node_spelling l es) linked ∙ ap (node_spelling (link_to digest first)) whole

  pub left-beyond : (all after : List (Pair × Nodes)) → all ≡ rows_beyond layer n rs → after ≡ rs → after ≡ all
  left-beyond all after is same = same ∙ sym (beyond-none layer n rs none) ∙ sym is

-- ---- the layer, part by part

module _ (layer : List ℕ → ℕ) (n : ℕ) where
  Rises-beyond_step : (before : List ℕ) (r : Pair × Nodes) (rs : List (Pair × Nodes)) (b : Bool) → Rises before (r.0 ∷ pairs_of_rows rs)
      → (Rises before (pairs_of_rows rs) → Rises before (pairs_of_rows (rows_beyond layer n rs))) → Rises before (pairs_of_rows (cond b (rows_beyond layer n rs) (r ∷ rs)))
  Rises-beyond_step before r rs true up further = further (Rises-tail before r.0 (pairs_of_rows rs) up)
  Rises-beyond_step before r rs false up further = up

  Rises-beyond : (before : List ℕ) (rs : List (Pair × Nodes)) → Rises before (pairs_of_rows rs) → Rises before (pairs_of_rows (rows_beyond layer n rs))
  Rises-beyond before [] up = up
  Rises-beyond before (r ∷ rs) up = Rises-beyond_step before r rs (nat_eq (layer r.0.0) n) up (Rises-beyond before rs)

  length-beyond_step : (r : Pair × Nodes) (rs : List (Pair × Nodes)) (b : Bool) → length (rows_beyond layer n rs) ≤ length rs → length (cond b (rows_beyond layer n rs) (r ∷ rs)) ≤ length (r ∷ rs)
  length-beyond_step r rs true h = omega arith
  length-beyond_step r rs false h = omega arith

  length-beyond : (rs : List (Pair × Nodes)) → length (rows_beyond layer n rs) ≤ length rs
  length-beyond [] = omega arith
  length-beyond (r ∷ rs) = length-beyond_step r rs (nat_eq (layer r.0.0) n) (length-beyond rs)

  pub rises-left : (rest left : List (Pair × Nodes)) → left ≡ rows_beyond layer n rest → Rises [] (pairs_of_rows rest) → Rises [] (pairs_of_rows left)
  rises-left rest left is up = Rises-same [] [] (pairs_of_rows left) (pairs_of_rows (rows_beyond layer n rest)) refl (ap pairs_of_rows is) (Rises-beyond [] rest up)

  pub above-left : (rest left : List (Pair × Nodes)) → left ≡ rows_beyond layer n rest → is_row_at layer n left ≡ false
  above-left rest left is = ap (is_row_at layer n) is ∙ beyond-first layer n rest

  pub rises-rest : (rs rest : List (Pair × Nodes)) (r : Pair × Nodes) → rs ≡ r ∷ rest → Rises [] (pairs_of_rows rs) → Rises [] (pairs_of_rows rest)
  rises-rest rs rest r taken up =
      Rises-tail [] r.0 (pairs_of_rows rest) (Rises-same [] [] (r.0 ∷ pairs_of_rows rest) (pairs_of_rows rs) refl (ap pairs_of_rows (sym taken)) up)

  pub fewer-left : (rs rest left : List (Pair × Nodes)) (r : Pair × Nodes) → rs ≡ r ∷ rest → left ≡ rows_beyond layer n rest → length left < length rs
  fewer-left rs rest left r taken is =
      let long : length rs ≡ length (r ∷ rest) = ap length taken in
      let short : length left ≡ length (rows_beyond layer n rest) = ap length is in
      omega (arith, length-beyond rest)

pub layered-on : (layer : List ℕ → ℕ) (rows after : List Row) (row : Row) → AreLayered layer rows → row.layer ≡ layer row.key.now → after ≡ rows ++ row ∷ [] → AreLayered layer after
layered-on layer rows after row are is more = subst (AreLayered layer) (sym more) (all rows are)
  where
    all : (xs : List Row) → AreLayered layer xs → AreLayered layer (xs ++ row ∷ [])
    all [] h = (is, tt)
    all (x ∷ xs) h = (h.0, all xs h.1)

module _ (digest : List ℕ → List ℕ) (layer : List ℕ → ℕ) (n : ℕ) where
  module _ (all left : List (Pair × Nodes)) (is : left ≡ rows_beyond layer n all) where
    raised-left : rows_raised digest layer n left ≡ rows_raised digest layer n all
    raised-left = ap (rows_raised digest layer n) is ∙ raised-beyond layer n digest all

    pub counted-begun : (none : List Row) → none ≡ [] → map pair_and_count none ++ counted (rows_raised digest layer n left) ≡ counted (rows_raised digest layer n all)
    counted-begun none empty = ap (λ (xs : List Row). map pair_and_count xs ++ counted (rows_raised digest layer n left)) empty ∙ ap counted raised-left

    pub tops-begun : {X : Type 0} (f : X → List ℕ) (none some : List X) (first : Nodes) → none ≡ [] → map f some ≡ map f none ++ take 1 (part_next digest layer n first all)
        → map f some ++ tops_after (rows_raised digest layer n left) ≡ tops_of (raised digest layer n (record { first = first; rows = all }))
    tops-begun f none some first empty more =
        ap (λ (xs : Nodes). xs ++ tops_after (rows_raised digest layer n left)) (more ∙ ap (λ xs. map f xs ++ take 1 (part_next digest layer n first all)) empty)
        ∙ ap (λ (rs : List (Pair × Nodes)). take 1 (part_next digest layer n first all) ++ tops_after rs) raised-left

  module _ (rs rest left : List (Pair × Nodes)) (r : Pair × Nodes) (taken : rs ≡ r ∷ rest) (above : is_row_at layer n rs ≡ false) (is : left ≡ rows_beyond layer n rest) where
    raised-on : rows_raised digest layer n rs ≡ (r.0, part_next digest layer n r.1 rest) ∷ rows_raised digest layer n left
    raised-on =
        ap (rows_raised digest layer n) taken ∙ raised-row layer n digest r rest (ap (is_row_at layer n) (sym taken) ∙ above)
        ∙ ap (λ (xs : List (Pair × Nodes)). (r.0, part_next digest layer n r.1 rest) ∷ xs) (sym (raised-left rest left is))

    pub counted-on : (rows after : List Row) (row : Row) (all : List (Pair × ℕ)) → map pair_and_count rows ++ counted (rows_raised digest layer n rs) ≡ all → after ≡ rows ++ row ∷ []
        → pair_of row ≡ r.0 → row.nodes_after ≡ length (part_next digest layer n r.1 rest) → map pair_and_count after ++ counted (rows_raised digest layer n left) ≡ all
    counted-on rows after row all are more pair count =
        let same : ◌≡◌ {A = Pair × ℕ} (pair_of row, row.nodes_after) (r.0, length (part_next digest layer n r.1 rest)) = λ i. (pair i, count i) in
        ap (λ (xs : List Row). map pair_and_count xs ++ counted (rows_raised digest layer n left)) more
        ∙ ap (λ (xs : List (Pair × ℕ)). xs ++ counted (rows_raised digest layer n left)) (map_push pair_and_count rows row)
        ∙ append_assoc (map pair_and_count rows) (pair_and_count row ∷ []) _
        ∙ ap (λ (x : Pair × ℕ). map pair_and_count rows ++ x ∷ counted (rows_raised digest layer n left)) same
        ∙ ap (λ (xs : List (Pair × Nodes)). map pair_and_count rows ++ counted xs) (sym raised-on) ∙ are

    pub tops-on : (old new all : Nodes) → old ++ tops_after (rows_raised digest layer n rs) ≡ all → new ≡ old ++ take 1 (part_next digest layer n r.1 rest) → new ++ tops_after (rows_raised digest layer n left) ≡ all
    tops-on old new all are more =
        ap (λ (xs : Nodes). xs ++ tops_after (rows_raised digest layer n left)) more ∙ append_assoc old _ _
        ∙ ap (λ (xs : List (Pair × Nodes)). old ++ tops_after xs) (sym raised-on) ∙ are
