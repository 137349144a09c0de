-- A cut as it is kept, with all nodes in one list.
use Rattle.std.proofs.Common.{◌≡◌, ℕ, ◌+◌, ◌-◌, List, [], ◌∷◌, ◌++◌, map, take, drop, length, Some, refl, sym, ap, ◌∙◌, arith}
use Rattle.std.specs.List.{slice_get}
use Rattle.std.proofs.lemmas.List.{nil_from_length, length-drop, length-map, length-append, take-append-drop, take_all, take_at, drop_at, drop-map}
use Rattle.spec.specs.Tree.{Pair}
use Rattle.scratch.specs.Cut.{Nodes, Cut, pairs_of_rows, nodes_after, nodes_of, tops_after, tops_of, counted, part_next, rows_raised, raised}
use Rattle.scratch.specs.Level.{rows_with, cut_with, count_after, pair_and_count, part_from, tops_left, under_left, parts_from}
use Rattle.scratch.specs.Rows.{pair_of}
use Rattle.scratch.specs.declared.rows.Row.{Row}
use Rattle.scratch.proofs.Cuts.{under_after, under-all}

-- ---- all nodes

after-with : (rows : List Row) (nodes : Nodes) → count_after rows ≡ length nodes → nodes_after (rows_with nodes rows) ≡ nodes
after-with [] nodes e = sym (nil_from_length nodes (sym e))
after-with (r ∷ rows) nodes e =
    let rest : length (drop r.nodes_after nodes) ≡ length nodes - r.nodes_after = length-drop r.nodes_after nodes in
    let less : count_after rows ≡ length (drop r.nodes_after nodes) = omega arith in
    ap (λ (xs : Nodes). take r.nodes_after nodes ++ xs) (after-with rows (drop r.nodes_after nodes) less) ∙ take-append-drop r.nodes_after nodes

rest-with : (first : ℕ) (rows : List Row) (nodes : Nodes) → first + count_after rows ≡ length nodes → nodes_after (rows_with (drop first nodes) rows) ≡ drop first nodes
rest-with first rows nodes e =
    let rest : length (drop first nodes) ≡ length nodes - first = length-drop first nodes in
    after-with rows (drop first nodes) (omega arith)

pub all-with : (first : ℕ) (rows : List Row) (nodes : Nodes) → first + count_after rows ≡ length nodes → nodes_of (cut_with first rows nodes) ≡ nodes
all-with first rows nodes e = ap (λ (xs : Nodes). take first nodes ++ xs) (rest-with first rows nodes e) ∙ take-append-drop first nodes

-- of elements that are seen as nodes
module _ {X : Type 0} (f : X → List ℕ) (first : ℕ) (rows : List Row) (xs : List X) (cut : Cut) (view : cut_with first rows (map f xs) ≡ cut) (count : first + count_after rows ≡ length xs) where
  mapped : first + count_after rows ≡ length (map f xs)
  mapped = count ∙ sym (length-map xs f)

  pub all-kept : map f xs ≡ nodes_of cut
  all-kept = sym (all-with first rows (map f xs) mapped) ∙ ap nodes_of view

  pub count-kept : length xs ≡ length (nodes_of cut)
  count-kept = sym (length-map xs f) ∙ ap length all-kept

  pub later-kept : length xs - first ≡ length (nodes_after cut.rows)
  later-kept =
      let rest : length (drop first (map f xs)) ≡ length (map f xs) - first = length-drop first (map f xs) in
      let same : length (map f xs) ≡ length xs = length-map xs f in
      let less : length xs - first ≡ length (drop first (map f xs)) = omega arith in
      less ∙ ap length (sym (rest-with first rows (map f xs) mapped)) ∙ ap (λ (c : Cut). length (nodes_after c.rows)) view

-- the rows' pairs
pub pairs-with : (rows : List Row) (nodes : Nodes) → pairs_of_rows (rows_with nodes rows) ≡ map pair_of rows
pairs-with [] nodes = refl
pairs-with (r ∷ rows) nodes = ap (λ (es : List Pair). pair_of r ∷ es) (pairs-with rows (drop r.nodes_after nodes))

-- ---- the next row

next_of_rows : {X : Type 0} (f : X → List ℕ) (rows : List Row) (xs ys : List X) (row : Row) (rest : List Row) → ys ≡ xs → rows ≡ row ∷ rest
    → rows_with (map f xs) rows ≡ (pair_of row, take row.nodes_after (map f ys)) ∷ rows_with (drop row.nodes_after (map f ys)) rest
next_of_rows f rows xs ys row rest same is =
    ap (rows_with (map f xs)) is ∙ ap (λ zs. (pair_of row, take row.nodes_after (map f zs)) ∷ rows_with (drop row.nodes_after (map f zs)) rest) (sym same)

pub next-row : {X : Type 0} (xs : List X) (x : X) → Some x ≡ slice_get xs 0 → xs ≡ x ∷ take (length xs - 1) (drop 1 xs)
next-row [] x e = absurd cc
next-row (y ∷ xs) x e =
    let same : y ≡ x = cc in
    let long : length xs ≡ length (y ∷ xs) - 1 = omega arith in
    ap (λ z. z ∷ xs) same ∙ ap (λ zs. x ∷ zs) (sym (take_all (length (y ∷ xs) - 1) xs (omega arith)))

pub next-kept : {X : Type 0} (f : X → List ℕ) (first : ℕ) (rows : List Row) (xs : List X) (cut : Cut) (row : Row) → cut_with first rows (map f xs) ≡ cut → Some row ≡ slice_get rows 0
    → cut.rows ≡ (pair_of row, take row.nodes_after (map f (take (length xs - first) (drop first xs)))) ∷ rows_with (drop row.nodes_after (map f (take (length xs - first) (drop first xs)))) (take (length rows - 1) (drop 1 rows))
next-kept f first rows xs cut row view is =
    let rest : length (drop first xs) ≡ length xs - first = length-drop first xs in
    ap (λ (c : Cut). c.rows) (sym view)
    ∙ ap (λ zs. rows_with zs rows) (drop-map f first xs)
    ∙ next_of_rows f rows (drop first xs) (take (length xs - first) (drop first xs)) row (take (length rows - 1) (drop 1 rows)) (take_all (length xs - first) (drop first xs) (omega arith)) (next-row rows row is)

-- ---- parts by their numbers of nodes

part-whole : (part tops under : Nodes) → part_from (length part) (take 1 part ++ tops) (drop 1 part ++ under) ≡ part
part-whole [] tops under = refl
part-whole (x ∷ part) tops under = ap (λ (xs : Nodes). x ∷ xs) (take_at part under (length part) refl)

tops-whole : (part tops : Nodes) → tops_left (length part) (take 1 part ++ tops) ≡ tops
tops-whole [] tops = refl
tops-whole (x ∷ part) tops = refl

under-whole : (part under : Nodes) → under_left (length part) (drop 1 part ++ under) ≡ under
under-whole [] under = refl
under-whole (x ∷ part) under = drop_at part under (length part) refl

abbrev counts : List (Pair × Nodes) → List ℕ
counts rs = map (λ (x : Pair × ℕ). x.1) (counted rs)

parts-whole : (rs : List (Pair × Nodes)) → parts_from (counts rs) (tops_after rs) (under_after rs) ≡ nodes_after rs
parts-whole [] = refl
parts-whole (r ∷ rs) =
    ap (λ (xs : Nodes). xs ++ parts_from (counts rs) (tops_left (length r.1) (take 1 r.1 ++ tops_after rs)) (under_left (length r.1) (drop 1 r.1 ++ under_after rs))) (part-whole r.1 (tops_after rs) (under_after rs))
    ∙ ap (λ (xs : Nodes). r.1 ++ parts_from (counts rs) xs (under_left (length r.1) (drop 1 r.1 ++ under_after rs))) (tops-whole r.1 (tops_after rs))
    ∙ ap (λ (xs : Nodes). r.1 ++ parts_from (counts rs) (tops_after rs) xs) (under-whole r.1 (under_after rs))
    ∙ ap (λ (xs : Nodes). r.1 ++ xs) (parts-whole rs)

pub cut-whole : (c : Cut) → parts_from (length c.first ∷ counts c.rows) (tops_of c) (drop 1 c.first ++ under_after c.rows) ≡ nodes_of c
cut-whole c = parts-whole ((([], []), c.first) ∷ c.rows)

-- ---- kept again

second-counts : (rows : List Row) → map (λ (r : Row). r.nodes_after) rows ≡ map (λ (x : Pair × ℕ). x.1) (map pair_and_count rows)
second-counts [] = refl
second-counts (r ∷ rows) = ap (λ (xs : List ℕ). r.nodes_after ∷ xs) (second-counts rows)

same_ends : {X : Type 0} (x y : X) (xs ys : List X) → (x ∷ xs) ≡ (y ∷ ys) → (x ≡ y) × (xs ≡ ys)
same_ends x y xs ys e = (cc, cc)

rows-again : (rows : List Row) (rs : List (Pair × Nodes)) → map pair_and_count rows ≡ counted rs → rows_with (nodes_after rs) rows ≡ rs
rows-again [] [] e = refl
rows-again [] (x ∷ rs) e = absurd cc
rows-again (r ∷ rows) [] e = absurd cc
rows-again (r ∷ rows) (x ∷ rs) e =
    let ends = same_ends (pair_of r, r.nodes_after) (x.0, length x.1) (map pair_and_count rows) (counted rs) e in
    let pair : pair_of r ≡ x.0 = ap (λ (y : Pair × ℕ). y.0) ends.0 in
    let count : r.nodes_after ≡ length x.1 = ap (λ (y : Pair × ℕ). y.1) ends.0 in
    let part : take r.nodes_after (x.1 ++ nodes_after rs) ≡ x.1 = take_at x.1 (nodes_after rs) r.nodes_after (sym count) in
    let rest : drop r.nodes_after (x.1 ++ nodes_after rs) ≡ nodes_after rs = drop_at x.1 (nodes_after rs) r.nodes_after (sym count) in
    let head : ◌≡◌ {A = Pair × Nodes} (pair_of r, take r.nodes_after (x.1 ++ nodes_after rs)) x = λ i. (pair i, part i) in
    ap (λ (y : Pair × Nodes). y ∷ rows_with (drop r.nodes_after (x.1 ++ nodes_after rs)) rows) head
    ∙ ap (λ (ys : Nodes). x ∷ rows_with ys rows) rest
    ∙ ap (λ (ys : List (Pair × Nodes)). x ∷ ys) (rows-again rows rs ends.1)

count-again : (rows : List Row) (rs : List (Pair × Nodes)) → map pair_and_count rows ≡ counted rs → count_after rows ≡ length (nodes_after rs)
count-again [] [] e = refl
count-again [] (x ∷ rs) e = absurd cc
count-again (r ∷ rows) [] e = absurd cc
count-again (r ∷ rows) (x ∷ rs) e =
    let ends = same_ends (pair_of r, r.nodes_after) (x.0, length x.1) (map pair_and_count rows) (counted rs) e in
    let count : r.nodes_after ≡ length x.1 = ap (λ (y : Pair × ℕ). y.1) ends.0 in
    let rest : count_after rows ≡ length (nodes_after rs) = count-again rows rs ends.1 in
    let all : length (x.1 ++ nodes_after rs) ≡ length x.1 + length (nodes_after rs) = length-append x.1 (nodes_after rs) in
    omega arith

module _ (c : Cut) (first : ℕ) (rows : List Row) (nodes : Nodes) (count : first ≡ length c.first) (counts_are : map pair_and_count rows ≡ counted c.rows) (all : nodes ≡ nodes_of c) where
  pub cut-again : cut_with first rows nodes ≡ c
  cut-again =
      let part : take first nodes ≡ c.first = ap (take first) all ∙ take_at c.first (nodes_after c.rows) first (sym count) in
      let rest : drop first nodes ≡ nodes_after c.rows = ap (drop first) all ∙ drop_at c.first (nodes_after c.rows) first (sym count) in
      let following : rows_with (drop first nodes) rows ≡ c.rows = ap (λ (ys : Nodes). rows_with ys rows) rest ∙ rows-again rows c.rows counts_are in
      λ i. record { first = part i; rows = following i }

  pub length-again : first + count_after rows ≡ length nodes
  length-again =
      let sum : length (c.first ++ nodes_after c.rows) ≡ length c.first + length (nodes_after c.rows) = length-append c.first (nodes_after c.rows) in
      let whole : length nodes ≡ length (c.first ++ nodes_after c.rows) = ap length all in
      let later = count-again rows c.rows counts_are in
      omega arith

-- the nodes are the parts of a cut
pub merged-are : (c : Cut) (first : ℕ) (rows : List Row) (nodes tops under : Nodes) → first ≡ length c.first → map pair_and_count rows ≡ counted c.rows → tops ≡ tops_of c → under ≡ drop 1 c.first ++ under_after c.rows
    → nodes ≡ parts_from (first ∷ map (λ (r : Row). r.nodes_after) rows) tops under → nodes ≡ nodes_of c
merged-are c first rows nodes tops under count counts_are tops_are under_are e =
    e ∙ ap (λ (ns : List ℕ). parts_from (first ∷ ns) tops under) (second-counts rows ∙ ap (map (λ (x : Pair × ℕ). x.1)) counts_are)
    ∙ ap (λ k. parts_from (k ∷ counts c.rows) tops under) count
    ∙ ap (λ (xs : Nodes). parts_from (length c.first ∷ counts c.rows) xs under) tops_are
    ∙ ap (parts_from (length c.first ∷ counts c.rows) (tops_of c)) under_are
    ∙ cut-whole c

-- ---- one layer more

module _ (digest : List ℕ → List ℕ) (layer : List ℕ → ℕ) (n : ℕ) {X : Type 0} (f : X → List ℕ) (self unread : Cut) (first : ℕ) (rows lent : List Row) (tops : Nodes) (old nodes : List X)
    (same : unread ≡ self) (count : first ≡ length (part_next digest layer n unread.first unread.rows)) (counts_are : map pair_and_count rows ≡ counted (rows_raised digest layer n unread.rows))
    (tops_are : tops ≡ tops_of (raised digest layer n unread)) (old_are : map f old ≡ nodes_of self) (lent_are : lent ≡ rows)
    (merged : map f nodes ≡ parts_from (first ∷ map (λ (r : Row). r.nodes_after) lent) tops (map f old)) where
  raised-nodes : map f nodes ≡ nodes_of (raised digest layer n unread)
  raised-nodes =
      merged-are (raised digest layer n unread) first rows (map f nodes) tops (map f old) count counts_are tops_are
      (old_are ∙ ap nodes_of (sym same) ∙ sym (under-all layer n digest unread.first unread.rows))
      (merged ∙ ap (λ (rs : List Row). parts_from (first ∷ map (λ (r : Row). r.nodes_after) rs) tops (map f old)) lent_are)

  pub raised-kept : cut_with first rows (map f nodes) ≡ raised digest layer n self
  raised-kept = cut-again (raised digest layer n unread) first rows (map f nodes) count counts_are raised-nodes ∙ ap (raised digest layer n) same

  pub raised-count : first + count_after rows ≡ length nodes
  raised-count = length-again (raised digest layer n unread) first rows (map f nodes) count counts_are raised-nodes ∙ length-map nodes f
