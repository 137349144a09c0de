-- A cut that is taken from the front, and what one layer more makes of it.
use Rattle.std.proofs.Common.{◌≡◌, ℕ, suc, ◌+◌, ◌-◌, ◌≤◌, Bool, true, false, cond, nat_eq, List, [], ◌∷◌, ◌++◌, drop, length, refl, sym, ap, ◌∙◌, append_assoc, arith}
use Rattle.std.proofs.lemmas.Bool.{eq-eqb}
use Rattle.std.proofs.lemmas.List.{length-append}
use Rattle.spec.specs.Tree.{Pair}
use Rattle.spec.specs.NodeFormat.{Entry}
use Rattle.scratch.specs.Cut.{Nodes, nodes_after, link_to, is_row_at, entries_next, under_next, rows_beyond, is_node_next, node_next, part_next, rows_raised}

abbrev Follower : Type 0
Follower = Pair × Nodes

-- the nodes under the tops of all parts
abbrev pub under_after : List (Pair × Nodes) → Nodes
under_after [] = []
under_after (r ∷ rs) = drop 1 r.1 ++ under_after rs

module _ (layer : List ℕ → ℕ) (n : ℕ) where
  -- ---- where no row of the layer is next

  pub beyond-none : (rs : List Follower) → is_row_at layer n rs ≡ false → rows_beyond layer n rs ≡ rs
  beyond-none [] h = refl
  beyond-none (r ∷ rs) h = ap (λ b. cond b (rows_beyond layer n rs) (r ∷ rs)) h

  pub under-none : (rs : List Follower) → is_row_at layer n rs ≡ false → under_next layer n rs ≡ []
  under-none [] h = refl
  under-none (r ∷ rs) h = ap (λ b. cond b (r.1 ++ under_next layer n rs) []) h

  pub entries-none : (digest : List ℕ → List ℕ) (rs : List Follower) → is_row_at layer n rs ≡ false → entries_next digest layer n rs ≡ []
  entries-none digest [] h = refl
  entries-none digest (r ∷ rs) h =
      ap (λ b. cond {A = List Entry} b (record { key = r.0.0; value = r.0.1; tree = link_to digest r.1 } ∷ entries_next digest layer n rs) []) h

  -- ---- a row of the layer

  pub beyond-row : (r : Follower) (rs : List Follower) → layer r.0.0 ≡ n → rows_beyond layer n (r ∷ rs) ≡ rows_beyond layer n rs
  beyond-row r rs same = ap (λ b. cond b (rows_beyond layer n rs) (r ∷ rs)) (eq-eqb (layer r.0.0) n same)

  pub entries-row : (digest : List ℕ → List ℕ) (r : Follower) (rs : List Follower) → layer r.0.0 ≡ n
      → entries_next digest layer n (r ∷ rs) ≡ record { key = r.0.0; value = r.0.1; tree = link_to digest r.1 } ∷ entries_next digest layer n rs
  entries-row digest r rs same =
      ap (λ b. cond {A = List Entry} b (record { key = r.0.0; value = r.0.1; tree = link_to digest r.1 } ∷ entries_next digest layer n rs) []) (eq-eqb (layer r.0.0) n same)

  -- ---- after the rows of the layer

  beyond_step : (r : Follower) (rs : List Follower) (b : Bool) → nat_eq (layer r.0.0) n ≡ b → is_row_at layer n (rows_beyond layer n rs) ≡ false → is_row_at layer n (cond b (rows_beyond layer n rs) (r ∷ rs)) ≡ false
  beyond_step r rs true h k = k
  beyond_step r rs false h k = h

  pub beyond-first : (rs : List Follower) → is_row_at layer n (rows_beyond layer n rs) ≡ false
  beyond-first [] = refl
  beyond-first (r ∷ rs) = beyond_step r rs (nat_eq (layer r.0.0) n) refl (beyond-first rs)

  after_step : (r : Follower) (rs : List Follower) (b : Bool) → nodes_after rs ≡ under_next layer n rs ++ nodes_after (rows_beyond layer n rs)
      → r.1 ++ nodes_after rs ≡ cond b (r.1 ++ under_next layer n rs) [] ++ nodes_after (cond b (rows_beyond layer n rs) (r ∷ rs))
  after_step r rs true k = ap (λ (xs : Nodes). r.1 ++ xs) k ∙ sym (append_assoc r.1 (under_next layer n rs) _)
  after_step r rs false k = refl

  pub after-split : (rs : List Follower) → nodes_after rs ≡ under_next layer n rs ++ nodes_after (rows_beyond layer n rs)
  after-split [] = refl
  after-split (r ∷ rs) = after_step r rs (nat_eq (layer r.0.0) n) (after-split rs)

  later-length : (rs : List Follower) → length (nodes_after rs) ≡ length (under_next layer n rs) + length (nodes_after (rows_beyond layer n rs))
  later-length rs = ap length (after-split rs) ∙ length-append (under_next layer n rs) (nodes_after (rows_beyond layer n rs))

  pub few-later : (first : Nodes) (rs : List Follower) (before later : ℕ) → before ≡ length (first ++ nodes_after rs) → later ≡ length (nodes_after (rows_beyond layer n rs)) → later ≤ before
  few-later first rs before later is after =
      let all : length (first ++ nodes_after rs) ≡ length first + length (nodes_after rs) = length-append first (nodes_after rs) in
      let split = later-length rs in
      omega arith

  module _ (digest : List ℕ → List ℕ) where
    -- how many nodes are taken with a node
    pub part-length : (first : Nodes) (rs : List Follower) (before later : ℕ) → is_node_next layer n first rs ≡ true → before ≡ length (first ++ nodes_after rs) → later ≡ length (nodes_after (rows_beyond layer n rs))
        → before - later + 1 ≡ length (part_next digest layer n first rs)
    part-length first rs before later some is after =
        let all : length (first ++ nodes_after rs) ≡ length first + length (nodes_after rs) = length-append first (nodes_after rs) in
        let under : length (first ++ under_next layer n rs) ≡ length first + length (under_next layer n rs) = length-append first (under_next layer n rs) in
        let split = later-length rs in
        let count : before - later + 1 ≡ suc (length (first ++ under_next layer n rs)) = omega arith in
        count ∙ sym (ap (λ b. length (cond b (node_next digest layer n first rs ∷ first ++ under_next layer n rs) [])) some)

    -- ---- the rows above

    raised_step : (r : Follower) (rs : List Follower) (b : Bool) → nat_eq (layer r.0.0) n ≡ b → rows_raised digest layer n (rows_beyond layer n rs) ≡ rows_raised digest layer n rs
        → rows_raised digest layer n (cond b (rows_beyond layer n rs) (r ∷ rs)) ≡ rows_raised digest layer n (r ∷ rs)
    raised_step r rs true h k = k ∙ sym (ap (λ b. cond b (rows_raised digest layer n rs) ((r.0, part_next digest layer n r.1 rs) ∷ rows_raised digest layer n rs)) h)
    raised_step r rs false h k = refl

    pub raised-beyond : (rs : List Follower) → rows_raised digest layer n (rows_beyond layer n rs) ≡ rows_raised digest layer n rs
    raised-beyond [] = refl
    raised-beyond (r ∷ rs) = raised_step r rs (nat_eq (layer r.0.0) n) refl (raised-beyond rs)

    pub raised-row : (r : Follower) (rs : List Follower) → is_row_at layer n (r ∷ rs) ≡ false → rows_raised digest layer n (r ∷ rs) ≡ (r.0, part_next digest layer n r.1 rs) ∷ rows_raised digest layer n rs
    raised-row r rs h = ap (λ b. cond b (rows_raised digest layer n rs) ((r.0, part_next digest layer n r.1 rs) ∷ rows_raised digest layer n rs)) h

    -- ---- under the tops are all nodes that were there

    under_step : (rs : List Follower) (b : Bool) → is_row_at layer n rs ≡ b → drop 1 (cond b (node_next digest layer n [] rs ∷ under_next layer n rs) []) ≡ under_next layer n rs
    under_step rs true h = refl
    under_step rs false h = sym (under-none rs h)

    under-part : (first : Nodes) (rs : List Follower) → drop 1 (part_next digest layer n first rs) ≡ first ++ under_next layer n rs
    under-part [] rs = under_step rs (is_row_at layer n rs) refl
    under-part (top ∷ under) rs = refl

    under-rows_step : (r : Follower) (rs : List Follower) (b : Bool) → under_next layer n rs ++ under_after (rows_raised digest layer n rs) ≡ nodes_after rs
        → cond b (r.1 ++ under_next layer n rs) [] ++ under_after (cond b (rows_raised digest layer n rs) ((r.0, part_next digest layer n r.1 rs) ∷ rows_raised digest layer n rs)) ≡ r.1 ++ nodes_after rs
    under-rows_step r rs true k = append_assoc r.1 (under_next layer n rs) _ ∙ ap (λ (xs : Nodes). r.1 ++ xs) k
    under-rows_step r rs false k =
        ap (λ (xs : Nodes). xs ++ under_after (rows_raised digest layer n rs)) (under-part r.1 rs)
        ∙ append_assoc r.1 (under_next layer n rs) _ ∙ ap (λ (xs : Nodes). r.1 ++ xs) k

    under-rows : (rs : List Follower) → under_next layer n rs ++ under_after (rows_raised digest layer n rs) ≡ nodes_after rs
    under-rows [] = refl
    under-rows (r ∷ rs) = under-rows_step r rs (nat_eq (layer r.0.0) n) (under-rows rs)

    pub under-all : (first : Nodes) (rs : List Follower) → drop 1 (part_next digest layer n first rs) ++ under_after (rows_raised digest layer n rs) ≡ first ++ nodes_after rs
    under-all first rs =
        ap (λ (xs : Nodes). xs ++ under_after (rows_raised digest layer n rs)) (under-part first rs)
        ∙ append_assoc first (under_next layer n rs) _ ∙ ap (λ (xs : Nodes). first ++ xs) (under-rows rs)
