-- A node read pair by pair.
use Rattle.std.proofs.Common.{◌≡◌, ℕ, true, ◌&&◌, List, [], ◌∷◌, Option, refl, sym, ap, subst, ◌∙◌}
use Rattle.std.specs.Cmp.Lexicographic.{slice_cmp}
use Rattle.std.specs.Ordering.{nat_cmp, is_lt}
use Rattle.spec.specs.NodeFormat.{Entry, MoreLinks, first_link, entries_of, is_key, are_keys_after}
use Rattle.spec.proofs.Bools.{both}
use Rattle.node.specs.Rows.{Row, rows}
use Rattle.node.proofs.Stepping.{prefix-fits, key-fits, key-stepped}
use Rattle.edit_laws.specs.Sources.{shape_from}
use Rattle.rows.specs.Entries.{shape_of_rows, AreKeys}

pub first-shape_of_rows : (before : List ℕ) (l : Option (List ℕ)) (rs : List Row)
    → first_link (shape_of_rows before l rs) ≡ l
first-shape_of_rows before l [] = refl
first-shape_of_rows before l (r ∷ rs) = refl

pub shape_of_rows-rows : (before : List ℕ) (l : Option (List ℕ)) (es : List Entry)
    → shape_of_rows before l (rows before es) ≡ shape_from l es
shape_of_rows-rows before l [] = refl
shape_of_rows-rows before l (e ∷ es) =
    ap (λ (k : List ℕ). MoreLinks l (k, e.value) (shape_of_rows k e.tree (rows e.key es))) (key-stepped before e)
    ∙ ap (MoreLinks l (e.key, e.value)) (shape_of_rows-rows e.key e.tree es)

pub AreKeys-rows : (before : List ℕ) (es : List Entry) → are_keys_after before es ≡ true → AreKeys before (rows before es)
AreKeys-rows before [] h = tt
AreKeys-rows before (e ∷ es) h =
    let parts = both (is_lt (slice_cmp nat_cmp before e.key) && is_key e.key) (are_keys_after e.key es) h in
    let key = both (is_lt (slice_cmp nat_cmp before e.key)) (is_key e.key) parts.0 in (
      prefix-fits before e,
      key-fits before e key.1,
      subst (λ (k : List ℕ). AreKeys k (rows e.key es)) (sym (key-stepped before e)) (AreKeys-rows e.key es parts.1),
    )

pub first_link-from : (left : Option (List ℕ)) (es : List Entry) → first_link (shape_from left es) ≡ left
first_link-from left [] = refl
first_link-from left (e ∷ es) = refl

pub entries_of-from : (left : Option (List ℕ)) (es : List Entry) → entries_of (shape_from left es) ≡ es
entries_of-from left [] = refl
entries_of-from left (e ∷ es) =
    ap (λ l. record { key = e.key; value = e.value; tree = l } ∷ entries_of (shape_from e.tree es))
    (first_link-from e.tree es)
    ∙ ap (λ fs. e ∷ fs) (entries_of-from e.tree es)
