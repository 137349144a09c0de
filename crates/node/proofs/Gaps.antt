-- Gaps of a node in its bytes.
use Rattle.std.proofs.Common.{◌≡◌, ℕ, zero, suc, ◌+◌, ◌<◌, ◌≤◌, true, List, [], ◌∷◌, ◌++◌, length, take, drop, Option, Ok, IsOk, refl, sym, ap, subst, ◌∙◌, append_assoc, arith}
use Rattle.std.proofs.lemmas.List.{append-nil, length-drop, take-append-drop}
use Rattle.spec.specs.NodeFormat.{Entry, NodeFault, entry_bytes, entries_bytes, are_keys_after, are_links, is_node, entries_at}
use Rattle.spec.proofs.NodeLaws.{entries_at-entries_bytes}
use Rattle.spec.proofs.Taking.{ok_is}
use Rattle.node.specs.Contents.{Contents, last_key}
use Rattle.node.specs.Gaps.{IsGap, bytes_behind, rows_behind}
use Rattle.node.specs.Rows.{Row, row_after, rows, row_at, rows_of_reading, rows_shown}
use Rattle.node.specs.Runs.{Begins}
use Rattle.node.specs.Search.{gap_at}
use Rattle.node.proofs.Joining.{are_keys_after-parts, are_links-parts}
use Rattle.node.proofs.Passing.{after_rows-none, after_rows-first, after_rows-next, after_rows-entries, begins-rows}
use Rattle.node.proofs.ReadAgain.{read-ok}
use Rattle.node.proofs.Relinking.{field, ascending-entries, linked-entries}
use Rattle.node.proofs.RowLaws.{rows_at-entries, first_row-read}

-- ---- an entry behind so many others

pub record Next (n : ℕ) (left : Option (List ℕ)) (before : List ℕ) (es : List Entry) : Type 0 where
  pub entry : Entry
  pub others : List Entry
  pub here : drop n es ≡ entry ∷ others
  pub others_are : drop (suc n) es ≡ others
  pub key_is : last_key before (take (suc n) es) ≡ entry.key
  pub gap_is : gap_at (suc n) left es ≡ entry.tree

next-at : (n : ℕ) (left : Option (List ℕ)) (before : List ℕ) (es : List Entry) → n < length es → Next n left before es
next-at n left before [] within = absurd (omega arith)
next-at zero left before (e ∷ []) within =
    record { entry = e; others = []; here = refl; others_are = refl; key_is = refl; gap_is = refl }
next-at zero left before (e ∷ f ∷ es) within =
    record { entry = e; others = f ∷ es; here = refl; others_are = refl; key_is = refl; gap_is = refl }
next-at (suc n) left before (e ∷ es) within =
    let m = next-at n e.tree e.key es (omega arith) in
    record { entry = m.entry; others = m.others; here = m.here; others_are = m.others_are; key_is = m.key_is; gap_is = m.gap_is }

-- ---- a gap's bytes

pub first-gap : (node view : Contents) (link : Option (List ℕ)) (rest : List ℕ) → node ≡ view → link ≡ view.left
    → rest ≡ entries_bytes [] view.entries ++ field 0x6c view.left → IsGap node 0 link rest
first-gap node view link rest same link_is is =
    subst (λ (m : Contents). IsGap m 0 link rest) (sym same) (first-of view link rest view.entries refl link_is is)
  where
    first-of : (view : Contents) (link : Option (List ℕ)) (rest : List ℕ) (es : List Entry) → view.entries ≡ es → link ≡ view.left
        → rest ≡ entries_bytes [] view.entries ++ field 0x6c view.left → IsGap view 0 link rest
    first-of view link rest [] e link_is is = record {
      within = omega arith;
      link_is = link_is;
      rest_is = is ∙ ap (λ (xs : List Entry). entries_bytes [] xs ++ field 0x6c view.left) e
          ∙ sym (ap (λ (xs : List Entry). entries_bytes (last_key [] (take 0 xs)) (drop 0 xs) ++ field 0x6c view.left) e);
    }
    first-of view link rest (x ∷ xs) e link_is is = record {
      within = omega arith;
      link_is = link_is;
      rest_is = is ∙ ap (λ (xs : List Entry). entries_bytes [] xs ++ field 0x6c view.left) e
          ∙ sym (ap (λ (xs : List Entry). entries_bytes (last_key [] (take 0 xs)) (drop 0 xs) ++ field 0x6c view.left) e);
    }

pub gap-begins : (node : Contents) (passed : ℕ) (rest : List ℕ) → is_node node.left node.entries ≡ true → rest ≡ bytes_behind passed node
    → Begins rest (last_key [] (take passed node.entries)) (drop passed node.entries)
gap-begins node passed rest grammar is =
    let es = node.entries in
    let whole = take-append-drop passed es in
    let keys = are_keys_after-parts [] (take passed es) (drop passed es) (ap (are_keys_after []) whole ∙ ascending-entries node.left es grammar) in
    let links = are_links-parts (take passed es) (drop passed es) (ap are_links whole ∙ linked-entries node.left es grammar) in
    record { rest = field 0x6c node.left; spelled = is; ascending = keys.1; linked = links.1 }

-- ---- on to the next gap

same-first : (x y : Row) (xs ys : List Row) → x ∷ xs ≡ y ∷ ys → x ≡ y
same-first x y xs ys e = cc

first-row : (before bytes : List ℕ) (e : Entry) (x : List ℕ) (r : Row × List ℕ) → entries_at 1 before bytes ≡ Ok (e ∷ [], x)
    → row_at bytes ≡ Ok r → (r.0 ≡ row_after before e) × (r.1 ≡ x)
unfolding rows_shown
first-row before bytes e x r read row =
    let all = rows_at-entries 1 before bytes (e ∷ [], x) read in
    let f = first_row-read 1 bytes r (omega arith) (read-ok _ _ all) row in
    let behind = sym (after_rows-entries 1 before bytes (e ∷ [], x) read) ∙ after_rows-next 1 bytes r (omega arith) row ∙ after_rows-none r.1 in
    (sym (same-first _ _ _ _ (sym (ap rows_of_reading all) ∙ f.shown)), sym (ok_is NodeFault x r.1 behind))

pub row-there : (node : Contents) (passed : ℕ) (rest : List ℕ) → is_node node.left node.entries ≡ true → rest ≡ bytes_behind passed node
    → passed < length node.entries → IsOk (row_at rest)
row-there node passed rest grammar is more =
    let some : 1 ≤ length (drop passed node.entries) = omega (arith, length-drop passed node.entries) in
    let f = after_rows-first 1 rest (omega arith) (begins-rows 1 rest _ _ (gap-begins node passed rest grammar is) some) in
    read-ok (row_at rest) f.0 f.1

pub record Stepped (node : Contents) (passed : ℕ) (r : Row × List ℕ) : Type 0 where
  pub gap : IsGap node (passed + 1) r.0.tree r.1
  pub rows_is : rows_behind passed node ≡ r.0 ∷ rows_behind (passed + 1) node

split-entry : (a b c : List ℕ) → (a ++ b) ++ c ≡ (a ++ []) ++ (b ++ c)
split-entry a b c = simp (append_assoc, append-nil)

pub steps : (node : Contents) (passed : ℕ) (link : Option (List ℕ)) (rest : List ℕ) (r : Row × List ℕ)
    → is_node node.left node.entries ≡ true → IsGap node passed link rest → passed < length node.entries → row_at rest ≡ Ok r
    → Stepped node passed r
steps node passed link rest r grammar g more row =
    let es = node.entries in
    let key = last_key [] (take passed es) in
    let b = gap-begins node passed rest grammar g.rest_is in
    let n = next-at passed node.left [] es more in
    let e = n.entry in
    let tail : List ℕ = entries_bytes e.key n.others ++ field 0x6c node.left in
    let text : rest ≡ entries_bytes key (e ∷ []) ++ tail =
    g.rest_is ∙ ap (λ (xs : List Entry). entries_bytes key xs ++ field 0x6c node.left) n.here
    ∙ split-entry (entry_bytes key e) (entries_bytes e.key n.others) (field 0x6c node.left) in
    let keys = are_keys_after-parts key (e ∷ []) n.others (sym (ap (are_keys_after key) n.here) ∙ b.ascending) in
    let links = are_links-parts (e ∷ []) n.others (sym (ap are_links n.here) ∙ b.linked) in
    let read : entries_at 1 key rest ≡ Ok (e ∷ [], tail) =
    ap (entries_at 1 key) text ∙ entries_at-entries_bytes key (e ∷ []) tail keys.0 links.0 in
    let two = first-row key rest e tail r read row in
    let one : suc passed ≡ passed + 1 = omega arith in
    let both = subst (λ (m : ℕ). IsGap node m r.0.tree r.1 × (rows_behind passed node ≡ r.0 ∷ rows_behind m node)) one (
      record {
        within = omega arith;
        link_is = ap (λ (x : Row). x.tree) two.0 ∙ sym n.gap_is;
        rest_is = two.1 ∙ ap (λ (k : List ℕ). entries_bytes k n.others ++ field 0x6c node.left) (sym n.key_is)
            ∙ ap (λ (xs : List Entry). entries_bytes (last_key [] (take (suc passed) es)) xs ++ field 0x6c node.left) (sym n.others_are);
      },
      ap (rows key) n.here ∙ ap (λ (x : Row). x ∷ rows e.key n.others) (sym two.0)
          ∙ ap (λ (k : List ℕ). r.0 ∷ rows k n.others) (sym n.key_is)
          ∙ ap (λ (xs : List Entry). r.0 ∷ rows (last_key [] (take (suc passed) es)) xs) (sym n.others_are),
    ) in
    record { gap = both.0; rows_is = both.1 }
