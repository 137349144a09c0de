-- Runs of a node's pairs, and other links behind them.
use Rattle.std.proofs.Common.{◌≡◌, ℕ, zero, suc, ◌<◌, ◌≤◌, ◌-◌, true, false, List, [], ◌∷◌, ◌++◌, length, take, drop, length-append, Option, None, refl, sym, ap, subst, ◌∙◌, arith}
use Rattle.std.proofs.lemmas.List.{length-take, length-drop}
use Rattle.spec.specs.Tree.{Pair}
use Rattle.spec.specs.NodeFormat.{Entry, Shape, LastLink, MoreLinks, are_keys_after, is_node, node_spelling}
use Rattle.node.specs.Contents.{Contents, last_key, is_next_key}
use Rattle.node.specs.Search.{gap_at, relink_at}
use Rattle.edit_laws.specs.Lawful.{HasKeys}
use Rattle.edit_laws.specs.Sources.{shape_from}
use Rattle.rows.specs.Drafts.{onto, IsDraft, shape_in, is_empty_node}
use Rattle.rows.specs.Entries.{key_behind, part_of, rows_between}
use Rattle.rows.specs.OldNodes.{linked, first_rows}
use Rattle.rows.specs.Begun.{IsBegun}
use Rattle.rows.specs.Written.{has_rows}
use Rattle.rows.proofs.Drafting.{Links, turned, unlawful, entry_with, written}
use Rattle.rows.proofs.Keys.{keys-next, keys-run, keys-relinked}

abbrev row_of : Option (List ℕ) → Entry → Option (List ℕ) × Pair
row_of l e = (l, (e.key, e.value))

-- ---- lists

none-left : (n : ℕ) → n - 0 ≡ n
none-left n = omega arith

less : (n m : ℕ) → suc m - suc n ≡ m - n
less n m = omega arith

abbrev no-entry : List Entry
no-entry = []

take-nil : (n : ℕ) → take n no-entry ≡ []
take-nil zero = refl
take-nil (suc n) = refl

drop-no : (es : List Entry) → drop 0 es ≡ es
drop-no [] = refl
drop-no (e ∷ es) = refl

drop-none : (xs : Links) → drop 0 xs ≡ xs
drop-none [] = refl
drop-none (x ∷ xs) = refl

take-whole : (n : ℕ) (es : List Entry) → take (n - 0) (drop 0 es) ≡ take n es
take-whole n es = ap (λ (k : ℕ). take k (drop 0 es)) (none-left n) ∙ ap (take n) (drop-no es)

-- ---- pairs by the entries

pub linked-append : (l : Option (List ℕ)) (xs ys : List Entry)
    → linked l (xs ++ ys) ≡ linked l xs ++ linked (gap_at (length xs) l xs) ys
linked-append l [] ys = refl
linked-append l (x ∷ xs) ys = ap (λ (zs : Links). row_of l x ∷ zs) (linked-append x.tree xs ys)

pub some-rows : (l : Option (List ℕ)) (es : List Entry) → 0 < length es → true ≡ has_rows (linked l es)
some-rows l [] some = absurd (omega arith)
some-rows l (e ∷ es) some = refl

pub key-linked : (b : List ℕ) (l : Option (List ℕ)) (es : List Entry) → key_behind b (linked l es) ≡ last_key b es
key-linked b l [] = refl
key-linked b l (e ∷ es) = key-linked e.key e.tree es

pub key-append : (b : List ℕ) (xs : Links) (x : Option (List ℕ) × Pair) → key_behind b (xs ++ x ∷ []) ≡ x.1.0
key-append b [] x = refl
key-append b (y ∷ ys) x = key-append y.1.0 ys x

pub gap-append : (l : Option (List ℕ)) (xs ys : List Entry)
    → gap_at (length (xs ++ ys)) l (xs ++ ys) ≡ gap_at (length ys) (gap_at (length xs) l xs) ys
gap-append l [] ys = refl
gap-append l (x ∷ xs) ys = gap-append x.tree xs ys

gap-taken : (n : ℕ) (l : Option (List ℕ)) (es : List Entry) → n ≤ length es
    → gap_at (length (take n es)) l (take n es) ≡ gap_at n l es
gap-taken zero l [] within = refl
gap-taken zero l (e ∷ es) within = refl
gap-taken (suc n) l [] within = absurd (omega arith)
gap-taken (suc n) l (e ∷ es) within = gap-taken n e.tree es (omega arith)

pub gap-run : (a b : ℕ) (l : Option (List ℕ)) (es : List Entry) → a ≤ b → b ≤ length es
    → gap_at (length (take (b - a) (drop a es))) (gap_at a l es) (take (b - a) (drop a es)) ≡ gap_at b l es
gap-run zero b l es more within =
    ap (λ (xs : List Entry). gap_at (length xs) l xs) (take-whole b es) ∙ gap-taken b l es within
gap-run (suc a) zero l es more within = absurd (omega arith)
gap-run (suc a) (suc b) l [] more within = absurd (omega arith)
gap-run (suc a) (suc b) l (e ∷ es) more within =
    ap (λ (k : ℕ). gap_at (length (take k (drop a es))) (gap_at a e.tree es) (take k (drop a es))) (less a b)
    ∙ gap-run a b e.tree es (omega arith) (omega arith)

-- ---- pairs that were read

take-linked : (n m : ℕ) (left : Option (List ℕ)) (es : List Entry) → n ≤ m
    → take n (linked left (take m es)) ≡ linked left (take n es)
take-linked zero m left [] few = ap (λ (xs : List Entry). take 0 (linked left xs)) (take-nil m)
take-linked zero zero left (e ∷ es) few = refl
take-linked zero (suc m) left (e ∷ es) few = refl
take-linked (suc n) zero left es few = absurd (omega arith)
take-linked (suc n) (suc m) left [] few = refl
take-linked (suc n) (suc m) left (e ∷ es) few =
    ap (λ (xs : Links). row_of left e ∷ xs) (take-linked n m e.tree es (omega arith))

drop-linked : (a b : ℕ) (l : Option (List ℕ)) (es : List Entry) → a ≤ b
    → drop a (linked l (take b es)) ≡ linked (gap_at a l es) (take (b - a) (drop a es))
drop-linked zero b l es more = drop-none (linked l (take b es)) ∙ ap (linked l) (sym (take-whole b es))
drop-linked (suc a) zero l es more = absurd (omega arith)
drop-linked (suc a) (suc b) l [] more = sym (ap (linked l) (take-nil (suc b - suc a)))
drop-linked (suc a) (suc b) l (e ∷ es) more =
    drop-linked a b e.tree es (omega arith)
    ∙ ap (λ (k : ℕ). linked (gap_at a e.tree es) (take k (drop a es))) (sym (less a b))

pub part-between : (from to all : ℕ) (node : Contents) (rows : Links) → rows ≡ first_rows all node → from ≤ to → to ≤ all
    → part_of from to rows ≡ rows_between from to node
part-between from to all node rows is more few =
    ap (part_of from to) is ∙ ap (drop from) (take-linked to all node.left node.entries few)
    ∙ drop-linked from to node.left node.entries more

pub key-taken : (n all : ℕ) (node : Contents) (rows : Links) → rows ≡ first_rows all node → n ≤ all
    → key_behind [] (take n rows) ≡ last_key [] (take n node.entries)
key-taken n all node rows is few =
    ap (λ (xs : Links). key_behind [] (take n xs)) is
    ∙ ap (key_behind []) (take-linked n all node.left node.entries few)
    ∙ key-linked [] node.left (take n node.entries)

-- ---- another link behind the last pair

pub relinked-rows : (l new : Option (List ℕ)) (es : List Entry)
    → linked (relink_at (length es) l es new).left (relink_at (length es) l es new).entries ≡ linked l es
relinked-rows l new [] = refl
relinked-rows l new (e ∷ es) = ap (λ (xs : Links). row_of l e ∷ xs) (relinked-rows e.tree new es)

pub relinked-end : (l new : Option (List ℕ)) (es : List Entry)
    → gap_at (length (relink_at (length es) l es new).entries) (relink_at (length es) l es new).left
    (relink_at (length es) l es new).entries ≡ new
relinked-end l new [] = refl
relinked-end l new (e ∷ es) = relinked-end e.tree new es

pub relinked-long : (place : ℕ) (left new : Option (List ℕ)) (es : List Entry)
    → length (relink_at place left es new).entries ≡ length es
relinked-long zero left new es = refl
relinked-long (suc place) left new [] = refl
relinked-long (suc place) left new (e ∷ es) = ap suc (relinked-long place e.tree new es)

-- a writer with another link behind its last pair
pub relinked-all : (was now : Contents) (new : Option (List ℕ)) (rows : Links)
    → now ≡ relink_at (length was.entries) was.left was.entries new → linked was.left was.entries ≡ rows → 0 < length was.entries
    → (linked now.left now.entries ≡ rows) × (gap_at (length now.entries) now.left now.entries ≡ new) × (0 < length now.entries)
relinked-all was now new rows is rows_is some =
    let long = relinked-long (length was.entries) was.left new was.entries in
    let size : length now.entries ≡ length was.entries = ap (λ (w : Contents). length w.entries) is ∙ long in (
      ap (λ (w : Contents). linked w.left w.entries) is ∙ relinked-rows was.left new was.entries ∙ rows_is,
      ap (λ (w : Contents). gap_at (length w.entries) w.left w.entries) is ∙ relinked-end was.left new was.entries,
      omega (arith, size, some),
    )

pub relinked-keys : (was now : Contents) (new : Option (List ℕ))
    → now ≡ relink_at (length was.entries) was.left was.entries new → are_keys_after [] was.entries ≡ true
    → are_keys_after [] now.entries ≡ true
relinked-keys was now new is keys =
    ap (λ (w : Contents). are_keys_after [] w.entries) is
    ∙ keys-relinked (length was.entries) [] was.left new was.entries ∙ keys

-- ---- an entry more

turned-linked : (l : Option (List ℕ)) (es : List Entry) (p : Pair)
    → turned l es p ≡ linked l es ++ (gap_at (length es) l es, p) ∷ []
turned-linked l [] p = refl
turned-linked l (e ∷ es) p = ap (λ (xs : Links). row_of l e ∷ xs) (turned-linked e.tree es p)

pub never-next : (l : Option (List ℕ)) (es : List Entry) (p : Pair) (s : Shape) → is_next_key es p.0 ≡ false
    → HasKeys (onto (linked l es ++ (gap_at (length es) l es, p) ∷ []) s) → ⊥
never-next l es p s other has =
    unlawful l es p s other (subst (λ (xs : Links). HasKeys (onto xs s)) (sym (turned-linked l es p)) has)

-- what was written, and what stands behind it
pub record Opened (node : Contents) (behind : Option (List ℕ)) (rows : Links) : Type 0 where
  pub begun : IsBegun node behind
  pub rows_is : linked node.left node.entries ≡ rows

abbrev with_entry : Contents → Pair → Contents
with_entry was p = record { left = was.left; entries = was.entries ++ entry_with p None ∷ [] }

pub opened-pair : (was now : Contents) (p : Pair) → now ≡ with_entry was p → are_keys_after [] was.entries ≡ true
    → is_next_key was.entries p.0 ≡ true
    → Opened now None (linked was.left was.entries ++ (gap_at (length was.entries) was.left was.entries, p) ∷ [])
opened-pair was now p is keys next =
    let e = entry_with p None in
    let long = length-append was.entries (e ∷ []) in
    subst (λ (n : Contents). Opened n None (linked was.left was.entries ++ (gap_at (length was.entries) was.left was.entries, p) ∷ []))
    (sym is) (record {
      begun = record {
        some = omega (arith, long);
        keys = keys-next was.entries e keys next;
        behind_is = sym (gap-append was.left was.entries (e ∷ []));
      };
      rows_is = linked-append was.left was.entries (e ∷ []);
    })

abbrev with_run : Contents → ℕ → ℕ → Contents → Contents
with_run was from to node = record {
  left = was.left;
  entries = was.entries ++ take (to - from) (drop from node.entries);
}

pub opened-run : (was now node : Contents) (from to : ℕ) → from < to → to ≤ length node.entries
    → gap_at (length was.entries) was.left was.entries ≡ gap_at from node.left node.entries → now ≡ with_run was from to node
    → are_keys_after [] was.entries ≡ true → are_keys_after [] node.entries ≡ true
    → last_key [] was.entries ≡ last_key [] (take from node.entries)
    → Opened now (gap_at to node.left node.entries) (linked was.left was.entries ++ rows_between from to node)
opened-run was now node from to more within link is keys others follows =
    let run = take (to - from) (drop from node.entries) in
    let long = length-append was.entries run in
    let size = length-take (to - from) (drop from node.entries) in
    let left = length-drop from node.entries in
    subst (λ (n : Contents). Opened n (gap_at to node.left node.entries) (linked was.left was.entries ++ rows_between from to node))
    (sym is) (record {
      begun = record {
        some = omega (arith, long, size, left, more, within);
        keys = keys-run was.entries node.entries from (to - from) keys others follows;
        behind_is = sym (gap-append was.left was.entries run ∙ ap (λ (l : Option (List ℕ)). gap_at (length run) l run) link
            ∙ gap-run from to node.left node.entries (omega (arith, more)) within);
      };
      rows_is = linked-append was.left was.entries run
          ∙ ap (λ (l : Option (List ℕ)). linked was.left was.entries ++ linked l run) link;
    })

-- ---- the end

whole : (l : Option (List ℕ)) (es : List Entry) → shape_from l es ≡ onto (linked l es) (LastLink (gap_at (length es) l es))
whole l [] = refl
whole l (e ∷ es) = ap (MoreLinks l (e.key, e.value)) (whole e.tree es)

never-empty : (l : Option (List ℕ)) (es : List Entry) → 0 < length es → false ≡ is_empty_node (shape_from l es)
never-empty l [] some = absurd (omega arith)
never-empty l (e ∷ es) some = refl

pub ends : (m : Contents) (bytes : List ℕ) (rows : Links) (last : Option (List ℕ)) → bytes ≡ node_spelling m.left m.entries
    → is_node m.left m.entries ≡ true → 0 < length m.entries → linked m.left m.entries ≡ rows
    → gap_at (length m.entries) m.left m.entries ≡ last
    → IsDraft bytes false × (shape_in bytes ≡ onto rows (LastLink last))
ends m bytes rows last spelled node some rows_is last_is =
    let w = written m.left m.entries bytes node spelled in (
      w.draft false (never-empty m.left m.entries some),
      w.view ∙ whole m.left m.entries ∙ ap (λ (xs : Links). onto xs (LastLink (gap_at (length m.entries) m.left m.entries))) rows_is
          ∙ ap (λ (l : Option (List ℕ)). onto rows (LastLink l)) last_is,
    )
