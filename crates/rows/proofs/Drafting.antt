-- Nodes written pair by pair.
use Rattle.std.proofs.Common.{◌≡◌, ℕ, Bool, true, false, ◌&&◌, List, [], ◌∷◌, ◌++◌, Option, None, Some, refl, sym, ap, subst, ◌∙◌}
use Rattle.std.specs.Prelude.{not, is_some, is_ok}
use Rattle.std.specs.Cmp.Lexicographic.{slice_cmp}
use Rattle.std.specs.Ordering.{nat_cmp, is_lt}
use Rattle.spec.specs.Tree.{Pair}
use Rattle.spec.specs.NodeFormat.{Entry, Shape, LastLink, MoreLinks, first_link, entries_of, node_spelling, shape_bytes, is_key, are_keys_after, is_node, read_node}
use Rattle.spec.proofs.Bools.{both}
use Rattle.spec.proofs.NodeLaws.{read_node-node_spelling}
use Rattle.node.specs.Contents.{Contents, last_key, is_next_key}
use Rattle.edit_laws.specs.Lawful.{Lawful, HasKeys}
use Rattle.edit_laws.specs.Sources.{shape_from, shape_of_reading}
use Rattle.rows.specs.declared.draft.DraftFault.{DraftFault}
use Rattle.rows.specs.declared.draft.DraftFault.TheVariants.{NotNode, NoMemory}
use Rattle.block.specs.Nodes.{reads_as_node}
use Rattle.rows.specs.Drafts.{onto, or_empty, shape_in, IsDraft, IsFaultOf, IsFaultOfAll, is_empty_node}
use Rattle.rows.proofs.NodeReading.{first_link-from, entries_of-from}

abbrev pub Links : Type 0
Links = List (Option (List ℕ) × Pair)

abbrev pub entry_with : Pair → Option (List ℕ) → Entry
entry_with p tree = record { key = p.0; value = p.1; tree = tree }

-- ---- pairs with the links before them, and with those after them

-- links and pairs in turn, from the first link, the entries with the links after them, and a last pair
abbrev pub turned : Option (List ℕ) → List Entry → Pair → Links
turned left [] p = (left, p) ∷ []
turned left (e ∷ es) p = (left, (e.key, e.value)) ∷ turned e.tree es p

pub onto-append : (xs ys : Links) (s : Shape) → onto (xs ++ ys) s ≡ onto xs (onto ys s)
onto-append [] ys s = refl
onto-append (x ∷ xs) ys s = ap (MoreLinks x.0 x.1) (onto-append xs ys s)

first-turned : (left : Option (List ℕ)) (es : List Entry) (p : Pair) (s : Shape) → first_link (onto (turned left es p) s) ≡ left
first-turned left [] p s = refl
first-turned left (e ∷ es) p s = refl

entries-turned : (left : Option (List ℕ)) (es : List Entry) (p : Pair) (s : Shape)
    → entries_of (onto (turned left es p) s) ≡ es ++ entry_with p (first_link s) ∷ entries_of s
entries-turned left [] p s = refl
entries-turned left (e ∷ es) p s =
    ap (λ l. record { key = e.key; value = e.value; tree = l } ∷ entries_of (onto (turned e.tree es p) s))
    (first-turned e.tree es p s)
    ∙ ap (λ fs. e ∷ fs) (entries-turned e.tree es p s)

-- ---- what can't be written

pub fault-at : (f : DraftFault) (xs : Links) (s t : Shape) → onto xs s ≡ t → IsFaultOfAll xs f → IsFaultOf t f
fault-at NotNode xs s t e h = λ has. h s (subst HasKeys (sym e) has)
fault-at NoMemory xs s t e h = tt

pub fault-on : (f : DraftFault) (xs ys zs : Links) → xs ++ ys ≡ zs → IsFaultOfAll xs f → IsFaultOfAll zs f
fault-on f xs ys zs e h s =
    fault-at f xs (onto ys s) (onto zs s) (sym (onto-append xs ys s) ∙ ap (λ (us : Links). onto us s) e) h

-- ---- keys

next-in : (before : List ℕ) (es fs : List Entry) (e : Entry) → are_keys_after before (es ++ e ∷ fs) ≡ true
    → (is_lt (slice_cmp nat_cmp (last_key before es) e.key) && is_key e.key) ≡ true
next-in before [] fs e h =
    (both (is_lt (slice_cmp nat_cmp before e.key) && is_key e.key) (are_keys_after e.key fs) h).0
next-in before (d ∷ es) fs e h =
    next-in d.key es fs e
    (both (is_lt (slice_cmp nat_cmp before d.key) && is_key d.key) (are_keys_after d.key (es ++ e ∷ fs)) h).1

-- where a key can't be the next, no node that goes on so has the keys of one
pub unlawful : (left : Option (List ℕ)) (es : List Entry) (p : Pair) (s : Shape) → is_next_key es p.0 ≡ false
    → HasKeys (onto (turned left es p) s) → ⊥
unlawful left es p s other h =
    let m = next-in [] es (entries_of s) (entry_with p (first_link s))
    (sym (ap (are_keys_after []) (entries-turned left es p s)) ∙ h) in
    let c : true ≡ false = sym m ∙ other in
    cc

-- ---- what was written is a node

shape_in-spelling : (left : Option (List ℕ)) (es : List Entry) (bytes : List ℕ) → is_node left es ≡ true
    → bytes ≡ node_spelling left es → shape_in bytes ≡ shape_from left es
unfolding shape_in
shape_in-spelling left es bytes is spelled =
    ap (λ b. or_empty (shape_of_reading (read_node b))) spelled
    ∙ ap (λ r. or_empty (shape_of_reading r)) (read_node-node_spelling left es is)

-- the bytes of a node that was written, and its model
pub record Written (bytes : List ℕ) (s : Shape) : Type 0 where
  pub draft : (is_empty : Bool) → is_empty ≡ is_empty_node s → IsDraft bytes is_empty
  pub view : shape_in bytes ≡ s

pub written : (left : Option (List ℕ)) (es : List Entry) (bytes : List ℕ) → is_node left es ≡ true
    → bytes ≡ node_spelling left es → Written bytes (shape_from left es)
written left es bytes node spelled =
    let s = shape_from left es in
    let view = shape_in-spelling left es bytes node spelled in
    let first = first_link-from left es in
    let entries = entries_of-from left es in
    let lawful : Lawful s = ap (λ l. is_node l (entries_of s)) first ∙ ap (is_node left) entries ∙ node in
    let bytes_of : shape_bytes s ≡ bytes =
    ap (λ l. node_spelling l (entries_of s)) first ∙ ap (node_spelling left) entries ∙ sym spelled in
    record {
      draft = λ is_empty h. record {
        lawful = subst Lawful (sym view) lawful;
        spelled = sym bytes_of ∙ ap shape_bytes (sym view);
        empty = h ∙ ap is_empty_node (sym view);
      };
      view = view;
    }

-- the bytes of a draft are a node's
pub draft-reads : (bytes : List ℕ) (is_empty : Bool) → IsDraft bytes is_empty → reads_as_node bytes ≡ true
draft-reads bytes is_empty d =
    let s = shape_in bytes in
    ap reads_as_node d.spelled ∙ ap is_ok (read_node-node_spelling (first_link s) (entries_of s) d.lawful)

is_empty-last : (last : Option (List ℕ)) (b : Bool) → is_some last ≡ not b → b ≡ is_empty_node (LastLink last)
is_empty-last None true h = refl
is_empty-last None false h = absurd cc
is_empty-last (Some c) true h = absurd cc
is_empty-last (Some c) false h = refl

-- the bytes of a node without pairs
pub without-pairs : (last : Option (List ℕ)) (now : Contents) (bytes : List ℕ) (b : Bool) → now ≡ record { left = last; entries = [] }
    → is_node now.left now.entries ≡ true → bytes ≡ node_spelling now.left now.entries → is_some last ≡ not b
    → IsDraft bytes b × (shape_in bytes ≡ LastLink last)
without-pairs last now bytes b is node spelled none =
    let w = written last [] bytes (sym (ap (λ (x : Contents). is_node x.left x.entries) is) ∙ node)
    (spelled ∙ ap (λ (x : Contents). node_spelling x.left x.entries) is) in
    (w.draft b (is_empty-last last b none), w.view)
