-- Entries by the bytes that spell them, some more at the end.
use Rattle.std.proofs.Common.{◌≡◌, ℕ, ◌+◌, ◌-◌, ◌^◌, ◌<◌, ◌≤◌, true, ◌&&◌, List, [], ◌∷◌, ◌++◌, length, take, drop, Option, None, refl, sym, ap, ◌∙◌, arith, length-append}
use Rattle.std.specs.Cmp.Lexicographic.{slice_cmp}
use Rattle.std.specs.Ordering.{nat_cmp, is_lt}
use Rattle.std.proofs.lemmas.Bool.{lt-ltb}
use Rattle.std.proofs.lemmas.List.{append-nil, take_rest}
use Rattle.spec.specs.NodeFormat.{Entry, common, entry_bytes, entries_bytes, is_key, are_keys_after, are_links, is_own_cid_or_none, is_node}
use Rattle.spec.specs.Cid.{is_own_cid}
use Rattle.spec.proofs.NodeLaws.{read_node-node_spelling}
use Rattle.node.specs.Bytes.{entry_text}
use Rattle.node.specs.Contents.{Contents, last_key, is_next_key, entries_read, entries_in, Spells, IsWritten}
use Rattle.node.proofs.CommonParts.{key-again}
use Rattle.node.proofs.Joining.{and, entries_bytes-append, last_key-append, are_keys_after-append, are_links-append}

-- each entry has a byte at least
length-entries_bytes : (before : List ℕ) (es : List Entry) → length es ≤ length (entries_bytes before es)
length-entries_bytes before [] = omega arith
length-entries_bytes before (e ∷ es) =
    let more = length-append (entry_bytes before e) (entries_bytes e.key es) in
    let rest = length-entries_bytes e.key es in
    omega arith

-- so there are no more entries than bytes
pub count-fits : (n : ℕ) (bytes last : List ℕ) (es : List Entry) → Spells n bytes last es → n ≤ length bytes
count-fits n bytes last es s = omega (arith, s.counted, ap length s.spelled, length-entries_bytes [] es)

-- ---- the entries from their bytes

entries_in-entries_bytes : (n : ℕ) (bytes last : List ℕ) (es : List Entry) → Spells n bytes last es → n < 2 ^ 64 → entries_in n bytes ≡ es
unfolding entries_in
entries_in-entries_bytes n bytes last es s small =
    let few = lt-ltb (length es) (2 ^ 64) (omega (arith, s.counted)) in
    let fits = and _ _ (and _ _ (and _ _ few s.ascending) s.linked) refl in
    rw (s.spelled, s.counted) (ap entries_read (read_node-node_spelling None es fits))

IsWritten-from_spells : (n : ℕ) (bytes last : List ℕ) (es : List Entry) → Spells n bytes last es → n < 2 ^ 64 → IsWritten n bytes last
IsWritten-from_spells n bytes last es s small = rw (entries_in-entries_bytes n bytes last es s small) s

Spells-none : Spells 0 [] [] []
Spells-none = record { spelled = refl; counted = refl; ended = refl; ascending = refl; linked = refl }

pub entries_in-none : (bytes : List ℕ) → bytes ≡ [] → entries_in 0 bytes ≡ []
entries_in-none bytes e = rw e (entries_in-entries_bytes 0 [] [] [] Spells-none (omega arith))

pub IsWritten-none : (bytes last : List ℕ) → bytes ≡ [] → last ≡ [] → IsWritten 0 bytes last
IsWritten-none bytes last e f = rw (e, f) (IsWritten-from_spells 0 [] [] [] Spells-none (omega arith))

-- ---- what the writer does

abbrev pub contents : Option (List ℕ) → List Entry → Contents
contents left es = record { left = left; entries = es }

-- the text of more entries after the bytes, and the last of their keys
pub record WritesMore (bytes last text whole : List ℕ) (more : List Entry) : Type 0 where
  pub text_is : text ≡ bytes ++ entries_bytes last more
  pub whole_is : whole ≡ last_key last more
  pub ascending : are_keys_after last more ≡ true
  pub linked : are_links more ≡ true

Spells-more : (n : ℕ) (bytes last text whole : List ℕ) (es more : List Entry) → Spells n bytes last es → WritesMore bytes last text whole more → Spells (n + length more) text whole (es ++ more)
Spells-more n bytes last text whole es more s w =
    let ascending : are_keys_after (last_key [] es) more ≡ true = ap (λ (k : List ℕ). are_keys_after k more) (sym s.ended) ∙ w.ascending in
    record {
      spelled = w.text_is ∙ ap (λ (x : List ℕ). x ++ entries_bytes last more) s.spelled ∙ ap (λ (k : List ℕ). entries_bytes [] es ++ entries_bytes k more) s.ended ∙ sym (entries_bytes-append [] es more);
      counted = omega (arith, s.counted, length-append es more);
      ended = w.whole_is ∙ ap (λ (k : List ℕ). last_key k more) s.ended ∙ sym (last_key-append [] es more);
      ascending = are_keys_after-append [] es more s.ascending ascending;
      linked = are_links-append es more s.linked w.linked;
    }

-- there are no more entries then than bytes
pub count-more : (n : ℕ) (bytes last text whole : List ℕ) (more : List Entry) → IsWritten n bytes last → WritesMore bytes last text whole more → n + length more ≤ length text
count-more n bytes last text whole more written w = count-fits (n + length more) text whole _ (Spells-more n bytes last text whole _ more written w)

-- what a writer that saw these bytes and this key holds once they are written
pub more_written : (n m : ℕ) (bytes last text whole : List ℕ) (more : List Entry) (left : Option (List ℕ)) (now : Contents) → IsWritten n bytes last → WritesMore bytes last text whole more → m ≡ n + length more
    → contents left (entries_in n bytes) ≡ now → m < 2 ^ 64
    → IsWritten m text whole × (contents left (entries_in m text) ≡ contents now.left (now.entries ++ more))
more_written n m bytes last text whole more left now written w count is fits =
    let s : Spells m text whole (entries_in n bytes ++ more) = rw count (Spells-more n bytes last text whole (entries_in n bytes) more written w) in (
      IsWritten-from_spells m text whole _ s fits,
      ap (contents left) (entries_in-entries_bytes m text whole _ s fits) ∙ ap (λ (x : Contents). contents x.left (x.entries ++ more)) is,
    )

-- what these entries spell is what a writer has
pub spells-written : (n : ℕ) (bytes last : List ℕ) (left : Option (List ℕ)) (es : List Entry) → Spells n bytes last es → n < 2 ^ 64
    → IsWritten n bytes last × (contents left (entries_in n bytes) ≡ contents left es)
spells-written n bytes last left es s small =
    (IsWritten-from_spells n bytes last es s small, ap (contents left) (entries_in-entries_bytes n bytes last es s small))

-- ---- one entry

-- the pieces that are written for one more entry
pub record WritesOne (p : ℕ) (bytes last text whole : List ℕ) (tree : Option (List ℕ)) (e : Entry) : Type 0 where
  pub shared : p ≡ common last e.key
  pub tree_is : tree ≡ e.tree
  pub text_is : text ≡ bytes ++ entry_text p (take (length e.key - p) (drop p e.key)) e.value tree
  pub whole_is : whole ≡ take p last ++ take (length e.key - p) (drop p e.key)

WritesMore-one : (n p : ℕ) (bytes last text whole : List ℕ) (tree : Option (List ℕ)) (e : Entry) → IsWritten n bytes last → is_next_key (entries_in n bytes) e.key ≡ true → is_own_cid e.value ≡ true → is_own_cid_or_none e.tree ≡ true
    → WritesOne p bytes last text whole tree e → WritesMore bytes last text whole (e ∷ [])
WritesMore-one n p bytes last text whole tree e s next value own w =
    let rest : take (length e.key - p) (drop p e.key) ≡ drop p e.key = take_rest e.key p in
    let written : text ≡ bytes ++ entry_bytes last e =
    w.text_is ∙ ap (λ (x : List ℕ). bytes ++ entry_text p x e.value tree) rest ∙ ap (λ (t : Option (List ℕ)). bytes ++ entry_text p (drop p e.key) e.value t) w.tree_is
    ∙ ap (λ (q : ℕ). bytes ++ entry_text q (drop q e.key) e.value e.tree) w.shared in
    let key : whole ≡ e.key = w.whole_is ∙ ap (λ (x : List ℕ). take p last ++ x) rest ∙ ap (λ (q : ℕ). take q last ++ drop q e.key) w.shared ∙ key-again last e.key in
    let after : (is_lt (slice_cmp nat_cmp last e.key) && is_key e.key) ≡ true = ap (λ (k : List ℕ). is_lt (slice_cmp nat_cmp k e.key) && is_key e.key) s.ended ∙ next in
    record {
      text_is = written ∙ ap (λ (x : List ℕ). bytes ++ x) (sym (append-nil (entry_bytes last e)));
      whole_is = key;
      ascending = and _ _ after refl;
      linked = and _ _ (and _ _ value own) refl;
    }

-- what a writer that saw these bytes and this key holds once they are written
pub one_more : (n p : ℕ) (bytes last text whole : List ℕ) (tree : Option (List ℕ)) (e : Entry) (left : Option (List ℕ)) (now : Contents) → IsWritten n bytes last → WritesOne p bytes last text whole tree e
    → contents left (entries_in n bytes) ≡ now → is_next_key now.entries e.key ≡ true → is_own_cid e.value ≡ true → is_own_cid_or_none e.tree ≡ true → length bytes < 2 ^ 63
    → IsWritten (n + 1) text whole × (contents left (entries_in (n + 1) text) ≡ contents now.left (now.entries ++ e ∷ []))
one_more n p bytes last text whole tree e left now written w is next value own short =
    let first : is_next_key (entries_in n bytes) e.key ≡ true = ap (λ (x : Contents). is_next_key x.entries e.key) is ∙ next in
    more_written n (n + 1) bytes last text whole (e ∷ []) left now written (WritesMore-one n p bytes last text whole tree e written first value own w) refl is (omega (arith, count-fits n bytes last _ written))

-- what a writer holds is a node
pub is_node-written : (n : ℕ) (bytes last : List ℕ) (left : Option (List ℕ)) (now : Contents) → IsWritten n bytes last
    → contents left (entries_in n bytes) ≡ now → n < 2 ^ 64 → is_own_cid_or_none left ≡ true
    → is_node now.left now.entries ≡ true
is_node-written n bytes last left now w is small own =
    let few = lt-ltb (length (entries_in n bytes)) (2 ^ 64) (omega (arith, w.counted)) in
    sym (ap (λ (x : Contents). is_node x.left x.entries) is) ∙ and _ _ (and _ _ (and _ _ few w.ascending) w.linked) own
