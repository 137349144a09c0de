-- A node that is read pair by pair: what was read, and what is left.
use Rattle.std.proofs.Common.{◌≡◌, ℕ, zero, suc, ◌<◌, ◌≤◌, ◌+◌, List, [], ◌∷◌, ◌++◌, length, take, drop, true, Option, refl, sym, ap, subst, ◌∙◌, arith}
use Rattle.std.proofs.lemmas.List.{length-take, append-nil}
use Rattle.spec.specs.Tree.{Pair}
use Rattle.spec.specs.NodeFormat.{Entry, Shape, LastLink, MoreLinks, first_link, are_keys_after}
use Rattle.node.specs.Contents.{Contents, last_key}
use Rattle.node.specs.Gaps.{GapIn, rows_behind}
use Rattle.node.specs.Rows.{Row, rows}
use Rattle.node.specs.Search.{gap_at}
use Rattle.edit_laws.specs.Sources.{shape_from}
use Rattle.rows.specs.Entries.{Reading, IsReading, IsReader, IsPartOf, IsGapOf, AreGapsOf, AreKeys, reading_at, shape_of_rows, row_key, key_behind, part_of, rows_between}
use Rattle.rows.specs.OldNodes.{first_rows, linked}
use Rattle.rows.proofs.Drafting.{Links}
use Rattle.rows.proofs.NodeReading.{shape_of_rows-rows, AreKeys-rows, first-shape_of_rows, first_link-from}
use Rattle.rows.proofs.Runs.{key-linked, key-taken, part-between}
use Rattle.rows.proofs.Steps.{next-of, within-next, drop-next, gap-next, plain-more, last-more}

no-key : (es : List Entry) → [] ≡ last_key [] (take 0 es)
no-key [] = refl
no-key (e ∷ es) = refl

nothing-read : (node view : Contents) (link : Option (List ℕ)) (key : List ℕ) (rs : List Row) → node ≡ view → key ≡ []
    → link ≡ view.left → rs ≡ rows [] view.entries → are_keys_after [] view.entries ≡ true
    → IsReading node 0 key link rs
nothing-read node view link key rs same none left is ascending =
    subst (λ (m : Contents). IsReading m 0 key link rs) (sym same)
    (subst (λ (k : List ℕ). IsReading view 0 k link rs) (sym none)
    (subst (λ (l : Option (List ℕ)). IsReading view 0 [] l rs) (sym left)
    (subst (λ (xs : List Row). IsReading view 0 [] view.left xs) (sym is) (record {
      keys = AreKeys-rows [] view.entries ascending;
      within = omega arith;
      rest_is = shape_of_rows-rows [] view.left view.entries ∙ ap (shape_from view.left) (sym (drop-no view.entries));
      key_is = no-key view.entries;
    }))))
  where
    drop-no : (es : List Entry) → drop 0 es ≡ es
    drop-no [] = refl
    drop-no (e ∷ es) = refl

-- one pair more was read
record ReadOn (node : Contents) (passed next : ℕ) (key value : List ℕ) (link tree : Option (List ℕ)) (rs : List Row)
    : Type 0 where
  reading : IsReading node next key tree rs
  passed_is : first_rows next node ≡ first_rows passed node ++ (link, (key, value)) ∷ []

reads-on : (node : Contents) (passed next : ℕ) (before : List ℕ) (link : Option (List ℕ)) (r : Row) (rs all : List Row)
    → IsReading node passed before link all → all ≡ r ∷ rs → next ≡ suc passed
    → ReadOn node passed next (row_key before r) r.value link r.tree rs
reads-on node passed next before link r rs all is one next_is =
    let key = row_key before r in
    let was = subst (λ (xs : List Row). IsReading node passed before link xs) one is in
    let n = next-of (gap_at passed node.left node.entries) link (drop passed node.entries) (key, r.value)
    (shape_of_rows key r.tree rs) (sym was.rest_is) in
    let first : link ≡ gap_at passed node.left node.entries =
    ap first_link was.rest_is ∙ first_link-from (gap_at passed node.left node.entries) (drop passed node.entries) in
    let more : first_rows (suc passed) node ≡ first_rows passed node ++ (link, (key, r.value)) ∷ [] =
    plain-more passed node.left node.entries n.others n.entry n.left_is
    ∙ ap (λ (l : Option (List ℕ)). first_rows passed node ++ (l, (n.entry.key, n.entry.value)) ∷ []) (sym first)
    ∙ ap (λ (p : Pair). first_rows passed node ++ (link, p) ∷ []) (sym n.pair_is) in
    subst (λ (m : ℕ). ReadOn node passed m key r.value link r.tree rs) (sym next_is) (record {
      reading = record {
        keys = was.keys.2;
        within = within-next passed node.entries n.others n.entry n.left_is;
        rest_is = n.rest_is
            ∙ ap (λ (l : Option (List ℕ)). shape_from l n.others)
            (sym (gap-next passed node.left node.entries n.others n.entry n.left_is))
            ∙ ap (shape_from (gap_at (suc passed) node.left node.entries))
            (sym (drop-next passed node.entries n.others n.entry n.left_is));
        key_is = ap (λ (p : Pair). p.0) n.pair_is
            ∙ sym (last-more passed [] node.entries n.others n.entry n.left_is);
      };
      passed_is = more;
    })

-- ---- what was read by its length

linked-long : (left : Option (List ℕ)) (es : List Entry) → length (linked left es) ≡ length es
linked-long left [] = refl
linked-long left (e ∷ es) = ap suc (linked-long e.tree es)

passed-long : (node : Contents) (passed : ℕ) → passed ≤ length node.entries → length (first_rows passed node) ≡ passed
passed-long node passed within =
    let t = length-take passed node.entries in
    let l = linked-long node.left (take passed node.entries) in
    omega (arith, t, l, within)

-- ---- readers by the gap in which they stand

abbrev link_in : GapIn → Option (List ℕ)
link_in gap = gap_at gap.passed gap.node.left gap.node.entries

tree-is : (node : Contents) (next : ℕ) (key : List ℕ) (tree : Option (List ℕ)) (rs : List Row)
    → IsReading node next key tree rs → tree ≡ gap_at next node.left node.entries
tree-is node next key tree rs is =
    sym (first-shape_of_rows key tree rs) ∙ ap first_link is.rest_is
    ∙ first_link-from (gap_at next node.left node.entries) (drop next node.entries)

abbrev first_of : Contents → GapIn
first_of node = record { node = node; passed = 0 }

abbrev next_of : GapIn → GapIn
next_of gap = record { node = gap.node; passed = gap.passed + 1 }

behind-none : (left : Option (List ℕ)) (es : List Entry) → rows_behind 0 (record { left = left; entries = es }) ≡ rows [] es
behind-none left [] = refl
behind-none left (e ∷ es) = refl

-- nothing was read so far
pub reader-first : (node : Contents) (gap last start : GapIn) (key : List ℕ) → gap ≡ first_of node → last ≡ first_of node
    → start ≡ first_of node → key ≡ [] → are_keys_after [] node.entries ≡ true → IsReader gap last start key
reader-first node gap last start key gap_is last_is start_is none ascending =
    subst (λ (g : GapIn). IsReader g last start key) (sym gap_is)
    (subst (λ (g : GapIn). IsReader (first_of node) g start key) (sym last_is)
    (subst (λ (g : GapIn). IsReader (first_of node) (first_of node) g key) (sym start_is) (record {
      reading = nothing-read node node node.left key (rows_behind 0 node) refl none refl (behind-none node.left node.entries) ascending;
      ascending = ascending;
      last_node = refl;
      last_passed = omega arith;
      start_node = refl;
      start_within = omega arith;
    })))

no-rows : (left : Option (List ℕ)) (es : List Entry) → linked left (take 0 es) ≡ []
no-rows left [] = refl
no-rows left (e ∷ es) = refl

pub reading-first : (node : Contents) (gap start : GapIn) (key : List ℕ) → gap ≡ first_of node → start ≡ first_of node → key ≡ []
    → reading_at gap start.passed key ≡ record { before = []; passed = []; start = 0; rest = shape_from node.left node.entries }
reading-first node gap start key gap_is start_is none =
    ap (λ (g : GapIn). reading_at g start.passed key) gap_is
    ∙ ap (λ (g : GapIn). reading_at (first_of node) g.passed key) start_is ∙ ap (reading_at (first_of node) 0) none
    ∙ ap (λ (xs : Links). record { before = []; passed = xs; start = 0; rest = shape_of_rows [] node.left (rows_behind 0 node) })
    (no-rows node.left node.entries)
    ∙ ap (λ (rs : List Row). record { before = []; passed = []; start = 0; rest = shape_of_rows [] node.left rs })
    (behind-none node.left node.entries)
    ∙ ap (λ (t : Shape). record { before = []; passed = []; start = 0; rest = t }) (shape_of_rows-rows [] node.left node.entries)

-- one pair more was read
pub record ReaderOn (gap new start : GapIn) (key next_key : List ℕ) (r : Row) : Type 0 where
  pub reader : IsReader new gap start next_key
  pub passed_is : first_rows new.passed new.node ≡ first_rows gap.passed gap.node ++ (link_in gap, (next_key, r.value)) ∷ []
  pub rest_is : shape_of_rows key (link_in gap) (rows_behind gap.passed gap.node)
      ≡ MoreLinks (link_in gap) (next_key, r.value) (reading_at new start.passed next_key).rest

reader-on : (gap last start : GapIn) (key : List ℕ) (r : Row) → IsReader gap last start key
    → rows_behind gap.passed gap.node ≡ r ∷ rows_behind (gap.passed + 1) gap.node
    → ReaderOn gap (next_of gap) start key (row_key key r) r
reader-on gap last start key r is rows_is =
    let rs = rows_behind (gap.passed + 1) gap.node in
    let new_key = row_key key r in
    let on = reads-on gap.node gap.passed (gap.passed + 1) key (link_in gap) r rs (rows_behind gap.passed gap.node)
    is.reading rows_is (omega arith) in
    let tree = tree-is gap.node (gap.passed + 1) new_key r.tree rs on.reading in
    let few = is.start_within in
    record {
      reader = record {
        reading = subst (λ (l : Option (List ℕ)). IsReading gap.node (gap.passed + 1) new_key l rs) tree on.reading;
        ascending = is.ascending;
        last_node = refl;
        last_passed = omega arith;
        start_node = is.start_node;
        start_within = omega (arith, few);
      };
      passed_is = on.passed_is;
      rest_is = ap (shape_of_rows key (link_in gap)) rows_is
          ∙ ap (λ (l : Option (List ℕ)). MoreLinks (link_in gap) (new_key, r.value) (shape_of_rows new_key l rs)) tree;
    }

pub reader-next : (gap new last start : GapIn) (key next_key : List ℕ) (r : Row) → IsReader gap last start key
    → rows_behind gap.passed gap.node ≡ r ∷ rows_behind new.passed new.node → new ≡ next_of gap → next_key ≡ row_key key r
    → ReaderOn gap new start key next_key r
reader-next gap new last start key next_key r is rows_is new_is key_is =
    subst (λ (g : GapIn). ReaderOn gap g start key next_key r) (sym new_is)
    (subst (λ (k : List ℕ). ReaderOn gap (next_of gap) start key k r) (sym key_is)
    (reader-on gap last start key r is (rows_is ∙ ap (λ (g : GapIn). r ∷ rows_behind g.passed g.node) new_is)))

-- in terms of what a contract sees
pub reader-passed : (gap new start : GapIn) (key next_key : List ℕ) (r : Row) (now : Reading)
    → ReaderOn gap new start key next_key r → reading_at gap start.passed key ≡ now
    → first_rows new.passed new.node ≡ now.passed ++ (first_link now.rest, (next_key, r.value)) ∷ []
reader-passed gap new start key next_key r now on now_is =
    on.passed_is
    ∙ ap (λ (l : Option (List ℕ)). first_rows gap.passed gap.node ++ (l, (next_key, r.value)) ∷ [])
    (sym (first-shape_of_rows key (link_in gap) (rows_behind gap.passed gap.node)))
    ∙ ap (λ (x : Reading). x.passed ++ (first_link x.rest, (next_key, r.value)) ∷ []) now_is

pub reader-some : (gap new start : GapIn) (key next_key : List ℕ) (r : Row) (now : Reading)
    → ReaderOn gap new start key next_key r → reading_at gap start.passed key ≡ now
    → now.rest ≡ MoreLinks (first_link now.rest) (next_key, r.value) (reading_at new start.passed next_key).rest
reader-some gap new start key next_key r now on now_is =
    sym (ap (λ (x : Reading). x.rest) now_is) ∙ on.rest_is
    ∙ ap (λ (l : Option (List ℕ)). MoreLinks l (next_key, r.value) (reading_at new start.passed next_key).rest)
    (sym (first-shape_of_rows key (link_in gap) (rows_behind gap.passed gap.node)) ∙ ap (λ (x : Reading). first_link x.rest) now_is)

-- the room for the next key
pub reader-room : (gap last start : GapIn) (key : List ℕ) (r : Row) (rs : List Row) → IsReader gap last start key
    → rows_behind gap.passed gap.node ≡ r ∷ rs → (r.prefix ≤ length key) × (r.prefix + length r.suffix ≤ 1024)
reader-room gap last start key r rs is rows_is =
    let keys = subst (AreKeys key) rows_is is.reading.keys in (keys.0, keys.1)

-- no pair is left
rows-none : (n : ℕ) (es : List Entry) → n ≡ length es → drop n es ≡ []
rows-none zero [] e = refl
rows-none zero (x ∷ es) e = absurd (omega (arith, e))
rows-none (suc n) [] e = absurd (omega (arith, e))
rows-none (suc n) (x ∷ es) e = rows-none n es (omega (arith, e))

pub reader-end : (gap : GapIn) (start : ℕ) (key : List ℕ) (now : Reading) → gap.passed ≡ length gap.node.entries
    → reading_at gap start key ≡ now → now.rest ≡ LastLink (first_link now.rest)
reader-end gap start key now all now_is =
    let none = rows-none gap.passed gap.node.entries all in
    let rest : shape_of_rows key (link_in gap) (rows_behind gap.passed gap.node) ≡ LastLink (link_in gap) =
    ap (λ (xs : List Entry). shape_of_rows key (link_in gap) (rows (last_key [] (take gap.passed gap.node.entries)) xs)) none in
    let here : now.rest ≡ LastLink (link_in gap) = sym (ap (λ (x : Reading). x.rest) now_is) ∙ rest in
    here ∙ ap (λ (l : Option (List ℕ)). LastLink l) (sym (ap first_link here))

-- ---- the gaps that it knows

reader-count : (gap last start : GapIn) (key : List ℕ) (now : Reading) → IsReader gap last start key
    → reading_at gap start.passed key ≡ now → gap.passed ≡ length now.passed
reader-count gap last start key now is now_is =
    sym (passed-long gap.node gap.passed is.reading.within) ∙ ap (λ (x : Reading). length x.passed) now_is

pub reader-passes : (gap last start : GapIn) (key : List ℕ) (now : Reading) (passed : ℕ) → IsReader gap last start key
    → reading_at gap start.passed key ≡ now → passed ≡ gap.passed → passed ≡ length now.passed
reader-passes gap last start key now passed is now_is e = e ∙ reader-count gap last start key now is now_is

reader-part : (gap last start other : GapIn) (key : List ℕ) (now : Reading) → IsReader gap last start key
    → reading_at gap start.passed key ≡ now → other.node ≡ gap.node → IsPartOf other.node now
reader-part gap last start other key now is now_is same =
    let count = reader-count gap last start key now is now_is in
    let within = is.reading.within in
    subst (λ (m : Contents). IsPartOf m now) (sym same) (record {
      within = omega (arith, count, within);
      passed_is = sym (ap (λ (x : Reading). x.passed) now_is) ∙ ap (λ (n : ℕ). first_rows n gap.node) count;
    })

reader-start : (gap last start : GapIn) (key : List ℕ) (now : Reading) → IsReader gap last start key
    → reading_at gap start.passed key ≡ now → IsGapOf start now.start now
reader-start gap last start key now is now_is =
    let count = reader-count gap last start key now is now_is in
    let few = is.start_within in
    let start_is : start.passed ≡ now.start = ap (λ (x : Reading). x.start) now_is in
    record {
      part = reader-part gap last start start key now is now_is is.start_node;
      pairs_are = start_is;
      within = omega (arith, count, few, start_is);
    }

pub reader-run : (gap last start end : GapIn) (key : List ℕ) (now : Reading) (pairs : ℕ) → IsReader gap last start key
    → reading_at gap start.passed key ≡ now → end.node ≡ gap.node → end.passed ≡ pairs → pairs ≤ length now.passed
    → AreGapsOf start end pairs now
reader-run gap last start end key now pairs is now_is same count within = record {
  first = reader-start gap last start key now is now_is;
  then = record {
    part = reader-part gap last start end key now is now_is same;
    pairs_are = count;
    within = within;
  };
  same = same ∙ sym is.start_node;
  ascending = ap (λ (m : Contents). are_keys_after [] m.entries) is.start_node ∙ is.ascending;
}

-- the gap before the last pair
pub reader-last : (gap last start : GapIn) (key : List ℕ) (now : Reading) (pairs passed : ℕ) → IsReader gap last start key
    → reading_at gap start.passed key ≡ now → passed ≡ gap.passed → ¬ (pairs ≡ passed) → pairs ≤ length now.passed
    → length now.passed ≤ pairs + 1 → last.passed ≡ pairs
reader-last gap last start key now pairs passed is now_is e other within near =
    let count = reader-count gap last start key now is now_is in
    let less = is.last_passed in
    omega (arith, count, less, e, other, within, near)

-- the key before
pub reader-key : (gap last start : GapIn) (key : List ℕ) (now : Reading) → IsReader gap last start key
    → reading_at gap start.passed key ≡ now → key_behind [] now.passed ≡ now.before
reader-key gap last start key now is now_is =
    sym (ap (λ (x : Reading). key_behind [] x.passed) now_is)
    ∙ key-linked [] gap.node.left (take gap.passed gap.node.entries) ∙ sym is.reading.key_is
    ∙ ap (λ (x : Reading). x.before) now_is

-- a run starts here
pub starts-here : (gap last start copy : GapIn) (key : List ℕ) → IsReader gap last start key → copy ≡ gap → IsReader gap last copy key
starts-here gap last start copy key is same = subst (λ (g : GapIn). IsReader gap last g key) (sym same) (record {
  reading = is.reading;
  ascending = is.ascending;
  last_node = is.last_node;
  last_passed = is.last_passed;
  start_node = refl;
  start_within = omega arith;
})

-- ---- a run that comes to a writer

-- the pairs between two gaps
pub record RunOf (start end : GapIn) (pairs : ℕ) (r : Reading) : Type 0 where
  pub order : start.passed < end.passed
  pub key : key_behind [] (take r.start r.passed) ≡ last_key [] (take start.passed start.node.entries)
  pub rows : rows_between start.passed end.passed start.node ≡ part_of r.start pairs r.passed

pub run-of : (start end : GapIn) (pairs : ℕ) (r : Reading) → AreGapsOf start end pairs r → r.start ≤ pairs
    → pairs ≤ length r.passed → ¬ (start.passed ≡ pairs) → RunOf start end pairs r
run-of start end pairs r gaps more few other =
    let g = gaps.first in
    let from = g.pairs_are in
    let to = gaps.then.pairs_are in
    record {
      order = omega (arith, from, to, more, other);
      key = key-taken r.start (length r.passed) start.node r.passed g.part.passed_is g.within
          ∙ ap (λ (n : ℕ). last_key [] (take n start.node.entries)) (sym from);
      rows = ap (λ (n : ℕ). rows_between n end.passed start.node) from
          ∙ ap (λ (n : ℕ). rows_between r.start n start.node) to
          ∙ sym (part-between r.start pairs (length r.passed) start.node r.passed g.part.passed_is more few);
    }

none-between : (n : ℕ) (xs : Links) → drop n (take n xs) ≡ []
none-between zero [] = refl
none-between zero (x ∷ xs) = refl
none-between (suc n) [] = refl
none-between (suc n) (x ∷ xs) = none-between n xs

-- no pair stands between them
pub no-run : (start end : GapIn) (pairs : ℕ) (r : Reading) (xs : Links) → AreGapsOf start end pairs r → start.passed ≡ pairs
    → xs ≡ xs ++ part_of r.start pairs r.passed
no-run start end pairs r xs gaps same =
    sym (ap (λ (ys : Links). xs ++ ys) (ap (λ (n : ℕ). part_of n pairs r.passed) (sym gaps.first.pairs_are ∙ same)
    ∙ none-between pairs r.passed) ∙ append-nil xs)
