-- How often the blocks of a repository are used, before and after changes at once.
use Rattle.std.proofs.Common.{◌≡◌, ℕ, zero, suc, ◌+◌, Bool, true, false, cond, List, [], ◌∷◌, ◌++◌, map, refl, sym, ap, subst, ◌∙◌, arith, inl, inr, Option}
use Rattle.std.specs.Prelude.{Contains, ◌⊎◌}
use Rattle.std.specs.List.{cons_option}
use Rattle.std.specs.Cmp.Lexicographic.{slice_cmp}
use Rattle.std.specs.Ordering.{nat_cmp, eq_by_cmp}
use Rattle.std.specs.FinMap.{is_sorted}
use Rattle.std.specs.declared.option.Option.TheVariants.{Some, None}
use Rattle.std.specs.declared.cmp.Ordering.{Ordering}
use Rattle.std.specs.declared.cmp.Ordering.TheVariants.{Less, Equal, Greater}
use Rattle.std.proofs.lemmas.List.{map-id}
use Rattle.spec.specs.Cid.{cid, IsDigest}
use Rattle.spec.specs.Tree.{Pair}
use Rattle.spec.specs.Blocks.{blocks, nodes, pairs, value_of, record_blocks}
use Rattle.spec.proofs.RepositoryBlocks.{node-in, record-in, further-in, each-part}
use Rattle.spec.proofs.RootLaws.{in_head, in_tail}
use Rattle.spec.proofs.Once.{head_or_tail}
use Rattle.edit_laws.specs.Order.{order, if_equal}
use Rattle.edit_laws.specs.Pairs.{Ascending}
use Rattle.edit_laws.specs.Changes.{count}
use Rattle.spec.specs.Sources.{HasBlocks}
use Rattle.edit_laws.specs.Uses.{uses}
use Rattle.edit_laws.proofs.BlockSources.{source-free}
use Rattle.edit_laws.proofs.Lists.{contains-counted, counted-contains}
use Rattle.edit_laws.proofs.Orders.{order-same, order-equal, turned}
use Rattle.edit_laws.proofs.RecordCounts.{count-map_append, count-parts, count-put, count-delete}
use Rattle.edit_laws.proofs.RecordMaps.{ascending-sorted, find-is}
use Rattle.edit_laws.proofs.Using.{here_or_not, edit-uses}
use Rattle.batch_laws.specs.Batch.{Change, if_same, at_key, changed, change_by, one_by_one, AreAscending}
use Rattle.batch_laws.specs.Previous.{values}
use Rattle.batch_laws.specs.Collecting.{value_after}
use Rattle.batch_laws.specs.Uses.{present_values, records_come, cids_gone}
use Rattle.batch_laws.specs.Laws.Uses.{ValuesBalance, IsRewritten, ChangesKeepUses, RecordsCome}
use Rattle.batch_laws.proofs.OneByOne.{AllLater, changed-one_by_one, later-at, later-same}
use Rattle.batch_laws.proofs.Collected.{ascending-change, ascending-changed}
use Rattle.batch_laws.proofs.Lawful.{sorted-ascending}
use Rattle.batch_laws.proofs.RecordChanges.{cids-given}
use Rattle.batch_laws.proofs.WritesAtOnce.{find-change, find-changed}

-- ---- values of changed pairs, counted

-- a change leaves the values of later keys
values-later : (key : List ℕ) (v : Option (List ℕ)) (cs : List Change) (es : List Pair) → AllLater key cs → Ascending es
    → values cs (change_by key v es) ≡ values cs es
values-later key v [] es h s = refl
values-later key v (c ∷ cs) es h s =
    let e : value_of c.0 (change_by key v es) ≡ value_of c.0 es =
    find-change c.0 key v es s ∙ ap (λ o. if_equal o v (value_of c.0 es)) (turned c.0 key h.0) in
    ap (λ o. o ∷ values cs (change_by key v es)) e ∙ ap (λ os. value_of c.0 es ∷ os) (values-later key v cs es h.1 s)

module _ (mark : List ℕ → List ℕ) (x : List ℕ) where
  -- how often a mark is that of a block
  abbrev marks : List (List ℕ) → ℕ
  marks bs = count x (map mark bs)

  marks-option : (o : Option (List ℕ)) (bs : List (List ℕ))
      → marks (cons_option o bs) ≡ marks (cons_option o []) + marks bs
  marks-option None bs = omega arith
  marks-option (Some b) bs = omega arith

  one-even : (key : List ℕ) (v : Option (List ℕ)) (es : List Pair) → Ascending es
      → marks (record_blocks (change_by key v es)) + marks (cons_option (value_of key es) [])
      ≡ marks (record_blocks es) + marks (cons_option v [])
  one-even key None es s = rw (find-is key es s) (let i = count-delete mark x key es in omega arith)
  one-even key (Some v) es s = rw (find-is key es s) (count-put mark x (key, v) es)

  even-one_by_one : (cs : List Change) (es : List Pair) → AreAscending cs → Ascending es
      → marks (record_blocks (one_by_one cs es)) + marks (present_values (values cs es))
      ≡ marks (record_blocks es) + marks (records_come cs)
  even-one_by_one [] es a s = refl
  even-one_by_one (c ∷ cs) es a s =
      let later = even-one_by_one cs (change_by c.0 c.1 es) a.1 (ascending-change c.0 c.1 es s) in
      let one = one-even c.0 c.1 es s in
      let same = ap (λ os. marks (present_values os)) (values-later c.0 c.1 cs es a.0 s) in
      let old = marks-option (value_of c.0 es) (present_values (values cs es)) in
      let new = marks-option c.1 (records_come cs) in
      omega arith

  pub even : (cs : List Change) (es : List Pair) → AreAscending cs → Ascending es
      → marks (record_blocks (changed cs es)) + marks (present_values (values cs es))
      ≡ marks (record_blocks es) + marks (records_come cs)
  even cs es a s = rw (changed-one_by_one cs es a) (even-one_by_one cs es a s)

pub values-balance : ValuesBalance
values-balance cs es a sorted mark c = even mark c cs es a (ascending-sorted es sorted)

-- ---- the blocks after changes

module _ (digest : List ℕ → List ℕ) (bits : ℕ) (fits : IsDigest digest) (further : List (List ℕ)) (m : List Pair)
    (cs : List Change) (gives more : List ℕ → Option (List ℕ)) (read add drop : List (List ℕ))
    (is : IsRewritten digest bits further m cs gives more read add drop) where
  abbrev old : List (List ℕ)
  old = nodes digest bits (pairs digest m)

  abbrev new : List (List ℕ)
  new = nodes digest bits (pairs digest (changed cs m))

  s : Ascending m
  s = ascending-sorted m is.sorted

  sorted : is_sorted (slice_cmp nat_cmp) (changed cs m) ≡ true
  sorted = sorted-ascending (changed cs m) (ascending-changed cs m is.ascending s)

  kept : (b : List ℕ) → Contains (blocks digest bits further m) b → more (cid digest b) ≡ Some b
  kept b h = is.extends (cid digest b) b (is.before b h)

  new-node : (b : List ℕ) → Contains new b → Contains old b ⊎ (Contains old b → ⊥) → more (cid digest b) ≡ Some b
  new-node b h (inl o) = kept b (node-in digest bits further m is.sorted b o)
  new-node b h (inr n) = is.has_add b (is.changes.whole b h n)

  same-marks : (b : List ℕ) (bs : List (List ℕ)) → count b (map (λ (x : List ℕ). x) bs) ≡ count b bs
  same-marks b bs = ap (count b) (map-id bs)

  new-record : (b : List ℕ) → Contains (record_blocks (changed cs m)) b
      → Contains (record_blocks m) b ⊎ (Contains (record_blocks m) b → ⊥) → more (cid digest b) ≡ Some b
  new-record b h (inl o) = kept b (record-in digest bits further m is.sorted b o)
  new-record b h (inr n) =
      let e = even (λ x. x) b cs m is.ascending s in
      let k = counted-contains b (record_blocks (changed cs m)) h in
      let z = none (count b (record_blocks m)) refl in
      let p = same-marks b (record_blocks (changed cs m)) in
      let q = same-marks b (record_blocks m) in
      let r = same-marks b (records_come cs) in
      is.has_records b (contains-counted b (records_come cs) (omega arith))
    where
      none : (k : ℕ) → count b (record_blocks m) ≡ k → k ≡ 0
      none zero e = refl
      none (suc k) e = absurd (n (contains-counted b (record_blocks m) (omega arith)))

  after : HasBlocks digest more (blocks digest bits further (changed cs m))
  after =
      each-part digest bits further (changed cs m) sorted (λ b. more (cid digest b) ≡ Some b)
      (λ b h. kept b (further-in digest bits further m is.sorted b h))
      (λ b h. new-node b h (here_or_not b old))
      (λ b h. new-record b h (here_or_not b (record_blocks m)))

  nodes-even : (c : List ℕ) → uses digest c new + count c drop ≡ uses digest c old + uses digest c add
  nodes-even c =
      edit-uses digest bits fits (pairs digest m) (pairs digest (changed cs m)) is.old_pairs is.new_pairs read add drop
      is.changes
      (source-free digest gives old (λ b h. is.before b (node-in digest bits further m is.sorted b h)))
      (source-free digest more new (λ b h. after b (node-in digest bits further (changed cs m) sorted b h))) c

  balance : (c : List ℕ) → uses digest c (blocks digest bits further (changed cs m))
      + (count c drop + count c (cids_gone digest cs m))
      ≡ uses digest c (blocks digest bits further m) + (uses digest c add + uses digest c (records_come cs))
  balance c =
      let of_nodes = nodes-even c in
      let of_records = even (cid digest) c cs m is.ascending s in
      let gone = ap (count c) (cids-given digest cs m) in
      let before_is = count-parts digest bits further m is.sorted (cid digest) c in
      let after_is = count-parts digest bits further (changed cs m) sorted (cid digest) c in
      let a = count-map_append (cid digest) c further (old ++ record_blocks m) in
      let b = count-map_append (cid digest) c old (record_blocks m) in
      let d = count-map_append (cid digest) c further (new ++ record_blocks (changed cs m)) in
      let e = count-map_append (cid digest) c new (record_blocks (changed cs m)) in
      omega arith

pub changes-keep_uses : ChangesKeepUses
changes-keep_uses digest bits fits further m cs gives more read add drop is = record {
  after = after digest bits fits further m cs gives more read add drop is;
  balance = balance digest bits fits further m cs gives more read add drop is;
}

-- ---- records that come

-- a key for which changes have this record
record Named (b : List ℕ) (cs : List Change) : Type 0 where
  key : List ℕ
  says : at_key key cs ≡ Some (Some b)

later-case : (o : Ordering) (c : Change) (later : Option (Option (List ℕ))) (b : List ℕ) → (o ≡ Equal → later ≡ None)
    → later ≡ Some (Some b) → if_same o c later ≡ Some (Some b)
later-case Less c later b none e = e
later-case Equal c later b none e = let n = none refl in absurd cc
later-case Greater c later b none e = e

later-named : (c : Change) (cs : List Change) (b : List ℕ) → AllLater c.0 cs → Named b cs → Named b (c ∷ cs)
later-named c cs b h n = record {
  key = n.key;
  says = later-case (order c.0 n.key) c (at_key n.key cs) b
      (λ q. later-at n.key cs (later-same n.key c.0 cs (sym (order-equal c.0 n.key q)) h)) n.says;
}

first-named : (key b : List ℕ) (cs : List Change) → Named b ((key, Some b) ∷ cs)
first-named key b cs = record { key = key; says = rw (order-same key) refl }

named-case : (key : List ℕ) (v : Option (List ℕ)) (cs : List Change) (b : List ℕ) → AllLater key cs
    → (Contains (records_come cs) b → Named b cs) → Contains (cons_option v (records_come cs)) b
    → Named b ((key, v) ∷ cs)
named-case key None cs b later i h = later-named (key, None) cs b later (i h)
named-case key (Some r) cs b later i h =
    elim (head_or_tail b r (records_come cs) h) [
      | inl e ↦ subst (λ x. Named b ((key, Some x) ∷ cs)) (sym e) (first-named key b cs)
      | inr t ↦ later-named (key, Some r) cs b later (i t)
    ]

named : (cs : List Change) (b : List ℕ) → AreAscending cs → Contains (records_come cs) b → Named b cs
named [] b a h = absurd (omega (arith, h.1))
named (c ∷ cs) b a h = named-case c.0 c.1 cs b a.0 (λ i. named cs b a.1 i) h

found-case : (t : Bool) (b r : List ℕ) (bs : List (List ℕ)) (found : Option (List ℕ)) → (found ≡ Some b → Contains bs b)
    → cond t (Some r) found ≡ Some b → Contains (r ∷ bs) b
found-case true b r bs found i e = let same : r ≡ b = cc in subst (λ x. Contains (r ∷ bs) x) same (in_head r bs)
found-case false b r bs found i e = in_tail r b bs (i e)

found-here : (key b : List ℕ) (m : List Pair) → value_of key m ≡ Some b → Contains (record_blocks m) b
found-here key b [] e = absurd cc
found-here key b (r ∷ m) e =
    found-case (eq_by_cmp (slice_cmp nat_cmp) key r.0) b r.1 (record_blocks m) (value_of key m) (found-here key b m) e

pub records-come : RecordsCome
records-come cs m a sorted b h =
    let n = named cs b a h in
    found-here n.key b (changed cs m)
    (find-changed n.key cs m a (ascending-sorted m sorted) ∙ ap (λ o. value_after o (value_of n.key m)) n.says)
