-- The blocks of a batch come and go at once: what is kept is then the state after it.
use Rattle.std.proofs.Common.{◌≡◌, ◌≤◌, ◌<◌, ◌+◌, ℕ, true, List, [], ◌∷◌, ◌++◌, refl, sym, ap, subst, ◌∙◌, arith, length, Option, None, Result, Ok, Err}
use Rattle.std.specs.declared.option.Option.TheVariants.{Some}
use Rattle.std.specs.Prelude.{Contains, option_map}
use Rattle.std.specs.List.{cons_option}
use Rattle.std.specs.Cmp.Lexicographic.{slice_cmp}
use Rattle.std.specs.Ordering.{nat_cmp}
use Rattle.std.specs.FinMap as map
use Rattle.std.specs.FinMap.{is_sorted}
use Rattle.std.proofs.lemmas.List.{length-append}
use Rattle.std.proofs.lemmas.List.Elements.{Contains-append_left, Contains-append_right}
use Rattle.spec.specs.Cid.{cid, IsDigest}
use Rattle.spec.specs.Tree.{Pair}
use Rattle.spec.specs.Blocks.{ArePairs, IsClashFree, blocks, nodes, pairs, root as root_of}
use Rattle.spec.specs.Writes.{Write, WriteFault, leaves, batch_test}
use Rattle.spec.specs.Stamps.{Stamp, Stamped, StampFault, stamp_test, stamp_of, rev_of, last}
use Rattle.spec.specs.Commits.{commit_bytes, commit_blocks, commit_cid}
use Rattle.spec.specs.States.{State, IsLawful, after_batch, records, last_stamp, state_test, state_root, state_blocks, state_commit, at_first, of_writes}
use Rattle.spec.proofs.Bools.{from_T}
use Rattle.spec.proofs.Taking.{bind_ok}
use Rattle.spec.proofs.WriteLaws.{is_sorted-leaves}
use Rattle.spec.proofs.BatchLaws.{fold-append, lawful-after_batch}
use Rattle.spec.proofs.BatchSteps.{room-from}
use Rattle.spec.proofs.RecordPairs.{lawful-pairs}
use Rattle.spec.proofs.StampLaws.{last-push}
use Rattle.edit_laws.specs.Changes.{AreChanges, count}
use Rattle.spec.specs.Sources.{HasBlocks}
use Rattle.edit_laws.specs.Sources.{Extends}
use Rattle.edit_laws.specs.Uses.{uses}
use Rattle.edit_laws.specs.Staged.{records_after, old_commit}
use Rattle.edit_laws.proofs.Lists.{count-append}
use Rattle.edit_laws.proofs.RecordCounts.{count-map_append}
use Rattle.edit_laws.proofs.Using.{used as used-in}
use Rattle.edit_laws.proofs.Writing.{commit-uses}
use Rattle.batch_laws.specs.Batch.{Change, changed}
use Rattle.batch_laws.specs.Previous.{values}
use Rattle.batch_laws.specs.Collecting.{collected, with_cids}
use Rattle.batch_laws.specs.Uses.{present_values, records_come, cids_gone}
use Rattle.batch_laws.specs.Laws.Collecting.{AreCollected}
use Rattle.batch_laws.specs.Laws.Uses.{HasRewritten}
use Rattle.batch_laws.proofs.ChangedUses.{changes-keep_uses}
use Rattle.batch_laws.proofs.RecordChanges.{pairs-changed, values-by_keys}
use Rattle.batch_laws.proofs.WritesAtOnce.{writes-are_collected}
use Rattle.kept.specs.Counts.{Counts, Keeping, HaveNoOther, bytes_at, count_of, count_at, exchanged, gained}
use Rattle.kept.specs.Gains.{IsGained, IsLost}
use Rattle.kept.proofs.Gains.{alone-from, gained-is, lost-is}
use Rattle.repo.specs.Keeping.{AreKept}
use Rattle.repo.specs.Exchanging.{IsExchangeOf, nodes_read_for}
use Rattle.repo.specs.Refusals.{IsStagedBatch}

-- ---- a batch that passes

writes-passed : (r : Result (Unit {0}) (ℕ × WriteFault)) → of_writes r ≡ Ok tt → r ≡ Ok tt
writes-passed (Ok u) e = refl
writes-passed (Err f) e = absurd cc

stamp-passed : (r : Result (Unit {0}) StampFault) (u : Unit {0}) → at_first r ≡ Ok u → r ≡ Ok tt
stamp-passed (Ok v) u e = refl
stamp-passed (Err f) u e = absurd cc

-- it has writes, and its stamp and each of its writes pass
pub record HasPassed (s : State) (stamp : Stamp) (batch : List Write) : Type 0 where
  pub some : 0 < length batch
  pub stamped : stamp_test (rev_of (last s.stamps)) stamp ≡ Ok tt
  pub passed : batch_test s.limit s.accepted batch ≡ Ok tt

pub has-passed : (s : State) (stamp : Stamp) (batch : List Write) → state_test s stamp batch ≡ Ok tt
    → HasPassed s stamp batch
has-passed s stamp [] h = absurd cc
has-passed s stamp (w ∷ ws) h =
    let p = bind_ok (at_first (stamp_test (rev_of (last s.stamps)) stamp)) (λ ok. of_writes (batch_test s.limit s.accepted (w ∷ ws))) tt h in
    record {
      some = omega arith;
      stamped = stamp-passed (stamp_test (rev_of (last s.stamps)) stamp) p.0 p.1;
      passed = writes-passed (batch_test s.limit s.accepted (w ∷ ws)) p.2;
    }

-- ---- the records before and after it

pub sorted-after : (s : State) (before : List Write) → is_sorted (slice_cmp nat_cmp) (records_after s before) ≡ true
sorted-after s before = from_T _ (is_sorted-leaves (s.accepted ++ before))

pub sorted-records : (s : State) → is_sorted (slice_cmp nat_cmp) (records s) ≡ true
sorted-records s = from_T _ (is_sorted-leaves s.accepted)

pub pairs-after : (digest : List ℕ → List ℕ) → IsDigest digest → (s : State) (before : List Write) → IsLawful s
    → batch_test s.limit s.accepted before ≡ Ok tt → ArePairs (pairs digest (records_after s before))
pairs-after digest fits s before is passed =
    let r = room-from 0 s.limit (length s.accepted) (leaves s.accepted) before passed is.within_limit in
    let l = length-append s.accepted before in
    let few = is.limit_fits in
    lawful-pairs digest fits (s.accepted ++ before) (lawful-after_batch s.limit s.accepted before is.writes passed) (omega arith)

pub pairs-before : (digest : List ℕ → List ℕ) → IsDigest digest → (s : State) → IsLawful s → ArePairs (pairs digest (records s))
pairs-before digest fits s is =
    let few = is.limit_fits in
    let within = is.within_limit in
    lawful-pairs digest fits s.accepted is.writes (omega arith)

-- a batch's changes at once leave the records that its writes leave
pub records-changed : (digest : List ℕ → List ℕ) (s : State) (batch : List Write)
    → records_after s batch ≡ changed (collected batch) (records s)
records-changed digest s batch =
    fold-append [] s.accepted batch ∙ (writes-are_collected digest (records s) batch (sorted-records s)).records_are

-- and their pairs
pub pairs-changed_after : (digest : List ℕ → List ℕ) (s : State) (batch : List Write)
    → changed (with_cids digest (collected batch)) (pairs digest (records s)) ≡ pairs digest (records_after s batch)
pairs-changed_after digest s batch =
    sym (pairs-changed digest (collected batch) (records s) (writes-are_collected digest (records s) batch (sorted-records s)).ascending)
    ∙ ap (pairs digest) (sym (records-changed digest s batch))

-- ---- blocks that are used are there

there : (m : Counts) (c : List ℕ) (o : Option (List ℕ × ℕ)) → map.get m c ≡ o → 0 < count_of o → (b : List ℕ) × (bytes_at m c ≡ Some b)
there m c None e h = absurd (omega (arith, h))
there m c (Some u) e h = (u.0, ap (option_map (λ v. v.0)) e)

pub used-has : (digest : List ℕ → List ℕ) (bs : List (List ℕ)) (l m : Counts) → HasBlocks digest (bytes_at l) bs → Extends (bytes_at m) (bytes_at l)
    → ((c : List ℕ) → count_at m c ≡ uses digest c bs) → HasBlocks digest (bytes_at m) bs
used-has digest bs l m has same counted b h =
    let u = used-in digest bs b h in
    let n = counted (cid digest b) in
    let t = there m (cid digest b) (map.get m (cid digest b)) refl (omega (arith, u, n)) in
    let is : t.0 ≡ b = some-is t.0 b (sym (same (cid digest b) t.0 t.1) ∙ has b h) in
    t.1 ∙ ap (λ (x : List ℕ). Some x) is
  where
    some-is : (x y : List ℕ) → ◌≡◌ {A = Option (List ℕ)} (Some x) (Some y) → x ≡ y
    some-is x y e = cc

-- ---- uses of one CID

-- what goes was there, with the blocks after the batch
goes : (here come go old next new add drop rec given now then : ℕ) → here ≡ old → come ≡ (add + rec) + now
    → go ≡ (drop + given) + then → next + (drop + given) ≡ old + (add + rec) → new + then ≡ next + now
    → here + come ≡ new + go
goes here come go old next new add drop rec given now then a b c d e = omega arith

least : (here come more new go : ℕ) → here + come ≡ new + go → more ≡ here + come → go ≤ more
least here come more new go a b = omega arith

end : (here come more new go left : ℕ) → here + come ≡ new + go → more ≡ here + come → left + go ≡ more → left ≡ new
end here come more new go left a b c = omega arith

-- the old commit's use
old-count : (digest : List ℕ → List ℕ) (c root : List ℕ) (o : Option Stamp) → count c (cons_option (commit_cid digest o root) []) ≡ uses digest c (commit_blocks o root)
old-count digest c root None = refl
old-count digest c root (Some stamp) = refl

-- the root after a batch
pub root-after : (digest : List ℕ → List ℕ) (bits : ℕ) (s : State) (stamp : Stamp) (batch : List Write) (root commit : List ℕ)
    (add come drop go : List (List ℕ)) → IsExchangeOf digest bits s stamp batch root commit add come drop go
    → root ≡ state_root digest bits (after_batch s stamp batch)
root-after digest bits s stamp batch root commit add come drop go is = is.root_is ∙ ap (root_of digest bits) (pairs-changed_after digest s batch)

-- ---- a batch's blocks come, and then those go that it takes away

module _ (digest : List ℕ → List ℕ) (bits : ℕ) (fits : IsDigest digest) (s : State) (stamp : Stamp) (batch : List Write)
    (root commit : List ℕ) (add come drop go : List (List ℕ)) (k l m : Counts) (lawful : IsLawful s)
    (kept : AreKept digest (state_blocks digest bits s) k) (is : IsExchangeOf digest bits s stamp batch root commit add come drop go)
    (gained : IsGained digest come k l) (lost : IsLost go l m) where
  abbrev cs : List Change
  cs = collected batch

  abbrev old : List (List ℕ)
  old = old_commit digest bits s

  abbrev new : List (List ℕ)
  new = commit_blocks (Some stamp) root

  abbrev after : List (List ℕ × List ℕ)
  after = changed cs (records s)

  passed : batch_test s.limit s.accepted batch ≡ Ok tt
  passed = (has-passed s stamp batch is.passes).passed

  all : AreCollected digest (records s) batch
  all = writes-are_collected digest (records s) batch (sorted-records s)

  records-are : records_after s batch ≡ after
  records-are = records-changed digest s batch

  pairs-are : changed (with_cids digest cs) (pairs digest (records s)) ≡ pairs digest after
  pairs-are = sym (pairs-changed digest cs (records s) all.ascending)

  has-come : (b : List ℕ) → Contains ((add ++ records_come cs) ++ new) b → bytes_at l (cid digest b) ≡ Some b
  has-come b h = gained.has b (subst (λ bs. Contains bs b) (sym is.come_is) h)

  written : HasRewritten digest bits old (records s) cs (bytes_at l) add drop
  written = changes-keep_uses digest bits fits old (records s) cs (bytes_at k) (bytes_at l) (nodes_read_for digest bits s batch) add drop (record {
    before = kept.has;
    sorted = sorted-records s;
    ascending = all.ascending;
    old_pairs = pairs-before digest fits s lawful;
    new_pairs = subst (λ n. ArePairs (pairs digest n)) records-are (pairs-after digest fits s batch lawful passed);
    changes = subst (λ (es : List Pair). AreChanges digest (nodes digest bits (pairs digest (records s))) (nodes digest bits es)
        (nodes_read_for digest bits s batch) add drop) pairs-are is.changes;
    extends = gained.extends;
    has_add = λ b h. has-come b (Contains-append_left (add ++ records_come cs) new b (Contains-append_left add (records_come cs) b h));
    has_records = λ b h. has-come b (Contains-append_left (add ++ records_come cs) new b (Contains-append_right add (records_come cs) b h));
  })

  committed : HasBlocks digest (bytes_at l) (blocks digest bits new after)
      × ((c : List ℕ) → uses digest c (blocks digest bits new after) + uses digest c old ≡ uses digest c (blocks digest bits old after) + uses digest c new)
  committed =
      commit-uses digest bits old new after (bytes_at l) (subst (λ n. is_sorted (slice_cmp nat_cmp) n ≡ true) records-are (sorted-after s batch))
      written.after (λ b h. has-come b (Contains-append_right (add ++ records_come cs) new b h))

  come-count : (c : List ℕ) → uses digest c come ≡ (uses digest c add + uses digest c (records_come cs)) + uses digest c new
  come-count c =
      ap (uses digest c) is.come_is
      ∙ count-map_append (cid digest) c (add ++ records_come cs) new
      ∙ ap (λ n. n + uses digest c new) (count-map_append (cid digest) c add (records_come cs))

  gone-count : (c : List ℕ) → count c (present_values (values (with_cids digest cs) (pairs digest (records s)))) ≡ count c (cids_gone digest cs (records s))
  gone-count c = ap (λ os. count c (present_values os)) (values-by_keys digest cs (pairs digest (records s)))

  go-count : (c : List ℕ) → count c go ≡ (count c drop + count c (cids_gone digest cs (records s))) + uses digest c old
  go-count c =
      ap (count c) is.go_is
      ∙ count-append c (drop ++ present_values (values (with_cids digest cs) (pairs digest (records s)))) (cons_option (state_commit digest bits s) [])
      ∙ ap (λ n. n + count c (cons_option (state_commit digest bits s) [])) (count-append c drop (present_values (values (with_cids digest cs) (pairs digest (records s)))))
      ∙ ap (λ n. (count c drop + n) + count c (cons_option (state_commit digest bits s) [])) (gone-count c)
      ∙ ap (λ n. (count c drop + count c (cids_gone digest cs (records s))) + n) (old-count digest c (state_root digest bits s) (last_stamp s))

  even : (c : List ℕ) → count_at k c + uses digest c come ≡ uses digest c (blocks digest bits new after) + count c go
  even c =
      goes (count_at k c) (uses digest c come) (count c go) (uses digest c (blocks digest bits old (records s)))
      (uses digest c (blocks digest bits old after)) (uses digest c (blocks digest bits new after)) (uses digest c add) (count c drop)
      (uses digest c (records_come cs)) (count c (cids_gone digest cs (records s))) (uses digest c new) (uses digest c old)
      (kept.counted c) (come-count c) (go-count c) (written.balance c) (committed.1 c)

  counted : (c : List ℕ) → count_at m c ≡ uses digest c (blocks digest bits new after)
  counted c =
      let less = least (count_at k c) (uses digest c come) (count_at l c) (uses digest c (blocks digest bits new after)) (count c go) (even c) (gained.counted c) in
      end (count_at k c) (uses digest c come) (count_at l c) (uses digest c (blocks digest bits new after)) (count c go) (count_at m c) (even c) (gained.counted c)
      (lost.counted c less)

  root-is : root ≡ state_root digest bits (after_batch s stamp batch)
  root-is = root-after digest bits s stamp batch root commit add come drop go is

  pushed : last (after_batch s stamp batch).stamps ≡ Some (stamp, length (s.accepted ++ batch))
  pushed = last-push s.stamps (stamp, length (s.accepted ++ batch))

  new-is : new ≡ old_commit digest bits (after_batch s stamp batch)
  new-is =
      ap (commit_blocks (Some stamp)) root-is
      ∙ ap (λ (o : Option Stamped). commit_blocks (stamp_of o) (state_root digest bits (after_batch s stamp batch))) (sym pushed)

  blocks-are : blocks digest bits new after ≡ state_blocks digest bits (after_batch s stamp batch)
  blocks-are = ap (blocks digest bits new) (sym records-are) ∙ ap (λ bs. blocks digest bits bs (records_after s batch)) new-is

  pub staged-whole : IsStagedBatch digest bits s stamp batch root commit m
  staged-whole = record {
    passes = is.passes;
    root_is = root-is;
    commit_is = ap (λ (c : List ℕ). Some c) is.commit_is ∙ ap (λ (r : List ℕ). Some (cid digest (commit_bytes stamp r))) root-is
        ∙ ap (λ (o : Option Stamped). commit_cid digest (stamp_of o) (state_root digest bits (after_batch s stamp batch))) (sym pushed);
    kept = subst (λ bs. AreKept digest bs m) blocks-are (record {
      has = used-has digest (blocks digest bits new after) l m committed.0 lost.same counted;
      counted = counted;
      used = lost.used (gained.used kept.used);
    });
  }

-- so it is after kept's own exchange
pub exchanged-staged : (digest : List ℕ → List ℕ) (bits : ℕ) → IsDigest digest → (s : State) (stamp : Stamp) (batch : List Write)
    (root commit : List ℕ) (add come drop go : List (List ℕ)) (k : Keeping) → IsLawful s → AreKept digest (state_blocks digest bits s) k.uses
    → IsExchangeOf digest bits s stamp batch root commit add come drop go → HaveNoOther digest k.uses come → IsClashFree digest come
    → IsStagedBatch digest bits s stamp batch root commit (exchanged digest k come go).uses
exchanged-staged digest bits fits s stamp batch root commit add come drop go k lawful kept is none free =
    staged-whole digest bits fits s stamp batch root commit add come drop go k.uses (gained digest k.uses come) (exchanged digest k come go).uses lawful kept is
    (gained-is digest k.uses come (alone-from digest k.uses come none free)) (lost-is (gained digest k.uses come) go)
