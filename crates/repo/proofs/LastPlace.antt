-- What is refused at the last write of a batch that passed its tests: its blocks.
use Rattle.std.proofs.Common.{◌≡◌, ◌+◌, ◌-◌, ◌<◌, ◌≤◌, ℕ, zero, suc, true, eqb, List, [], ◌∷◌, ◌++◌, length, take, drop, refl, sym, ap, subst, ◌∙◌, arith, inl, inr, Ok, Option, cond}
use Rattle.std.specs.declared.option.Option.TheVariants.{Some}
use Rattle.std.specs.Prelude.{Contains}
use Rattle.std.proofs.lemmas.Bool.{eq-eqb}
use Rattle.std.proofs.lemmas.List.{append_assoc, take-append-drop}
use Rattle.std.proofs.lemmas.List.Elements.{Contains-append_cases}
use Rattle.spec.specs.Tree.{Pair}
use Rattle.spec.specs.Blocks.{IsClashIn, blocks, nodes, record_blocks, root as root_of, repository_root}
use Rattle.spec.specs.Writes.{Write, batch_test}
use Rattle.spec.specs.Stamps.{Stamp, Stamped, stamp_of}
use Rattle.spec.specs.Commits.{commit_bytes, commit_blocks}
use Rattle.spec.specs.States.{State, after_batch, records, state_blocks, state_root, state_test}
use Rattle.spec.proofs.BatchLaws.{EachPasses-from_test, test-from_EachPasses}
use Rattle.spec.proofs.RepositoryBlocks.{node-in, record-in, further-in}
use Rattle.spec.proofs.StampLaws.{last-push}
use Rattle.edit_laws.specs.Staged.{records_after, old_commit}
use Rattle.edit_laws.proofs.BlockSources.{source-free, clash-new}
use Rattle.edit_laws.proofs.StagedBatches.{staged-passes}
use Rattle.batch_laws.specs.Collecting.{collected, with_cids}
use Rattle.batch_laws.specs.Staged.{old_pairs, new_pairs}
use Rattle.batch_laws.specs.Uses.{records_come}
use Rattle.batch_laws.proofs.ChangedUses.{records-come}
use Rattle.batch_laws.proofs.WritesAtOnce.{writes-are_collected}
use Rattle.store.specs.Stores.{fulls_after_fault}
use Rattle.store.specs.declared.fault.StoreFault.{StoreFault}
use Rattle.store.specs.declared.fault.StoreFault.TheVariants as stores
use Rattle.batches.specs.Tests.{of_store}
use Rattle.batches.specs.declared.fault.RepoFault.{RepoFault}
use Rattle.batches.specs.declared.fault.RepoFault.TheVariants as faults
use Rattle.kept.specs.Counts.{Counts, bytes_at}
use Rattle.kept.specs.Faults.{IsRefusalOfOne}
use Rattle.repo.specs.Edits.{IsEditRefusal}
use Rattle.repo.specs.Exchanging.{IsExchangeOf}
use Rattle.repo.specs.Keeping.{AreKept}
use Rattle.repo.specs.BlockFaults.{IsClashAt}
use Rattle.repo.specs.Wants.{place_for, IsPlacedBy}
use Rattle.repo.specs.Refusals.{PassesTo, PassesBefore, IsOther, IsTestRefusal, blocks_shown}
use Rattle.repo.proofs.Exchanging.{HasPassed, has-passed, sorted-after, sorted-records, records-changed, pairs-changed_after}

take-all : {X : Type 0} (xs : List X) (n : ℕ) → length xs ≤ n → take n xs ≡ xs
take-all [] zero l = refl
take-all [] (suc n) l = refl
take-all (x ∷ xs) zero l = absurd (omega arith)
take-all (x ∷ xs) (suc n) l = ap (λ ys. x ∷ ys) (take-all xs n (omega arith))

-- ---- a part of a batch that passes

prefix-passes : (limit : ℕ) (accepted batch : List Write) (i : ℕ) → batch_test limit accepted batch ≡ Ok tt → batch_test limit accepted (take i batch) ≡ Ok tt
prefix-passes limit accepted batch i h =
    test-from_EachPasses limit accepted (take i batch) (λ before after w e.
    EachPasses-from_test limit accepted batch h before (after ++ drop i batch) w
    (sym (take-append-drop i batch) ∙ ap (λ xs. xs ++ drop i batch) e ∙ append_assoc before (w ∷ after) (drop i batch)))

take-some : (i : ℕ) (batch : List Write) → 0 < i → i ≤ length batch → 0 < length (take i batch)
take-some zero batch h l = absurd (omega arith)
take-some (suc i) [] h l = absurd (omega arith)
take-some (suc i) (w ∷ ws) h l = omega arith

module _ (s : State) (stamp : Stamp) (batch : List Write) (passes : state_test s stamp batch ≡ Ok tt) where
  has : HasPassed s stamp batch
  has = has-passed s stamp batch passes

  -- so many writes are all of them
  last-whole : take (length batch - 1 + 1) batch ≡ batch
  last-whole = let some = has.some in take-all batch (length batch - 1 + 1) (omega arith)

  -- all writes pass
  pub last-passes : PassesTo s stamp batch (length batch - 1)
  last-passes = let some = has.some in (omega arith, ap (state_test s stamp) last-whole ∙ passes)

  -- and those before any place
  pub passes-before : (i : ℕ) → i < length batch → PassesBefore s stamp batch i
  passes-before i within = (
    within,
    λ h. staged-passes s stamp (take i batch) (take-some i batch h (omega arith)) has.stamped
        (prefix-passes s.limit s.accepted batch i has.passed),
  )

  -- ---- the blocks after it

  module _ (digest : List ℕ → List ℕ) (bits : ℕ) where
    abbrev after : List (List ℕ × List ℕ)
    after = records_after s batch

    abbrev commit : List (List ℕ)
    commit = commit_blocks (Some stamp) (repository_root digest bits after)

    test : eqb (length batch - 1 + 1) (length batch) ≡ true
    test = let some = has.some in eq-eqb (length batch - 1 + 1) (length batch) (omega arith)

    -- at the last write they are the repository's
    last-blocks : blocks_shown digest bits s stamp batch (length batch - 1) ≡ blocks digest bits commit after
    last-blocks =
        ap (λ t. blocks digest bits
        (cond t (commit_blocks (Some stamp) (repository_root digest bits (records_after s (take (length batch - 1 + 1) batch)))) [])
        (records_after s (take (length batch - 1 + 1) batch))) test
        ∙ ap (λ ws. blocks digest bits (commit_blocks (Some stamp) (repository_root digest bits (records_after s ws))) (records_after s ws)) last-whole

    shown : (b : List ℕ) → Contains (blocks digest bits commit after) b → Contains (blocks_shown digest bits s stamp batch (length batch - 1)) b
    shown b h = subst (λ bs. Contains bs b) (sym last-blocks) h

    -- and those of the state after it
    pub blocks-after : blocks_shown digest bits s stamp batch (length batch - 1) ≡ state_blocks digest bits (after_batch s stamp batch)
    blocks-after =
        last-blocks
        ∙ ap (λ (o : Option Stamped). blocks digest bits (commit_blocks (stamp_of o) (state_root digest bits (after_batch s stamp batch))) (records_after s batch))
        (sym (last-push s.stamps (stamp, length (s.accepted ++ batch))))

    -- the nodes of the tree after it are shown
    pub nodes-shown : (b : List ℕ) → Contains (nodes digest bits (new_pairs digest s batch)) b
        → Contains (blocks_shown digest bits s stamp batch (length batch - 1)) b
    nodes-shown b h =
        shown b (node-in digest bits commit after (sorted-after s batch) b
        (subst (λ (es : List Pair). Contains (nodes digest bits es) b) (pairs-changed_after digest s batch) h))

    -- the records that come
    pub records-shown : (b : List ℕ) → Contains (records_come (collected batch)) b
        → Contains (blocks_shown digest bits s stamp batch (length batch - 1)) b
    records-shown b h =
        let all = writes-are_collected digest (records s) batch (sorted-records s) in
        let come = records-come (collected batch) (records s) all.ascending (sorted-records s) b h in
        shown b (record-in digest bits commit after (sorted-after s batch) b
        (subst (λ m. Contains (record_blocks m) b) (sym (records-changed digest s batch)) come))

    -- and the commit
    pub commit-shown : (root b : List ℕ) → root ≡ root_of digest bits (new_pairs digest s batch)
        → Contains (commit_bytes stamp root ∷ []) b → Contains (blocks_shown digest bits s stamp batch (length batch - 1)) b
    commit-shown root b e h =
        let same : root ≡ repository_root digest bits after = e ∙ ap (root_of digest bits) (pairs-changed_after digest s batch) in
        shown b (further-in digest bits commit after (sorted-after s batch) b (subst (λ (r : List ℕ). Contains (commit_bytes stamp r ∷ []) b) same h))

-- ---- refused where its edit is made

module _ (digest : List ℕ → List ℕ) (bits : ℕ) (s : State) (stamp : Stamp) (batch : List Write) (m : Counts)
    (kept : AreKept digest (state_blocks digest bits s) m) (passes : state_test s stamp batch ≡ Ok tt) where
  -- of two nodes that clash, of the tree before or after, one is shown
  pub edit-clash : (pair : List ℕ × List ℕ)
      → IsClashIn digest (nodes digest bits (old_pairs digest s) ++ nodes digest bits (new_pairs digest s batch)) pair
      → IsClashAt digest (blocks_shown digest bits s stamp batch (length batch - 1)) pair
  edit-clash pair h =
      let old = nodes digest bits (old_pairs digest s) in
      let new = nodes digest bits (new_pairs digest s batch) in
      let free = source-free digest (bytes_at m) old
      (λ b i. kept.has b (node-in digest bits (old_commit digest bits s) (records s) (sorted-records s) b i)) in
      record {
        clash = h.2;
        here = elim (clash-new digest old new free pair.0 pair.1 h.0 h.1 h.2) [
          | inl one ↦ inl (nodes-shown s stamp batch passes digest bits pair.0 one)
          | inr other ↦ inr (nodes-shown s stamp batch passes digest bits pair.1 other)
        ];
      }

  pub edit-refused : {D A : Type 0} (place : ℕ) (fault : RepoFault D A)
      → IsEditRefusal digest bits (with_cids digest (collected batch)) (old_pairs digest s) fault
      → IsPlacedBy (length batch) place fault → IsTestRefusal digest bits s stamp batch (place, fault)
  edit-refused place (faults.Collision pair) h at full =
      let last : length batch - 1 ≡ place = omega (arith, at) in
      subst (λ (i : ℕ). PassesTo s stamp batch i × IsClashAt digest (blocks_shown digest bits s stamp batch i) pair) last
      (last-passes s stamp batch passes, edit-clash pair h)
  edit-refused place faults.NoMemory h at full = passes-before s stamp batch passes place at
  edit-refused place faults.StoreFull h at full = absurd h
  edit-refused place (faults.BadRecord f) h at full = absurd h
  edit-refused place faults.BadKey h at full = absurd h
  edit-refused place faults.NotAMap h at full = absurd h
  edit-refused place faults.RecordSize h at full = absurd h
  edit-refused place faults.KeyExists h at full = absurd h
  edit-refused place faults.NoSuchKey h at full = absurd h
  edit-refused place faults.WritesFull h at full = absurd h
  edit-refused place faults.EmptyBatch h at full = absurd h
  edit-refused place faults.BadDid h at full = absurd h
  edit-refused place faults.BadRev h at full = absurd h
  edit-refused place faults.RevOrder h at full = absurd h

-- ---- refused where its blocks are exchanged

module _ (digest : List ℕ → List ℕ) (bits : ℕ) (s : State) (stamp : Stamp) (batch : List Write) (root commit : List ℕ)
    (add come drop go : List (List ℕ)) (is : IsExchangeOf digest bits s stamp batch root commit add come drop go) where
  added-shown : (b : List ℕ) → Contains (add ++ records_come (collected batch)) b
      → Contains (blocks_shown digest bits s stamp batch (length batch - 1)) b
  added-shown b h = elim (Contains-append_cases add (records_come (collected batch)) b h) [
    | inl node ↦ nodes-shown s stamp batch is.passes digest bits b (is.changes.fresh b node).0
    | inr one ↦ records-shown s stamp batch is.passes digest bits b one
  ]

  -- each block that comes is shown
  pub come-shown : (b : List ℕ) → Contains come b → Contains (blocks_shown digest bits s stamp batch (length batch - 1)) b
  come-shown b h =
      elim (Contains-append_cases (add ++ records_come (collected batch)) (commit_bytes stamp root ∷ []) b
      (subst (λ bs. Contains bs b) is.come_is h)) [
        | inl first ↦ added-shown b first
        | inr last ↦ commit-shown s stamp batch is.passes digest bits root b is.root_is last
      ]

  pub exchange-refused : {D A : Type 0} (full : ℕ) (fault : StoreFault D A) → IsRefusalOfOne digest come fault
      → IsOther digest bits s stamp batch full (fulls_after_fault full fault) (place_for (length batch - 1) (of_store fault)) (of_store fault)
  exchange-refused full (stores.Collision pair) h =
      (last-passes s stamp batch is.passes, record { clash = h.1; here = inl (come-shown pair.0 h.0) })
  exchange-refused full stores.Full h = (last-passes s stamp batch is.passes, omega arith)
  exchange-refused full stores.NoMemory h = passes-before s stamp batch is.passes 0 (let some = (has s stamp batch is.passes).some in omega (arith, some))
