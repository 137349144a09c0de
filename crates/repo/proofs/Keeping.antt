-- What a core's invariant says of its blocks.
use Rattle.std.proofs.Common.{◌≡◌, ◌+◌, ℕ, Bool, true, false, cond, List, [], ◌∷◌, length, refl, sym, ap, subst, ◌∙◌, arith, Option, None}
use Rattle.std.specs.declared.option.Option.TheVariants.{Some}
use Rattle.std.specs.Prelude.{Contains, option_map, nat_lt, if◌then◌else◌}
use Rattle.std.specs.FinMap as finmap
use Rattle.std.specs.Cmp.Lexicographic.{slice_cmp}
use Rattle.std.specs.Ordering.{nat_cmp, eq_by_cmp}
use Rattle.std.specs.FinMap.{find}
use Rattle.std.proofs.lemmas.Bool.{lt-ltb}
use Rattle.spec.specs.Cid.{cid, IsDigest}
use Rattle.spec.specs.Blocks.{block_at, value_of, pairs, record_blocks}
use Rattle.spec.specs.States.{State, IsLawful, after_batch, records, state_root, state_blocks}
use Rattle.spec.specs.Stamps.{Stamp}
use Rattle.spec.specs.Writes.{Write}
use Rattle.spec.proofs.RootLaws.{in_head, in_tail}
use Rattle.spec.proofs.RecordPairs.{lawful-pairs, value-record}
use Rattle.spec.proofs.RepositoryBlocks.{record-in}
use Rattle.spec.proofs.StateLaws.{batch-keeps_state}
use Rattle.edit_laws.specs.Staged.{old_commit}
use Rattle.edit_laws.specs.Uses.{uses}
use Rattle.edit_laws.proofs.BlockSources.{source-gives, source-nodes}
use Rattle.lookups.specs.Trees.{HasTree}
use Rattle.kept.specs.Counts.{Counts, Keeping, bytes_at, count_of}
use Rattle.repo.specs.Cores.{IsCore}
use Rattle.repo.specs.Keeping.{AreKept}
use Rattle.repo.specs.Refusals.{IsStagedBatch}
use Rattle.repo.specs.Tested.{IsTestStart}
use Rattle.repo.proofs.Exchanging.{sorted-records}

-- the record that is found is one of the records
found-case : (key : List ℕ) (e : List ℕ × List ℕ) (m : List (List ℕ × List ℕ)) (r : List ℕ) (t : Bool) → (find (slice_cmp nat_cmp) key m ≡ Some r → Contains (record_blocks m) r)
    → cond t (Some e.1) (find (slice_cmp nat_cmp) key m) ≡ Some r → Contains (record_blocks (e ∷ m)) r
found-case key e m r true i h = let same : e.1 ≡ r = cc in subst (Contains (record_blocks (e ∷ m))) same (in_head e.1 (record_blocks m))
found-case key e m r false i h = in_tail e.1 r (record_blocks m) (i h)

found-record : (key : List ℕ) (m : List (List ℕ × List ℕ)) (r : List ℕ) → find (slice_cmp nat_cmp) key m ≡ Some r → Contains (record_blocks m) r
found-record key [] r h = absurd cc
found-record key (e ∷ m) r h = found-case key e m r (eq_by_cmp (slice_cmp nat_cmp) key e.0) (found-record key m r) h

-- what is kept of a lawful state has its tree
pub kept-tree : (digest : List ℕ → List ℕ) (bits : ℕ) → IsDigest digest → (s : State) (m : Counts) → IsLawful s → AreKept digest (state_blocks digest bits s) m
    → HasTree digest bits (bytes_at m) (state_root digest bits s) (pairs digest (records s))
kept-tree digest bits fits s m lawful kept = record {
  pairs = let a = lawful.within_limit in let b = lawful.limit_fits in lawful-pairs digest fits s.accepted lawful.writes (omega arith);
  root_is = refl;
  nodes = source-nodes digest bits (old_commit digest bits s) (records s) (sorted-records s) (bytes_at m) kept.has;
}

module _ (digest : List ℕ → List ℕ) (bits : ℕ) (s : State) (root : List ℕ) (commit : Option (List ℕ)) (k : Keeping) (is : IsCore digest bits s root commit k) where
  pub core-tree : IsDigest digest → HasTree digest bits (bytes_at k.uses) root (pairs digest (records s))
  core-tree fits = subst (λ (r : List ℕ). HasTree digest bits (bytes_at k.uses) r (pairs digest (records s))) (sym is.root_is) (kept-tree digest bits fits s k.uses is.lawful is.kept)

  at_kept : (c : List ℕ) (o : Option (List ℕ × ℕ)) → finmap.get k.uses c ≡ o
      → option_map (λ u. u.0) o ≡ (if nat_lt 0 (uses digest c (state_blocks digest bits s)) then option_map (λ u. u.0) o else None)
  at_kept c None e = same (nat_lt 0 (uses digest c (state_blocks digest bits s)))
    where
      same : (t : Bool) → ◌≡◌ {A = Option (List ℕ)} None (if t then None else None)
      same true = refl
      same false = refl
  at_kept c (Some u) e =
      let n = is.kept.counted c in
      let here = ap count_of e in
      let some = is.kept.used c u e in
      let t : nat_lt 0 (uses digest c (state_blocks digest bits s)) ≡ true = lt-ltb 0 (uses digest c (state_blocks digest bits s)) (omega (arith, n, here, some)) in
      ap (λ (x : Bool). if x then Some u.0 else None) (sym t)

  -- what is kept under a CID is the block with that CID
  pub core-block : (c : List ℕ) → bytes_at k.uses c ≡ block_at digest c (state_blocks digest bits s)
  core-block c = at_kept c (finmap.get k.uses c) refl ∙ sym (source-gives digest (state_blocks digest bits s) (bytes_at k.uses) is.kept.has c)

  core-record : (r : List ℕ) → Contains (record_blocks (records s)) r → bytes_at k.uses (cid digest r) ≡ Some r
  core-record r h = is.kept.has r (record-in digest bits (old_commit digest bits s) (records s) (sorted-records s) r h)

  by_found : (key c : List ℕ) (o : Option (List ℕ)) → find (slice_cmp nat_cmp) key (records s) ≡ o → ◌≡◌ {A = Option (List ℕ)} (Some c) (option_map (cid digest) o)
      → block_at digest c (state_blocks digest bits s) ≡ o
  by_found key c None e h = absurd cc
  by_found key c (Some r) e h =
      let same : c ≡ cid digest r = cc in
      ap (λ x. block_at digest x (state_blocks digest bits s)) same ∙ sym (core-block (cid digest r)) ∙ core-record r (found-record key (records s) r e)

  -- what a key's value names is the key's record
  pub core-get : (key c : List ℕ) → Some c ≡ value_of key (pairs digest (records s)) → block_at digest c (state_blocks digest bits s) ≡ find (slice_cmp nat_cmp) key (records s)
  core-get key c h = by_found key c (find (slice_cmp nat_cmp) key (records s)) refl (h ∙ (value-record digest (records s) key).0)

  -- a batch is tested on the state
  pub core-tested : IsDigest digest → (room : ℕ) → length s.accepted + room ≡ s.limit → IsTestStart digest bits s room root k.uses
  core-tested fits room r = record { room_is = r; tree = core-tree fits }

none-found : (digest : List ℕ → List ℕ) (o : Option (List ℕ)) → None ≡ option_map (cid digest) o → None ≡ o
none-found digest None h = refl
none-found digest (Some r) h = absurd cc

pub get-none : (digest : List ℕ → List ℕ) (s : State) (key : List ℕ) → None ≡ value_of key (pairs digest (records s)) → None ≡ find (slice_cmp nat_cmp) key (records s)
get-none digest s key h = none-found digest (find (slice_cmp nat_cmp) key (records s)) (h ∙ (value-record digest (records s) key).0)

-- ---- after a batch

-- what has been exchanged is kept: the core is that of the state after the batch
pub core-after : (digest : List ℕ → List ℕ) (bits : ℕ) (s t : State) (stamp : Stamp) (batch : List Write) (root : List ℕ) (before : Option (List ℕ)) (first commit : List ℕ) (k n : Keeping)
    → IsCore digest bits s first before k → t ≡ after_batch s stamp batch → IsStagedBatch digest bits s stamp batch root commit n.uses → IsCore digest bits t root (Some commit) n
core-after digest bits s t stamp batch root before first commit k n is e h =
    subst (λ (x : State). IsCore digest bits x root (Some commit) n) (sym e) (record {
      least_bits = is.least_bits;
      most_bits = is.most_bits;
      lawful = batch-keeps_state s stamp batch is.lawful h.passes;
      root_is = h.root_is;
      commit_is = h.commit_is;
      kept = h.kept;
    })

-- ---- after a refusal

pub core-same : (digest : List ℕ → List ℕ) (bits : ℕ) (s t : State) (root : List ℕ) (commit : Option (List ℕ)) (k n : Keeping) → IsCore digest bits s root commit k → n ≡ k → t ≡ s → IsCore digest bits t root commit n
core-same digest bits s t root commit k n is e f =
    subst (λ (x : State). IsCore digest bits x root commit n) (sym f) (subst (λ (x : Keeping). IsCore digest bits s root commit x) (sym e) is)
