-- A repository without writes.
use Rattle.std.proofs.Common.{◌≡◌, ◌<◌, ◌≤◌, ℕ, List, [], ◌∷◌, sym, ap, subst, ◌∙◌, arith, inl, map, Option, None}
use Rattle.std.specs.declared.option.Option.TheVariants.{Some}
use Rattle.std.specs.Arc.{arc_value}
use Rattle.std.specs.declared.sync.Arc.{Arc}
use Rattle.std.specs.FinMap as finmap
use Rattle.std.specs.Prelude.{Contains}
use Rattle.std.specs.Ordering.{nat_cmp}
use Rattle.std.specs.Cmp.Lexicographic.{slice_cmp}
use Rattle.spec.specs.Cid.{cid}
use Rattle.spec.specs.NodeFormat.{node_spelling}
use Rattle.spec.specs.States.{State, fresh}
use Rattle.spec.proofs.StateLaws.{fresh-state}
use Rattle.kept.specs.Counts.{Counts, Keeping, HaveNoOther, count_of, exchanged, gained, none_kept}
use Rattle.kept.proofs.Gains.{alone-from, gained-is}
use Rattle.spec.specs.Blocks.{IsClashFree}
use Rattle.repo.specs.Cores.{IsCore}
use Rattle.kept.specs.Gains.{IsGained}
use Rattle.repo.specs.Keeping.{AreKept}
use Rattle.repo.specs.Refusals.{IsOpenRefusal}
use Rattle.repo.specs.BlockFaults.{IsBlockFault}
use Rattle.repo.specs.Views.{state_view}
use Rattle.batches.specs.Tests.{of_store}
use Rattle.batches.specs.declared.fault.RepoFault.{RepoFault}
use Rattle.store.specs.Stores.{fulls_after_fault}
use Rattle.store.specs.declared.fault.StoreFault.{StoreFault}
use Rattle.store.specs.declared.fault.StoreFault.TheVariants as stores
use Rattle.kept.specs.Faults.{IsRefusalOfOne}
use Rattle.batches.specs.declared.stamp.Stamp.{Stamp}
use Rattle.batches.specs.Write.{Write}

none-is : (u : List ℕ × ℕ) → ◌≡◌ {A = Option (List ℕ × ℕ)} None (Some u) → 0 < u.1
none-is u h = absurd cc

-- what comes to no blocks is all there is
pub first-kept : (digest : List ℕ → List ℕ) (bs : List (List ℕ)) (m : Counts) → IsGained digest bs finmap.empty m → AreKept digest bs m
first-kept digest bs m is = record {
  has = is.has;
  counted = λ c. let n = is.counted c in let z = ap count_of (finmap.get-empty (slice_cmp nat_cmp) c) in omega (arith, n, z);
  used = is.used (λ c u e. none-is u (sym (finmap.get-empty (slice_cmp nat_cmp) c) ∙ e));
}

-- what a core without blocks exchanges for one block is that block
pub first-exchanged : (digest : List ℕ → List ℕ) (me : ℕ) (k n : Keeping) (block : List ℕ) (come : List (List ℕ)) → k ≡ none_kept me → come ≡ block ∷ []
    → n ≡ exchanged digest k come [] → HaveNoOther digest k.uses come → IsClashFree digest come → AreKept digest (block ∷ []) n.uses
first-exchanged digest me k n block come e c h none free =
    let m = gained digest k.uses come in
    let is : IsGained digest come k.uses m = gained-is digest k.uses come (alone-from digest k.uses come none free) in
    let kept : AreKept digest come m = first-kept digest come m (subst (λ (l : Keeping). IsGained digest come l.uses m) e is) in
    subst (λ (bs : List (List ℕ)). AreKept digest bs n.uses) c (subst (λ (u : Counts). AreKept digest come u) (sym (ap (λ (l : Keeping). l.uses) h)) kept)

pub empty-state : {A : Type 0} (me given limit : ℕ) (list : List (Arc (Write A) A)) (stamps : List (Stamp A × ℕ)) → me ≡ given → list ≡ [] → stamps ≡ []
    → state_view me limit list stamps ≡ fresh given limit
empty-state me given limit list stamps e w t = λ i. state_view (e i) limit (w i) (t i)

-- the core of a fresh state, whose one block is the empty node
pub fresh-core : (digest : List ℕ → List ℕ) (bits me limit : ℕ) (s : State) (node root : List ℕ) (k : Keeping) → 1 ≤ bits → bits ≤ 8 → me < 1024 → 1 ≤ limit → limit ≤ 1048576
    → s ≡ fresh me limit → node ≡ node_spelling None [] → root ≡ cid digest node → AreKept digest (node ∷ []) k.uses → IsCore digest bits s root None k
fresh-core digest bits me limit s node root k least most small some few e n r kept =
    let law = fresh-state digest bits me limit in
    let one : AreKept digest (node_spelling None [] ∷ []) k.uses = subst (λ (b : List ℕ). AreKept digest (b ∷ []) k.uses) n kept in
    subst (λ (x : State). IsCore digest bits x root None k) (sym e) (record {
      least_bits = least;
      most_bits = most;
      lawful = law.0 small (omega (arith, some)) few;
      root_is = r ∙ ap (cid digest) n ∙ sym law.1;
      commit_is = sym law.3;
      kept = subst (λ (bs : List (List ℕ)). AreKept digest bs k.uses) (sym law.2) one;
    })

-- why the store doesn't keep it
refused : {D A : Type 0} (digest : List ℕ → List ℕ) (block : List ℕ) (come : List (List ℕ)) (full last : ℕ) (fault : StoreFault D A) → come ≡ block ∷ []
    → last ≡ fulls_after_fault full fault → IsRefusalOfOne digest come fault → IsBlockFault digest (block ∷ []) full last (of_store fault)
refused digest block come full last (stores.Collision pair) c l h = record { clash = h.1; here = inl (subst (λ (bs : List (List ℕ)). Contains bs pair.0) c h.0) }
refused digest block come full last stores.Full c l h = omega (arith, l)
refused digest block come full last stores.NoMemory c l h = tt

pub first-refused : {D A : Type 0} (digest : List ℕ → List ℕ) (block : List ℕ) (come : List (List ℕ)) (full last : ℕ) (fault : StoreFault D A) (here : RepoFault D A) → here ≡ of_store fault
    → come ≡ block ∷ [] → last ≡ fulls_after_fault full fault → IsRefusalOfOne digest come fault → IsBlockFault digest (block ∷ []) full last here
first-refused {D} {A} digest block come full last fault here e c l h =
    subst (λ (f : RepoFault D A). IsBlockFault digest (block ∷ []) full last f) (sym e) (refused digest block come full last fault c l h)

-- one block alone
pub one-block : {A : Type 0} (xs : List (Arc (List ℕ) A)) (x : Arc (List ℕ) A) → xs ≡ x ∷ [] → map arc_value xs ≡ arc_value x ∷ []
one-block {A} xs x e = ap (λ (zs : List (Arc (List ℕ) A)). map arc_value zs) e

pub open-refused : {D A : Type 0} (digest : List ℕ → List ℕ) (bits me limit : ℕ) (node : List ℕ) (full fuller : ℕ) (fault : RepoFault D A) → node ≡ node_spelling None []
    → IsBlockFault digest (node ∷ []) full fuller fault → IsOpenRefusal digest bits (fresh me limit) full fuller fault
open-refused digest bits me limit node full fuller fault n h =
    subst (λ (bs : List (List ℕ)). IsBlockFault digest bs full fuller fault) (ap (λ (b : List ℕ). b ∷ []) n ∙ sym (fresh-state digest bits me limit).2) h
