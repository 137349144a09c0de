-- A core's batch, taken or refused.
use Rattle.std.proofs.Common.{◌≡◌, ◌-◌, ℕ, suc, List, length, false, refl, sym, ap, subst, ◌∙◌, arith, Option, cond}
use Rattle.std.specs.declared.option.Option.TheVariants.{Some}
use Rattle.spec.specs.Cid.{IsDigest}
use Rattle.spec.specs.Blocks.{IsClashFree}
use Rattle.spec.specs.Stamps.{Stamp}
use Rattle.spec.specs.States.{State, after_batch}
use Rattle.std.specs.Prelude.{IfErr, OnOk, Result, Ok, Err}
use Rattle.spec.specs.Writes.{Write}
use Rattle.store.specs.Stores.{fulls_after_fault}
use Rattle.store.specs.declared.fault.StoreFault.{StoreFault}
use Rattle.store.specs.declared.fault.StoreFault.TheVariants as stores
use Rattle.kept.specs.Counts.{Keeping, HaveNoOther, exchanged}
use Rattle.kept.specs.Faults.{IsRefusalOfOne}
use Rattle.batches.specs.Tests.{of_store, test_fault}
use Rattle.batches.specs.declared.fault.RepoFault.{RepoFault}
use Rattle.batches.specs.declared.fault.RepoFault.TheVariants as faults
use Rattle.repo.specs.Cores.{IsCore}
use Rattle.repo.specs.Exchanging.{IsExchangeOf}
use Rattle.repo.specs.Fulls.{is_full}
use Rattle.repo.specs.Refusals.{IsOther, IsRefusal, IsRefusalBy, IsStagedBatch, IsStoreRefusal, IsTestRefusal}
use Rattle.repo.specs.Prepared.{Prepared, prepared_of}
use Rattle.repo.specs.Wants.{placed}
use Rattle.repo.proofs.Exchanging.{exchanged-staged, has-passed}
use Rattle.repo.proofs.Keeping.{core-after}
use Rattle.repo.proofs.LastPlace.{exchange-refused, passes-before}

-- ---- taken

-- what a core is after a batch that it took
pub record IsTaken (digest : List ℕ → List ℕ) (bits : ℕ) (s t : State) (stamp : Stamp) (batch : List Write)
    (root commit : List ℕ) (n : Keeping) : Type 0 where
  pub state : t ≡ after_batch s stamp batch
  pub staged : IsStagedBatch digest bits s stamp batch root commit n.uses
  pub core : IsCore digest bits t root (Some commit) n

module _ (digest : List ℕ → List ℕ) (bits : ℕ) (s : State) (root : List ℕ) (commit : Option (List ℕ)) (k : Keeping)
    (is : IsCore digest bits s root commit k) where
  pub taken : IsDigest digest → (t : State) (n : Keeping) (stamp : Stamp) (batch : List Write) (next made : List ℕ) (add come drop go : List (List ℕ))
      → IsExchangeOf digest bits s stamp batch next made add come drop go → n ≡ exchanged digest k come go → HaveNoOther digest k.uses come → IsClashFree digest come
      → t ≡ after_batch s stamp batch → IsTaken digest bits s t stamp batch next made n
  taken fits t n stamp batch next made add come drop go x e none free after =
      let staged : IsStagedBatch digest bits s stamp batch next made n.uses =
      subst (λ (l : Keeping). IsStagedBatch digest bits s stamp batch next made l.uses) (sym e)
      (exchanged-staged digest bits fits s stamp batch next made add come drop go k is.lawful is.kept x none free) in
      record {
        state = after;
        staged = staged;
        core = core-after digest bits s t stamp batch next commit root made k n is after staged;
      }

-- ---- refused

-- where the store wasn't asked, it isn't full
not-full : {D A : Type 0} (digest : List ℕ → List ℕ) (bits : ℕ) (s : State) (stamp : Stamp) (batch : List Write) (i : ℕ) (fault : RepoFault D A)
    → IsTestRefusal digest bits s stamp batch (i, fault) → is_full fault ≡ false
not-full digest bits s stamp batch i faults.StoreFull h = let l = (h 0).1 in absurd (omega (arith, l))
not-full digest bits s stamp batch i (faults.Collision pair) h = refl
not-full digest bits s stamp batch i (faults.BadRecord f) h = refl
not-full digest bits s stamp batch i faults.BadKey h = refl
not-full digest bits s stamp batch i faults.NotAMap h = refl
not-full digest bits s stamp batch i faults.RecordSize h = refl
not-full digest bits s stamp batch i faults.KeyExists h = refl
not-full digest bits s stamp batch i faults.NoSuchKey h = refl
not-full digest bits s stamp batch i faults.WritesFull h = refl
not-full digest bits s stamp batch i faults.NoMemory h = refl
not-full digest bits s stamp batch i faults.EmptyBatch h = refl
not-full digest bits s stamp batch i faults.BadDid h = refl
not-full digest bits s stamp batch i faults.BadRev h = refl
not-full digest bits s stamp batch i faults.RevOrder h = refl

pub unasked : {D A : Type 0} (digest : List ℕ → List ℕ) (bits : ℕ) (s : State) (stamp : Stamp) (batch : List Write) (full i : ℕ) (fault : RepoFault D A)
    → IsTestRefusal digest bits s stamp batch (i, fault) → full ≡ cond (is_full fault) (suc full) full
unasked digest bits s stamp batch full i fault h = ap (λ b. cond b (suc full) full) (sym (not-full digest bits s stamp batch i fault h))

-- what the store has answered is told as it is
told : {D A : Type 0} (full : ℕ) (fault : StoreFault D A) → fulls_after_fault full fault ≡ cond (is_full (of_store fault)) (suc full) full
told full (stores.Collision pair) = refl
told full stores.Full = refl
told full stores.NoMemory = refl

pub asked : {D A : Type 0} (full last : ℕ) (fault : StoreFault D A) (here : RepoFault D A) → here ≡ of_store fault → last ≡ fulls_after_fault full fault
    → last ≡ cond (is_full here) (suc full) full
asked {D} {A} full last fault here e l = l ∙ told full fault ∙ ap (λ (f : RepoFault D A). cond (is_full f) (suc full) full) (sym e)

module _ (digest : List ℕ → List ℕ) (bits : ℕ) (s : State) (stamp : Stamp) (batch : List Write) (root commit : List ℕ)
    (add come drop go : List (List ℕ)) (is : IsExchangeOf digest bits s stamp batch root commit add come drop go) where
  -- a refusal of the store, at its place
  pub store-refused : {D A : Type 0} (full last n : ℕ) (fault : StoreFault D A) (here : RepoFault D A) (e : ℕ × RepoFault D A) → length batch ≡ n
      → IsRefusalOfOne digest come fault → here ≡ of_store fault → last ≡ fulls_after_fault full fault → e ≡ placed (n - 1) here
      → IsStoreRefusal digest bits s stamp batch full last e
  store-refused {D} {A} full last n fault here e k h f l p =
      let at : e ≡ placed (length batch - 1) (of_store fault) =
      p ∙ ap (λ (m : ℕ). placed (m - 1) here) (sym k) ∙ ap (λ (r : RepoFault D A). placed (length batch - 1) r) f in
      subst (λ (x : ℕ × RepoFault D A). IsStoreRefusal digest bits s stamp batch full last x) (sym at)
      (subst (λ (m : ℕ). IsStoreRefusal digest bits s stamp batch full m (placed (length batch - 1) (of_store fault))) (sym l)
      (record { other = exchange-refused digest bits s stamp batch root commit add come drop go is full fault h; place = refl }))

  -- want of room, at the first write
  pub room-refused : (D A : Type 0) (full : ℕ) → IsStoreRefusal {D = D} {A = A} digest bits s stamp batch full full (0, faults.NoMemory)
  room-refused D A full = record {
    other = passes-before s stamp batch is.passes 0 (let some = (has-passed s stamp batch is.passes).some in omega (arith, some));
    place = refl;
  }

-- what the store refuses is refused
pub refused-after : {D A : Type 0} (digest : List ℕ → List ℕ) (bits : ℕ) (s : State) (stamp : Stamp) (batch : List Write) (full fuller : ℕ) (e : ℕ × RepoFault D A)
    → IsStoreRefusal digest bits s stamp batch full fuller e → IsRefusal digest bits s stamp batch full fuller e
refused-after {D} {A} digest bits s stamp batch full fuller e h = by e.1 h.other
  where
    by : (fault : RepoFault D A) → IsOther digest bits s stamp batch full fuller e.0 fault
        → IsRefusalBy digest bits s stamp batch full fuller e.0 fault (test_fault fault)
    by (faults.Collision pair) o = o
    by faults.StoreFull o = o
    by faults.NoMemory o = o
    by (faults.BadRecord f) o = absurd o
    by faults.BadKey o = absurd o
    by faults.NotAMap o = absurd o
    by faults.RecordSize o = absurd o
    by faults.KeyExists o = absurd o
    by faults.NoSuchKey o = absurd o
    by faults.WritesFull o = absurd o
    by faults.EmptyBatch o = absurd o
    by faults.BadDid o = absurd o
    by faults.BadRev o = absurd o
    by faults.RevOrder o = absurd o

-- ---- a batch that was tested and then accepted or refused

-- what is known of the batch is known where it is accepted
pub accepted-passes : {T E P : Type 0} (r : Result T E) → P → OnOk r P
accepted-passes (Ok x) h = h
accepted-passes (Err f) h = tt

pub prepared-is : (s t : State) (stamp other : Stamp) (batch writes : List Write) → s ≡ t → stamp ≡ other → batch ≡ writes
    → prepared_of s stamp batch ≡ prepared_of t other writes
prepared-is s t stamp other batch writes e f h = λ i. prepared_of (e i) (f i) (h i)

-- the store's refusal of a batch is that of one with the same stamp and writes
pub refused-as : {T D A : Type 0} (digest : List ℕ → List ℕ) (bits : ℕ) (s : State) (full fuller : ℕ) (r : Result T (ℕ × RepoFault D A)) (p q : Prepared)
    → p ≡ q → IfErr r (IsStoreRefusal digest bits s p.stamp p.writes full fuller) → IfErr r (IsStoreRefusal digest bits s q.stamp q.writes full fuller)
refused-as digest bits s full fuller (Ok x) p q e h = tt
refused-as {D = D} {A = A} digest bits s full fuller (Err f) p q e h =
    subst (λ (b : Prepared). IsStoreRefusal {D = D} {A = A} digest bits s b.stamp b.writes full fuller f) e h

pub refused-batch : {T D A : Type 0} (digest : List ℕ → List ℕ) (bits : ℕ) (r : Result T (ℕ × RepoFault D A)) (p : Prepared) (s : State)
    (stamp : Stamp) (batch : List Write) → p ≡ prepared_of s stamp batch → (full fuller : ℕ)
    → IfErr r (IsStoreRefusal digest bits s p.stamp p.writes full fuller) → IfErr r (IsRefusal digest bits s stamp batch full fuller)
refused-batch digest bits (Ok x) p s stamp batch e full fuller h = tt
refused-batch {D = D} {A = A} digest bits (Err f) p s stamp batch e full fuller h =
    refused-after digest bits s stamp batch full fuller f
    (subst (λ (q : Prepared). IsStoreRefusal digest bits s q.stamp q.writes full fuller f) e h)
