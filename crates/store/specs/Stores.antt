-- What a core may rely on of a store.
use Rattle.std.specs.Prelude.{◌≡◌, ℕ, suc, List, Result, Ok, Err, IfOk, IfErr, OnOk, OnErr, Bool, true, false, cond, ◌&&◌, ◌==◌}
use Rattle.std.specs.Arc.{arc_value}
use Rattle.std.specs.BTreeMap.{is_at}
use Rattle.std.specs.Cmp.Lexicographic.{slice_cmp}
use Rattle.std.specs.Ordering.{nat_cmp}
use Rattle.std.specs.declared.sync.Arc.{Arc}
use Rattle.spec.specs.Cid.{cid as cid_of}
use Rattle.store.specs.Faults.{IsRefusalOf}
use Rattle.store.specs.Holds.{IsHoldOf}
use Rattle.store.specs.Table.{Table, entered}
use Rattle.store.specs.declared.block_store.BlockStore.{Ghosts}
use Rattle.store.specs.declared.fault.StoreFault.{StoreFault}
use Rattle.store.specs.declared.fault.StoreFault.TheVariants.{Collision, Full, NoMemory}

abbrev pub fulls_after_fault : {D A : Type 0} → ℕ → StoreFault D A → ℕ
fulls_after_fault n (Collision c) = n
fulls_after_fault n Full = suc n
fulls_after_fault n NoMemory = n

-- how often a store has answered that it's full, after one more answer
abbrev pub fulls_after : {T D A : Type 0} → ℕ → Result T (StoreFault D A) → ℕ
fulls_after n (Ok x) = n
fulls_after n (Err fault) = fulls_after_fault n fault

-- an answer to a core that asks for a block of these bytes
pub record IsAnswer {D A : Type 0} (digest : List ℕ → List ℕ) (bytes : List ℕ) (core before : ℕ)
    (result : Result (Arc (List ℕ) A × ℕ) (StoreFault D A)) (after : ℕ) : Type 0 where
  pub hold : IfOk result (IsHoldOf bytes core)
  pub fault : IfErr result (IsRefusalOf digest bytes)
  pub counted : after ≡ fulls_after before result

-- what a contract sees of a store of shared blocks: all that its trait tells
abbrev pub Store : Type 0 → Type 0 → Type 0 → Type 1
Store S D A = Ghosts S (Arc (List ℕ) A) (Arc (List ℕ) A × ℕ) (StoreFault D A)

-- a store gives such answers alone
abbrev pub IsStore : {S D A : Type 0} → (List ℕ → List ℕ) → Store S D A → Type 0
IsStore {S} {D} {A} digest store =
    (s : S) (b : Arc (List ℕ) A) (core : ℕ) (r : Result (Arc (List ℕ) A × ℕ) (StoreFault D A)) (t : S)
    → store.answers s b core r t → IsAnswer digest (arc_value b) core (store.fulls s) r (store.fulls t)

-- ---- which cores are entered, as far as the answers of a store tell

-- whether a core, by its number, is entered among those that hold the block of a CID
abbrev pub Entered : Type 0
Entered = List ℕ → ℕ → Bool

-- one core is entered or isn't for the block of a CID; all else is as before
abbrev pub with_core : Entered → List ℕ → ℕ → Bool → Entered
with_core entered cid core there =
    λ c n. cond (is_at (slice_cmp nat_cmp cid) c && (n == core)) there (entered c n)

-- what an acquire makes of a table: the core is entered, or all is as before
pub record IsMade {D A : Type 0} (digest : List ℕ → List ℕ) (bytes : List ℕ) (core : ℕ) (old : Table)
    (result : Result (Arc (List ℕ) A × ℕ) (StoreFault D A)) (new : Table) : Type 0 where
  pub entered : OnOk result (new ≡ entered old (cid_of digest bytes) bytes core)
  pub unchanged : OnErr result (new ≡ old)

-- A reading of a store's states that follows what is made of them: an acquire enters the core for the block, a release takes
-- it out, and a refusal changes nothing.
pub record IsReading {S D A : Type 0} (digest : List ℕ → List ℕ)
    (makes : S → Arc (List ℕ) A → ℕ → Result (Arc (List ℕ) A × ℕ) (StoreFault D A) → S → Type 0)
    (leaves : S → Arc (List ℕ) A × ℕ → S → Type 0) (entered : S → Entered) : Type 0 where
  pub acquired : (s : S) (b : Arc (List ℕ) A) (core : ℕ) (h : Arc (List ℕ) A × ℕ) (t : S)
      → makes s b core (Ok h) t
      → entered t ≡ with_core (entered s) (cid_of digest (arc_value b)) core true
  pub refused : (s : S) (b : Arc (List ℕ) A) (core : ℕ) (fault : StoreFault D A) (t : S)
      → makes s b core (Err fault) t → entered t ≡ entered s
  pub released : (s : S) (h : Arc (List ℕ) A × ℕ) (t : S) → leaves s h t
      → entered t ≡ with_core (entered s) (cid_of digest (arc_value h.0)) h.1 false
