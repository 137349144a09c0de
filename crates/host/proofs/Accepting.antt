-- What a call did to a core of the wanted repository.
use Rattle.std.proofs.Common.{◌∙◌, ◌<◌, ℕ, List, length, sym, ap, subst, Option, Some, None, Result, Ok, Err, IfOk, IfErr, OnOk}
use Rattle.spec.specs.Writes as spec
use Rattle.spec.specs.Writes.{leaves, is_lawful_list}
use Rattle.spec.specs.Blocks.{repository_root}
use Rattle.spec.specs.States.{State, IsLawful, state_root}
use Rattle.batches.specs.Values.{stamp_of, writes_of}
use Rattle.batches.specs.declared.stamp.Stamp.{Stamp}
use Rattle.batches.specs.Write.{Write}
use Rattle.repo.specs.declared.applied.Applied.{Applied}
use Rattle.host.specs.Rooting.{HasRoot, IsSeenWith, IsTaken, IsUntaken, IsUntakenBy}
use Rattle.host.specs.Seeing.{IsSeen, IsTakenBy, Wanted, wanted_by}
use Rattle.host.specs.Telling.{IsFaultFrom}
use Rattle.host.specs.Versions.{IsVersion, IsVersionIn}
use Rattle.host.specs.Views.{WriterView}
use Rattle.host.specs.declared.fault.ApplyFromFault.{ApplyFromFault}
use Rattle.host.specs.declared.fault.ApplyFromFault.TheVariants as froms
use Rattle.host.specs.declared.fault.HostFault.TheVariants as faults
use Rattle.host.specs.declared.version.Version.{Version}

-- a state that is seen, with the root that is wanted of it
with-root : (digest : List ℕ → List ℕ) (bits : ℕ) (w : Wanted) (root : Option (List ℕ)) (s : State) → IsSeen w s → HasRoot digest bits root s
    → IsSeenWith digest bits w root s
with-root digest bits w None s seen is = seen
with-root digest bits w (Some root) s seen is = record { seen = seen; root_is = is }

-- a batch that a core of such a state took was accepted after it
pub taken : {A E : Type 0} (digest : List ℕ → List ℕ) (bits : ℕ) (w : Wanted) (root : Option (List ℕ)) (old new : State) (stamp : Stamp A)
    (batch : List (Write A)) (r : Result Applied E) → IsSeen w old → OnOk r (HasRoot digest bits root old)
    → IfOk r (IsTakenBy digest bits old new (stamp_of stamp) (writes_of batch)) → IfOk r (IsTaken digest bits w root stamp batch)
taken digest bits w root old new stamp batch (Ok a) seen is t = (
  old,
  with-root digest bits w root old seen is,
  t.passes,
  subst IsLawful t.after t.lawful,
  t.applied.number ∙ ap (λ (s : State). length s.accepted) t.after,
  t.applied.root ∙ ap (state_root digest bits) t.after,
)
taken digest bits w root old new stamp batch (Err e) seen is t = t

-- and one that it didn't take was not
untaken-by : {A D X : Type 0} (digest : List ℕ → List ℕ) (bits : ℕ) (w : Wanted) (root : Option (List ℕ)) (old : State) (stamp : Stamp A)
    (batch : List (Write A)) (full fuller : ℕ) (fault : ApplyFromFault D X) → IsSeen w old
    → IsUntakenBy digest bits old root (stamp_of stamp) (writes_of batch) full fuller fault → IsUntaken digest bits w root stamp batch fault
untaken-by digest bits w root old stamp batch full fuller froms.OtherRoot seen why = (old, seen, why)
untaken-by digest bits w root old stamp batch full fuller (froms.Host (faults.Refused place fault)) seen why =
    (old, with-root digest bits w root old seen why.0, (full, fuller, why.1))
untaken-by digest bits w root old stamp batch full fuller (froms.Host faults.NoSuchRepository) seen why = why
untaken-by digest bits w root old stamp batch full fuller (froms.Host faults.NoMemory) seen why = why
untaken-by digest bits w root old stamp batch full fuller (froms.Host faults.SeqFull) seen why = why

pub untaken : {A D X T : Type 0} (digest : List ℕ → List ℕ) (bits : ℕ) (w : Wanted) (root : Option (List ℕ)) (old : State) (stamp : Stamp A)
    (batch : List (Write A)) (full fuller : ℕ) (r : Result T (ApplyFromFault D X)) → IsSeen w old
    → IfErr r (IsUntakenBy digest bits old root (stamp_of stamp) (writes_of batch) full fuller)
    → IfErr r (IsUntaken digest bits w root stamp batch)
untaken digest bits w root old stamp batch full fuller (Ok a) seen why = why
untaken digest bits w root old stamp batch full fuller (Err fault) seen why = untaken-by digest bits w root old stamp batch full fuller fault seen why

-- which is what its writer is told
pub untaken-fault : {A D X : Type 0} (digest : List ℕ → List ℕ) (bits : ℕ) (w : WriterView) (repo : ℕ) (root : Option (List ℕ))
    (stamp : Stamp A) (batch : List (Write A)) (fault : ApplyFromFault D X) → repo < w.host.repos
    → IsUntaken digest bits (wanted_by w repo) root stamp batch fault → IsFaultFrom digest bits w repo root stamp batch fault
untaken-fault digest bits w repo root stamp batch froms.OtherRoot less why = (less, why)
untaken-fault digest bits w repo root stamp batch (froms.Host (faults.Refused place fault)) less why = (less, why)
untaken-fault digest bits w repo root stamp batch (froms.Host faults.NoSuchRepository) less why = absurd why
untaken-fault digest bits w repo root stamp batch (froms.Host faults.NoMemory) less why = absurd why
untaken-fault digest bits w repo root stamp batch (froms.Host faults.SeqFull) less why = absurd why

-- a version of such a state has what a lawful state has
pub version_is : {A E : Type 0} (digest : List ℕ → List ℕ) (bits : ℕ) (w : Wanted) (s : State) (r : Result (Version A) E) → IsSeen w s
    → IfOk r (IsVersionIn digest bits s) → IfOk r (IsVersion digest bits)
version_is digest bits w s (Ok v) seen here = record {
  writes_are = ap is_lawful_list here.writes_are ∙ seen.lawful.writes;
  number_is = here.number_is ∙ ap length (sym here.writes_are);
  root_is = here.root_is ∙ ap (λ (l : List spec.Write). repository_root digest bits (leaves l)) (sym here.writes_are);
}
version_is digest bits w s (Err e) seen here = here

-- what follows from each value, or from each fault
pub ok_then : {T E : Type 0} {P Q : T → Type 0} (r : Result T E) → ((x : T) → P x → Q x) → IfOk r P → IfOk r Q
ok_then (Ok x) f p = f x p
ok_then (Err e) f p = p

pub err_then : {T E : Type 0} {P Q : E → Type 0} (r : Result T E) → ((e : E) → P e → Q e) → IfErr r P → IfErr r Q
err_then (Ok x) f p = p
err_then (Err e) f p = f e p
