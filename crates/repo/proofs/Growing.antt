-- A core's lists after a batch.
use Rattle.std.proofs.Common.{◌≡◌, ◌-◌, ℕ, zero, suc, List, [], ◌∷◌, ◌++◌, length, map, refl, sym, ap, ◌∙◌, Option}
use Rattle.std.specs.declared.option.Option.TheVariants.{Some}
use Rattle.std.specs.Prelude.{slice_get, option_map}
use Rattle.std.specs.Arc.{arc_value}
use Rattle.std.specs.declared.sync.Arc.{Arc}
use Rattle.std.proofs.lemmas.List.{length-map}
use Rattle.spec.specs.Stamps as stamps
use Rattle.spec.specs.Stamps.{Stamped, rev_of, last}
use Rattle.spec.specs.Writes as writes
use Rattle.spec.specs.States.{State, after_batch, state_root, state_commit}
use Rattle.kept.specs.Counts.{Counts}
use Rattle.repo.specs.Refusals.{IsStagedBatch, IsApplied}
use Rattle.batches.specs.Values.{write_of, shared_writes, stamp_of, stamps_of}
use Rattle.repo.specs.Views.{state_view}
use Rattle.batches.specs.declared.stamp.Stamp.{Stamp}
use Rattle.batches.specs.Write.{Write}

-- ---- the last of the stamps

get-map : {X Y : Type 0} (f : X → Y) (xs : List X) (i : ℕ) → slice_get (map f xs) i ≡ option_map f (slice_get xs i)
get-map f [] i = refl
get-map f (x ∷ xs) zero = refl
get-map f (x ∷ xs) (suc i) = get-map f xs i

last-map : {X Y : Type 0} (f : X → Y) (xs : List X) → last (map f xs) ≡ option_map f (last xs)
last-map f xs = ap (λ n. slice_get (map f xs) (n - 1)) (length-map xs f) ∙ get-map f xs (length xs - 1)

pub last-rev : {A : Type 0} (ss : List (Stamp A × ℕ)) (x : Stamp A × ℕ) → ◌≡◌ {A = Option (Stamp A × ℕ)} (Some x) (slice_get ss (length ss - 1)) → Some x.0.rev.items ≡ rev_of (last (stamps_of ss))
last-rev ss x e = ap (λ o. rev_of (option_map (λ s. (stamp_of s.0, s.1)) o)) e ∙ sym (ap rev_of (last-map (λ s. (stamp_of s.0, s.1)) ss))

-- ---- a state by its fields

pub state-after : {A : Type 0} (old me limit : ℕ) (before list : List (Arc (Write A) A)) (was now : List (Stamp A × ℕ)) (copies batch : List writes.Write) (copy stamp : stamps.Stamp)
    → me ≡ old → shared_writes list ≡ shared_writes before ++ copies → copies ≡ batch → stamps_of now ≡ stamps_of was ++ (copy, length list) ∷ [] → copy ≡ stamp
    → state_view me limit list now ≡ after_batch (state_view old limit before was) stamp batch
state-after old me limit before list was now copies batch copy stamp e w b t c =
    let grown : shared_writes list ≡ shared_writes before ++ batch = w ∙ ap (λ (xs : List writes.Write). shared_writes before ++ xs) b in
    let count : length list ≡ length (shared_writes before ++ batch) = sym (length-map list (λ x. write_of (arc_value x))) ∙ ap (λ (xs : List writes.Write). length xs) grown in
    let pair : ◌≡◌ {A = Stamped} (copy, length list) (stamp, length (shared_writes before ++ batch)) = λ i. (c i, count i) in
    let stamped : stamps_of now ≡ stamps_of was ++ (stamp, length (shared_writes before ++ batch)) ∷ [] = t ∙ ap (λ (x : Stamped). stamps_of was ++ x ∷ []) pair in
    λ i. record { me = e i; limit = limit; accepted = grown i; stamps = stamped i }

pub state-same : {A : Type 0} (old me limit : ℕ) (before list : List (Arc (Write A) A)) (was now : List (Stamp A × ℕ)) → me ≡ old → list ≡ before → now ≡ was
    → state_view me limit list now ≡ state_view old limit before was
state-same old me limit before list was now e w t = λ i. state_view (e i) limit (w i) (t i)

-- ---- what is answered

pub applied-after : (digest : List ℕ → List ℕ) (bits : ℕ) (s t : State) (stamp : stamps.Stamp) (batch : List writes.Write) (number : ℕ) (root first commit : List ℕ) (m : Counts)
    → t ≡ after_batch s stamp batch → IsStagedBatch digest bits s stamp batch root commit m → first ≡ state_root digest bits s → number ≡ length t.accepted
    → IsApplied digest bits s t (record { number = number; root = root; previous = first; commit = commit })
applied-after digest bits s t stamp batch number root first commit m e h f n = record {
  number = n;
  root = h.root_is ∙ ap (state_root digest bits) (sym e);
  previous = f;
  commit = h.commit_is ∙ ap (state_commit digest bits) (sym e);
}
