-- Why a repository doesn't follow a message.
use Rattle.std.specs.Prelude.{◌≡◌, ⊤, ℕ, suc, cond, List, [], Result, Ok, Err}
use Rattle.spec.specs.Reading.{Fails}
use Rattle.spec.specs.CarReading.{blocks_of}
use Rattle.spec.specs.States.{State, state_root}
use Rattle.change_laws.specs.Given.{OtherValue as HasOtherValue}
use Rattle.change_laws.specs.Told.{KeyChange}
use Rattle.event_laws.specs.Verdict as verdict
use Rattle.event_laws.specs.Verdict.{Checked, Placed, ordered, ordered_ops, place_of, placed_from}
use Rattle.repo.specs.Fulls.{is_full}
use Rattle.repo.specs.Refusals.{IsRefusal}
use Rattle.difference_taking.specs.Refusals.{IsNoWant, WithBatch}
use Rattle.difference_taking.specs.Taking.{had_in}
use Rattle.difference_taking.specs.declared.fault.TakingFault.{TakingFault}
use Rattle.difference_taking.specs.declared.fault.TakingFault.TheVariants as takings
use Rattle.commit_events.specs.Reading.{told_message}
use Rattle.commit_events.specs.Views.{event_fault_of, HasNoWant}
use Rattle.commit_events.specs.declared.fault.EventFault.{EventFault}
use Rattle.commit_events.specs.declared.fault.EventFault.TheVariants as events
use Rattle.event_following.specs.Following.{led_to, stamp_in}
use Rattle.event_following.specs.declared.fault.FollowingFault.{FollowingFault}
use Rattle.event_following.specs.declared.fault.FollowingFault.TheVariants as followings

-- the first fault of the message, which is no want of memory
abbrev pub IsMessageFault : EventFault → Result Checked verdict.EventFault → Type 0
IsMessageFault events.NoMemory read = ⊥
IsMessageFault fault read = HasNoWant fault × Fails (event_fault_of fault) read

-- the message says something of the repository, of which P holds
pub record WithMessage (digest : List ℕ → List ℕ) (bits : ℕ) (s : State) (message : List ℕ) (P : Checked → Type 0)
    : Type 0 where
  pub told : Checked
  pub read : told_message digest (state_root digest bits s) message ≡ Ok told
  pub holds : P told

-- the same, where its operations lead to the root that its commit names
abbrev pub WithStep : (List ℕ → List ℕ) → ℕ → State → List ℕ → (Checked → Type 0) → Type 0
WithStep digest bits s message P =
    WithMessage digest bits s message (λ x. (led_to digest bits s x.event ≡ x.commit.root) × P x)

-- P holds of the place, in the order of the keys, of the operation that stands at a place in the message
pub record AtPlace (ops : List KeyChange) (place : ℕ) (P : ℕ → Type 0) : Type 0 where
  pub sorted : ℕ
  pub place_is : place ≡ place_of (ordered [] (placed_from 0 ops)) sorted
  pub holds : P sorted

-- The first of these: the message isn't one of the repository, or not whole; its operations lead to another root than the
-- commit's; a key had another value than is told before; the batch is refused, where there are operations. Or memory is wanted.
abbrev pub IsUnfollowed : {D A : Type 0} → (List ℕ → List ℕ) → ℕ → State → List ℕ → ℕ → ℕ → FollowingFault D A → Type 0
IsUnfollowed digest bits s message full fuller (followings.Message fault) =
    IsMessageFault fault (told_message digest (state_root digest bits s) message)
IsUnfollowed digest bits s message full fuller followings.OtherRoot =
    WithMessage digest bits s message (λ x. ¬ (led_to digest bits s x.event ≡ x.commit.root))
IsUnfollowed digest bits s message full fuller (followings.OtherValue place) = WithStep digest bits s message
    (λ x. AtPlace x.event.ops place (λ i. had_in digest s (ordered_ops x.event.ops) ≡ Err (HasOtherValue i)))
IsUnfollowed digest bits s message full fuller (followings.Refused place fault) = IsNoWant fault
    (WithStep digest bits s message (λ x. (¬ (x.event.ops ≡ [])) × AtPlace x.event.ops place
    (λ i. WithBatch digest (blocks_of x.sections) (ordered_ops x.event.ops)
    (λ batch. (had_in digest s (ordered_ops x.event.ops) ≡ Ok tt)
    × IsRefusal digest bits s (stamp_in x.event) batch full fuller (i, fault)))))
IsUnfollowed digest bits s message full fuller followings.NoMemory = ⊤

-- what a fault of the message is here
abbrev pub unread_as : {D A : Type 0} → EventFault → FollowingFault D A
unread_as events.NoMemory = followings.NoMemory
unread_as fault = followings.Message fault

-- no record is missing
abbrev pub HasRecords : {D A : Type 0} → TakingFault D A → Type 0
HasRecords (takings.RecordMissing i) = ⊥
HasRecords fault = ⊤

-- what a refusal of the batch is here, whose writes are those of these operations, where no record is missing
abbrev pub refused_as : {D A : Type 0} → List Placed → TakingFault D A → FollowingFault D A
refused_as sorted (takings.RecordMissing i) = followings.NoMemory
refused_as sorted (takings.OtherValue i) = followings.OtherValue (place_of sorted i)
refused_as sorted (takings.Refused i fault) = followings.Refused (place_of sorted i) fault
refused_as sorted takings.NoMemory = followings.NoMemory

-- how often a store has answered that it's full: once more just where the batch is refused so
abbrev pub fulls_after_fault : {D A : Type 0} → ℕ → FollowingFault D A → ℕ
fulls_after_fault n (followings.Message fault) = n
fulls_after_fault n followings.OtherRoot = n
fulls_after_fault n (followings.OtherValue place) = n
fulls_after_fault n (followings.Refused place fault) = cond (is_full fault) (suc n) n
fulls_after_fault n followings.NoMemory = n

abbrev pub fulls_after_following : {T D A : Type 0} → ℕ → Result T (FollowingFault D A) → ℕ
fulls_after_following n (Ok x) = n
fulls_after_following n (Err fault) = fulls_after_fault n fault
