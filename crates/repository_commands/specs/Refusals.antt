-- At which line the writes of an input are refused.
use Rattle.std.specs.Prelude.{◌≡◌, ◌<◌, ⊤, ℕ, List, slice_index, Bool, true, false}
use Rattle.spec.specs.Stamps.{Stamp}
use Rattle.spec.specs.States.{State}
use Rattle.batches.specs.declared.fault.RepoFault.{RepoFault}
use Rattle.batches.specs.declared.fault.RepoFault.TheVariants as faults
use Rattle.repo.specs.Refusals.{IsRefusal}
use Rattle.record_forms.specs.declared.form.Form.{Form}
use Rattle.repository_commands.specs.Puts.{Given, given_in}
use Rattle.repository_commands.specs.Shards.{WasFull}
use Rattle.repository_commands.specs.Texts.{no_writes}
use Rattle.repository_commands.specs.declared.fault.LineFault.{LineFault}
use Rattle.repository_commands.specs.declared.fault.LineFault.TheVariants as lines
use Rattle.repository_commands.specs.declared.fault.TextFault.{TextFault}
use Rattle.repository_commands.specs.declared.fault.TextFault.TheVariants as errors

-- want of memory has no line
abbrev pub is_want_of_memory : {D A : Type 0} → RepoFault D A → Bool
is_want_of_memory faults.NoMemory = true
is_want_of_memory fault = false

-- The batch of the writes on a repository is refused at the write of this line: by its test; by a clash of
-- two blocks, of which one is of the repository after the writes up to that line; or by a store that has
-- answered that it's full (`fulls` times so far). What follows from such an answer is `when_full`.
pub record IsRefusedAt {D A : Type 0} (digest : List ℕ → List ℕ) (s : State) (stamp : Stamp)
    (given : Given) (when_full : Type 0) (n : ℕ) (fault : RepoFault D A) : Type 0 where
  pub place : ℕ
  pub fulls : ℕ
  pub number : n ≡ slice_index given.numbers place
  pub refusal : IsRefusal digest 2 s stamp given.writes 0 fulls (place, fault)
  pub shown : 0 < fulls → when_full
  pub named : is_want_of_memory fault ≡ false

abbrev pub IsLineFault : {D A : Type 0} → (List ℕ → List ℕ) → State → Stamp → Given → Type 0 → ℕ
    → LineFault D A → Type 0
IsLineFault digest s stamp given when_full n lines.BadLine = ⊤
IsLineFault digest s stamp given when_full n (lines.BadJson kind path) = ⊤
IsLineFault digest s stamp given when_full n lines.OtherValue = ⊥
IsLineFault digest s stamp given when_full n (lines.Refused fault) =
    IsRefusedAt digest s stamp given when_full n fault

-- where a command answers that a line is refused, it is
abbrev pub IsRefusedLine : {D A : Type 0} → (List ℕ → List ℕ) → State → Stamp → Given → Type 0
    → TextFault D A → Type 0
IsRefusedLine digest s stamp given when_full (errors.Line n fault) =
    IsLineFault digest s stamp given when_full n fault
IsRefusedLine digest s stamp given when_full errors.BadDid = ⊤
IsRefusedLine digest s stamp given when_full errors.BadRev = ⊤
IsRefusedLine digest s stamp given when_full errors.BadSig = ⊤
IsRefusedLine digest s stamp given when_full errors.NothingToSign = ⊤
IsRefusedLine digest s stamp given when_full (errors.Root f) = ⊤
IsRefusedLine digest s stamp given when_full (errors.Proof f) = ⊤
IsRefusedLine digest s stamp given when_full errors.NoMemory = ⊤
IsRefusedLine digest s stamp given when_full errors.ReadFailed = ⊤
IsRefusedLine digest s stamp given when_full fault = ⊥

-- of the lines of an input, by a store that the command has for itself: it has answered that it's
-- full only where a shard was
abbrev pub IsRefusedIn : {D A : Type 0} → (List ℕ → List ℕ) → Form → Stamp → List ℕ
    → TextFault D A → Type 0
IsRefusedIn digest form stamp input e =
    IsRefusedLine digest no_writes stamp (given_in form input) (WasFull digest) e

-- the fault of a line that is refused
abbrev pub refused : {D A : Type 0} → ℕ → RepoFault D A → TextFault D A
refused n faults.NoMemory = errors.NoMemory
refused n fault = errors.Line n (lines.Refused fault)

-- what no reader of blocks has: a line that a repository refuses, and changes that aren't shown
abbrev pub is_refusal : {D A : Type 0} → TextFault D A → Bool
is_refusal (errors.Line n (lines.Refused f)) = true
is_refusal (errors.Change f) = true
is_refusal fault = false

-- a line that is none of the command's, or memory that was refused to what is said of one
abbrev pub is_bad_line : {D A : Type 0} → TextFault D A → Bool
is_bad_line (errors.Line n lines.BadLine) = true
is_bad_line (errors.Line n (lines.BadJson kind path)) = true
is_bad_line errors.NoMemory = true
is_bad_line fault = false
