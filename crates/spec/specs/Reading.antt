-- Reading from the front, with the first fault that is met.
use Rattle.std.specs.Prelude.{◌≡◌, ℕ, ◌<◌, Bool, List, length, take, drop, slice_index, nat_lt, Option, Some, None, Result, Ok, Err, if◌then◌else◌}

-- each of the numbers is a byte
abbrev pub IsBytes : List ℕ → Type 0
IsBytes bytes = (i : ℕ) → slice_index bytes i < 256

infixl 10 ◌>>=◌
-- goes on with what was read, or stays at the first fault
abbrev pub ◌>>=◌ : {E A B : Type 0} → Result A E → (A → Result B E) → Result B E
(Ok x) >>= f = f x
(Err e) >>= f = Err e

-- goes on where the test holds
abbrev pub ensure : {E : Type 0} → Bool → E → Result (Unit {0}) E
ensure test fault = if test then Ok tt else Err fault

-- the first n bytes and the rest, or the fault where fewer are left
abbrev pub front : {E : Type 0} → E → ℕ → List ℕ → Result (List ℕ × List ℕ) E
front fault n bytes = if nat_lt (length bytes) n then Err fault else Ok (take n bytes, drop n bytes)

-- the reading fails with this fault; where there is none, as for want of memory, nothing is said of it
abbrev pub Fails : {Y F : Type 0} → Option F → Result Y F → Type 0
Fails None read = Unit {0}
Fails (Some f) read = read ≡ Err f

-- What a function returned, seen by view, is what the reading of the definition gives. Its faults are the
-- definition's by way of fault, which is None for want of memory alone: the definitions know nothing of that.
abbrev pub Gives : {X Y E F : Type 0} → (X → Y) → (E → Option F) → Result X E → Result Y F → Type 0
Gives view fault (Ok x) read = read ≡ Ok (view x)
Gives view fault (Err e) read = Fails (fault e) read
