-- Bytes that are refused.
use Rattle.std.specs.Prelude.{ℕ, List, ◌≢◌, IsTrue}
use Rattle.spec.specs.DagCbor.{Value, spelling, is_lawful}

-- no value is spelled so
abbrev pub HasNoValue : List ℕ → Type 0
HasNoValue bytes = (v : Value) → IsTrue (is_lawful v) → bytes ≢ spelling v
