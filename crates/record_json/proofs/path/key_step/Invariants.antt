use Rattle.std.proofs.Common.{◌≡◌, ◌++◌, drop, string_bytes}
use Rattle.std.specs.List.{flat_map}
use Rattle.record_json.specs.Reading.{shown}
use Rattle.record_json.proofs.path.key_step.Given as goal

abbrev pub invariant-loop-byte : goal.invariant-loop-byte
invariant-loop-byte g l =
    string_bytes l.step ++ flat_map shown (drop l.byte-index l.key)
    ≡ string_bytes l.initial.step ++ flat_map shown l.key
