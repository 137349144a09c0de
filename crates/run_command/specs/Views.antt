-- What was read of a script, as the definitions see it.
use Rattle.std.specs.Prelude.{ℕ, List, Option, Some, None, map}
use Rattle.batches.specs.Values as values
use Rattle.scripts.specs.declared.script.Line.{Line}
use Rattle.scripts.specs.declared.script.Call.{Call as GivenCall}
use Rattle.scripts.specs.declared.script.Call.TheVariants as calls
use Rattle.run_command.specs.Script.{Call, Apply, Get, ScriptLine}
use Rattle.run_command.specs.declared.script.lines.ScriptFault.{ScriptFault}
use Rattle.run_command.specs.declared.script.lines.ScriptFault.TheVariants as faults

abbrev pub view_of_call : GivenCall → Call
view_of_call (calls.Apply stamp writes) = Apply (values.stamp_of stamp) (values.writes_of writes.items)
view_of_call (calls.Get key) = Get key.items

abbrev pub view_of_line : Line → ScriptLine
view_of_line l =
    record { number = l.number; worker = l.worker; repo = l.repo; call = view_of_call l.call }

abbrev pub view_of_lines : List Line → List ScriptLine
view_of_lines ls = map view_of_line ls

-- the faulty line; of memory the definitions know nothing
abbrev pub script_fault_of : ScriptFault → Option ℕ
script_fault_of (faults.BadScript number) = Some number
script_fault_of faults.NoMemory = None
