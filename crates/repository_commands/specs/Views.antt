-- What was read, as the definitions see it.
use Rattle.std.specs.Prelude.{ℕ, List, map, Vec, option_map, Result, Ok, Err}
use Rattle.std.specs.Arc.{arc_value}
use Rattle.spec.specs.Writes.{Write}
use Rattle.batches.specs.Values.{write_of, writes_of}
use Rattle.block.specs.declared.write.Write.{Write as GivenWrite}
use Rattle.record_forms.specs.Records.{WordFault}
use Rattle.record_forms.specs.Views.{word_fault_of}
use Rattle.record_forms.specs.declared.fault.WordFault.{WordFault as GivenFault}
use Rattle.repository_commands.specs.Puts.{Given}
use Rattle.repository_commands.specs.Texts.{Path}
use Rattle.repository_commands.specs.declared.puts.Puts.{Puts}
use Rattle.repository_commands.specs.declared.puts.Stop.{Stop}
use Rattle.repository_commands.specs.declared.proving.PathNodes.{PathNodes}

-- the write of a line, or what is wrong with it
abbrev pub write_read : {A B : Type 0} → Result (GivenWrite A) (GivenFault B) → Result Write WordFault
write_read (Ok w) = Ok (write_of w)
write_read (Err f) = Err (word_fault_of f)

-- a line that is none
abbrev pub stop_of : {A : Type 0} → Stop A → ℕ × WordFault
stop_of s = (s.number, word_fault_of s.fault)

-- the puts of an input
abbrev pub given_of : {A : Type 0} → Puts A → Given
given_of p = record {
  numbers = p.numbers.items;
  writes = writes_of p.writes.items;
  stop = option_map stop_of p.stop;
}

-- the nodes of a path
abbrev pub nodes_of : {D : Type 0} → PathNodes D → Path
nodes_of p = (p.root, map arc_value p.nodes.items)

-- blocks in memory
abbrev pub blocks_of : {Y : Type 0} → List (Vec ℕ Y) → List (List ℕ)
blocks_of vs = map (λ v. v.items) vs
