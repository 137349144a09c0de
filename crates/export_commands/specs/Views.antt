-- What is written of the records that a check answers.
use Rattle.std.specs.Prelude.{ℕ, List, ◌++◌}
use Rattle.hex.specs.Hex.{encode_lower}
use Rattle.spec.specs.Cid.{text}
use Rattle.repository_check.specs.declared.repository.Record.{Record}
use Rattle.export_commands.specs.declared.command.Values.{Values}
use Rattle.export_commands.specs.declared.command.Values.TheVariants as values
use Rattle.export_commands.specs.Texts.{ended, json_or_nothing, spaced}

-- the word behind the key of one
abbrev pub value_of : {A : Type 0} → Values → Record A → List ℕ
value_of values.Bytes r = encode_lower r.bytes.now
value_of values.Json r = json_or_nothing r.bytes.now
value_of values.Cids r = text r.cid

-- and its line
abbrev pub line_of : {A : Type 0} → Values → Record A → List ℕ
line_of asked r = spaced r.key.items ++ ended (value_of asked r)
