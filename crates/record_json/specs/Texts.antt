-- What bytes mean as JSON, and the texts of links by themselves.
use Rattle.std.specs.Prelude.{ℕ, List, [], Option, Some, None, Result, Err, if◌then◌else◌}
use Rattle.std.specs.Str.{is_utf8}
use Rattle.spec.specs.Cid.{text, is_version_1}
use Rattle.spec.specs.DagCbor.{Value}
use Rattle.record_json.specs.Reading.{Fault, NotJson, value_of_json}

-- JSON is UTF-8 (RFC 8259, section 8.1)
abbrev pub value_of_json_text : List ℕ → Result Value Fault
value_of_json_text bytes = if is_utf8 bytes then value_of_json bytes else Err (record { kind = NotJson; path = [] })

-- the text of a CID of version 1, of any codec and hash, as a link has it
abbrev pub text_of_link : List ℕ → Option (List ℕ)
text_of_link c = if is_version_1 c then Some (text c) else None
