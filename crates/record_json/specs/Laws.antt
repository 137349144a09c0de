-- What the JSON form means.
use Rattle.std.specs.Prelude.{◌≡◌, ℕ, List, IsTrue, Some, Ok}
use Rattle.json.specs.Json.{document}
use Rattle.spec.specs.Reading.{IsBytes}
use Rattle.spec.specs.Cid.{text, is_version_1}
use Rattle.spec.specs.DagCbor.{Value, is_lawful}
use Rattle.spec.specs.Writes.{is_map}
use Rattle.record_json.specs.LinkText.{link_of_text}
use Rattle.record_json.specs.Form.{tree_of, json_of, has_form}
use Rattle.record_json.specs.Reading.{value_of_tree, value_of_json}
use Rattle.record_json.specs.OfBytes.{IsOfBytes}

-- the text is JSON, and stands for the tree
abbrev pub FormIsJson : Type 0
FormIsJson = (v : Value) → IsTrue (is_lawful v) → IsTrue (has_form v) → document (json_of v) ≡ Some (tree_of v)

-- a CID of version 1 is what its text names
abbrev pub LinkTextReadsBack : Type 0
LinkTextReadsBack = (c : List ℕ) → IsBytes c → IsTrue (is_version_1 c) → link_of_text (text c) ≡ Some c

-- what can be written: a lawful value of bytes with a JSON form
pub record IsWritable (v : Value) : Type 0 where
  pub lawful : IsTrue (is_lawful v)
  pub form : IsTrue (has_form v)
  pub of_bytes : IsOfBytes v

-- the tree means the value
abbrev pub TreeReadsBack : Type 0
TreeReadsBack = (v : Value) → IsWritable v → value_of_tree (tree_of v) ≡ Ok v

-- what is written of a record is read as that record
abbrev pub ReadsBack : Type 0
ReadsBack = (v : Value) → IsWritable v → IsTrue (is_map v) → value_of_json (json_of v) ≡ Ok v

-- what is read is a map, and has a form
abbrev pub OnlyFormsAreRead : Type 0
OnlyFormsAreRead = (s : List ℕ) (v : Value) → value_of_json s ≡ Ok v → IsTrue (has_form v) × IsTrue (is_map v)

-- no two values have one text
abbrev pub NoTextForTwo : Type 0
NoTextForTwo = (v w : Value) → IsWritable v → IsWritable w → json_of v ≡ json_of w → v ≡ w
