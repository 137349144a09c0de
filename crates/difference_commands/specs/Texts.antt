-- What is told of changes (a choice of this project): lines, those of `prove-change` or with the records beside; and the blocks that
-- come by them.
use Rattle.std.specs.Prelude.{ℕ, Bool, true, false, List, [], ◌∷◌, ◌++◌, codes, Option, Some, None}
use Rattle.std.specs.List.{flat_map}
use Rattle.hex.specs.Hex.{encode_lower}
use Rattle.spec.specs.Car.{header, section}
use Rattle.spec.specs.Cid.{cid}
use Rattle.spec.specs.Blocks.{value_of}
use Rattle.change_laws.specs.Told.{KeyChange}
use Rattle.console.specs.Values.{value_words}
use Rattle.export_commands.specs.Texts.{Records}
use Rattle.difference_commands.specs.declared.command.Values.{Values}
use Rattle.difference_commands.specs.declared.command.Values.TheVariants as values

-- a space and the bytes of a record in hexadecimal, or `-`
abbrev pub record_words : Option (List ℕ) → List ℕ
record_words None = codes " -"
record_words (Some bytes) = codes " " ++ encode_lower bytes

-- a key, and its CIDs before and after
abbrev pub change_words : KeyChange → List ℕ
change_words c = codes "change " ++ (c.key ++ (value_words c.before ++ value_words c.after))

abbrev pub change_line : KeyChange → List ℕ
change_line c = change_words c ++ (10 ∷ [])

-- with the key's record among the old ones and that among the new ones
abbrev pub change_line_with : Records → Records → KeyChange → List ℕ
change_line_with old new c =
    change_words c ++ (record_words (value_of c.key old) ++ (record_words (value_of c.key new) ++ (10 ∷ [])))

-- The header of a file whose root is a commit, and the commit as its first section; or of one whose root is this tree's.
abbrev pub beginning : (List ℕ → List ℕ) → Option (List ℕ) → List ℕ → List ℕ
beginning digest None root = header root
beginning digest (Some commit) root = header (cid digest commit) ++ section digest commit

-- the section of a record, where there is one
abbrev pub record_section : (List ℕ → List ℕ) → Option (List ℕ) → List ℕ
record_section digest None = []
record_section digest (Some bytes) = section digest bytes

-- those of the records that stand under the keys of changes, in their order
abbrev pub record_sections : (List ℕ → List ℕ) → Records → List KeyChange → List ℕ
record_sections digest new cs = flat_map (λ c. record_section digest (value_of c.key new)) cs

-- what comes, beside the changes: nodes, under a root, and the commit where there is one
pub record Coming : Type 0 where
  pub commit : Option (List ℕ)
  pub root : List ℕ
  pub nodes : List (List ℕ)

-- a slice of a CAR file (CARv1): the commit, the nodes and the records that come
abbrev pub slice : (List ℕ → List ℕ) → Coming → Records → List KeyChange → List ℕ
slice digest come new cs =
    beginning digest come.commit come.root ++ (flat_map (section digest) come.nodes ++ record_sections digest new cs)

-- the lines of changes between these records
abbrev pub lines_text : Values → Records → Records → List KeyChange → List ℕ
lines_text values.Cids old new cs = flat_map change_line cs
lines_text values.Records old new cs = flat_map (change_line_with old new) cs

-- the slice, where blocks are wanted
abbrev pub slice_if : Bool → (List ℕ → List ℕ) → Coming → Records → List KeyChange → Option (List ℕ)
slice_if false digest come new cs = None
slice_if true digest come new cs = Some (slice digest come new cs)
