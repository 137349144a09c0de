-- Nodes that can be written, and read again.
use Rattle.std.specs.Prelude.{◌≡◌, true, List, []}
use Rattle.std.specs.List.{AllByRecursion}
use Rattle.spec.specs.NodeFormat.{Shape, first_link, entries_of, is_node, are_keys_after}

-- what a block shows is of the node grammar
abbrev pub Lawful : Shape → Type 0
Lawful s = is_node (first_link s) (entries_of s) ≡ true

-- keys of 1 to 1,024 bytes that ascend: a node of which this holds is never refused by a writer
abbrev pub HasKeys : Shape → Type 0
HasKeys s = are_keys_after [] (entries_of s) ≡ true

abbrev pub AllLawful : List Shape → Type 0
AllLawful ss = AllByRecursion Lawful ss
