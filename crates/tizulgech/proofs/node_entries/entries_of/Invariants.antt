use Rattle.std.proofs.Common.{◌≡◌, ◌++◌}
use Rattle.std.specs.List.{flat_map}
use Rattle.spec.specs.NodeFormat.{entries_of}
use Rattle.rows.specs.Entries.{pairs_left}
use Rattle.tizulgech.specs.NodeEntries.{entries_bytes, entry_bytes}
use Rattle.tizulgech.proofs.node_entries.entries_of.Given as goal

-- the link and the pairs so far, and then those that are left
abbrev pub invariant-loop-value : goal.invariant-loop-value
invariant-loop-value l =
    entries_bytes l.view.left l.view.entries ≡ l.bytes.items ++ flat_map entry_bytes (entries_of l.rows.rest)

abbrev pub decreases-loop-value : goal.decreases-loop-value
decreases-loop-value l = pairs_left l.rows.rest
