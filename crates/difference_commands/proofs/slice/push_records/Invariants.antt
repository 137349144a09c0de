use Rattle.std.proofs.Common.{◌≡◌, ◌++◌, drop}
use Rattle.difference.specs.Merged.{changes_told}
use Rattle.difference_commands.specs.Texts.{record_sections}
use Rattle.difference_commands.specs.Views.{records_in}
use Rattle.difference_commands.proofs.slice.push_records.Given as goal

-- what was written, with what is to come
abbrev pub invariant-loop-change : goal.invariant-loop-change
invariant-loop-change g l =
    l.out.items ++ record_sections g.D.Digest.digest_of (records_in l.new) (changes_told (drop l.change-index l.changes))
    ≡ l.initial.out.items ++ record_sections g.D.Digest.digest_of (records_in l.new) (changes_told l.changes)
