use Rattle.std.proofs.Common.{rules}
use Rattle.difference_commands.specs.RecordLines.{map_of_records}
use Rattle.difference_commands.proofs.record_map.map_of_records.Goals as goal

pub returns : goal.returns
unfolding map_of_records
returns g c = search rules
