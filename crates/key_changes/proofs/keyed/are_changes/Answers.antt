use Rattle.std.proofs.Common.{ap, ◌∙◌}
use Rattle.std.proofs.lemmas.List.{map-id}
use Rattle.key_changes.specs.Keyed.{are_changes}
use Rattle.key_changes.proofs.keyed.are_changes.Goals as goal

pub returns : goal.returns
returns c = c.are_keyed.ensures ∙ ap are_changes (map-id c.args.changes.now)
