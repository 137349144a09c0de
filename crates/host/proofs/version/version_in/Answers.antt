use Rattle.std.proofs.Common.{◌∙◌}
use Rattle.host.proofs.version.version_in.Goals as goal

pub returns-in-Ok : goal.returns-in-Ok
returns-in-Ok g c = record {
  writes_are = c.in-Ok.ensures ∙ c.accepted.ensures.value;
  number_is = c.number.ensures.value;
  root_is = c.root.ensures.value;
  repo_is = c.me.ensures.value;
}
