use Rattle.std.proofs.Common.{◌≡◌, map, ap, rules}
use Rattle.std.specs.Arc.{arc_value}
use Rattle.tizulgech.proofs.lacking.lacking_blocks.Goals as goal

pub returns-clause-missing : goal.returns-clause-missing
returns-clause-missing c _ =
    let lent : c.in-Ok.source.blocks ≡ c.args.blocks.now = search rules in
    record {
      nodes = c.in-Ok.source.blocks;
      nodes_are = ap (map arc_value) lent;
      result = c.missing-answer.result;
      missing = c.missing-answer.ensures.missing;
      stops = c.missing-answer.ensures.told;
      once = c.missing-answer.ensures.once;
      fault = c.missing-answer.ensures.fault;
      nothing = c.missing-answer.ensures.nothing;
      equal = c.missing-answer.ensures.equal;
      told = c.tell_lack.ensures.missing;
    }
