use Rattle.std.proofs.Common.{◌≡◌, map, ap, rules}
use Rattle.std.specs.Arc.{arc_value}
use Rattle.tizulgech.proofs.differing.differing_blocks.Goals as goal

pub returns-clause-difference : goal.returns-clause-difference
returns-clause-difference c _ =
    let lent : c.in-Ok.source.blocks ≡ c.args.blocks.now = search rules in
    record {
      nodes = c.in-Ok.source.blocks;
      nodes_are = ap (map arc_value) lent;
      result = c.difference-answer.result;
      compared = c.difference-answer.ensures.compared;
      opened = c.difference-answer.ensures.opened;
      lack = c.difference-answer.ensures.lack;
      no_fault = c.difference-answer.ensures.no_fault;
      told = c.tell_difference.ensures.difference;
    }
