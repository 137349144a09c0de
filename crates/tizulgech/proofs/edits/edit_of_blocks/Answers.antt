use Rattle.std.proofs.Common.{◌≡◌, map, ap, rules}
use Rattle.std.specs.Arc.{arc_value}
use Rattle.tizulgech.proofs.edits.edit_of_blocks.Goals as goal

pub returns-clause-edit : goal.returns-clause-edit
returns-clause-edit c _ =
    let lent : c.in-Ok.source.blocks ≡ c.args.blocks.now = search rules in
    record {
      nodes = c.in-Ok.source.blocks;
      nodes_are = ap (map arc_value) lent;
      result = c.apply-answer.result;
      edit = c.apply-answer.ensures.edit;
      fault = c.apply-answer.ensures.fault;
      answer = c.apply-answer.ensures.answer;
      lack = c.apply-answer.ensures.lack;
      told = c.tell.ensures.edit;
    }
