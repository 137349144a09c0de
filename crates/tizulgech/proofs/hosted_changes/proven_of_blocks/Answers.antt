use Rattle.std.proofs.Common.{◌≡◌, map, ap, rules}
use Rattle.std.specs.Arc.{arc_value}
use Rattle.tizulgech.proofs.hosted_changes.proven_of_blocks.Goals as goal

pub returns-clause-proof : goal.returns-clause-proof
returns-clause-proof c _ =
    let lent : c.in-Ok.source.blocks ≡ c.args.blocks.now = search rules in
    record {
      nodes = c.in-Ok.source.blocks;
      nodes_are = ap (map arc_value) lent;
      result = c.prove_change_over-answer.result;
      proof = c.prove_change_over-answer.ensures.proof;
      want = c.prove_change_over-answer.ensures.want;
      over = c.prove_change_over-answer.ensures.nodes;
      lack = c.prove_change_over-answer.ensures.lack;
      told = c.tell_proof.ensures.proof;
    }
