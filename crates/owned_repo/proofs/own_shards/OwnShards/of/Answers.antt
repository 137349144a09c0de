use Rattle.std.proofs.Common.{◌≡◌, length, rules, arith}
use Rattle.store.proofs.OwnBlocks.{all_empty}
use Rattle.owned_repo.proofs.own_shards.OwnShards.of.Goals as goal

pub invariant_of-result : goal.invariant_of-result
invariant_of-result c =
    let sixteen : length c.args.shards ≡ 16 = search rules in record {
      sixteen = sixteen;
      own = all_empty 1048576 c.args.shards sixteen c.requires;
      full = λ some. absurd (let none = c.never.ensures in omega (arith, none, some));
    }
