use Rattle.std.proofs.Common.{ap, length, subst, sym, ◌∙◌, arith}
use Rattle.store.specs.Shards.{AreEmpty}
use Rattle.store.proofs.OwnBlocks.{all_empty}
use Rattle.store.proofs.lent_shards.LentShards.new.Goals as goal

pub invariant_of-result : goal.invariant_of-result
invariant_of-result g c =
    let sixteen = ap length c.as_mut_slice.ensures.value ∙ c.told-shards in record {
      sixteen = sixteen;
      own = λ new. all_empty g.row.LIMIT c.as_mut_slice.result.now sixteen
          (subst (AreEmpty g.row.LIMIT) (sym c.as_mut_slice.ensures.value) (c.requires new));
      full = λ new some. absurd (let none = c.never.ensures in omega (arith, none, some));
    }
