use Rattle.std.proofs.Common.{ℕ, List, arith}
use Rattle.std.specs.BTreeMap.{get}
use Rattle.std.specs.Cmp.Lexicographic.{slice_cmp}
use Rattle.std.specs.Ordering.{nat_cmp}
use Rattle.std.proofs.lemmas.Grind.{common_steps}
use Rattle.edit.proofs.Placed.{places-put}
use Rattle.edit.proofs.differences.put_first.Goals as goal

pub returns : goal.returns
returns g c = λ cids has many.
    let old : List ℕ → _ = get (slice_cmp nat_cmp) c.args.places.now in
    places-put cids c.args.cid c.args.count many old _ has (λ q. grind (arith, common_steps))
