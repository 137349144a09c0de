use Rattle.std.proofs.Common.{ℕ, List, ◌∙◌, rules, tests}
use Rattle.std.specs.Str.{bytes_eq}
use Rattle.std.proofs.lemmas.Iterator.{YieldsList-from_slice}
use Rattle.std.proofs.lemmas.Iterator.Adapters.{position_from-zero}
use Rattle.std.proofs.lemmas.Iterator.Search.{position_from_yields_List}
use Rattle.edit.proofs.Placed.{looked-through}
use Rattle.edit.proofs.differences.place_among.Goals as goal

pub returns : goal.returns
returns c =
    let cids = c.args.cids.now in
    let is_this = λ (x : List ℕ). bytes_eq x c.args.cid.now in
    position_from_yields_List is_this _ _ c.position.result c.position.ensures.ran (YieldsList-from_slice cids cc)
    (λ x b q k. search (rules, tests))
    ∙ position_from-zero is_this cids ∙ looked-through c.args.cid.now cids
