use Rattle.std.proofs.Common.{◌∙◌, ap}
use Rattle.spec.specs.NodeFormat.{is_ascending}
use Rattle.tree_command.specs.TreeText.{tree_of_map}
use Rattle.tree_command.proofs.Listings.{tree-of-map}
use Rattle.tree_command.proofs.LeftPairs.{ascending-left}
use Rattle.tree_command.proofs.text.tree_of_input.Goals as goal

pub tree_of_pairs-requires-clause-ascending : goal.tree_of_pairs-requires-clause-ascending
tree_of_pairs-requires-clause-ascending g c =
    ap (λ es. is_ascending es) c.deref.ensures.value ∙ ascending-left c.args.taken c.args.input.now c.in_ok-pairs.pairs.items c.in_ok-pairs.ensures

pub returns : goal.returns
returns g c =
    let same = ap (λ es. tree_of_map g.D.Digest.digest_of g.row.B es) c.deref.ensures.value
    ∙ tree-of-map c.args.taken g.D.Digest.digest_of g.row.B c.args.input.now c.in_ok-pairs.pairs.items c.in_ok-pairs.ensures in
    rw (← same) c.tree_of_pairs.ensures
