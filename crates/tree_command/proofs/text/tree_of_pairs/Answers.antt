use Rattle.std.proofs.Common.{sym, ap, subst, ◌∙◌}
use Rattle.spec.specs.Blocks.{IsClashIn, nodes}
use Rattle.spec.specs.NodeFormat.{is_ascending}
use Rattle.scratch.specs.Faults.{IsFaultOf}
use Rattle.scratch.specs.Pairs.{pairs_of}
use Rattle.tree_command.specs.TreeText.{tree_of_map}
use Rattle.tree_command.proofs.LastLines.{same_pairs}
use Rattle.tree_command.proofs.Listings.{tree-free, tree-clash}
use Rattle.tree_command.proofs.text.tree_of_pairs.Goals as goal

pub build-requires-clause-ascending : goal.build-requires-clause-ascending
build-requires-clause-ascending g c = ap is_ascending (same_pairs c.args.pairs.now) ∙ c.requires.ascending

pub returns-in-Ok : goal.returns-in-Ok
returns-in-Ok g c =
    let e = c.in-Ok.ensures in
    let digest = g.D.Digest.digest_of in
    sym (ap (tree_of_map digest g.row.B) (same_pairs c.args.pairs.now))
    ∙ tree-free digest g.row.B _ _ _ e.clash_free e.root e.blocks e.once

pub returns-in-Err-Clash : goal.returns-in-Err-Clash
returns-in-Err-Clash g c =
    let digest = g.D.Digest.digest_of in
    let pairs = pairs_of (λ key. key) c.args.pairs.now in
    let found : IsClashIn digest (nodes digest g.row.B pairs) c.in-Err-Clash.field-0-0 =
    subst (IsFaultOf digest (nodes digest g.row.B pairs)) c.in-Err-Clash.field-0-is c.in-Err-Clash.ensures.fault in
    sym (ap (tree_of_map digest g.row.B) (same_pairs c.args.pairs.now))
    ∙ tree-clash digest g.row.B pairs
    (record { one = c.in-Err-Clash.field-0-0.0; other = c.in-Err-Clash.field-0-0.1; has_one = found.0; has_other = found.1; clash = found.2 })
