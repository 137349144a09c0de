use Rattle.std.proofs.Common.{List, ℕ, map, ap, subst, sym, ◌∙◌}
use Rattle.std.specs.declared.option.Option.TheVariants.{Some}
use Rattle.std.proofs.lemmas.Result.{IfOk-weaker}
use Rattle.spec.specs.NodeFormat.{shape_bytes}
use Rattle.spec.specs.Blocks.{pairs}
use Rattle.spec.specs.States.{records}
use Rattle.edit_laws.specs.Sources.{path_from, shown_by}
use Rattle.lookups.specs.Trees.{HasTree}
use Rattle.repo.specs.Readings.{bytes_lent}
use Rattle.export.proofs.Paths.{path-is}
use Rattle.export.proofs.proving.prove.Goals as goal

pub returns : goal.returns
returns g c =
    let es = pairs g.D.Digest.digest_of (records c.args.core.now) in
    let tree = subst (λ (root : List ℕ). HasTree g.D.Digest.digest_of g.row.B (bytes_lent c.lender-lender.result.blocks.now) root es)
    (sym c.root-root.ensures.value) c.lender-lender.ensures.tree in
    IfOk-weaker c.path_within.result _ _
    (λ blocks (e : _). e
    ∙ ap (λ (n : ℕ). map shape_bytes (path_from (shown_by (bytes_lent c.lender-lender.result.blocks.now)) n c.args.key.now (Some c.root-root.result))) c.layers.ensures
    ∙ path-is g.D.Digest.digest_of g.row.B g.met.D.Digest.digest_len _ c.root-root.result c.args.key.now es tree) c.path_within.ensures
