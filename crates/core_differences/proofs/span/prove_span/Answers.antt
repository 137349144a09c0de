use Rattle.std.proofs.Common.{map, subst, sym}
use Rattle.std.specs.Arc.{arc_value}
use Rattle.difference.specs.Merged.{changes_told}
use Rattle.core_differences.specs.Spans.{AreTrue, IsShownBy}
use Rattle.core_differences.proofs.Spans.{are-true, is-span, lawful-are}
use Rattle.core_differences.proofs.span.prove_span.Goals as goal

pub returns-in-Ok-nodes_of-clause-span : goal.returns-in-Ok-nodes_of-clause-span
returns-in-Ok-nodes_of-clause-span g c apart =
    let digest = g.D.Digest.digest_of in
    let found = c.in-Ok.found in
    let nodes = c.in-Ok-nodes_of.nodes.items in
    is-span digest g.row.B c.args.old.now c.args.new.now (changes_told found.changes.items) (map arc_value found.come.items) found.go.items
    (c.in-Ok.ensures.difference apart) nodes (lawful-are digest g.met.D.Digest.digest_len c.args.old.now c.in-Ok.ensures.lawful)
    (subst (λ cs. IsShownBy digest g.row.B c.args.new.now (changes_told cs) nodes) c.deref.ensures.value c.in-Ok-nodes_of.ensures.nodes)

pub returns-in-Err-nodes_of-clause-fault : goal.returns-in-Err-nodes_of-clause-fault
returns-in-Err-nodes_of-clause-fault g c apart =
    let digest = g.D.Digest.digest_of in
    let found = c.in-Ok.found in
    c.in-Err-nodes_of.ensures.fault
    (subst (λ cs. AreTrue digest c.args.new.now (changes_told cs)) (sym c.deref.ensures.value)
    (are-true digest g.row.B c.args.old.now c.args.new.now (changes_told found.changes.items) (map arc_value found.come.items) found.go.items
    (c.in-Ok.ensures.difference apart)))
