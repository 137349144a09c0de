use Rattle.std.proofs.Common.{◌≡◌, ◌≢◌, ◌∙◌, refl, ◌+◌, max, length, ap, arith, rules, subst, sym}
use Rattle.spec.specs.Layer.{layer}
use Rattle.lookups.specs.Steps.{nodes_given}
use Rattle.lookups.specs.Trees.{bytes_given}
use Rattle.difference_laws.specs.Lines.{Side, compared}
use Rattle.difference.specs.Missing.{IfMissing, lacked, needed_last, read_before}
use Rattle.difference.specs.Sides.{IsStopped, rows_of}
use Rattle.difference.specs.Starts.{side_in}
use Rattle.difference.specs.declared.faults.DifferenceFault.TheVariants.{BlockMissing}
use Rattle.difference.proofs.Compares.{stopped-trees}
use Rattle.difference.proofs.Levels.{begun-asked}
use Rattle.difference.proofs.Needing.{ends-at, missing-once, missing-told, other-stop, read-lengths}
use Rattle.difference.proofs.Parts.{lacked-bytes, missing-unshared, want-part}
use Rattle.difference.proofs.lacking.missing.Goals as goal

pub returns-in_default-clause-missing : goal.returns-in_default-clause-missing
returns-in_default-clause-missing g c = λ n.
    let gives = g.S.Source.gives c.args.src.now in
    let sides : Side × Side = (side_in c.in_default.field-0.0, side_in c.in_default.field-0.1) in
    let end = ends-at (nodes_given gives) (layer g.D.Digest.digest_of g.row.B) c.args.old c.args.new sides c.in_default.ensures.opened in
    c.new-in_default.ensures.items ∙ sym (ap (lacked (bytes_given gives)) end.needs)

pub returns-in_default-clause-reads : goal.returns-in_default-clause-reads
returns-in_default-clause-reads g c =
    let gives = g.S.Source.gives c.args.src.now in
    let shows = nodes_given gives in
    let lay = layer g.D.Digest.digest_of g.row.B in
    let o = c.in_default.field-0.0 in
    let p = c.in_default.field-0.1 in
    let sides : Side × Side = (side_in o, side_in p) in
    let end = ends-at shows lay c.args.old c.args.new sides c.in_default.ensures.opened in
    let x = begun-asked gives (rows_of o.line.rows.items) o.line.last o.top o.read.items c.in_default.ensures.old_begun in
    let y = begun-asked gives (rows_of p.line.rows.items) p.line.last p.top p.read.items c.in_default.ensures.new_begun in
    let read : read_before shows lay c.args.old c.args.new ≡ max 1 (length o.read.items) + max 1 (length p.read.items) =
    end.reads ∙ read-lengths 0 (side_in o) (side_in p) o.read.items p.read.items refl refl in
    let counted = c.in_default.ensures.counted in
    omega (arith, counted, x, y, read)

pub returns-in_ok-lacked-in-BlockMissing-clause-missing : goal.returns-in_ok-lacked-in-BlockMissing-clause-missing
returns-in_ok-lacked-in-BlockMissing-clause-missing g c = λ n.
    let gives = g.S.Source.gives c.args.src.now in
    let needed = needed_last (nodes_given gives) (layer g.D.Digest.digest_of g.row.B) c.args.old c.args.new in
    let needs = subst (λ f. IfMissing f (c.open_both.new.needs.cids.items ≡ needed)) c.in-BlockMissing.is
    (c.in-Err.ensures.needs c.in_ok-needs.ensures.wanted) in
    let found : c.in_ok-lacked-in-BlockMissing.field-0.items ≡ lacked gives c.open_both.new.needs.cids.items =
    c.in_ok-lacked-in-BlockMissing.ensures.lacked ∙ (λ i. lacked (c.in-Err.ensures.same i) (c.deref.ensures.value i)) in
    found ∙ ap (lacked gives) needs ∙ sym (lacked-bytes gives needed)

pub returns-in_ok-lacked-in-BlockMissing-clause-told : goal.returns-in_ok-lacked-in-BlockMissing-clause-told
returns-in_ok-lacked-in-BlockMissing-clause-told g c = λ n.
    let gives = g.S.Source.gives c.args.src.now in
    let digest = g.D.Digest.digest_of in
    let step = compared (nodes_given gives) (layer digest g.row.B) c.args.old c.args.new in
    let stopped = subst (IsStopped gives step) c.in-BlockMissing.is c.in-Err.ensures.stopped in
    let needs = subst (λ f. IfMissing f (c.open_both.new.needs.cids.items
    ≡ needed_last (nodes_given gives) (layer digest g.row.B) c.args.old c.args.new)) c.in-BlockMissing.is
    (c.in-Err.ensures.needs c.in_ok-needs.ensures.wanted) in
    let found : c.in_ok-lacked-in-BlockMissing.field-0.items ≡ lacked gives c.open_both.new.needs.cids.items =
    c.in_ok-lacked-in-BlockMissing.ensures.lacked ∙ (λ i. lacked (c.in-Err.ensures.same i) (c.deref.ensures.value i)) in
    missing-told digest g.row.B gives c.args.old c.args.new c.in-BlockMissing.field-0 c.in_ok-lacked-in-BlockMissing.field-0.items
    c.open_both.new.needs.cids.items n stopped needs found

pub returns-in_ok-lacked-in-BlockMissing-clause-once : goal.returns-in_ok-lacked-in-BlockMissing-clause-once
returns-in_ok-lacked-in-BlockMissing-clause-once g c =
    let gives = g.S.Source.gives c.args.src.now in
    let digest = g.D.Digest.digest_of in
    let step = compared (nodes_given gives) (layer digest g.row.B) c.args.old c.args.new in
    let stopped = subst (IsStopped gives step) c.in-BlockMissing.is c.in-Err.ensures.stopped in
    let needs = subst (λ f. IfMissing f (c.open_both.new.needs.cids.items
    ≡ needed_last (nodes_given gives) (layer digest g.row.B) c.args.old c.args.new)) c.in-BlockMissing.is
    (c.in-Err.ensures.needs c.in_ok-needs.ensures.wanted) in
    let found : c.in_ok-lacked-in-BlockMissing.field-0.items ≡ lacked gives c.open_both.new.needs.cids.items =
    c.in_ok-lacked-in-BlockMissing.ensures.lacked ∙ (λ i. lacked (c.in-Err.ensures.same i) (c.deref.ensures.value i)) in
    let apart : c.args.old ≢ c.args.new = search rules in
    missing-once digest g.row.B gives c.args.old c.args.new c.in-BlockMissing.field-0 c.in_ok-lacked-in-BlockMissing.field-0.items
    c.open_both.new.needs.cids.items apart stopped needs found

pub returns-in_ok-lacked-in-BlockMissing-clause-nothing : goal.returns-in_ok-lacked-in-BlockMissing-clause-nothing
returns-in_ok-lacked-in-BlockMissing-clause-nothing g c = λ es fs h k.
    let gives = g.S.Source.gives c.args.src.now in
    let digest = g.D.Digest.digest_of in
    let step = compared (nodes_given gives) (layer digest g.row.B) c.args.old c.args.new in
    let stopped = subst (IsStopped gives step) c.in-BlockMissing.is c.in-Err.ensures.stopped in
    absurd (stopped-trees digest g.row.B g.met.D.Digest.digest_len gives c.args.old c.args.new es fs h k
    (BlockMissing c.in-BlockMissing.field-0) stopped)

pub returns-in_default-fault-clause-fault : goal.returns-in_default-fault-clause-fault
returns-in_default-fault-clause-fault g c =
    let gives = g.S.Source.gives c.args.src.now in
    let step = compared (nodes_given gives) (layer g.D.Digest.digest_of g.row.B) c.args.old c.args.new in
    other-stop gives step c.in-Err.fault c.in_default-fault.not-BlockMissing c.in-Err.ensures.stopped

pub returns-in_default-fault-clause-no_fault : goal.returns-in_default-fault-clause-no_fault
returns-in_default-fault-clause-no_fault g c = λ whole e es fs h k.
    let gives = g.S.Source.gives c.args.src.now in
    let digest = g.D.Digest.digest_of in
    let step = compared (nodes_given gives) (layer digest g.row.B) c.args.old c.args.new in
    want-part digest g.row.B g.met.D.Digest.digest_len gives whole e c.args.old c.args.new es fs h k c.in-Err.fault
    (other-stop gives step c.in-Err.fault c.in_default-fault.not-BlockMissing c.in-Err.ensures.stopped)

pub returns-in_ok-lacked-in-BlockMissing-clause-unshared : goal.returns-in_ok-lacked-in-BlockMissing-clause-unshared
returns-in_ok-lacked-in-BlockMissing-clause-unshared g c = λ whole e es fs h k.
    let gives = g.S.Source.gives c.args.src.now in
    let digest = g.D.Digest.digest_of in
    let needs = subst (λ f. IfMissing f (c.open_both.new.needs.cids.items
    ≡ needed_last (nodes_given gives) (layer digest g.row.B) c.args.old c.args.new)) c.in-BlockMissing.is
    (c.in-Err.ensures.needs c.in_ok-needs.ensures.wanted) in
    let found : c.in_ok-lacked-in-BlockMissing.field-0.items ≡ lacked gives c.open_both.new.needs.cids.items =
    c.in_ok-lacked-in-BlockMissing.ensures.lacked ∙ (λ i. lacked (c.in-Err.ensures.same i) (c.deref.ensures.value i)) in
    missing-unshared digest g.row.B g.met.D.Digest.digest_len gives whole e c.args.old c.args.new es fs h k
    c.in_ok-lacked-in-BlockMissing.field-0.items
    (found ∙ ap (lacked gives) needs
    ∙ sym (lacked-bytes gives (needed_last (nodes_given gives) (layer digest g.row.B) c.args.old c.args.new)))
