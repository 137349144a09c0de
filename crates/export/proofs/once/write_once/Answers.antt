use Rattle.std.proofs.Common.{◌++◌, length, sym, ap, subst, ◌∙◌, append-nil}
use Rattle.spec.specs.Car.{section}
use Rattle.spec.specs.Cid.{cid}
use Rattle.export.specs.Founds.{bytes_found, seen_found}
use Rattle.export.specs.Once.{section_once}
use Rattle.export.specs.Outs.{TakesBeginning}
use Rattle.export.proofs.FirstOnes.{once-old, once-new}
use Rattle.export.proofs.Leaving.{takes-nothing, takes-same}
use Rattle.export.proofs.once.write_once.Goals as goal

pub returns-in_err-note-clause-taken : goal.returns-in_err-note-clause-taken
returns-in_err-note-clause-taken g c =
    takes-nothing (g.W.Out.taken c.args.out.now) (section_once g.D.Digest.digest_of c.args.seen.now (bytes_found (seen_found c.args.found.now))) c.from_residual.result c.from_residual.ensures.0

pub returns-then-not-branch-clause-taken : goal.returns-then-not-branch-clause-taken
returns-then-not-branch-clause-taken g c =
    let e = once-old g.D.Digest.digest_of c.args.seen.now (bytes_found (seen_found c.args.found.now)) c.cid.result c.in_ok-note.field-0 (c.cid.ensures ∙ ap (cid g.D.Digest.digest_of) c.deref.ensures) c.in_ok-note.ensures.new c.if-not-branch.true in
    sym (append-nil (g.W.Out.taken c.args.out.now)) ∙ ap (λ t. g.W.Out.taken c.args.out.now ++ t) (sym e)

pub returns-then-not-branch-clause-length : goal.returns-then-not-branch-clause-length
returns-then-not-branch-clause-length g c =
    ap length (sym (once-old g.D.Digest.digest_of c.args.seen.now (bytes_found (seen_found c.args.found.now)) c.cid.result c.in_ok-note.field-0 (c.cid.ensures ∙ ap (cid g.D.Digest.digest_of) c.deref.ensures) c.in_ok-note.ensures.new c.if-not-branch.true))

pub returns-in_err-write_section-clause-taken : goal.returns-in_err-write_section-clause-taken
returns-in_err-write_section-clause-taken g c =
    let e = once-new g.D.Digest.digest_of c.args.seen.now (bytes_found (seen_found c.args.found.now)) c.cid.result c.in_ok-note.field-0 (c.cid.ensures ∙ ap (cid g.D.Digest.digest_of) c.deref.ensures) c.in_ok-note.ensures.new c.if-not-branch.false in
    takes-same (g.W.Out.taken c.args.out.now) (g.W.Out.taken c.write_section.new.out) (section g.D.Digest.digest_of (bytes_found (seen_found c.args.found.now))) _
    c.from_residual-in_err-write_section.result c.from_residual-in_err-write_section.ensures.0 (sym e)
    (subst (λ b. TakesBeginning (g.W.Out.taken c.args.out.now) (g.W.Out.taken c.write_section.new.out) (section g.D.Digest.digest_of b)) c.deref-2.ensures
    c.in_err-write_section.ensures.taken)
