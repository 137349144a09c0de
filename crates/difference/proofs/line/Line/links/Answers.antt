use Rattle.std.proofs.Common.{◌≡◌, ◌∙◌, ◌<◌, List, length, take, ap, subst, sym, arith}
use Rattle.spec.specs.NodeFormat.{LastLink}
use Rattle.batch_laws.specs.Links.{onto_links}
use Rattle.difference_laws.specs.Lines.{links_in, repeats}
use Rattle.difference.specs.Sides.{HasLinks, rows_of}
use Rattle.difference.proofs.Noting.{links_of, links-more, links-all, repeats-link, repeats-whole}
use Rattle.difference.proofs.line.Line.links.Goals as goal

pub returns-then-branch : goal.returns-then-branch
returns-then-branch g c =
    let d = c.deref-row-items.result.now in
    let i = c.loop-row.row-index in
    let last = c.args.self.now.last in
    let short : i < length d = omega arith in
    let noted = c.in_ok-note.ensures (links_of (rows_of (take i d))) c.loop-row.invariant.has in
    sym (ap (λ (z : List _). repeats (links_in (onto_links (rows_of z) (LastLink last)))) c.deref-row-items.ensures.value)
    ∙ repeats-whole d i c.row-item.result short c.row-item.is last c.in_ok-note.field-0 noted.again_is c.if-branch.true
    c.loop-row.invariant.clean

pub loop-row-preserved : goal.loop-row-preserved
loop-row-preserved g c =
    let d = c.deref-row-items.result.now in
    let i = c.loop-row.row-index in
    let short : i < length d = omega arith in
    let more = links-more d i c.row-item.result short c.row-item.is in
    let noted = c.in_ok-note.ensures (links_of (rows_of (take i d))) c.loop-row.invariant.has in
    record {
      has = subst (λ z. HasLinks z c.note.new.links) (sym more) noted.links_are;
      clean = ap repeats more
          ∙ repeats-link (links_of (rows_of (take i d))) c.row-item.result.link c.in_ok-note.field-0 noted.again_is
          c.loop-row.invariant.clean ∙ c.if-branch.false;
    }

pub returns-then-branch-2 : goal.returns-then-branch-2
returns-then-branch-2 g c =
    let d = c.deref-row-items.result.now in
    let i = c.loop-row.row-index in
    let last = c.args.self.now.last in
    let all : i ≡ length d = omega arith in
    let noted = c.in_ok-note-2.ensures (links_of (rows_of (take i d))) c.loop-row.invariant.has in
    sym (ap (λ (z : List _). repeats (links_in (onto_links (rows_of z) (LastLink last)))) c.deref-row-items.ensures.value)
    ∙ ap repeats (links-all d i last all)
    ∙ repeats-link (links_of (rows_of (take i d))) last c.in_ok-note-2.field-0 noted.again_is c.loop-row.invariant.clean
    ∙ c.if-branch-2.true

pub returns : goal.returns
returns g c =
    let d = c.deref-row-items.result.now in
    let i = c.loop-row.row-index in
    let last = c.args.self.now.last in
    let all : i ≡ length d = omega arith in
    let noted = c.in_ok-note-2.ensures (links_of (rows_of (take i d))) c.loop-row.invariant.has in
    let whole = sym (ap (λ (z : List _). links_in (onto_links (rows_of z) (LastLink last))) c.deref-row-items.ensures.value)
    ∙ links-all d i last all in (
      subst (λ z. HasLinks z c.note-2.new.links) (sym whole) noted.links_are,
      ap repeats whole
          ∙ repeats-link (links_of (rows_of (take i d))) last c.in_ok-note-2.field-0 noted.again_is c.loop-row.invariant.clean
          ∙ c.if-branch-2.false,
    )
