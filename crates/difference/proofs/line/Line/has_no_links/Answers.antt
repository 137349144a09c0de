use Rattle.std.proofs.Common.{◌≡◌, ◌∙◌, ◌<◌, List, [], length, true, false, ap, subst, arith, rules}
use Rattle.std.specs.Prelude.{◌↔◌, IsTrue, is_some, is_none}
use Rattle.spec.specs.NodeFormat.{LastLink}
use Rattle.batch_laws.specs.Links.{onto_links}
use Rattle.difference_laws.specs.Lines.{links_in}
use Rattle.difference.specs.Sides.{rows_of}
use Rattle.difference.proofs.Noting.{link-there, none-more, none-last}
use Rattle.difference.proofs.line.Line.has_no_links.Goals as goal

pub returns-then-is_some : goal.returns-then-is_some
returns-then-is_some g c =
    let d = c.deref-row-items.result.now in
    let last = c.args.self.now.last in
    let short : c.loop-row.row-index < length d = omega arith in
    let there : is_some c.row-item.result.link ≡ true = search rules in
    let line = ap (λ (z : List _). links_in (onto_links (rows_of z) (LastLink last))) c.deref-row-items.ensures.value in (
      (λ h. absurd cc),
      λ e. absurd (link-there d c.loop-row.row-index c.row-item.result short c.row-item.is last there (line ∙ e)),
    )

pub loop-row-preserved : goal.loop-row-preserved
loop-row-preserved g c =
    let d = c.deref-row-items.result.now in
    let short : c.loop-row.row-index < length d = omega arith in
    let none : is_some c.row-item.result.link ≡ false = search rules in
    none-more d c.loop-row.row-index c.row-item.result short c.row-item.is none c.loop-row.invariant

pub returns : goal.returns
returns g c =
    let d = c.deref-row-items.result.now in
    let last = c.args.self.now.last in
    let all : c.loop-row.row-index ≡ length d = omega arith in
    let is : c.is_none.result ≡ is_none last = search rules in
    subst (λ (z : List _). IsTrue c.is_none.result ↔ (links_in (onto_links (rows_of z) (LastLink last)) ≡ []))
    c.deref-row-items.ensures.value
    (none-last d c.loop-row.row-index last c.is_none.result all c.loop-row.invariant is)
