use Rattle.std.proofs.Common.{length, sym, ap, ◌∙◌, arith}
use Rattle.std.specs.Cmp.Lexicographic.{slice_cmp}
use Rattle.std.specs.Ordering.{nat_cmp}
use Rattle.std.specs.declared.cmp.Ordering.TheVariants.{Less, Equal, Greater}
use Rattle.cid.specs.CidRef.{bytes_of}
use Rattle.spec.specs.NodeFormat.{LastLink, MoreLinks, first_link, entries_of}
use Rattle.edit_laws.specs.Sources.{start_shape}
use Rattle.lookups.proofs.Walking.{start-pair}
use Rattle.lookups.proofs.walks.first_from.Goals as goal

pub returns-in_default : goal.returns-in_default
returns-in_default g c =
    c.rows.invariant ∙ ap (start_shape c.args.from.now) c.in_default.ensures.none ∙ sym (ap LastLink c.link-link.ensures)

pub rows-smaller : goal.rows-smaller
rows-smaller g c = let e = ap (λ s. length (entries_of s)) c.in-Some.ensures.some in omega (arith, e)

pub rows-preserved : goal.rows-preserved
rows-preserved g c =
    c.rows.invariant
    ∙ start-pair c.args.from.now c.next.new.self.before (bytes_of c.in-Some.value) (first_link c.rows.rows.rest) c.rows.rows.rest
    c.next.new.self.rest Less c.in-Some.ensures.some
    (sym c.in-Less.is ∙ c.cmp.ensures ∙ ap (λ k. slice_cmp nat_cmp k c.args.from.now) c.key.ensures)

pub returns-in-Equal : goal.returns-in-Equal
returns-in-Equal g c =
    c.rows.invariant
    ∙ start-pair c.args.from.now c.next.new.self.before (bytes_of c.in-Some.value) (first_link c.rows.rows.rest) c.rows.rows.rest
    c.next.new.self.rest Equal c.in-Some.ensures.some
    (sym c.in-Equal.is ∙ c.cmp.ensures ∙ ap (λ k. slice_cmp nat_cmp k c.args.from.now) c.key.ensures)

pub returns-in-Greater : goal.returns-in-Greater
returns-in-Greater g c =
    c.rows.invariant
    ∙ start-pair c.args.from.now c.next.new.self.before (bytes_of c.in-Some.value) (first_link c.rows.rows.rest) c.rows.rows.rest
    c.next.new.self.rest Greater c.in-Some.ensures.some
    (sym c.in-Greater.is ∙ c.cmp.ensures ∙ ap (λ k. slice_cmp nat_cmp k c.args.from.now) c.key.ensures)
    ∙ sym (ap (λ l. MoreLinks l (c.next.new.self.before, bytes_of c.in-Some.value) c.next.new.self.rest) c.link-link.ensures)
