use Rattle.std.proofs.Common.{◌≡◌, ◌∙◌, ◌++◌, ◌<◌, List, [], ap, arith, length, subst}
use Rattle.std.specs.List.{cons_option}
use Rattle.spec.specs.NodeFormat.{LastLink}
use Rattle.batch_laws.specs.Links.{onto_links}
use Rattle.difference_laws.specs.Lines.{links_in, without}
use Rattle.difference.specs.Sides.{rows_of}
use Rattle.difference.proofs.Needing.{noted-all, noted-more}
use Rattle.difference.proofs.Opens.{own-links}
use Rattle.difference.proofs.needs.Needs.add.Goals as goal

pub loop-row-preserved : goal.loop-row-preserved
loop-row-preserved g c =
    let rs = c.deref-row-items.result.now in
    let keys = c.args.shared.now.keys in
    let at = c.loop-row in
    let short : at.row-index < length rs = omega arith in
    record {
      noted = noted-more keys rs at.row-index c.row-item.result short c.row-item.is c.args.self.now.cids.items
          c.push.new.self.cids.items c.unless.result (c.unless.ensures keys (own-links c.args.shared.now))
          (c.in_ok-push.ensures.cids ∙ ap (λ z. z ++ cons_option c.unless.result []) at.invariant.noted);
      wanted = c.in_ok-push.ensures.wanted ∙ at.invariant.wanted;
    }

pub returns-clause-cids : goal.returns-clause-cids
returns-clause-cids g c = λ w.
    let rs = c.deref-row-items.result.now in
    let keys = c.args.shared.now.keys in
    let at = c.loop-row in
    let last = c.args.line.now.last in
    let all : at.row-index ≡ length rs = omega arith in
    subst (λ (z : List _). c.push-2.new.self.cids.items
    ≡ c.args.self.now.cids.items ++ links_in (without keys (onto_links (rows_of z) (LastLink last))))
    c.deref-row-items.ensures.value
    (noted-all keys rs at.row-index all last c.args.self.now.cids.items c.push-2.new.self.cids.items c.unless-2.result
    (c.unless-2.ensures keys (own-links c.args.shared.now))
    (c.in_ok-push-2.ensures.cids ∙ ap (λ z. z ++ cons_option c.unless-2.result []) at.invariant.noted))
