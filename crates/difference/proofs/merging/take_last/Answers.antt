use Rattle.std.specs.declared.cmp.Ordering.TheVariants.{Less, Equal, Greater}
use Rattle.difference.specs.Merged.{pair_of, pairs_in}
use Rattle.difference.proofs.LastKeys.{at-order, last-new, last-old, last-same, pairs-end}
use Rattle.difference.proofs.merging.take_last.Goals as goal

pub returns-in_ok-row-in-Less-clause-last : goal.returns-in_ok-row-in-Less-clause-last
returns-in_ok-row-in-Less-clause-last g c =
    let old = c.args.old.now.items in
    let new = c.args.new.now.items in
    let row = c.in_ok-row-in-Less.row in
    last-new (pairs_in old) (pairs_in new) (pairs_in c.pop.new.self.items) (pair_of row)
    (at-order c.deref.result.now c.deref-2.result.now old new c.in_ok-last_order.field-0 Less c.in_ok-last_order.ensures.last
    c.deref.ensures.value c.deref-2.ensures.value c.in-Less.is)
    (pairs-end new c.pop.new.self.items row c.in_ok-row-in-Less.ensures.items)

pub returns-in_ok-other-in-Equal-clause-last : goal.returns-in_ok-other-in-Equal-clause-last
returns-in_ok-other-in-Equal-clause-last g c =
    let old = c.args.old.now.items in
    let new = c.args.new.now.items in
    let row = c.in_ok-row-in-Equal.row in
    let other = c.in_ok-other-in-Equal.other in
    last-same (pairs_in old) (pairs_in new) (pairs_in c.pop-in-Equal.new.self.items) (pairs_in c.pop-in-Equal-2.new.self.items)
    (pair_of row) (pair_of other)
    (at-order c.deref.result.now c.deref-2.result.now old new c.in_ok-last_order.field-0 Equal c.in_ok-last_order.ensures.last
    c.deref.ensures.value c.deref-2.ensures.value c.in-Equal.is)
    (pairs-end old c.pop-in-Equal.new.self.items row c.in_ok-row-in-Equal.ensures.items)
    (pairs-end new c.pop-in-Equal-2.new.self.items other c.in_ok-other-in-Equal.ensures.items)

pub returns-in_ok-row-in-Greater-clause-last : goal.returns-in_ok-row-in-Greater-clause-last
returns-in_ok-row-in-Greater-clause-last g c =
    let old = c.args.old.now.items in
    let new = c.args.new.now.items in
    let row = c.in_ok-row-in-Greater.row in
    last-old (pairs_in old) (pairs_in new) (pairs_in c.pop-in-Greater.new.self.items) (pair_of row)
    (at-order c.deref.result.now c.deref-2.result.now old new c.in_ok-last_order.field-0 Greater
    c.in_ok-last_order.ensures.last c.deref.ensures.value c.deref-2.ensures.value c.in-Greater.is)
    (pairs-end old c.pop-in-Greater.new.self.items row c.in_ok-row-in-Greater.ensures.items)
