use Rattle.std.proofs.Common.{◌∷◌, [], ap, ◌∙◌, length, arith}
use Rattle.std.proofs.lemmas.List.{length-append}
use Rattle.node.specs.Views.{row_of}
use Rattle.export.proofs.Walked.{next-below, next-here}
use Rattle.export.proofs.walk.next_entry.Goals as goal

pub returns-in-Some-next-clause-some : goal.returns-in-Some-next-clause-some
returns-in-Some-next-clause-some g c =
    c.loop-entries.invariant.next
    ∙ next-here c.loop-entries.stack.items c.pop.new.self.items c.push.new.self.items c.in-Some.entries c.next.new.self (row_of c.in-Some-next.entry)
    c.in-Some.ensures.items c.in-Some-next.ensures.steps c.in_ok-push.ensures.items

pub loop-entries-preserved : goal.loop-entries-preserved
loop-entries-preserved g c = record {
  next = c.loop-entries.invariant.next ∙ next-below c.loop-entries.stack.items c.pop.new.self.items c.in-Some.entries c.in-Some.ensures.items c.in_default-next.ensures.steps.0;
  shorter =
      let e = ap length c.in-Some.ensures.items ∙ length-append c.pop.new.self.items (c.in-Some.entries ∷ []) in
      let s = c.loop-entries.invariant.shorter in omega arith;
}
