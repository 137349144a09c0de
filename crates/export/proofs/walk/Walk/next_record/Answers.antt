use Rattle.std.proofs.Common.{sym, ap, ◌∙◌}
use Rattle.export.specs.Walks.{Walking, next_row}
use Rattle.node.specs.Views.{row_of}
use Rattle.export.proofs.walk.Walk.next_record.Goals as goal

pub returns : goal.returns
returns g c =
    record {
      row = row_of c.in-Some.entry;
      next = ap (λ (w : Walking). next_row w.stack) (sym c.self.view_is) ∙ rw c.in-Some.is at c.in_ok-entry.ensures.some;
      value_is = c.to_cid.ensures;
      link_is = c.to_cid-self-inside.ensures;
      most_is = ap (λ (w : Walking). w.most) c.self.view_is;
    }
