use Rattle.std.proofs.Common.{rules}
use Rattle.rows.specs.Entries.{shape_at}
use Rattle.edit.specs.Agendas.{agenda_of}
use Rattle.edit.specs.States.{edge_in}
use Rattle.edit.proofs.Untouched.{passed-on}
use Rattle.edit.proofs.edge.Edge.go_on.Goals as goal

pub returns : goal.returns
returns g c =
    let next = c.in_ok-passed.passed in
    record {
      passed = passed-on c.args.layer c.args.depth c.args.changes.now c.args.rows.rest (shape_at next.0 next.1 c.pass.new.rows)
          (edge_in c.args.self.now) (edge_in c.pass.new.self) (agenda_of c.args.agenda.now.items)
          (agenda_of c.put_off.new.agenda.items) c.in_ok-passed.ensures.passed c.in_ok-put_off.ensures;
      log = search rules;
      budget = search rules;
      fault = tt;
    }
