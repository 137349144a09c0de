use Rattle.std.proofs.Common.{rules, sym, ap}
use Rattle.edit.specs.Tops.{further_of}
use Rattle.edit.proofs.edge.Edge.look.Goals as goal

pub returns-in-Some : goal.returns-in-Some
returns-in-Some g c = record {
  shown = record {
    node = c.in_ok-rows.rows.rest;
    shown = c.in_ok-rows.ensures.shown;
    further_is = sym (ap further_of c.in-Some.ensures.some);
  };
  counted = search rules;
  levels = search rules;
  rest = search rules;
  same = search rules;
  unread = tt;
  still = tt;
}

pub returns : goal.returns
returns g c = record {
  shown = record {
    node = c.in_ok-rows.rows.rest;
    shown = c.in_ok-rows.ensures.shown;
    further_is = search rules;
  };
  counted = search rules;
  levels = search rules;
  rest = search rules;
  same = search rules;
  unread = tt;
  still = tt;
}
