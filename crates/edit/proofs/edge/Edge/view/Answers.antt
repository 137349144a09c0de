use Rattle.std.proofs.Common.{[], ◌∷◌, ◌++◌, ap, ◌∙◌, rules, arith}
use Rattle.std.proofs.lemmas.Grind.{common_steps}
use Rattle.std.specs.Arc.{arc_value}
use Rattle.edit.specs.States.{shapes_in}
use Rattle.edit.proofs.Reading.{node-read}
use Rattle.edit.proofs.Spelling.{read-is-node}
use Rattle.edit.proofs.edge.Edge.view.Goals as goal

pub of-requires : goal.of-requires
of-requires g c =
    read-is-node (arc_value c.in-Some.block.now) c.in-Some-view_of.view c.in-Some-view_of.ensures.contents c.in-Some-view_of.ensures.lawful

pub returns : goal.returns
returns g c =
    record {
      shown = node-read (g.S.Source.gives c.args.src.now) c.args.cid c.in-Some.block.now c.in-Some-view_of.view c.args.self.now.read.items
          c.push.new.self.items (shapes_in c.args.self.now.made.items) c.in-Some.ensures.found c.in-Some-view_of.ensures.contents
          (c.in_ok-push.ensures.items ∙ ap (λ x. c.args.self.now.read.items ++ (x ∷ [])) c.of.ensures);
      counted = grind (arith, common_steps);
      levels = search rules;
      rest = search rules;
      same = search rules;
      unread = tt;
      still = tt;
    }
