use Rattle.std.proofs.Common.{◌-◌, ◌∷◌, map, refl, sym, ap, ◌∙◌}
use Rattle.std.specs.declared.option.Option.TheVariants.{Some, None}
use Rattle.std.specs.Arc.{arc_value}
use Rattle.export.proofs.Paths.{ahead, ahead-none, ahead-missing, ahead-other, ahead-node, given, ends, goes}
use Rattle.export.proofs.proving.path_within.Goals as goal

pub returns-in_default : goal.returns-in_default
returns-in_default g c =
    let was = g.S.Source.gives c.args.src.now in
    let at = c.loop-left in
    ends (map arc_value at.nodes.items) (ahead arc_value was c.args.key.now at.left at.link) (ahead arc_value was c.args.key.now c.args.most (Some c.args.root)) at.invariant.path
    (ap (ahead arc_value was c.args.key.now at.left) c.in_default.is ∙ ahead-none arc_value was c.args.key.now at.left)

pub returns-in_default-get : goal.returns-in_default-get
returns-in_default-get g c =
    let was = g.S.Source.gives c.args.src.now in
    let at = c.loop-left in
    ends (map arc_value at.nodes.items) (ahead arc_value was c.args.key.now at.left at.link) (ahead arc_value was c.args.key.now c.args.most (Some c.args.root)) at.invariant.path
    (ap (ahead arc_value was c.args.key.now at.left) c.in-Some.is
    ∙ ahead-missing arc_value was c.args.key.now at.left c.in-Some.cid c.loop-left-test.true
    (given was (g.S.Source.gives at.src) c.in-Some.cid None at.invariant.same c.in_default-get.ensures.found))

pub returns-in_default-link_in : goal.returns-in_default-link_in
returns-in_default-link_in g c =
    let was = g.S.Source.gives c.args.src.now in
    let at = c.loop-left in
    ends (map arc_value at.nodes.items) (ahead arc_value was c.args.key.now at.left at.link) (ahead arc_value was c.args.key.now c.args.most (Some c.args.root)) at.invariant.path
    (ap (ahead arc_value was c.args.key.now at.left) c.in-Some.is
    ∙ ahead-other arc_value was c.args.key.now at.left c.in-Some.cid (arc_value c.in-Some-get.block.now) c.in-Some-get.block.now c.loop-left-test.true
    (given was (g.S.Source.gives at.src) c.in-Some.cid (Some c.in-Some-get.block.now) at.invariant.same c.in-Some-get.ensures.found)
    refl c.in_default-link_in.ensures.link)

pub loop-left-preserved : goal.loop-left-preserved
loop-left-preserved g c =
    let was = g.S.Source.gives c.args.src.now in
    let at = c.loop-left in
    let e = ap (ahead arc_value was c.args.key.now at.left) c.in-Some.is
    ∙ ahead-node arc_value was c.args.key.now at.left c.in-Some.cid (arc_value c.in-Some-get.block.now) c.in-Some-get.block.now c.in-Some-link_in.next c.loop-left-test.true
    (given was (g.S.Source.gives at.src) c.in-Some.cid (Some c.in-Some-get.block.now) at.invariant.same c.in-Some-get.ensures.found)
    refl c.in-Some-link_in.ensures.link c.in-Some-link_in.ensures.bytes in
    record {
      same = c.get.ensures.same ∙ at.invariant.same;
      path = goes arc_value at.nodes.items c.push.new.self.items c.in_ok-try_clone.field-0
          (ahead arc_value was c.args.key.now at.left at.link) (ahead arc_value was c.args.key.now (at.left - 1) c.in-Some-link_in.next)
          (ahead arc_value was c.args.key.now c.args.most (Some c.args.root)) at.invariant.path
          (e ∙ ap (λ v. v ∷ ahead arc_value was c.args.key.now (at.left - 1) c.in-Some-link_in.next) (sym c.in_ok-try_clone.ensures)) c.in_ok-push.ensures.items;
    }
