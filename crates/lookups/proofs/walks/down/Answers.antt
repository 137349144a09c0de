use Rattle.std.proofs.Common.{suc, ◌-◌, ◌≤◌, Some, sym, ap, subst, ◌∙◌, option_map}
use Rattle.cid.specs.CidRef.{bytes_of}
use Rattle.edit_laws.specs.Sources.{shape_from, shown_by, start_shape, down_from}
use Rattle.lookups.specs.Steps.{asked_from}
use Rattle.lookups.specs.Walks.{stacked}
use Rattle.lookups.proofs.Stepping.{sums, asked-none}
use Rattle.lookups.proofs.Walking.{sums-end, sums-last, one-left, asked-some, down-none, down-zero, asked-zero, down-left, down-left_stops, shown-same}
use Rattle.lookups.proofs.walks.down.Goals as goal

pub returns-in_default-clause-stack : goal.returns-in_default-clause-stack
returns-in_default-clause-stack g c h =
    let shows = shown_by (λ d. option_map g.T.Shows.bytes (g.S.Source.gives c.args.src.now d)) in
    sym (c.loop-remaining.invariant.stack h
    ∙ ap (λ l. down_from shows c.loop-remaining.remaining c.args.from.now l (stacked c.loop-remaining.stack.items)) c.in_default.is
    ∙ down-none shows c.args.from.now c.loop-remaining.remaining (stacked c.loop-remaining.stack.items))

pub returns-in_default-clause-reads : goal.returns-in_default-clause-reads
returns-in_default-clause-reads g c h =
    let shows = shown_by (λ d. option_map g.T.Shows.bytes (g.S.Source.gives c.args.src.now d)) in
    sums-end (g.S.Source.reads c.args.src.now) (asked_from shows c.args.most c.args.from.now c.args.link)
    (g.S.Source.reads c.loop-remaining.src) (asked_from shows c.loop-remaining.remaining c.args.from.now c.loop-remaining.next)
    (c.loop-remaining.invariant.reads h)
    (ap (asked_from shows c.loop-remaining.remaining c.args.from.now) c.in_default.is ∙ asked-none shows c.args.from.now c.loop-remaining.remaining)

pub returns-in_default-node_of-clause-stack : goal.returns-in_default-node_of-clause-stack
returns-in_default-node_of-clause-stack g c h =
    let shows = shown_by (λ d. option_map g.T.Shows.bytes (g.S.Source.gives c.args.src.now d)) in
    let one = one-left (g.S.Source.reads c.args.src.now) (asked_from shows c.args.most c.args.from.now c.args.link)
    (g.S.Source.reads c.loop-remaining.src) (asked_from shows c.loop-remaining.remaining c.args.from.now c.loop-remaining.next)
    c.args.left.now c.loop-remaining.left (c.loop-remaining.invariant.reads h) c.loop-remaining.invariant.bounded h
    (subst (λ l. 1 ≤ asked_from shows c.loop-remaining.remaining c.args.from.now l) (sym c.in-Some.is)
    (asked-some shows c.args.from.now c.loop-remaining.remaining c.in-Some.cid c.loop-remaining-test.true)) in
    let shown = shown-same g.T.Shows.bytes (g.S.Source.gives c.args.src.now) (g.S.Source.gives c.loop-remaining.src)
    c.loop-remaining.invariant.same c.in-Some.cid _ (c.in_default-node_of.ensures.shown one) in
    sym (c.loop-remaining.invariant.stack h
    ∙ ap (λ l. down_from shows c.loop-remaining.remaining c.args.from.now l (stacked c.loop-remaining.stack.items)) c.in-Some.is
    ∙ (down-left_stops shows c.args.from.now c.loop-remaining.remaining c.in-Some.cid (stacked c.loop-remaining.stack.items) c.loop-remaining-test.true shown).0
    ∙ sym (ap stacked c.clear.ensures.items))

pub returns-in_default-node_of-clause-reads : goal.returns-in_default-node_of-clause-reads
returns-in_default-node_of-clause-reads g c h =
    let shows = shown_by (λ d. option_map g.T.Shows.bytes (g.S.Source.gives c.args.src.now d)) in
    let one = one-left (g.S.Source.reads c.args.src.now) (asked_from shows c.args.most c.args.from.now c.args.link)
    (g.S.Source.reads c.loop-remaining.src) (asked_from shows c.loop-remaining.remaining c.args.from.now c.loop-remaining.next)
    c.args.left.now c.loop-remaining.left (c.loop-remaining.invariant.reads h) c.loop-remaining.invariant.bounded h
    (subst (λ l. 1 ≤ asked_from shows c.loop-remaining.remaining c.args.from.now l) (sym c.in-Some.is)
    (asked-some shows c.args.from.now c.loop-remaining.remaining c.in-Some.cid c.loop-remaining-test.true)) in
    let shown = shown-same g.T.Shows.bytes (g.S.Source.gives c.args.src.now) (g.S.Source.gives c.loop-remaining.src)
    c.loop-remaining.invariant.same c.in-Some.cid _ (c.in_default-node_of.ensures.shown one) in
    sums-last (g.S.Source.reads c.args.src.now) (asked_from shows c.args.most c.args.from.now c.args.link)
    (g.S.Source.reads c.loop-remaining.src) (asked_from shows c.loop-remaining.remaining c.args.from.now c.loop-remaining.next)
    (g.S.Source.reads c.node_of.new.src) (c.loop-remaining.invariant.reads h)
    (ap (asked_from shows c.loop-remaining.remaining c.args.from.now) c.in-Some.is
    ∙ (down-left_stops shows c.args.from.now c.loop-remaining.remaining c.in-Some.cid (stacked c.loop-remaining.stack.items) c.loop-remaining-test.true shown).1)
    (c.node_of.ensures.counted one)

pub loop-remaining-preserved : goal.loop-remaining-preserved
loop-remaining-preserved g c =
    let shows = shown_by (λ d. option_map g.T.Shows.bytes (g.S.Source.gives c.args.src.now d)) in
    let from = c.args.from.now in
    let remaining = c.loop-remaining.remaining in
    let old = stacked c.loop-remaining.stack.items in
    let link = option_map bytes_of c.first_from.result.0 in
    let value = option_map bytes_of c.first_from.result.1 in
    let node = shape_from c.in-Some-node_of.view.left c.in-Some-node_of.view.entries in
    let some = subst (λ l. 1 ≤ asked_from shows remaining from l) (sym c.in-Some.is)
    (asked-some shows from remaining c.in-Some.cid c.loop-remaining-test.true) in
    let One : Type 0 = 1 ≤ c.loop-remaining.left in
    let one : asked_from shows c.args.most from c.args.link ≤ c.args.left.now → One =
    λ h. one-left (g.S.Source.reads c.args.src.now) (asked_from shows c.args.most from c.args.link)
    (g.S.Source.reads c.loop-remaining.src) (asked_from shows remaining from c.loop-remaining.next)
    c.args.left.now c.loop-remaining.left (c.loop-remaining.invariant.reads h) c.loop-remaining.invariant.bounded h some in
    let begun = sym (ap (λ r. start_shape from r.rest) c.of-rows.ensures) ∙ c.first_from.ensures in
    let d = λ (o : One). down-left shows from remaining c.in-Some.cid node link value c.first_from.new.rows old c.loop-remaining-test.true
    (shown-same g.T.Shows.bytes (g.S.Source.gives c.args.src.now) (g.S.Source.gives c.loop-remaining.src)
    c.loop-remaining.invariant.same c.in-Some.cid (Some node) (c.in-Some-node_of.ensures.shown o)) begun in
    record {
      same = c.node_of.ensures.same ∙ c.loop-remaining.invariant.same;
      stack = λ h. c.loop-remaining.invariant.stack h ∙ ap (λ l. down_from shows remaining from l old) c.in-Some.is ∙ (d (one h)).0
          ∙ ap (λ s. down_from shows (remaining - 1) from link s) (sym (c.in_ok-put_on.ensures link))
          ∙ ap (λ l. down_from shows (remaining - 1) from l (stacked c.put_on.new.stack.items)) (sym c.to_cid-next.ensures);
      reads = λ h. sums (g.S.Source.reads c.args.src.now) (asked_from shows c.args.most from c.args.link)
          (g.S.Source.reads c.loop-remaining.src) (asked_from shows remaining from c.loop-remaining.next)
          (asked_from shows (remaining - 1) from c.to_cid-next.result) (g.S.Source.reads c.node_of.new.src)
          (c.loop-remaining.invariant.reads h)
          (ap (asked_from shows remaining from) c.in-Some.is ∙ (d (one h)).1
          ∙ ap (λ l. suc (asked_from shows (remaining - 1) from l)) (sym c.to_cid-next.ensures)) (c.node_of.ensures.counted (one h));
      bounded = c.node_of.ensures.bounded ∙ c.loop-remaining.invariant.bounded;
    }

pub returns-clause-stack : goal.returns-clause-stack
returns-clause-stack g c h =
    let shows = shown_by (λ d. option_map g.T.Shows.bytes (g.S.Source.gives c.args.src.now d)) in
    sym (c.loop-remaining.invariant.stack h
    ∙ down-zero shows c.args.from.now c.loop-remaining.remaining c.loop-remaining.next (stacked c.loop-remaining.stack.items) c.loop-remaining-test.false)

pub returns-clause-reads : goal.returns-clause-reads
returns-clause-reads g c h =
    let shows = shown_by (λ d. option_map g.T.Shows.bytes (g.S.Source.gives c.args.src.now d)) in
    sums-end (g.S.Source.reads c.args.src.now) (asked_from shows c.args.most c.args.from.now c.args.link)
    (g.S.Source.reads c.loop-remaining.src) (asked_from shows c.loop-remaining.remaining c.args.from.now c.loop-remaining.next)
    (c.loop-remaining.invariant.reads h) (asked-zero shows c.args.from.now c.loop-remaining.remaining c.loop-remaining.next c.loop-remaining-test.false)
