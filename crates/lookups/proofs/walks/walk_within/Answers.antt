use Rattle.std.proofs.Common.{◌≡◌, [], ◌∷◌, true, length, Some, sym, ap, ◌∙◌, refl, option_map, arith}
use Rattle.edit_laws.specs.Sources.{shown_by, walk_from}
use Rattle.lookups.specs.Walks.{pairs_given, frame_of, stacked, asked_walk, is_next}
use Rattle.lookups.proofs.Walking.{stacked-push, most-bounded, sums-end, walk-zero, asked-walk_zero, walk-ends, asked-ends, walk-goes, asked-goes, asked-fits, next-is, down-same, asked-same, fits-same, empty, given-more}
use Rattle.lookups.proofs.walks.walk_within.Goals as goal

pub loop-remaining-init : goal.loop-remaining-init
loop-remaining-init g c = record {
  same = refl;
  pairs = λ h. rw (c.new-pairs.ensures.items, c.new-stack.ensures.items) refl;
  reads = λ h. rw c.new-stack.ensures.items refl;
  bounded = refl;
}

pub returns-in_err-down-clause-most : goal.returns-in_err-down-clause-most
returns-in_err-down-clause-most g c =
    most-bounded (g.S.Source.reads c.down.new.src) (g.S.Source.reads c.args.src.now) c.down.new.left c.args.reads
    (c.down.ensures.bounded ∙ c.loop-remaining.invariant.bounded)

pub returns-in_err-clone-2-clause-most : goal.returns-in_err-clone-2-clause-most
returns-in_err-clone-2-clause-most g c =
    most-bounded (g.S.Source.reads c.down.new.src) (g.S.Source.reads c.args.src.now) c.down.new.left c.args.reads
    (c.down.ensures.bounded ∙ c.loop-remaining.invariant.bounded)

pub returns-in_err-key-clause-most : goal.returns-in_err-key-clause-most
returns-in_err-key-clause-most g c =
    most-bounded (g.S.Source.reads c.down.new.src) (g.S.Source.reads c.args.src.now) c.down.new.left c.args.reads
    (c.down.ensures.bounded ∙ c.loop-remaining.invariant.bounded)

pub returns-in_err-push-clause-most : goal.returns-in_err-push-clause-most
returns-in_err-push-clause-most g c =
    most-bounded (g.S.Source.reads c.down.new.src) (g.S.Source.reads c.args.src.now) c.down.new.left c.args.reads
    (c.down.ensures.bounded ∙ c.loop-remaining.invariant.bounded)

pub returns-in_err-link-clause-most : goal.returns-in_err-link-clause-most
returns-in_err-link-clause-most g c =
    most-bounded (g.S.Source.reads c.down.new.src) (g.S.Source.reads c.args.src.now) c.down.new.left c.args.reads
    (c.down.ensures.bounded ∙ c.loop-remaining.invariant.bounded)

pub returns-in_default-clause-most : goal.returns-in_default-clause-most
returns-in_default-clause-most g c =
    most-bounded (g.S.Source.reads c.down.new.src) (g.S.Source.reads c.args.src.now) c.down.new.left c.args.reads
    (c.down.ensures.bounded ∙ c.loop-remaining.invariant.bounded)

pub returns-then-not-is_next-clause-most : goal.returns-then-not-is_next-clause-most
returns-then-not-is_next-clause-most g c =
    most-bounded (g.S.Source.reads c.down.new.src) (g.S.Source.reads c.args.src.now) c.down.new.left c.args.reads
    (c.down.ensures.bounded ∙ c.loop-remaining.invariant.bounded)

pub loop-remaining-preserved : goal.loop-remaining-preserved
loop-remaining-preserved g c =
    let shows = shown_by (λ d. option_map g.T.Shows.bytes (g.S.Source.gives c.args.src.now d)) in
    let from = c.args.from.now in
    let most = c.args.most in
    let remaining = c.loop-remaining.remaining in
    let link = c.loop-remaining.link in
    let old = stacked c.loop-remaining.stack.items in
    let x = frame_of c.in-Some.next in
    let xs = stacked c.pop.new.self.items in
    let one = given-more c.loop-remaining.pairs.items c.push.new.self.items c.in_ok-key.key c.to_cid.result x
    c.in_ok-push.ensures.items (c.in_ok-key.ensures.items ∙ c.key-in-loop-remaining.ensures) c.to_cid.ensures in
    record {
      same = c.down.ensures.same ∙ c.loop-remaining.invariant.same;
      pairs = λ h.
          let fits = fits-same g.T.Shows.bytes (g.S.Source.gives c.args.src.now) (g.S.Source.gives c.loop-remaining.src)
          c.loop-remaining.invariant.same c.args.most c.args.from.now c.loop-remaining.link c.loop-remaining.left
          (asked-fits shows c.args.from.now c.loop-remaining.remaining c.args.most c.loop-remaining.link (stacked c.loop-remaining.stack.items)
          (g.S.Source.reads c.args.src.now) (asked_walk shows c.args.limit c.args.most c.args.from.now (Some c.args.root) [])
          (g.S.Source.reads c.loop-remaining.src) c.args.reads c.loop-remaining.left c.loop-remaining-test.true
          (c.loop-remaining.invariant.reads h) c.loop-remaining.invariant.bounded h.enough) in
          let begun = down-same g.T.Shows.bytes (g.S.Source.gives c.args.src.now) (g.S.Source.gives c.loop-remaining.src)
          c.loop-remaining.invariant.same c.args.most c.args.from.now c.loop-remaining.link (stacked c.loop-remaining.stack.items)
          (stacked c.down.new.stack.items) (c.in_ok-down.ensures.stack fits) in
          let split = sym (stacked-push c.pop.new.self.items c.in-Some.next) ∙ sym (ap stacked c.in-Some.ensures.items) ∙ begun in
          walk-goes shows from remaining most link old x xs (pairs_given c.loop-remaining.pairs.items)
          (pairs_given c.push.new.self.items) (walk_from shows c.args.limit most from (Some c.args.root) []) c.in_ok-link.link
          (stacked c.go_on.new.stack.items) c.loop-remaining-test.true split one c.in_ok-link.ensures.link c.in_ok-link.ensures.stack
          (c.loop-remaining.invariant.pairs h);
      reads = λ h.
          let fits = fits-same g.T.Shows.bytes (g.S.Source.gives c.args.src.now) (g.S.Source.gives c.loop-remaining.src)
          c.loop-remaining.invariant.same c.args.most c.args.from.now c.loop-remaining.link c.loop-remaining.left
          (asked-fits shows c.args.from.now c.loop-remaining.remaining c.args.most c.loop-remaining.link (stacked c.loop-remaining.stack.items)
          (g.S.Source.reads c.args.src.now) (asked_walk shows c.args.limit c.args.most c.args.from.now (Some c.args.root) [])
          (g.S.Source.reads c.loop-remaining.src) c.args.reads c.loop-remaining.left c.loop-remaining-test.true
          (c.loop-remaining.invariant.reads h) c.loop-remaining.invariant.bounded h.enough) in
          let begun = down-same g.T.Shows.bytes (g.S.Source.gives c.args.src.now) (g.S.Source.gives c.loop-remaining.src)
          c.loop-remaining.invariant.same c.args.most c.args.from.now c.loop-remaining.link (stacked c.loop-remaining.stack.items)
          (stacked c.down.new.stack.items) (c.in_ok-down.ensures.stack fits) in
          let split = sym (stacked-push c.pop.new.self.items c.in-Some.next) ∙ sym (ap stacked c.in-Some.ensures.items) ∙ begun in
          let asked = asked-same g.T.Shows.bytes (g.S.Source.gives c.args.src.now) (g.S.Source.gives c.loop-remaining.src)
          c.loop-remaining.invariant.same most from link (g.S.Source.reads c.loop-remaining.src) (g.S.Source.reads c.down.new.src)
          (c.in_ok-down.ensures.reads fits) in
          asked-goes shows from remaining most link old x xs (g.S.Source.reads c.args.src.now)
          (asked_walk shows c.args.limit most from (Some c.args.root) []) (g.S.Source.reads c.loop-remaining.src)
          (g.S.Source.reads c.down.new.src) c.in_ok-link.link (stacked c.go_on.new.stack.items) c.loop-remaining-test.true split
          c.in_ok-link.ensures.link c.in_ok-link.ensures.stack (c.loop-remaining.invariant.reads h) asked;
      bounded = c.down.ensures.bounded ∙ c.loop-remaining.invariant.bounded;
    }

pub returns-in_default-clause-pairs : goal.returns-in_default-clause-pairs
returns-in_default-clause-pairs g c h =
    let shows = shown_by (λ d. option_map g.T.Shows.bytes (g.S.Source.gives c.args.src.now d)) in
    let fits = fits-same g.T.Shows.bytes (g.S.Source.gives c.args.src.now) (g.S.Source.gives c.loop-remaining.src)
    c.loop-remaining.invariant.same c.args.most c.args.from.now c.loop-remaining.link c.loop-remaining.left
    (asked-fits shows c.args.from.now c.loop-remaining.remaining c.args.most c.loop-remaining.link (stacked c.loop-remaining.stack.items)
    (g.S.Source.reads c.args.src.now) (asked_walk shows c.args.limit c.args.most c.args.from.now (Some c.args.root) [])
    (g.S.Source.reads c.loop-remaining.src) c.args.reads c.loop-remaining.left c.loop-remaining-test.true
    (c.loop-remaining.invariant.reads h) c.loop-remaining.invariant.bounded h.enough) in
    let begun = down-same g.T.Shows.bytes (g.S.Source.gives c.args.src.now) (g.S.Source.gives c.loop-remaining.src)
    c.loop-remaining.invariant.same c.args.most c.args.from.now c.loop-remaining.link (stacked c.loop-remaining.stack.items)
    (stacked c.down.new.stack.items) (c.in_ok-down.ensures.stack fits) in
    let none : length c.down.new.stack.items ≡ 0 = omega (arith, c.down.new.stack.ok.0, c.in_default.ensures.cases.0) in
    walk-ends shows c.args.from.now c.loop-remaining.remaining c.args.most c.loop-remaining.link (stacked c.loop-remaining.stack.items)
    (pairs_given c.loop-remaining.pairs.items) (walk_from shows c.args.limit c.args.most c.args.from.now (Some c.args.root) [])
    c.loop-remaining-test.true (sym (ap stacked (empty c.down.new.stack.items none)) ∙ begun) (c.loop-remaining.invariant.pairs h)

pub returns-in_default-clause-reads : goal.returns-in_default-clause-reads
returns-in_default-clause-reads g c h =
    let shows = shown_by (λ d. option_map g.T.Shows.bytes (g.S.Source.gives c.args.src.now d)) in
    let fits = fits-same g.T.Shows.bytes (g.S.Source.gives c.args.src.now) (g.S.Source.gives c.loop-remaining.src)
    c.loop-remaining.invariant.same c.args.most c.args.from.now c.loop-remaining.link c.loop-remaining.left
    (asked-fits shows c.args.from.now c.loop-remaining.remaining c.args.most c.loop-remaining.link (stacked c.loop-remaining.stack.items)
    (g.S.Source.reads c.args.src.now) (asked_walk shows c.args.limit c.args.most c.args.from.now (Some c.args.root) [])
    (g.S.Source.reads c.loop-remaining.src) c.args.reads c.loop-remaining.left c.loop-remaining-test.true
    (c.loop-remaining.invariant.reads h) c.loop-remaining.invariant.bounded h.enough) in
    let begun = down-same g.T.Shows.bytes (g.S.Source.gives c.args.src.now) (g.S.Source.gives c.loop-remaining.src)
    c.loop-remaining.invariant.same c.args.most c.args.from.now c.loop-remaining.link (stacked c.loop-remaining.stack.items)
    (stacked c.down.new.stack.items) (c.in_ok-down.ensures.stack fits) in
    let none : length c.down.new.stack.items ≡ 0 = omega (arith, c.down.new.stack.ok.0, c.in_default.ensures.cases.0) in
    let asked = asked-same g.T.Shows.bytes (g.S.Source.gives c.args.src.now) (g.S.Source.gives c.loop-remaining.src)
    c.loop-remaining.invariant.same c.args.most c.args.from.now c.loop-remaining.link (g.S.Source.reads c.loop-remaining.src)
    (g.S.Source.reads c.down.new.src) (c.in_ok-down.ensures.reads fits) in
    asked-ends shows c.args.from.now c.loop-remaining.remaining c.args.most c.loop-remaining.link (stacked c.loop-remaining.stack.items)
    (g.S.Source.reads c.args.src.now) (asked_walk shows c.args.limit c.args.most c.args.from.now (Some c.args.root) [])
    (g.S.Source.reads c.loop-remaining.src) (g.S.Source.reads c.down.new.src) c.loop-remaining-test.true
    (sym (ap stacked (empty c.down.new.stack.items none)) ∙ begun) (c.loop-remaining.invariant.reads h) asked

-- a plain walk goes on
pub returns-then-not-is_next-clause-pairs : goal.returns-then-not-is_next-clause-pairs
returns-then-not-is_next-clause-pairs g c h =
    let shows = shown_by (λ d. option_map g.T.Shows.bytes (g.S.Source.gives c.args.src.now d)) in
    let fits = fits-same g.T.Shows.bytes (g.S.Source.gives c.args.src.now) (g.S.Source.gives c.loop-remaining.src)
    c.loop-remaining.invariant.same c.args.most c.args.from.now c.loop-remaining.link c.loop-remaining.left
    (asked-fits shows c.args.from.now c.loop-remaining.remaining c.args.most c.loop-remaining.link (stacked c.loop-remaining.stack.items)
    (g.S.Source.reads c.args.src.now) (asked_walk shows c.args.limit c.args.most c.args.from.now (Some c.args.root) [])
    (g.S.Source.reads c.loop-remaining.src) c.args.reads c.loop-remaining.left c.loop-remaining-test.true
    (c.loop-remaining.invariant.reads h) c.loop-remaining.invariant.bounded h.enough) in
    let begun = down-same g.T.Shows.bytes (g.S.Source.gives c.args.src.now) (g.S.Source.gives c.loop-remaining.src)
    c.loop-remaining.invariant.same c.args.most c.args.from.now c.loop-remaining.link (stacked c.loop-remaining.stack.items)
    (stacked c.down.new.stack.items) (c.in_ok-down.ensures.stack fits) in
    let x = frame_of c.in-Some.next in
    let xs = stacked c.pop.new.self.items in
    let split = sym (stacked-push c.pop.new.self.items c.in-Some.next) ∙ sym (ap stacked c.in-Some.ensures.items) ∙ begun in
    let next : is_next (pairs_given c.loop-remaining.pairs.items) x.0.0 ≡ true =
    next-is shows c.args.from.now c.loop-remaining.remaining c.args.most c.loop-remaining.link (stacked c.loop-remaining.stack.items) x xs
    (pairs_given c.loop-remaining.pairs.items) (walk_from shows c.args.limit c.args.most c.args.from.now (Some c.args.root) [])
    c.loop-remaining-test.true split (c.loop-remaining.invariant.pairs h) h.ascends in
    let tested = c.is_next.ensures
    ∙ ap (λ ps. is_next (pairs_given ps) c.key.result.now) c.deref.ensures.value
    ∙ ap (is_next (pairs_given c.loop-remaining.pairs.items)) c.key.ensures ∙ next in
    absurd (let failed = c.if-not-is_next.true in cc)

-- a plain walk goes on
pub returns-then-not-is_next-clause-reads : goal.returns-then-not-is_next-clause-reads
returns-then-not-is_next-clause-reads g c h =
    let shows = shown_by (λ d. option_map g.T.Shows.bytes (g.S.Source.gives c.args.src.now d)) in
    let fits = fits-same g.T.Shows.bytes (g.S.Source.gives c.args.src.now) (g.S.Source.gives c.loop-remaining.src)
    c.loop-remaining.invariant.same c.args.most c.args.from.now c.loop-remaining.link c.loop-remaining.left
    (asked-fits shows c.args.from.now c.loop-remaining.remaining c.args.most c.loop-remaining.link (stacked c.loop-remaining.stack.items)
    (g.S.Source.reads c.args.src.now) (asked_walk shows c.args.limit c.args.most c.args.from.now (Some c.args.root) [])
    (g.S.Source.reads c.loop-remaining.src) c.args.reads c.loop-remaining.left c.loop-remaining-test.true
    (c.loop-remaining.invariant.reads h) c.loop-remaining.invariant.bounded h.enough) in
    let begun = down-same g.T.Shows.bytes (g.S.Source.gives c.args.src.now) (g.S.Source.gives c.loop-remaining.src)
    c.loop-remaining.invariant.same c.args.most c.args.from.now c.loop-remaining.link (stacked c.loop-remaining.stack.items)
    (stacked c.down.new.stack.items) (c.in_ok-down.ensures.stack fits) in
    let x = frame_of c.in-Some.next in
    let xs = stacked c.pop.new.self.items in
    let split = sym (stacked-push c.pop.new.self.items c.in-Some.next) ∙ sym (ap stacked c.in-Some.ensures.items) ∙ begun in
    let next : is_next (pairs_given c.loop-remaining.pairs.items) x.0.0 ≡ true =
    next-is shows c.args.from.now c.loop-remaining.remaining c.args.most c.loop-remaining.link (stacked c.loop-remaining.stack.items) x xs
    (pairs_given c.loop-remaining.pairs.items) (walk_from shows c.args.limit c.args.most c.args.from.now (Some c.args.root) [])
    c.loop-remaining-test.true split (c.loop-remaining.invariant.pairs h) h.ascends in
    let tested = c.is_next.ensures
    ∙ ap (λ ps. is_next (pairs_given ps) c.key.result.now) c.deref.ensures.value
    ∙ ap (is_next (pairs_given c.loop-remaining.pairs.items)) c.key.ensures ∙ next in
    absurd (let failed = c.if-not-is_next.true in cc)

pub returns-clause-pairs : goal.returns-clause-pairs
returns-clause-pairs g c h =
    let shows = shown_by (λ d. option_map g.T.Shows.bytes (g.S.Source.gives c.args.src.now d)) in
    walk-zero shows c.args.from.now c.loop-remaining.remaining c.args.most c.loop-remaining.link (stacked c.loop-remaining.stack.items)
    (pairs_given c.loop-remaining.pairs.items) (walk_from shows c.args.limit c.args.most c.args.from.now (Some c.args.root) [])
    c.loop-remaining-test.false (c.loop-remaining.invariant.pairs h)

pub returns-clause-reads : goal.returns-clause-reads
returns-clause-reads g c h =
    let shows = shown_by (λ d. option_map g.T.Shows.bytes (g.S.Source.gives c.args.src.now d)) in
    sums-end (g.S.Source.reads c.args.src.now) (asked_walk shows c.args.limit c.args.most c.args.from.now (Some c.args.root) [])
    (g.S.Source.reads c.loop-remaining.src)
    (asked_walk shows c.loop-remaining.remaining c.args.most c.args.from.now c.loop-remaining.link (stacked c.loop-remaining.stack.items))
    (c.loop-remaining.invariant.reads h)
    (asked-walk_zero shows c.args.from.now c.loop-remaining.remaining c.args.most c.loop-remaining.link (stacked c.loop-remaining.stack.items) c.loop-remaining-test.false)

pub returns-clause-most : goal.returns-clause-most
returns-clause-most g c =
    most-bounded (g.S.Source.reads c.loop-remaining.src) (g.S.Source.reads c.args.src.now) c.loop-remaining.left c.args.reads
    c.loop-remaining.invariant.bounded
