use Rattle.std.proofs.Common.{◌≡◌, ℕ, ◌+◌, ◌-◌, ◌^◌, ◌<◌, ◌++◌, length, take, drop, sym, ap, subst, ◌∙◌, arith}
use Rattle.node.proofs.Copying.{Copies, written_after, copies-pass, copies-passed, copies-count, copies-written}
use Rattle.node.proofs.Gaps.{gap-begins}
use Rattle.node.proofs.Writing.{contents}
use Rattle.node.proofs.writer.NodeWriter.copy.Goals as goal

pub pass-rest-requires : goal.pass-rest-requires
pass-rest-requires g c =
    let s = c.self.inside in
    let copies : Copies s.count c.passed-from.result c.args.to s.entries.items s.last c.rest-start.result.now s.left c.args.self.now c.args.from.now.node.entries =
    subst (λ (n : ℕ). Copies s.count n c.args.to s.entries.items s.last c.rest-start.result.now s.left c.args.self.now c.args.from.now.node.entries) (sym c.passed-from.ensures.passed) (record {
      written = c.self.invariant;
      shown = c.self.view_is;
      follows = c.requires.follows;
      order = c.requires.order;
      within = c.requires.within;
      begins = gap-begins c.args.from.now.node c.args.from.now.passed c.rest-start.result.now c.rest-start.ensures.grammar c.rest-start.ensures.spelled;
    }) in
    copies-pass _ _ _ _ _ _ _ _ _ copies

pub slice_bounds-extend_from_slice-count : goal.slice_bounds-extend_from_slice-count
slice_bounds-extend_from_slice-count g c =
    let s = c.self.inside in
    let copies : Copies s.count c.passed-from.result c.args.to s.entries.items s.last c.rest-start.result.now s.left c.args.self.now c.args.from.now.node.entries =
    subst (λ (n : ℕ). Copies s.count n c.args.to s.entries.items s.last c.rest-start.result.now s.left c.args.self.now c.args.from.now.node.entries) (sym c.passed-from.ensures.passed) (record {
      written = c.self.invariant;
      shown = c.self.view_is;
      follows = c.requires.follows;
      order = c.requires.order;
      within = c.requires.within;
      begins = gap-begins c.args.from.now.node c.args.from.now.passed c.rest-start.result.now c.rest-start.ensures.grammar c.rest-start.ensures.spelled;
    }) in
    (copies-passed _ _ _ _ _ _ _ _ _ _ _ copies c.pass-rest.ensures).within

pub overflow_add-self : goal.overflow_add-self
overflow_add-self g c =
    let s = c.self.inside in
    let copies : Copies s.count c.passed-from.result c.args.to s.entries.items s.last c.rest-start.result.now s.left c.args.self.now c.args.from.now.node.entries =
    subst (λ (n : ℕ). Copies s.count n c.args.to s.entries.items s.last c.rest-start.result.now s.left c.args.self.now c.args.from.now.node.entries) (sym c.passed-from.ensures.passed) (record {
      written = c.self.invariant;
      shown = c.self.view_is;
      follows = c.requires.follows;
      order = c.requires.order;
      within = c.requires.within;
      begins = gap-begins c.args.from.now.node c.args.from.now.passed c.rest-start.result.now c.rest-start.ensures.grammar c.rest-start.ensures.spelled;
    }) in
    let start = c.rest-start.result.now in
    let v = c.extend_from_slice.new.self in
    let is : v.items ≡ s.entries.items ++ take (length start - length c.pass-rest.result.now) start = written_after _ _ _ _ c.in-Ok.ensures.items c.reserve.ensures.items in
    let few : s.count + (c.args.to - c.passed-from.result) < 2 ^ 64 = omega (arith, copies-count _ _ _ _ _ _ _ _ _ _ _ _ copies c.pass-rest.ensures is, v.small, v.ok.0, v.ok.1) in
    omega (arith, few)

pub invariant_of-self-2 : goal.invariant_of-self-2
invariant_of-self-2 g c =
    let s = c.self.inside in
    let copies : Copies s.count c.passed-from.result c.args.to s.entries.items s.last c.rest-start.result.now s.left c.args.self.now c.args.from.now.node.entries =
    subst (λ (n : ℕ). Copies s.count n c.args.to s.entries.items s.last c.rest-start.result.now s.left c.args.self.now c.args.from.now.node.entries) (sym c.passed-from.ensures.passed) (record {
      written = c.self.invariant;
      shown = c.self.view_is;
      follows = c.requires.follows;
      order = c.requires.order;
      within = c.requires.within;
      begins = gap-begins c.args.from.now.node c.args.from.now.passed c.rest-start.result.now c.rest-start.ensures.grammar c.rest-start.ensures.spelled;
    }) in
    let start = c.rest-start.result.now in
    let v = c.extend_from_slice.new.self in
    let is : v.items ≡ s.entries.items ++ take (length start - length c.pass-rest.result.now) start = written_after _ _ _ _ c.in-Ok.ensures.items c.reserve.ensures.items in
    let few : s.count + (c.args.to - c.passed-from.result) < 2 ^ 64 = omega (arith, copies-count _ _ _ _ _ _ _ _ _ _ _ _ copies c.pass-rest.ensures is, v.small, v.ok.0, v.ok.1) in
    (copies-written _ _ _ _ _ _ _ _ _ _ _ _ copies c.pass-rest.ensures is few).0

pub returns-clause-ok : goal.returns-clause-ok
returns-clause-ok g c =
    let s = c.self.inside in
    let copies : Copies s.count c.passed-from.result c.args.to s.entries.items s.last c.rest-start.result.now s.left c.args.self.now c.args.from.now.node.entries =
    subst (λ (n : ℕ). Copies s.count n c.args.to s.entries.items s.last c.rest-start.result.now s.left c.args.self.now c.args.from.now.node.entries) (sym c.passed-from.ensures.passed) (record {
      written = c.self.invariant;
      shown = c.self.view_is;
      follows = c.requires.follows;
      order = c.requires.order;
      within = c.requires.within;
      begins = gap-begins c.args.from.now.node c.args.from.now.passed c.rest-start.result.now c.rest-start.ensures.grammar c.rest-start.ensures.spelled;
    }) in
    let start = c.rest-start.result.now in
    let v = c.extend_from_slice.new.self in
    let is : v.items ≡ s.entries.items ++ take (length start - length c.pass-rest.result.now) start = written_after _ _ _ _ c.in-Ok.ensures.items c.reserve.ensures.items in
    let few : s.count + (c.args.to - c.passed-from.result) < 2 ^ 64 = omega (arith, copies-count _ _ _ _ _ _ _ _ _ _ _ _ copies c.pass-rest.ensures is, v.small, v.ok.0, v.ok.1) in
    (copies-written _ _ _ _ _ _ _ _ _ _ _ _ copies c.pass-rest.ensures is few).1
    ∙ ap (λ (n : ℕ). contents c.args.self.now.left (c.args.self.now.entries ++ take (c.args.to - n) (drop n c.args.from.now.node.entries)))
    c.passed-from.ensures.passed
