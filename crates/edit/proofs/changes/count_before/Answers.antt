use Rattle.std.proofs.Common.{◌≡◌, ◌+◌, true, false, ℕ, List, sym, ap, ◌∙◌, arith, rules}
use Rattle.std.specs.Cmp.Lexicographic.{slice_cmp}
use Rattle.std.specs.Ordering.{nat_cmp, is_lt}
use Rattle.edit_laws.specs.Order.{order}
use Rattle.edit.proofs.Placing.{cut-here, first-not, compared, place-more}
use Rattle.edit.proofs.changes.count_before.Goals as goal

pub returns-then-not-is_lt-clause-first : goal.returns-then-not-is_lt-clause-first
returns-then-not-is_lt-clause-first g c =
    let x = c.index-changes-count.result in
    let e : c.is_lt.result ≡ is_lt (order x.0 c.args.key.now) = compared c.is_lt.result is_lt x.0 c.args.key.now
    (c.is_lt.ensures ∙ ap is_lt c.cmp.ensures ∙ ap (λ (k : List ℕ). is_lt (slice_cmp nat_cmp k c.args.key.now)) c.key.ensures) in
    let f : c.is_lt.result ≡ false = search rules in
    first-not c.args.key.now c.args.changes.now c.loop-count.count x (omega arith) c.index-changes-count.is (sym e ∙ f)

pub loop-count-preserved : goal.loop-count-preserved
loop-count-preserved g c =
    let x = c.index-changes-count.result in
    let cs = c.args.changes.now in
    let i = c.loop-count.count in
    let e : c.is_lt.result ≡ is_lt (order x.0 c.args.key.now) = compared c.is_lt.result is_lt x.0 c.args.key.now
    (c.is_lt.ensures ∙ ap is_lt c.cmp.ensures ∙ ap (λ (k : List ℕ). is_lt (slice_cmp nat_cmp k c.args.key.now)) c.key.ensures) in
    let f : c.is_lt.result ≡ true = search rules in
    record {
      within = omega arith;
      place = place-more c.args.key.now cs cs i (i + 1) x (omega arith) (cut-here cs i x (omega arith) c.index-changes-count.is)
          (sym e ∙ f) c.loop-count.invariant.place;
    }
