use Rattle.std.proofs.Common.{ℕ, List, Option, ◌+◌, length, refl, sym, ap, subst, ◌∙◌, arith}
use Rattle.spec.specs.Cid.{cid}
use Rattle.export.specs.Founds.{bytes_found, bytes_in, found_in, may_repeat, seen_found}
use Rattle.export.specs.Once.{AreSingle, capped, sections}
use Rattle.export.specs.Walks.{blocks_left, steps_behind, IsStepFrom}
use Rattle.export.proofs.Ahead.{ahead-stops, behind, smaller, step-same, single-others, written-stops, written-leaves, written-count}
use Rattle.export.proofs.Leaving.{leaves-all, leaves-same, leaves-none}
use Rattle.export.proofs.Sectioned.{count-end}
use Rattle.export.proofs.Marked.{is-new, noted-as}
use Rattle.export.proofs.Singles.{repeats-more}
use Rattle.export.proofs.blocks.write_blocks.Goals as goal

pub steps-init : goal.steps-init
steps-init g c = record {
  same = refl;
  leaves = leaves-all (g.W.Out.taken c.args.out.now) _;
  count = ap capped (omega arith);
  fits = omega arith;
  noted = c.requires.noted;
  single = c.requires.single;
  marked = c.requires.marked;
  from = tt;
  failures = refl;
}

pub returns-in_err-next-in-Found-clause-taken : goal.returns-in_err-next-in-Found-clause-taken
returns-in_err-next-in-Found-clause-taken g c =
    ahead-stops (g.W.Out.taken c.args.out.now) (g.W.Out.taken c.steps.out) _ _ c.from_residual.result c.steps.invariant.leaves c.from_residual.ensures.0

pub returns-in_err-write_once-in-Found-clause-taken :
    goal.returns-in_err-write_once-in-Found-clause-taken
returns-in_err-write_once-in-Found-clause-taken g c =
    written-stops g.D.Digest.digest_of c.steps.seen (bytes_found (seen_found c.in-Found.found)) (bytes_found (seen_found c.in-Found.found)) (blocks_left (bytes_in c.args.src.now.blocks.now) c.steps.walk) refl
    (g.W.Out.taken c.args.out.now) (g.W.Out.taken c.steps.out) (g.W.Out.taken c.write_once.new.out) _ c.from_residual-in_err-write_once-in-Found.result
    (rw c.in-Found.is at c.steps.invariant.leaves) c.from_residual-in_err-write_once-in-Found.ensures.0 c.in_err-write_once-in-Found.ensures.taken

pub steps-smaller-in-Found : goal.steps-smaller-in-Found
steps-smaller-in-Found g c =
    let base : List ℕ → Option (List ℕ) = bytes_in c.args.src.now.blocks.now in
    smaller base c.steps.step c.in_ok-next-in-Found.next c.steps.walk c.step.new.self (ap (λ s. steps_behind base s c.steps.walk) c.in-Found.is)
    (step-same bytes_found (found_in c.args.src.now.blocks.now) (found_in c.steps.src.blocks.now) c.in_ok-next-in-Found.next c.steps.walk c.step.new.self c.steps.invariant.same c.in_ok-next-in-Found.ensures.step)

pub steps-preserved-in-Found : goal.steps-preserved-in-Found
steps-preserved-in-Found g c =
    let base : List ℕ → Option (List ℕ) = bytes_in c.args.src.now.blocks.now in
    let may_repeat = may_repeat g.D.Digest.digest_of g.row.B c.args.core.now in
    let by = step-same bytes_found (found_in c.args.src.now.blocks.now) (found_in c.steps.src.blocks.now) c.in_ok-next-in-Found.next c.steps.walk c.step.new.self c.steps.invariant.same c.in_ok-next-in-Found.ensures.step in
    let left = behind base c.in_ok-next-in-Found.next c.steps.walk c.step.new.self by in
    let single = rw c.in-Found.is at c.steps.invariant.single in
    let noted = noted-as g.D.Digest.digest_of (found_in c.args.src.now.blocks.now) may_repeat (seen_found c.in-Found.found) (rw c.in-Found.is at c.steps.invariant.from) c.steps.invariant.marked
    c.steps.seen c.write_once.new.seen c.in_ok-write_once-in-Found.ensures.seen in
    record {
      same = c.in_ok-next-in-Found.ensures.same ∙ c.steps.invariant.same;
      leaves = written-leaves g.D.Digest.digest_of c.steps.seen (bytes_found (seen_found c.in-Found.found)) (bytes_found (seen_found c.in-Found.found)) (blocks_left base c.steps.walk) refl may_repeat c.write_once.new.seen _ left
          single noted (g.W.Out.taken c.args.out.now) (g.W.Out.taken c.steps.out) (g.W.Out.taken c.write_once.new.out) _
          (rw c.in-Found.is at c.steps.invariant.leaves) c.in_ok-write_once-in-Found.ensures.taken;
      count = written-count g.D.Digest.digest_of c.steps.seen (bytes_found (seen_found c.in-Found.found)) (bytes_found (seen_found c.in-Found.found)) (blocks_left base c.steps.walk) refl may_repeat c.write_once.new.seen _ left
          single noted c.steps.written c.in_ok-write_once-in-Found.field-0 c.saturating_add-written.result _
          (rw c.in-Found.is at c.steps.invariant.count) c.in_ok-write_once-in-Found.ensures.length c.saturating_add-written.ensures;
      fits = let e = c.saturating_add-written.ensures in omega arith;
      noted = repeats-more may_repeat c.steps.seen c.write_once.new.seen (cid g.D.Digest.digest_of (bytes_found (seen_found c.in-Found.found))) c.steps.invariant.noted noted;
      single = single-others g.D.Digest.digest_of c.steps.seen (bytes_found (seen_found c.in-Found.found)) (bytes_found (seen_found c.in-Found.found)) (blocks_left base c.steps.walk) refl may_repeat c.write_once.new.seen _ left
          single noted;
      marked = c.steps.invariant.marked;
      from = subst (λ f. IsStepFrom f c.in_ok-next-in-Found.next) c.steps.invariant.same c.in_ok-next-in-Found.ensures.from;
      failures = c.in_ok-write_once-in-Found.ensures.cause ∙ c.steps.invariant.failures;
    }

pub returns-in_err-step-in-Missing-clause-taken : goal.returns-in_err-step-in-Missing-clause-taken
returns-in_err-step-in-Missing-clause-taken g c =
    ahead-stops (g.W.Out.taken c.args.out.now) (g.W.Out.taken c.steps.out) _ _ c.from_residual-in_err-step-in-Missing.result c.steps.invariant.leaves c.from_residual-in_err-step-in-Missing.ensures.0

pub steps-smaller : goal.steps-smaller
steps-smaller g c =
    let base : List ℕ → Option (List ℕ) = bytes_in c.args.src.now.blocks.now in
    smaller base c.steps.step _ c.steps.walk c.step-in-Missing.new.self (ap (λ s. steps_behind base s c.steps.walk) c.in-Missing.is)
    (step-same bytes_found (found_in c.args.src.now.blocks.now) (found_in c.steps.src.blocks.now) _ c.steps.walk c.step-in-Missing.new.self c.steps.invariant.same c.in_ok-step-in-Missing.ensures.step)

pub steps-preserved : goal.steps-preserved
steps-preserved g c =
    let base : List ℕ → Option (List ℕ) = bytes_in c.args.src.now.blocks.now in
    let by = step-same bytes_found (found_in c.args.src.now.blocks.now) (found_in c.steps.src.blocks.now) _ c.steps.walk c.step-in-Missing.new.self c.steps.invariant.same c.in_ok-step-in-Missing.ensures.step in
    let left = behind base _ c.steps.walk c.step-in-Missing.new.self by in
    let e = ap (sections g.D.Digest.digest_of c.steps.seen) left in
    record {
      same = c.in_ok-step-in-Missing.ensures.same ∙ c.steps.invariant.same;
      leaves = leaves-same (g.W.Out.taken c.args.out.now) (g.W.Out.taken c.steps.out) _ _ _ (rw c.in-Missing.is at c.steps.invariant.leaves) e;
      count = ap (λ t. capped (c.steps.written + length t)) (sym e) ∙ (rw c.in-Missing.is at c.steps.invariant.count);
      fits = c.steps.invariant.fits;
      noted = c.steps.invariant.noted;
      single = subst (AreSingle g.D.Digest.digest_of (may_repeat g.D.Digest.digest_of g.row.B c.args.core.now)) left (rw c.in-Missing.is at c.steps.invariant.single);
      marked = c.steps.invariant.marked;
      from = subst (λ f. IsStepFrom f c.in_ok-step-in-Missing.step) c.steps.invariant.same c.in_ok-step-in-Missing.ensures.from;
      failures = c.steps.invariant.failures;
    }

pub returns-in-End-clause-taken : goal.returns-in-End-clause-taken
returns-in-End-clause-taken g c =
    leaves-none (g.W.Out.taken c.args.out.now) (g.W.Out.taken c.steps.out) _ _ (rw c.in-End.is at c.steps.invariant.leaves) refl

pub returns-in-End-clause-length : goal.returns-in-End-clause-length
returns-in-End-clause-length g c =
    count-end c.steps.written _ _ c.steps.invariant.fits (rw c.in-End.is at c.steps.invariant.count) refl

pub write_once-requires : goal.write_once-requires
write_once-requires g c =
    is-new g.D.Digest.digest_of (found_in c.args.src.now.blocks.now) (may_repeat g.D.Digest.digest_of g.row.B c.args.core.now) (seen_found c.in-Found.found)
    (rw c.in-Found.is at c.steps.invariant.from) c.steps.invariant.marked c.steps.seen c.steps.invariant.noted
