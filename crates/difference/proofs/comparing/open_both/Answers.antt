use Rattle.std.proofs.Common.{◌≡◌, ◌∙◌, ◌+◌, ◌<◌, ◌≤◌, ℕ, max, List, Some, Ok, ap, length, refl, subst, sym, arith}
use Rattle.std.proofs.lemmas.Result.{err_from_is_err_and}
use Rattle.spec.specs.Layer.{layer}
use Rattle.lookups.specs.Steps.{nodes_given}
use Rattle.difference_laws.specs.Lines.{compared, level, levels}
use Rattle.difference.specs.Sides.{IsLackAt, IsStopped, rows_of}
use Rattle.difference.specs.Starts.{HasBegun, IsStart, asked_by, side_in}
use Rattle.difference.specs.Missing.{most_read, needed_by, needed_in, needed_last, reached, reached_from, read_before, read_in}
use Rattle.difference.proofs.Needing.{missing-both, missing-then, most-here, needed-starts, reached-missing, reached-step, read-lengths, read-starts}
use Rattle.difference.proofs.Levels.{begun-asked, lack-stops, levels-end, levels-step, levels-stop, new-lacks, old-lacks, starts}
use Rattle.difference.proofs.comparing.open_both.Goals as goal

pub returns-in_err-old_side-clause-stopped : goal.returns-in_err-old_side-clause-stopped
returns-in_err-old_side-clause-stopped g c =
    let p = err_from_is_err_and c.from_residual-in_err-old_side.result c.from_residual-in_err-old_side.ensures.1 in
    let gives = g.S.Source.gives c.args.src.now in
    let shows = nodes_given gives in
    let lay = layer g.D.Digest.digest_of g.row.B in
    rw (p.1, p.2)
    (lack-stops gives shows c.args.old (compared shows lay c.args.old c.args.new) c.in_err-old_side.field-0.0
    (old-lacks shows lay c.args.old c.args.new) c.in_err-old_side.ensures.lack)

pub returns-in_err-new_side-clause-stopped : goal.returns-in_err-new_side-clause-stopped
returns-in_err-new_side-clause-stopped g c =
    let p = err_from_is_err_and c.from_residual-in_err-new_side.result c.from_residual-in_err-new_side.ensures.1 in
    let gives = g.S.Source.gives c.args.src.now in
    let shows = nodes_given gives in
    let lay = layer g.D.Digest.digest_of g.row.B in
    let fault = c.in_err-new_side.field-0.0 in
    rw (p.1, p.2)
    (lack-stops gives shows c.args.new (compared shows lay c.args.old c.args.new) fault
    (new-lacks shows lay c.args.old c.args.new (side_in c.in_ok-old_side.old_side) c.in_ok-old_side.ensures.start)
    (subst (λ (v : List ℕ → _). IsLackAt v (nodes_given v) (Some c.args.new) fault) c.in_ok-old_side.ensures.same
    c.in_err-new_side.ensures.lack))

pub layers-init : goal.layers-init
layers-init g c = record {
  same = refl;
  old_begun = subst (λ (v : List ℕ → _). HasBegun v c.in_ok-old_side.old_side)
      (sym (c.in_ok-new_side.ensures.same ∙ c.in_ok-old_side.ensures.same)) c.in_ok-old_side.ensures.begun;
  new_begun = subst (λ (v : List ℕ → _). HasBegun v c.in_ok-new_side.new_side) (sym c.in_ok-new_side.ensures.same)
      c.in_ok-new_side.ensures.begun;
  opened_so = refl;
  reached_so = refl;
  wanted = refl;
  counted = refl;
}

pub layers-preserved : goal.layers-preserved
layers-preserved g c =
    let at = c.layers in
    let gives = g.S.Source.gives c.new-2.new.src in
    let shows = nodes_given gives in
    let a = side_in at.old_side in
    let b = side_in at.new_side in
    let s = side_in c.descend.new.old in
    let t = side_in c.descend.new.new in
    let a0 = side_in c.in_ok-old_side.old_side in
    let b0 = side_in c.in_ok-new_side.new_side in
    let k = c.in_ok-descend.ensures.counted in
    let l = at.invariant.counted in
    record {
      same = c.in_ok-descend.ensures.same ∙ at.invariant.same;
      old_begun = subst (λ (v : List ℕ → _). HasBegun v c.descend.new.old) (sym c.in_ok-descend.ensures.same)
          c.in_ok-descend.ensures.old_begun;
      new_begun = subst (λ (v : List ℕ → _). HasBegun v c.descend.new.new) (sym c.in_ok-descend.ensures.same)
          c.in_ok-descend.ensures.new_begun;
      opened_so = levels-step shows (levels shows (max a0.left b0.left) a0 b0) (max a.left b.left) a b at.invariant.opened_so
          (max s.left t.left) s t c.in_ok-descend.ensures.left
          (λ n e. (subst (λ (v : List ℕ → _). level (nodes_given v) n a b ≡ Ok (s, t)) at.invariant.same
          (c.in_ok-descend.ensures.opened n e)));
      reached_so = at.invariant.reached_so
          ∙ reached-step shows (max a.left b.left) a b (max s.left t.left) s t c.in_ok-descend.ensures.left
          (λ n e. (subst (λ (v : List ℕ → _). level (nodes_given v) n a b ≡ Ok (s, t)) at.invariant.same
          (c.in_ok-descend.ensures.opened n e)));
      wanted = c.in_ok-descend.ensures.wanted ∙ at.invariant.wanted;
      counted = omega (arith, k, l);
    }

pub returns-in_err-descend-clause-stopped : goal.returns-in_err-descend-clause-stopped
returns-in_err-descend-clause-stopped g c =
    let p = err_from_is_err_and c.from_residual-in_err-descend.result c.from_residual-in_err-descend.ensures.1 in
    let at = c.layers in
    let gives = g.S.Source.gives c.args.src.now in
    let shows = nodes_given gives in
    let lay = layer g.D.Digest.digest_of g.row.B in
    let a = side_in at.old_side in
    let b = side_in at.new_side in
    let a0 = side_in c.in_ok-old_side.old_side in
    let b0 = side_in c.in_ok-new_side.new_side in
    let e = c.in_ok-new_side.ensures.same ∙ c.in_ok-old_side.ensures.same in
    let start = starts shows lay c.args.old c.args.new a0 b0 c.in_ok-old_side.ensures.start
    (subst (λ (v : List ℕ → _). IsStart (nodes_given v) lay c.args.new b0) c.in_ok-old_side.ensures.same
    c.in_ok-new_side.ensures.start) in
    let so_far : compared shows lay c.args.old c.args.new ≡ levels shows (max a.left b.left) a b =
    start ∙ subst (λ (v : List ℕ → _). levels (nodes_given v) (max a0.left b0.left) a0 b0
    ≡ levels (nodes_given v) (max a.left b.left) a b) e at.invariant.opened_so in
    let fault = c.in_err-descend.field-0.0 in
    let some : 0 < max a.left b.left = omega (arith, c.layers-test.true, c.layers_left.ensures) in
    rw (p.1, p.2)
    (levels-stop shows (compared shows lay c.args.old c.args.new) (max a.left b.left) a b so_far gives fault some
    (λ n q. (subst (λ (v : List ℕ → _). IsStopped v (level (nodes_given v) n a b) fault) (at.invariant.same ∙ e)
    (c.in_err-descend.ensures.stopped n q))))

pub returns-clause-opened : goal.returns-clause-opened
returns-clause-opened g c =
    let at = c.layers in
    let shows = nodes_given (g.S.Source.gives c.args.src.now) in
    let lay = layer g.D.Digest.digest_of g.row.B in
    let a = side_in at.old_side in
    let b = side_in at.new_side in
    let a0 = side_in c.in_ok-old_side.old_side in
    let b0 = side_in c.in_ok-new_side.new_side in
    let e = c.in_ok-new_side.ensures.same ∙ c.in_ok-old_side.ensures.same in
    let start = starts shows lay c.args.old c.args.new a0 b0 c.in_ok-old_side.ensures.start
    (subst (λ (v : List ℕ → _). IsStart (nodes_given v) lay c.args.new b0) c.in_ok-old_side.ensures.same
    c.in_ok-new_side.ensures.start) in
    let so_far : compared shows lay c.args.old c.args.new ≡ levels shows (max a.left b.left) a b =
    start ∙ subst (λ (v : List ℕ → _). levels (nodes_given v) (max a0.left b0.left) a0 b0
    ≡ levels (nodes_given v) (max a.left b.left) a b) e at.invariant.opened_so in
    let none : max a.left b.left ≡ 0 = omega (arith, c.layers-test.false, c.layers_left.ensures) in
    levels-end shows (compared shows lay c.args.old c.args.new) (max a.left b.left) a b so_far none

pub returns-clause-old_begun : goal.returns-clause-old_begun
returns-clause-old_begun g c =
    subst (λ (v : List ℕ → _). HasBegun v c.layers.old_side)
    (c.layers.invariant.same ∙ c.in_ok-new_side.ensures.same ∙ c.in_ok-old_side.ensures.same) c.layers.invariant.old_begun

pub returns-clause-new_begun : goal.returns-clause-new_begun
returns-clause-new_begun g c =
    subst (λ (v : List ℕ → _). HasBegun v c.layers.new_side)
    (c.layers.invariant.same ∙ c.in_ok-new_side.ensures.same ∙ c.in_ok-old_side.ensures.same) c.layers.invariant.new_begun

pub returns-clause-counted : goal.returns-clause-counted
returns-clause-counted g c =
    let k = c.layers.invariant.counted in
    let a = c.in_ok-old_side.ensures.counted in
    let b = c.in_ok-new_side.ensures.counted in
    let d = c.in_ok-old_side.ensures.waits in
    let e = c.in_ok-new_side.ensures.waits in
    omega (arith, k, a, b, d, e)

pub returns-clause-same : goal.returns-clause-same
returns-clause-same g c =
    c.layers.invariant.same ∙ c.in_ok-new_side.ensures.same ∙ c.in_ok-old_side.ensures.same

pub returns-in_err-descend-clause-needs : goal.returns-in_err-descend-clause-needs
returns-in_err-descend-clause-needs g c = λ w.
    let p = err_from_is_err_and c.from_residual-in_err-descend.result c.from_residual-in_err-descend.ensures.1 in
    let at = c.layers in
    let gives = g.S.Source.gives c.args.src.now in
    let shows = nodes_given gives in
    let lay = layer g.D.Digest.digest_of g.row.B in
    let a = side_in at.old_side in
    let b = side_in at.new_side in
    let a0 = side_in c.in_ok-old_side.old_side in
    let b0 = side_in c.in_ok-new_side.new_side in
    let e = c.in_ok-new_side.ensures.same ∙ c.in_ok-old_side.ensures.same in
    let start = needed-starts shows lay c.args.old c.args.new a0 b0 c.in_ok-old_side.ensures.start
    (subst (λ (v : List ℕ → _). IsStart (nodes_given v) lay c.args.new b0) c.in_ok-old_side.ensures.same
    c.in_ok-new_side.ensures.start) in
    let so_far : reached_from shows a0 b0 ≡ reached shows (max a.left b.left) a b =
    subst (λ (v : List ℕ → _). reached (nodes_given v) (max a0.left b0.left) a0 b0
    ≡ reached (nodes_given v) (max a.left b.left) a b) e at.invariant.reached_so in
    let fault = c.in_err-descend.field-0.0 in
    let some : 0 < max a.left b.left = omega (arith, c.layers-test.true, c.layers_left.ensures) in
    let stop = reached-missing gives shows (max a.left b.left) a b fault some
    (λ n q. (subst (λ (v : List ℕ → _). IsStopped v (level (nodes_given v) n a b) fault) (at.invariant.same ∙ e)
    (c.in_err-descend.ensures.stopped n q))) in
    let cids = c.descend.new.needs.cids.items in
    rw (p.1, p.2)
    (missing-both fault (cids ≡ needed_by a b) (reached shows (max a.left b.left) a b ≡ (max a.left b.left, a, b))
    (cids ≡ needed_last shows lay c.args.old c.args.new)
    (λ h k. (h ∙ ap needed_in (sym k) ∙ ap needed_in (sym so_far) ∙ sym start))
    (c.in_err-descend.ensures.needs (at.invariant.wanted ∙ w)) stop)

pub returns-in_err-descend-clause-most : goal.returns-in_err-descend-clause-most
returns-in_err-descend-clause-most g c =
    let p = err_from_is_err_and c.from_residual-in_err-descend.result c.from_residual-in_err-descend.ensures.1 in
    let at = c.layers in
    let gives = g.S.Source.gives c.args.src.now in
    let shows = nodes_given gives in
    let lay = layer g.D.Digest.digest_of g.row.B in
    let a = side_in at.old_side in
    let b = side_in at.new_side in
    let a0 = side_in c.in_ok-old_side.old_side in
    let b0 = side_in c.in_ok-new_side.new_side in
    let e = c.in_ok-new_side.ensures.same ∙ c.in_ok-old_side.ensures.same in
    let second = subst (λ (v : List ℕ → _). IsStart (nodes_given v) lay c.args.new b0) c.in_ok-old_side.ensures.same
    c.in_ok-new_side.ensures.start in
    let needed = needed-starts shows lay c.args.old c.args.new a0 b0 c.in_ok-old_side.ensures.start second in
    let read = read-starts shows lay c.args.old c.args.new a0 b0 c.in_ok-old_side.ensures.start second in
    let so_far : reached_from shows a0 b0 ≡ reached shows (max a.left b.left) a b =
    subst (λ (v : List ℕ → _). reached (nodes_given v) (max a0.left b0.left) a0 b0
    ≡ reached (nodes_given v) (max a.left b.left) a b) e at.invariant.reached_so in
    let fault = c.in_err-descend.field-0.0 in
    let some : 0 < max a.left b.left = omega (arith, c.layers-test.true, c.layers_left.ensures) in
    let stop = reached-missing gives shows (max a.left b.left) a b fault some
    (λ n q. (subst (λ (v : List ℕ → _). IsStopped v (level (nodes_given v) n a b) fault) (at.invariant.same ∙ e)
    (c.in_err-descend.ensures.stopped n q))) in
    let x = begun-asked (g.S.Source.gives at.src) (rows_of at.old_side.line.rows.items) at.old_side.line.last at.old_side.top
    at.old_side.read.items at.invariant.old_begun in
    let y = begun-asked (g.S.Source.gives at.src) (rows_of at.new_side.line.rows.items) at.new_side.line.last at.new_side.top
    at.new_side.read.items at.invariant.new_begun in
    let ra = at.old_side.read.items in
    let rb = at.new_side.read.items in
    let before = g.S.Source.reads c.args.src.now in
    let now = g.S.Source.reads c.descend.new.src in
    rw (p.1, p.2)
    (missing-then fault (reached shows (max a.left b.left) a b ≡ (max a.left b.left, a, b))
    (now ≤ before + most_read shows lay c.args.old c.args.new)
    (λ k. (let place = so_far ∙ k in
    let all = ap length (needed ∙ ap needed_in place) in
    let first = read ∙ ap read_in place ∙ read-lengths (max a.left b.left) a b ra rb refl refl in
    subst (λ n. now ≤ before + (read_before shows lay c.args.old c.args.new + n)) (sym all)
    (most-here before (g.S.Source.reads c.new.new.src) (g.S.Source.reads c.new-2.new.src) (g.S.Source.reads at.src) now
    (asked_by c.in_ok-old_side.old_side) (asked_by c.in_ok-new_side.new_side) (asked_by at.old_side) (asked_by at.new_side)
    (length ra) (length rb) (length (needed_by a b)) (read_before shows lay c.args.old c.args.new)
    c.in_ok-old_side.ensures.counted c.in_ok-new_side.ensures.counted c.in_ok-old_side.ensures.waits
    c.in_ok-new_side.ensures.waits at.invariant.counted x y first c.in_err-descend.ensures.most))) stop)
