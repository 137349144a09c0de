use Rattle.std.proofs.Common.{◌≡◌, ◌∙◌, ◌<◌, ℕ, List, inl, inr, ap, length, refl, subst, sym, arith}
use Rattle.std.proofs.lemmas.Result.{err_from_is_err_and}
use Rattle.lookups.specs.Steps.{nodes_given}
use Rattle.difference_laws.specs.Lines.{level, links_in, opened, without}
use Rattle.difference.specs.Missing.{needed_by}
use Rattle.difference.specs.Sides.{IsStopped, line_of}
use Rattle.difference.specs.Starts.{HasBegun, side_in}
use Rattle.difference.proofs.Levels.{first-stops, level-both, level-new, level-old, level-repeats, links-none, links-some, new-stops, old-stops, stopped-through, then-stops}
use Rattle.difference.proofs.Needing.{both-lengths, if-missing, needed-both, needed-new, needed-old, noted-both, noted-whole}
use Rattle.difference.proofs.Opens.{without-empty, without-set}
use Rattle.difference.proofs.comparing.descend.Goals as goal

pub returns-in_default-clause-stopped : goal.returns-in_default-clause-stopped
returns-in_default-clause-stopped g c = λ n m.
    level-repeats (nodes_given (g.S.Source.gives c.args.src.now)) n (side_in c.args.old.now) (side_in c.args.new.now)
    (inl (links-none (links_in (line_of c.args.old.now.line)) c.in_ok-ours.field-0 c.in_ok-ours.ensures c.in_default.is))

pub returns-in_default-2-clause-stopped : goal.returns-in_default-2-clause-stopped
returns-in_default-2-clause-stopped g c = λ n m.
    level-repeats (nodes_given (g.S.Source.gives c.args.src.now)) n (side_in c.args.old.now) (side_in c.args.new.now)
    (inr (links-none (links_in (line_of c.args.new.now.line)) c.in_ok-theirs.field-0 c.in_ok-theirs.ensures c.in_default-2.is))

pub open-requires : goal.open-requires
open-requires g c κs = ((refl, tt), c.requires.old_begun)

pub open-requires-then-old-new-2 : goal.open-requires-then-old-new-2
open-requires-then-old-new-2 g c κs = ((refl, tt), c.requires.new_begun)

pub open-requires-2 : goal.open-requires-2
open-requires-2 g c κs = ((refl, tt), c.requires.old_begun)

pub open-requires-3 : goal.open-requires-3
open-requires-3 g c κs = (
  (refl, tt),
  subst (λ (v : List ℕ → _). HasBegun v c.args.new.now) (sym c.in_ok-open-3.ensures.same) c.requires.new_begun,
)

pub returns-in_err-open-clause-stopped : goal.returns-in_err-open-clause-stopped
returns-in_err-open-clause-stopped g c = λ n m.
    let p = err_from_is_err_and c.from_residual-in_err-open.result c.from_residual-in_err-open.ensures.1 in
    let gives = g.S.Source.gives c.args.src.now in
    let shows = nodes_given gives in
    let a = side_in c.args.old.now in
    let b = side_in c.args.new.now in
    let ra = (links-some (links_in a.line) c.in_ok-ours.field-0 c.in-Some.ours c.in_ok-ours.ensures c.in-Some.is).1 in
    let rb = (links-some (links_in b.line) c.in_ok-theirs.field-0 c.in-Some-2.theirs c.in_ok-theirs.ensures c.in-Some-2.is).1 in
    let whole = without-empty c.new-none.result c.new-none.ensures.empty a.line in
    rw (p.1, p.2)
    (stopped-through gives (opened shows a.line a.read) (level shows n a b) c.in_err-open.field-0.0
    (λ e. old-stops shows n a b ra rb e m c.if-old-new.true)
    (subst (λ s. IsStopped gives (opened shows s a.read) c.in_err-open.field-0.0) whole c.in_err-open.ensures.stopped))

pub returns-then-old-new-clause-opened : goal.returns-then-old-new-clause-opened
returns-then-old-new-clause-opened g c = λ n m.
    let shows = nodes_given (g.S.Source.gives c.args.src.now) in
    let a = side_in c.args.old.now in
    let b = side_in c.args.new.now in
    let ra = (links-some (links_in a.line) c.in_ok-ours.field-0 c.in-Some.ours c.in_ok-ours.ensures c.in-Some.is).1 in
    let rb = (links-some (links_in b.line) c.in_ok-theirs.field-0 c.in-Some-2.theirs c.in_ok-theirs.ensures c.in-Some-2.is).1 in
    let whole = without-empty c.new-none.result c.new-none.ensures.empty a.line in
    level-old shows n a b ra rb (side_in c.open.new.self) m c.if-old-new.true
    (ap (λ s. opened shows s a.read) (sym whole) ∙ c.in_ok-open.ensures.opened) c.in_ok-open.ensures.left

pub returns-then-old-new-clause-left : goal.returns-then-old-new-clause-left
returns-then-old-new-clause-left g c =
    let l = c.in_ok-open.ensures.left in let k = c.if-old-new.true in omega (arith, l, k)

pub returns-in_err-open-2-clause-stopped : goal.returns-in_err-open-2-clause-stopped
returns-in_err-open-2-clause-stopped g c = λ n m.
    let p = err_from_is_err_and c.from_residual-in_err-open-2.result c.from_residual-in_err-open-2.ensures.1 in
    let gives = g.S.Source.gives c.args.src.now in
    let shows = nodes_given gives in
    let a = side_in c.args.old.now in
    let b = side_in c.args.new.now in
    let ra = (links-some (links_in a.line) c.in_ok-ours.field-0 c.in-Some.ours c.in_ok-ours.ensures c.in-Some.is).1 in
    let rb = (links-some (links_in b.line) c.in_ok-theirs.field-0 c.in-Some-2.theirs c.in_ok-theirs.ensures c.in-Some-2.is).1 in
    let whole = without-empty c.new-none-then-old-new-2.result c.new-none-then-old-new-2.ensures.empty b.line in
    rw (p.1, p.2)
    (stopped-through gives (opened shows b.line b.read) (level shows n a b) c.in_err-open-2.field-0.0
    (λ e. new-stops shows n a b ra rb e m c.if-old-new-2.true)
    (subst (λ s. IsStopped gives (opened shows s b.read) c.in_err-open-2.field-0.0) whole c.in_err-open-2.ensures.stopped))

pub returns-then-old-new-2-clause-opened : goal.returns-then-old-new-2-clause-opened
returns-then-old-new-2-clause-opened g c = λ n m.
    let shows = nodes_given (g.S.Source.gives c.args.src.now) in
    let a = side_in c.args.old.now in
    let b = side_in c.args.new.now in
    let ra = (links-some (links_in a.line) c.in_ok-ours.field-0 c.in-Some.ours c.in_ok-ours.ensures c.in-Some.is).1 in
    let rb = (links-some (links_in b.line) c.in_ok-theirs.field-0 c.in-Some-2.theirs c.in_ok-theirs.ensures c.in-Some-2.is).1 in
    let whole = without-empty c.new-none-then-old-new-2.result c.new-none-then-old-new-2.ensures.empty b.line in
    level-new shows n a b ra rb (side_in c.open-then-old-new-2.new.self) m c.if-old-new-2.true
    (ap (λ s. opened shows s b.read) (sym whole) ∙ c.in_ok-open-2.ensures.opened) c.in_ok-open-2.ensures.left

pub returns-then-old-new-2-clause-left : goal.returns-then-old-new-2-clause-left
returns-then-old-new-2-clause-left g c =
    let l = c.in_ok-open-2.ensures.left in let k = c.if-old-new-2.true in omega (arith, l, k)

pub returns-in_err-open-3-clause-stopped : goal.returns-in_err-open-3-clause-stopped
returns-in_err-open-3-clause-stopped g c = λ n m.
    let p = err_from_is_err_and c.from_residual-in_err-open-3.result c.from_residual-in_err-open-3.ensures.1 in
    let gives = g.S.Source.gives c.args.src.now in
    let shows = nodes_given gives in
    let a = side_in c.args.old.now in
    let b = side_in c.args.new.now in
    let ours = links-some (links_in a.line) c.in_ok-ours.field-0 c.in-Some.ours c.in_ok-ours.ensures c.in-Some.is in
    let theirs = links-some (links_in b.line) c.in_ok-theirs.field-0 c.in-Some-2.theirs c.in_ok-theirs.ensures c.in-Some-2.is in
    let same : a.left ≡ b.left = omega (arith, c.if-old-new.false, c.if-old-new-2.false) in
    let whole = without-set (links_in b.line) c.in-Some-2.theirs theirs.0 a.line in
    rw (p.1, p.2)
    (stopped-through gives (opened shows (without (links_in b.line) a.line) a.read) (level shows n a b) c.in_err-open-3.field-0.0
    (λ e. first-stops shows n a b ours.1 theirs.1 m same e)
    (subst (λ s. IsStopped gives (opened shows s a.read) c.in_err-open-3.field-0.0) whole c.in_err-open-3.ensures.stopped))

pub returns-in_err-open-4-clause-stopped : goal.returns-in_err-open-4-clause-stopped
returns-in_err-open-4-clause-stopped g c = λ n m.
    let p = err_from_is_err_and c.from_residual-in_err-open-4.result c.from_residual-in_err-open-4.ensures.1 in
    let gives = g.S.Source.gives c.args.src.now in
    let shows = nodes_given gives in
    let a = side_in c.args.old.now in
    let b = side_in c.args.new.now in
    let ours = links-some (links_in a.line) c.in_ok-ours.field-0 c.in-Some.ours c.in_ok-ours.ensures c.in-Some.is in
    let theirs = links-some (links_in b.line) c.in_ok-theirs.field-0 c.in-Some-2.theirs c.in_ok-theirs.ensures c.in-Some-2.is in
    let same : a.left ≡ b.left = omega (arith, c.if-old-new.false, c.if-old-new-2.false) in
    let first = without-set (links_in b.line) c.in-Some-2.theirs theirs.0 a.line in
    let then = without-set (links_in a.line) c.in-Some.ours ours.0 b.line in
    let fault = c.in_err-open-4.field-0.0 in
    rw (p.1, p.2)
    (stopped-through gives (opened shows (without (links_in a.line) b.line) b.read) (level shows n a b) fault
    (λ e. then-stops shows n a b ours.1 theirs.1 m same (side_in c.open-2.new.self) e
    (ap (λ s. opened shows s a.read) (sym first) ∙ c.in_ok-open-3.ensures.opened) c.in_ok-open-3.ensures.left)
    (subst (λ s. IsStopped gives (opened shows s b.read) fault) then
    (subst (λ (v : List ℕ → _). IsStopped v (opened (nodes_given v) (without c.in-Some.ours.keys b.line) b.read) fault)
    c.in_ok-open-3.ensures.same c.in_err-open-4.ensures.stopped)))

pub returns-clause-opened : goal.returns-clause-opened
returns-clause-opened g c = λ n m.
    let shows = nodes_given (g.S.Source.gives c.args.src.now) in
    let a = side_in c.args.old.now in
    let b = side_in c.args.new.now in
    let s = side_in c.open-2.new.self in
    let t = side_in c.open-3.new.self in
    let ours = links-some (links_in a.line) c.in_ok-ours.field-0 c.in-Some.ours c.in_ok-ours.ensures c.in-Some.is in
    let theirs = links-some (links_in b.line) c.in_ok-theirs.field-0 c.in-Some-2.theirs c.in_ok-theirs.ensures c.in-Some-2.is in
    let same : a.left ≡ b.left = omega (arith, c.if-old-new.false, c.if-old-new-2.false) in
    let first = without-set (links_in b.line) c.in-Some-2.theirs theirs.0 a.line in
    let then = without-set (links_in a.line) c.in-Some.ours ours.0 b.line in
    level-both shows n a b ours.1 theirs.1 m same s t
    (ap (λ z. opened shows z a.read) (sym first) ∙ c.in_ok-open-3.ensures.opened) c.in_ok-open-3.ensures.left
    (ap (λ z. opened shows z b.read) (sym then)
    ∙ (λ i. opened (nodes_given (sym c.in_ok-open-3.ensures.same i)) (without c.in-Some.ours.keys b.line) b.read)
    ∙ c.in_ok-open-4.ensures.opened) c.in_ok-open-4.ensures.left

pub returns-clause-left : goal.returns-clause-left
returns-clause-left g c =
    let k = c.in_ok-open-3.ensures.left in
    let l = c.in_ok-open-4.ensures.left in
    let s = c.requires.some in
    omega (arith, c.if-old-new.false, c.if-old-new-2.false, k, l, s)

pub returns-clause-old_begun : goal.returns-clause-old_begun
returns-clause-old_begun g c = c.in_ok-open-3.ensures.begun

pub returns-clause-new_begun : goal.returns-clause-new_begun
returns-clause-new_begun g c =
    subst (λ (v : List ℕ → _). HasBegun v c.open-3.new.self) c.in_ok-open-3.ensures.same c.in_ok-open-4.ensures.begun

pub returns-clause-counted : goal.returns-clause-counted
returns-clause-counted g c =
    let k = c.in_ok-open-3.ensures.counted in let l = c.in_ok-open-4.ensures.counted in omega (arith, k, l)

pub returns-clause-same : goal.returns-clause-same
returns-clause-same g c = c.in_ok-open-4.ensures.same ∙ c.in_ok-open-3.ensures.same

pub returns-then-old-new-clause-counted : goal.returns-then-old-new-clause-counted
returns-then-old-new-clause-counted g c = let k = c.in_ok-open.ensures.counted in omega (arith, k)

pub returns-then-old-new-2-clause-counted : goal.returns-then-old-new-2-clause-counted
returns-then-old-new-2-clause-counted g c = let k = c.in_ok-open-2.ensures.counted in omega (arith, k)

pub returns-in_err-open-clause-needs : goal.returns-in_err-open-clause-needs
returns-in_err-open-clause-needs g c = λ w.
    let p = err_from_is_err_and c.from_residual-in_err-open.result c.from_residual-in_err-open.ensures.1 in
    let a = side_in c.args.old.now in
    let b = side_in c.args.new.now in
    rw (p.1, p.2)
    (if-missing c.in_err-open.field-0.0 (c.add.new.self.cids.items ≡ needed_by a b)
    (noted-whole c.new-none.result c.new-none.ensures.empty a.line c.clear.new.self.cids.items c.add.new.self.cids.items
    c.clear.ensures.cids (c.in_ok-add.ensures.cids (c.clear.ensures.wanted ∙ w)) ∙ sym (needed-old a b c.if-old-new.true)))

pub returns-in_err-open-2-clause-needs : goal.returns-in_err-open-2-clause-needs
returns-in_err-open-2-clause-needs g c = λ w.
    let p = err_from_is_err_and c.from_residual-in_err-open-2.result c.from_residual-in_err-open-2.ensures.1 in
    let a = side_in c.args.old.now in
    let b = side_in c.args.new.now in
    rw (p.1, p.2)
    (if-missing c.in_err-open-2.field-0.0 (c.add-then-old-new-2.new.self.cids.items ≡ needed_by a b)
    (noted-whole c.new-none-then-old-new-2.result c.new-none-then-old-new-2.ensures.empty b.line c.clear.new.self.cids.items
    c.add-then-old-new-2.new.self.cids.items c.clear.ensures.cids
    (c.in_ok-add-2.ensures.cids (c.clear.ensures.wanted ∙ w)) ∙ sym (needed-new a b c.if-old-new-2.true)))

pub returns-in_err-open-3-clause-needs : goal.returns-in_err-open-3-clause-needs
returns-in_err-open-3-clause-needs g c = λ w.
    let p = err_from_is_err_and c.from_residual-in_err-open-3.result c.from_residual-in_err-open-3.ensures.1 in
    let a = side_in c.args.old.now in
    let b = side_in c.args.new.now in
    let ours = links-some (links_in a.line) c.in_ok-ours.field-0 c.in-Some.ours c.in_ok-ours.ensures c.in-Some.is in
    let theirs = links-some (links_in b.line) c.in_ok-theirs.field-0 c.in-Some-2.theirs c.in_ok-theirs.ensures c.in-Some-2.is in
    let same : a.left ≡ b.left = omega (arith, c.if-old-new.false, c.if-old-new-2.false) in
    let some : 0 < a.left = let s = c.requires.some in omega (arith, s) in
    let w2 = c.clear.ensures.wanted ∙ w in
    let w3 = c.in_ok-add-3.ensures.wanted ∙ w2 in
    rw (p.1, p.2)
    (if-missing c.in_err-open-3.field-0.0 (c.add-3.new.self.cids.items ≡ needed_by a b)
    (noted-both c.in-Some.ours c.in-Some-2.theirs a.line b.line ours.0 theirs.0 c.clear.new.self.cids.items
    c.add-2.new.self.cids.items c.add-3.new.self.cids.items c.clear.ensures.cids (c.in_ok-add-3.ensures.cids w2)
    (c.in_ok-add-4.ensures.cids w3) ∙ sym (needed-both a b same some)))

pub returns-in_err-open-4-clause-needs : goal.returns-in_err-open-4-clause-needs
returns-in_err-open-4-clause-needs g c = λ w.
    let p = err_from_is_err_and c.from_residual-in_err-open-4.result c.from_residual-in_err-open-4.ensures.1 in
    let a = side_in c.args.old.now in
    let b = side_in c.args.new.now in
    let ours = links-some (links_in a.line) c.in_ok-ours.field-0 c.in-Some.ours c.in_ok-ours.ensures c.in-Some.is in
    let theirs = links-some (links_in b.line) c.in_ok-theirs.field-0 c.in-Some-2.theirs c.in_ok-theirs.ensures c.in-Some-2.is in
    let same : a.left ≡ b.left = omega (arith, c.if-old-new.false, c.if-old-new-2.false) in
    let some : 0 < a.left = let s = c.requires.some in omega (arith, s) in
    let w2 = c.clear.ensures.wanted ∙ w in
    let w3 = c.in_ok-add-3.ensures.wanted ∙ w2 in
    rw (p.1, p.2)
    (if-missing c.in_err-open-4.field-0.0 (c.add-3.new.self.cids.items ≡ needed_by a b)
    (noted-both c.in-Some.ours c.in-Some-2.theirs a.line b.line ours.0 theirs.0 c.clear.new.self.cids.items
    c.add-2.new.self.cids.items c.add-3.new.self.cids.items c.clear.ensures.cids (c.in_ok-add-3.ensures.cids w2)
    (c.in_ok-add-4.ensures.cids w3) ∙ sym (needed-both a b same some)))

-- how often the sides ask in all, where both are opened
pub returns-in_err-open-3-clause-most : goal.returns-in_err-open-3-clause-most
returns-in_err-open-3-clause-most g c =
    let a = side_in c.args.old.now in
    let b = side_in c.args.new.now in
    let ours = links-some (links_in a.line) c.in_ok-ours.field-0 c.in-Some.ours c.in_ok-ours.ensures c.in-Some.is in
    let theirs = links-some (links_in b.line) c.in_ok-theirs.field-0 c.in-Some-2.theirs c.in_ok-theirs.ensures c.in-Some-2.is in
    let same : a.left ≡ b.left = omega (arith, c.if-old-new.false, c.if-old-new-2.false) in
    let some : 0 < a.left = let s = c.requires.some in omega (arith, s) in
    let k = c.in_err-open-3.ensures.most in
    let all = both-lengths a b same some c.in-Some.ours c.in-Some-2.theirs ours.0 theirs.0 in
    omega (arith, k, all)

pub returns-in_err-open-4-clause-most : goal.returns-in_err-open-4-clause-most
returns-in_err-open-4-clause-most g c =
    let a = side_in c.args.old.now in
    let b = side_in c.args.new.now in
    let ours = links-some (links_in a.line) c.in_ok-ours.field-0 c.in-Some.ours c.in_ok-ours.ensures c.in-Some.is in
    let theirs = links-some (links_in b.line) c.in_ok-theirs.field-0 c.in-Some-2.theirs c.in_ok-theirs.ensures c.in-Some-2.is in
    let same : a.left ≡ b.left = omega (arith, c.if-old-new.false, c.if-old-new-2.false) in
    let some : 0 < a.left = let s = c.requires.some in omega (arith, s) in
    let k = c.in_ok-open-3.ensures.most in
    let l = c.in_err-open-4.ensures.most in
    let all = both-lengths a b same some c.in-Some.ours c.in-Some-2.theirs ours.0 theirs.0 in
    omega (arith, k, l, all)

pub returns-clause-most : goal.returns-clause-most
returns-clause-most g c =
    let a = side_in c.args.old.now in
    let b = side_in c.args.new.now in
    let ours = links-some (links_in a.line) c.in_ok-ours.field-0 c.in-Some.ours c.in_ok-ours.ensures c.in-Some.is in
    let theirs = links-some (links_in b.line) c.in_ok-theirs.field-0 c.in-Some-2.theirs c.in_ok-theirs.ensures c.in-Some-2.is in
    let same : a.left ≡ b.left = omega (arith, c.if-old-new.false, c.if-old-new-2.false) in
    let some : 0 < a.left = let s = c.requires.some in omega (arith, s) in
    let k = c.in_ok-open-3.ensures.most in
    let l = c.in_ok-open-4.ensures.most in
    let all = both-lengths a b same some c.in-Some.ours c.in-Some-2.theirs ours.0 theirs.0 in
    omega (arith, k, l, all)

pub returns-in_err-open-clause-most : goal.returns-in_err-open-clause-most
returns-in_err-open-clause-most g c =
    let a = side_in c.args.old.now in
    let b = side_in c.args.new.now in
    let k = c.in_err-open.ensures.most in
    let all = ap length (needed-old a b c.if-old-new.true
    ∙ ap links_in (sym (without-empty c.new-none.result c.new-none.ensures.empty a.line))) in
    omega (arith, k, all)

pub returns-then-old-new-clause-most : goal.returns-then-old-new-clause-most
returns-then-old-new-clause-most g c =
    let a = side_in c.args.old.now in
    let b = side_in c.args.new.now in
    let k = c.in_ok-open.ensures.most in
    let all = ap length (needed-old a b c.if-old-new.true
    ∙ ap links_in (sym (without-empty c.new-none.result c.new-none.ensures.empty a.line))) in
    omega (arith, k, all)

pub returns-in_err-open-2-clause-most : goal.returns-in_err-open-2-clause-most
returns-in_err-open-2-clause-most g c =
    let a = side_in c.args.old.now in
    let b = side_in c.args.new.now in
    let k = c.in_err-open-2.ensures.most in
    let all = ap length (needed-new a b c.if-old-new-2.true
    ∙ ap links_in (sym (without-empty c.new-none-then-old-new-2.result c.new-none-then-old-new-2.ensures.empty b.line))) in
    omega (arith, k, all)

pub returns-then-old-new-2-clause-most : goal.returns-then-old-new-2-clause-most
returns-then-old-new-2-clause-most g c =
    let a = side_in c.args.old.now in
    let b = side_in c.args.new.now in
    let k = c.in_ok-open-2.ensures.most in
    let all = ap length (needed-new a b c.if-old-new-2.true
    ∙ ap links_in (sym (without-empty c.new-none-then-old-new-2.result c.new-none-then-old-new-2.ensures.empty b.line))) in
    omega (arith, k, all)
