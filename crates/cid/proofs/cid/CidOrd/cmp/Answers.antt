use Rattle.std.proofs.Common.{◌≡◌, ℕ, List, take, drop, ap, ◌∙◌, rules}
use Rattle.std.specs.Cmp.Lexicographic.{slice_cmp}
use Rattle.std.specs.Int.{w64, from_be_bytes}
use Rattle.std.specs.Ordering.{nat_cmp}
use Rattle.cid.proofs.Ordering.{decided, fronts-decide}
use Rattle.cid.proofs.cid.CidOrd.cmp.Goals as goal

pub returns-in_default : goal.returns-in_default
returns-in_default c =
    let x = c.self.inside.bytes in
    let y = c.other.inside.bytes in
    let fronts : c.cmp.result ≡ nat_cmp (from_be_bytes w64 (take 8 (drop 4 x))) (from_be_bytes w64 (take 8 (drop 4 y))) =
    c.cmp.ensures ∙ ap (λ (n : ℕ). nat_cmp n c.front-2.result) c.front.ensures.value
    ∙ ap (nat_cmp (from_be_bytes w64 (take 8 (drop 4 x)))) c.front-2.ensures.value in
    decided _ _ _ _ c.in_default.not-Equal fronts (fronts-decide x y c.self.invariant c.other.invariant c.front.ensures.fits c.front-2.ensures.fits)
    ∙ ap (λ (l : List ℕ). slice_cmp nat_cmp l y) c.self.view_is
    ∙ ap (slice_cmp nat_cmp c.args.self.now) c.other.view_is

pub returns-in-Equal : goal.returns-in-Equal
returns-in-Equal c = search rules
