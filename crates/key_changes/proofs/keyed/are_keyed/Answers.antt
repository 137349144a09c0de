use Rattle.std.proofs.Common.{◌≡◌, ◌+◌, ◌-◌, true, ◌∷◌, map, drop, sym, subst, ◌∙◌, arith}
use Rattle.std.proofs.lemmas.Grind.{common_steps}
use Rattle.key_changes.specs.Keyed.{are_changes}
use Rattle.key_changes.proofs.Lists.{rest-of}
use Rattle.key_changes.proofs.Testing.{none-of, one-more}
use Rattle.key_changes.proofs.keyed.are_keyed.Goals as goal

pub returns-then-not-comes_first : goal.returns-then-not-comes_first
returns-then-not-comes_first g c =
    let seen = g.C.Keyed.change in
    let cs = c.args.changes.now in
    let i = c.loop-left.left - 1 in
    let x = c.index-changes-left.result in
    let next : c.loop-left.left ≡ i + 1 = omega arith in
    let so_far = subst (λ k. are_changes (map seen (drop k cs)) ≡ true) next c.loop-left.invariant.so_far in
    let first = subst (λ t. are_changes (map seen t) ≡ true → c.comes_first.result ≡ are_changes (map seen (x ∷ t)))
    (rest-of cs (i + 1)) c.comes_first.ensures so_far in
    sym (none-of seen cs i (sym (one-more seen cs i x c.comes_first.result (omega arith) c.index-changes-left.is first)
    ∙ c.if-not-comes_first.true))

pub loop-left-preserved : goal.loop-left-preserved
loop-left-preserved g c = grind (arith, common_steps)
