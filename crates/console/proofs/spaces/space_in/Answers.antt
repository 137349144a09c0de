use Rattle.std.proofs.Common.{◌≡◌, ℕ, ◌≤◌, Bool, true, false, cond, Option, Some, None, ltb, refl, ap, ◌∙◌, arith, rules, tests, length}
use Rattle.std.specs.Option.{unwrap_or}
use Rattle.std.specs.List.{position_or_len}
use Rattle.std.proofs.lemmas.Iterator.{YieldsList-from_slice}
use Rattle.std.proofs.lemmas.Iterator.Search.{position_from_yields_List}
use Rattle.std.proofs.lemmas.Bool.{ltb-false}
use Rattle.std.proofs.lemmas.List.Sums.{prefix_len-le-length}
use Rattle.std.specs.Prelude.{not}
use Rattle.console.specs.Lines.{is_space}
use Rattle.console.proofs.spaces.space_in.Goals as goal

place : (p n : ℕ) (t : Bool) → ltb p n ≡ t → p ≤ n → unwrap_or (cond t (Some p) None) n ≡ p
place p n true e l = refl
place p n false e l = let h = ltb-false p n e in omega arith

pub returns-clause-place : goal.returns-clause-place
returns-clause-place c =
    let found = position_from_yields_List is_space _ _ c.position.result c.position.ensures.ran (YieldsList-from_slice c.args.line.now cc) (λ x b q k. search (rules, tests)) in
    let at = position_or_len is_space c.args.line.now in
    let n = length c.args.line.now in
    c.unwrap_or.ensures ∙ ap (λ (r : Option ℕ). unwrap_or r n) found
    ∙ place at n (ltb at n) refl (prefix_len-le-length (λ x. not (is_space x)) c.args.line.now)
