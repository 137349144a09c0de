use Rattle.std.proofs.Common.{ℕ, List, [], ◌++◌, drop, ap, ◌∙◌, arith}
use Rattle.tree_command.specs.Fronts.{filled as filled_of}
use Rattle.tree_command.proofs.Fronts.{filling}
use Rattle.tree_command.proofs.key.filled.Goals as goal

pub returns-clause-value : goal.returns-clause-value
returns-clause-value c =
    let m = c.min-length.result in
    ap (λ (l : List ℕ). l ++ drop m (filled_of 32 [])) c.copy_from_slice.ensures.after
    ∙ filling m 32 c.args.bytes.now (omega (arith, c.min-length.ensures)) (omega (arith, c.min-length.ensures)) (λ lt. omega (arith, c.min-length.ensures, lt))
