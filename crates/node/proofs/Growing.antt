-- Bytes that grow at their end.
use Rattle.std.proofs.Common.{◌≡◌, ℕ, ◌≤◌, List, ◌++◌, length, take, sym, ap, ◌∙◌, arith, length-append}
use Rattle.std.proofs.lemmas.List.{take-take, take-append-le, length-take}
use Rattle.node.specs.Bytes.{Extends}

-- what stood there before two steps stands there after them
pub Extends-through : (before middle more next after : List ℕ) → Extends before middle → next ≡ middle ++ more → Extends next after → Extends before after
Extends-through before middle more next after first step second =
    let short : length before ≤ length middle = omega (arith, ap length first, length-take (length before) middle) in
    let longer : length before ≤ length next = omega (arith, short, ap length step, length-append middle more) in
    sym (take-take (length before) (length next) after longer) ∙ ap (take (length before)) (second ∙ step) ∙ take-append-le (length before) middle more short ∙ first
