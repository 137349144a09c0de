use Rattle.std.proofs.Common.{map, ◌∙◌}
use Rattle.std.specs.Arc.{arc_value}
use Rattle.difference.specs.Differences.{IsDifferenceOf}
use Rattle.difference.specs.Merged.{changes_told}
use Rattle.difference_commands.proofs.Giving.{clash-of-both, compared-of}
use Rattle.difference_commands.proofs.trees.compare_trees.Goals as goal

pub returns-clause-difference : goal.returns-clause-difference
returns-clause-difference g c = λ es fs old new.
    let digest = g.D.Digest.digest_of in
    compared-of digest c.deref.result.now c.args.before c.args.after (c.deref.ensures.value ∙ c.in_ok-append.ensures.items) es fs old new
    (λ xs ys d. IsDifferenceOf digest 2 xs ys (changes_told d.changes.items) (map arc_value d.come.items) d.go.items)
    c.compare_blocks.result c.compare_blocks.ensures.difference c.compare_blocks.ensures.given

pub returns-clause-fault : goal.returns-clause-fault
returns-clause-fault g c = λ es fs old new.
    clash-of-both g.D.Digest.digest_of c.deref.result.now c.args.before c.args.after (c.deref.ensures.value ∙ c.in_ok-append.ensures.items) es fs old new
    c.compare_blocks.result c.compare_blocks.ensures.fault
