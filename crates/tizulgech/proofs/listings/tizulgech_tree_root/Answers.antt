use Rattle.std.proofs.Common.{◌≡◌, rules, true, false, List}
use Rattle.std.specs.Prelude.{Some}
use Rattle.spec.specs.NodeFormat.{is_ascending}
use Rattle.spec.specs.Tree.{Pair}
use Rattle.scratch.specs.Pairs.{pairs_of}
use Rattle.tizulgech.specs.Trees.{listing}
use Rattle.tizulgech.proofs.Rows.{sorted, unsorted}
use Rattle.tizulgech.proofs.listings.tizulgech_tree_root.Goals as goal

pub returns-then-not-is_ascending-clause-answer : goal.returns-then-not-is_ascending-clause-answer
returns-then-not-is_ascending-clause-answer c _ =
    let es : List Pair = pairs_of (λ key. key.items) c.in-Some.pairs.items in
    let no : is_ascending es ≡ false = search rules in
    let is : Some es ≡ listing c.args.keys.now c.args.ends.now c.args.cids.now = search rules in
    unsorted _ _ es _ no is

pub returns-clause-answer : goal.returns-clause-answer
returns-clause-answer c _ =
    let es : List Pair = pairs_of (λ key. key.items) c.in-Some.pairs.items in
    let yes : is_ascending es ≡ true = search rules in
    let is : Some es ≡ listing c.args.keys.now c.args.ends.now c.args.cids.now = search rules in
    sorted _ _ _ es _ yes is (search rules)
