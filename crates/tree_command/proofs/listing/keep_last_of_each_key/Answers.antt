use Rattle.std.proofs.Common.{rules, ap, ◌∙◌, sym}
use Rattle.std.specs.Prelude.{filter}
use Rattle.std.specs.List.Sorted.{ties}
use Rattle.std.specs.Cmp.Lexicographic.{nat_list_cmp_total}
use Rattle.std.proofs.lemmas.List.Sorted.{ranks_by, answers_always}
use Rattle.std.proofs.lemmas.Fn.{dedup_same}
use Rattle.spec.specs.Tree.{Pair}
use Rattle.tree_command.specs.TreeText.{last_of_each_key}
use Rattle.tree_command.proofs.LastLines.{before, same, same_pairs, last_by_sorting}
use Rattle.tree_command.proofs.listing.keep_last_of_each_key.Goals as goal

pub returns : goal.returns
returns g c =
    let key = λ (e : Pair). e.0 in
    let cid = λ (e : Pair). e.1 in
    let sorted = c.in_ok-sort_by.ensures in
    let ranks = ranks_by nat_list_cmp_total key in
    let by = sorted.sorted (before key cid) ranks (answers_always _ _ _ (λ f a r f' k. search rules)) in
    let stable = sorted.stable (before key cid) ranks (answers_always _ _ _ (λ f a r f' k. search rules)) in
    let kept = dedup_same _ (same key cid) _ (λ x y b f' x' y' k. search rules) _ _ c.dedup_by.ensures.filtered in
    kept ∙ sym (same_pairs _) ∙ last_by_sorting key cid c.args.pairs.now.items c.sort_by.new.self.items by
    (λ x. stable x ∙ ap (filter (ties (before key cid) x)) c.reverse.ensures.items)
    ∙ ap last_of_each_key (same_pairs c.args.pairs.now.items)
