use Rattle.std.proofs.Common.{Vec, ℕ, List, rules, ap, ◌∙◌}
use Rattle.std.specs.Prelude.{filter}
use Rattle.std.specs.List.Sorted.{ties}
use Rattle.std.specs.Cmp.Lexicographic.{nat_list_cmp_total}
use Rattle.std.proofs.lemmas.List.Sorted.{ranks_by, answers_always}
use Rattle.std.proofs.lemmas.Fn.{dedup_same}
use Rattle.tree_command.proofs.LastLines.{before, same, last_by_sorting}
use Rattle.difference_commands.specs.Views.{keyed}
use Rattle.difference_commands.proofs.record_map.keep_last_of_each_key.Goals as goal

pub returns : goal.returns
returns g c =
    let key = λ (e : List ℕ × Vec ℕ g.row.A.Denot). e.0 in
    let value = λ (e : List ℕ × Vec ℕ g.row.A.Denot). e.1.items in
    let sorted = c.in_ok-sort_by.ensures in
    let ranks = ranks_by nat_list_cmp_total key in
    let by = sorted.sorted (before key value) ranks (answers_always _ _ _ (λ f a r f' k. search rules)) in
    let stable = sorted.stable (before key value) ranks (answers_always _ _ _ (λ f a r f' k. search rules)) in
    let kept = dedup_same _ (same key value) _ (λ x y b f' x' y' k. search rules) _ _ c.dedup_by.ensures.filtered in
    ap keyed kept
    ∙ last_by_sorting key value c.args.records.now.items c.sort_by.new.self.items by
    (λ x. stable x ∙ ap (filter (ties (before key value) x)) c.reverse.ensures.items)
