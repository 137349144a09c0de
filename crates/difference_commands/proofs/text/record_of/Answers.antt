use Rattle.std.proofs.Common.{rules, sym}
use Rattle.std.specs.Cmp.Lexicographic.{slice_cmp}
use Rattle.std.specs.FinMap.{is_sorted}
use Rattle.std.specs.List.{list_all}
use Rattle.std.specs.Ordering.{nat_cmp}
use Rattle.std.proofs.lemmas.Fn.{always_returns_same}
use Rattle.spec.specs.NodeFormat.{is_key}
use Rattle.spec.proofs.Bools.{both}
use Rattle.difference_commands.specs.Views.{Entry, pairs_in}
use Rattle.difference_commands.proofs.Finding.{found-at, found-nowhere}
use Rattle.difference_commands.proofs.text.record_of.Goals as goal

pub returns-in-Ok : goal.returns-in-Ok
returns-in-Ok c =
    let key = c.args.key.now in
    let xs = c.args.entries.now in
    let sorted = (both (is_sorted (slice_cmp nat_cmp) (pairs_in xs)) (list_all (λ e. is_key e.0) (pairs_in xs)) c.requires).0 in
    let order = λ (e : Entry). slice_cmp nat_cmp e.0.0 key in
    let equal = c.in-Ok.ensures.position order (always_returns_same _ _ _ (λ a r f' called. search rules)) in
    let found = found-at key xs c.in-Ok.place c.index-entries-place.result sorted c.in-Ok.ensures.bound (equal c.index-entries-place.result) in
    cc (found, c.record.ensures)

pub returns-in-Err : goal.returns-in-Err
returns-in-Err c =
    let key = c.args.key.now in
    let xs = c.args.entries.now in
    let sorted = (both (is_sorted (slice_cmp nat_cmp) (pairs_in xs)) (list_all (λ e. is_key e.0) (pairs_in xs)) c.requires).0 in
    let order = λ (e : Entry). slice_cmp nat_cmp e.0.0 key in
    let parted = c.in-Err.ensures.position order (always_returns_same _ _ _ (λ a r f' called. search rules)) in
    sym (found-nowhere key xs c.in-Err.field-0 sorted parted)
